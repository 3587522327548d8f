-- The desk of a run with one worker, before and behind each turn.
use Rattle.std.specs.Prelude.{◌≡◌, ◌<◌, ◌+◌, Bool, true, false, [], ◌∷◌}
use Rattle.lpcc_case.specs.Instance.{Instance}
use Rattle.lpcc_case.specs.Pieces.{IsPiece}
use Rattle.play.specs.declared.event.Options.{Options}
use Rattle.play.specs.declared.event.Ticket.{Ticket}
use Rattle.desk_part.specs.DeskParts.{IsOver, Standing}

-- the desk is that of this run
pub record IsDeskOf (a : Instance) (o : Options) (s : Standing) : Type 0 where
  pub case_is : s.case_of ≡ a
  pub options_are : s.options ≡ o

-- nothing is in flight
pub record IsWaiting (a : Instance) (o : Options) (s : Standing) : Type 0 where
  pub of : IsDeskOf a o s
  pub landed : s.part.flight ≡ []

-- this ticket is in flight, and no other
pub record Holds (a : Instance) (o : Options) (t : Ticket) (s : Standing) : Type 0 where
  pub of : IsDeskOf a o s
  pub flying : s.part.flight ≡ t ∷ []
  pub worker : t.worker ≡ 0
  pub piece : IsPiece a t.piece

-- the desk is done, or one piece more was drawn, within the budget, and settled
abbrev pub IsTurn : Instance → Options → Standing → Standing → Bool → Type 0
IsTurn a o old new true = IsWaiting a o new × (old.part.drawn < o.pieces) × (new.part.drawn ≡ old.part.drawn + 1)
IsTurn a o old new false = IsDeskOf a o new × IsOver a o new.part
