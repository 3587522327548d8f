-- What contracts see of a desk, and what its calls do to it.
use Rattle.std.specs.Prelude.{Bool, IsTrue, true, false, ◌≡◌, ◌<◌, ℕ, length, Option, Some, None}
use Rattle.lpcc_case.specs.Instance.{Instance}
use Rattle.cut_pool.specs.Reaches.{ReachView}
use Rattle.cut_pool.specs.Shelves.{ShelfView}
use Rattle.cut_pool.specs.Shelves as shelves
use Rattle.play.specs.Parts.{start}
use Rattle.play.specs.declared.event.Options.{Options}
use Rattle.play.specs.declared.event.Ticket.{Ticket}
use Rattle.play.specs.declared.event.VerdictKind.{VerdictKind}
use Rattle.desk_part.specs.declared.answer.Draw.{Draw as PartDraw}
use Rattle.desk_part.specs.declared.answer.Draw.TheVariants as part
use Rattle.desk_part.specs.DeskParts.{DrawsOn, IsOver, LearnsOn, Standing, standing}
use Rattle.desk.specs.declared.answer.Draw.{Draw}
use Rattle.desk.specs.declared.answer.Draw.TheVariants as draw
use Rattle.desk.specs.Tickets.{Holds}

-- the desk part with its case and options, the shelf, whether a worker has abandoned the desk, and whether one has noted that its search over the pairs has ended refuted
pub record DeskView : Type 0 where
  pub run : Standing
  pub shelf : ShelfView
  pub abandoned : Bool
  pub refuted : Bool

-- nothing has happened; the shelf has a lane for each worker
pub record IsNewDesk (a : Instance) (o : Options) (d : DeskView) : Type 0 where
  pub run : d.run ≡ standing a o start
  pub shelf : d.shelf.case ≡ a
  pub lanes : length d.shelf.pages ≡ o.workers
  pub present : d.abandoned ≡ false
  pub nothing_noted : d.refuted ≡ false

-- the worker is one of the desk's, the reach fits the shelf, and of the tickets in flight the worker holds none, or just this one
pub record Fits (d : DeskView) (worker : ℕ) (r : ReachView) (ticket : Option Ticket) : Type 0 where
  pub known : worker < d.run.options.workers
  pub reach : shelves.Fits d.shelf worker r
  pub holds : Holds worker d.run.part.flight ticket

-- the desk was abandoned and has not concluded
abbrev pub IsLeft : DeskView → Type 0
IsLeft d = IsTrue d.abandoned × (d.run.part.verdict ≡ None)

-- the desk has an ending: it has concluded, or was not abandoned and its record has one
abbrev pub HasEnding : DeskView → Type 0
HasEnding d = ¬ (IsLeft d) × IsOver d.run.case_of d.run.options d.run.part

-- a draw from a desk that is not left: it is one from the desk part
pub record DrawsFrom (worker : ℕ) (old new : DeskView) (answer : PartDraw) : Type 0 where
  pub present : ¬ (IsLeft old)
  pub run : DrawsOn worker old.run new.run answer
  pub shelf : new.shelf ≡ old.shelf
  pub abandoned : new.abandoned ≡ old.abandoned
  pub refuted : new.refuted ≡ old.refuted

-- a draw with this answer; at Left nothing has changed
abbrev pub Draws : ℕ → DeskView → DeskView → Draw → Type 0
Draws worker old new (draw.Piece t) = DrawsFrom worker old new (part.Piece t)
Draws worker old new draw.Pause = DrawsFrom worker old new part.Pause
Draws worker old new draw.Done = DrawsFrom worker old new part.Done × HasEnding new
Draws worker old new draw.Left = IsLeft old × (new ≡ old)

-- a draw without memory
pub record Learns (old new : DeskView) : Type 0 where
  pub present : ¬ (IsLeft old)
  pub run : LearnsOn old.run new.run
  pub shelf : new.shelf ≡ old.shelf
  pub abandoned : new.abandoned ≡ old.abandoned
  pub refuted : new.refuted ≡ old.refuted

-- a desk without a verdict is abandoned from then on
abbrev pub abandoned_by : Option VerdictKind → DeskView → DeskView
abandoned_by None d = record d { abandoned = true }
abandoned_by (Some v) d = d

abbrev pub abandoned : DeskView → DeskView
abandoned d = abandoned_by d.run.part.verdict d

-- a worker has noted that its search has ended refuted
abbrev pub noted : DeskView → DeskView
noted d = record d { refuted = true }
