-- A run over kept cuts, before and behind each turn.
use Rattle.std.specs.Prelude.{◌≡◌, ◌⊎◌, All, Contains, List, [], ◌∷◌, ◌++◌, Option, None}
use Rattle.lpcc_case.specs.Instance.{Instance}
use Rattle.lpcc_case.specs.declared.point.Point.{Point}
use Rattle.cuts.specs.declared.cut.Cut.{Cut}
use Rattle.cuts.specs.Cuts.{Passes}
use Rattle.reasons.specs.Reasons.{IsActiveAgainst}
use Rattle.play.specs.declared.event.Event.{Event}
use Rattle.play.specs.declared.event.Options.{Options}
use Rattle.play.specs.Parts.{Part, start}
use Rattle.play.specs.Records.{Carries}
use Rattle.desk_part.specs.DeskParts.{IsOver, Standing}
use Rattle.desk_part.specs.Absorbing.{AbsorbsOn}
use Rattle.engine.specs.Turns.{IsDeskOf}
use Rattle.edit_session.specs.Answers.{AreAbsorbedAtDraws, settled_in}

-- some record leads to the part, at whose draws the kept cuts that were active had been absorbed; these cuts settled pieces
abbrev pub IsReached : Instance → Options → List Cut → Part → List Cut → Type 0
IsReached a o kept d settled = (events : List Event) × Carries a o events d × AreAbsorbedAtDraws kept start events × (settled ≡ settled_in events)

-- each of the kept cuts is absorbed or waits
abbrev pub AreHeld : List Cut → Part → List Cut → Type 0
AreHeld kept d waiting = (c : Cut) → Contains kept c → Contains d.absorbed c ⊎ Contains waiting c

-- a run over kept cuts, of which some wait; these cuts settled pieces
pub record IsRunOver (a : Instance) (o : Options) (kept : List Cut) (s : Standing) (waiting settled : List Cut) : Type 0 where
  pub of : IsDeskOf a o s
  pub reached : IsReached a o kept s.part settled
  pub held : AreHeld kept s.part waiting

-- what holds of such a run before holds of it behind
abbrev pub GoesOn : Instance → Standing → List Cut → Standing → List Cut → Type 0
GoesOn a s waiting u more = (o : Options) (kept settled : List Cut) → IsRunOver a o kept s waiting settled → IsRunOver a o kept u more settled

-- none of the cuts is active against the point
abbrev pub AreInactive : Option Point → List Cut → Type 0
AreInactive best cuts = (c : Cut) → Contains cuts c → IsActiveAgainst c best → ⊥

-- a run over kept cuts of which those that wait are not active, while there is no verdict
pub record IsReady (a : Instance) (o : Options) (kept : List Cut) (s : Standing) (waiting settled : List Cut) : Type 0 where
  pub run : IsRunOver a o kept s waiting settled
  pub inactive : s.part.verdict ≡ None → AreInactive s.part.best waiting

-- but for absorbed cuts and their starts in the log it is the same
abbrev pub IsSameButAbsorbed : Standing → Standing → Type 0
IsSameButAbsorbed s u = u ≡ record s { part = record s.part { absorbed = u.part.absorbed; log = u.part.log } }

-- a cut is absorbed, or it is not active and waits behind the others
abbrev pub IsTakenUp : Cut → Standing → Standing → List Cut → List Cut → Type 0
IsTakenUp c s u waiting more = (AbsorbsOn c s u × (more ≡ waiting)) ⊎ ((u ≡ s) × (more ≡ waiting ++ c ∷ []) × (IsActiveAgainst c s.part.best → ⊥))

-- waiting cuts are looked through from the last on: these are left, and those that were not active wait on
pub record IsSifted (a : Instance) (old : Standing) (before : List Cut) (s : Standing) (left rest : List Cut) : Type 0 where
  pub same : IsSameButAbsorbed old s
  pub left_pass : All (Passes a) left
  pub rest_pass : All (Passes a) rest
  pub inactive : AreInactive s.part.best rest
  pub run : GoesOn a old before s (left ++ rest)

-- of the kept cuts the first ones were absorbed on a new desk or wait
pub record IsBegun (a : Instance) (o : Options) (kept : List Cut) (old : Standing) (first : List Cut) (s : Standing) (waiting : List Cut) : Type 0 where
  pub same : IsSameButAbsorbed old s
  pub pass : All (Passes a) waiting
  pub inactive : AreInactive s.part.best waiting
  pub reached : IsReached a o kept s.part []
  pub held : AreHeld first s.part waiting

-- the run came to its end: the desk is done
pub record IsPlayed (a : Instance) (o : Options) (kept : List Cut) (s : Standing) (settled : List Cut) : Type 0 where
  pub of : IsDeskOf a o s
  pub reached : IsReached a o kept s.part settled
  pub over : IsOver a o s.part
