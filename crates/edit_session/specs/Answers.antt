-- An edit session, and what it answers: the ending of a record over the present case, with the kept cuts absorbed.
use Rattle.std.specs.Prelude.{◌≡◌, ◌⊎◌, Contains, List, [], ◌∷◌, ◌++◌}
use Rattle.lpcc_case.specs.Instance.{Instance}
use Rattle.cuts.specs.declared.cut.Cut.{Cut}
use Rattle.reasons.specs.Reasons.{IsActiveAgainst}
use Rattle.play.specs.declared.ending.Ending.{Ending}
use Rattle.play.specs.declared.event.Event.{Event}
use Rattle.play.specs.declared.event.Event.TheVariants as event
use Rattle.play.specs.declared.event.Options.{Options}
use Rattle.play.specs.declared.outcome.Outcome.{Outcome}
use Rattle.play.specs.declared.outcome.Outcome.TheVariants as outcome
use Rattle.play.specs.Parts.{Part, start}
use Rattle.play.specs.Steps.{after, drawn_by}
use Rattle.desk_part.specs.DeskParts.{EndingKeepsForm, IsEndingOf}
use Rattle.case_edits.specs.declared.edit.Edit.{Edit}
use Rattle.case_edits.specs.Kept.{IsEdited, KeptView}
use Rattle.engine.specs.Solved.{alone}

-- the present case with the cuts that are kept, and the options
pub record SessionView : Type 0 where
  pub kept : KeptView
  pub options : Options

-- the edit was made on the case and its cuts
pub record IsEditedSession (edit : Edit) (old new : SessionView) : Type 0 where
  pub kept : IsEdited edit old.kept new.kept
  pub options_stay : new.options ≡ old.options

-- ---- the cuts that settle pieces

abbrev pub cuts_in : Outcome → List Cut
cuts_in (outcome.Cut c kept best) = c ∷ []
cuts_in (outcome.Barred lane place c best) = c ∷ []
cuts_in (outcome.Unbounded point ray) = []
cuts_in (outcome.Wide at) = []
cuts_in (outcome.Spent at) = []

abbrev pub settled_by : Event → List Cut
settled_by (event.Publish lane c) = []
settled_by (event.Read worker lane place) = []
settled_by (event.Offer worker point) = []
settled_by (event.Draw worker number piece) = []
settled_by (event.Absorb c) = []
settled_by (event.Learn ng hints) = []
settled_by (event.Settle worker number what) = cuts_in what
settled_by (event.Conclude verdict) = []

-- the cuts by which these events settle pieces, in their order
abbrev pub settled_in : List Event → List Cut
settled_in [] = []
settled_in (x ∷ xs) = settled_by x ++ settled_in xs

-- ---- the kept cuts

-- each of the kept cuts that is active against the best point is absorbed
abbrev pub AreAbsorbed : List Cut → Part → Type 0
AreAbsorbed kept d = (c : Cut) → Contains kept c → IsActiveAgainst c d.best → Contains d.absorbed c

-- so it is at each of these events that draws a piece
abbrev pub AreAbsorbedAtDraws : List Cut → Part → List Event → Type 0
AreAbsorbedAtDraws kept d [] = Unit {0}
AreAbsorbedAtDraws kept d (x ∷ xs) = ((drawn_by x ≡ []) ⊎ AreAbsorbed kept d) × AreAbsorbedAtDraws kept (after x d) xs

-- the ending of a record at whose draws the kept cuts that are active have been absorbed; these cuts settled its pieces
pub record IsAnswer (a : Instance) (o : Options) (kept : List Cut) (end : Ending) (settled : List Cut) : Type 0 where
  pub events : List Event
  pub ending : IsEndingOf a o events end
  pub form : EndingKeepsForm end
  pub absorbed : AreAbsorbedAtDraws kept start events
  pub settled_are : settled ≡ settled_in events

-- the answer for the present case, with one worker; the cuts that settled its pieces are kept behind the others
pub record Answers (old new : SessionView) (end : Ending) : Type 0 where
  pub settled : List Cut
  pub answer : IsAnswer old.kept.case_of (alone old.options) old.kept.cuts end settled
  pub new_is : new ≡ record old { kept = record old.kept { cuts = old.kept.cuts ++ settled } }
