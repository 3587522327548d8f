-- A cut that is absorbed besides those that settle pieces, and the ending of each record that leads to a part.
use Rattle.std.specs.Prelude.{◌≡◌, List, [], ◌∷◌, None}
use Rattle.lpcc_case.specs.Instance.{Instance}
use Rattle.cuts.specs.declared.cut.Cut.{Cut}
use Rattle.cuts.specs.Cuts.{Passes}
use Rattle.reasons.specs.Reasons.{IsActiveAgainst}
use Rattle.play.specs.declared.ending.Ending.{Ending}
use Rattle.play.specs.declared.event.Event.{Event}
use Rattle.play.specs.declared.event.Event.TheVariants.{Absorb}
use Rattle.play.specs.declared.event.Options.{Options}
use Rattle.play.specs.Parts.{Part}
use Rattle.play.specs.Records.{Carries}
use Rattle.play.specs.Steps.{absorb}
use Rattle.desk_part.specs.DeskParts.{CarriesMore, IsEndingOf, Standing}

-- there is no verdict, and the cut passes its test and is active against the best point
pub record MayBeAbsorbed (a : Instance) (d : Part) (c : Cut) : Type 0 where
  pub waiting : d.verdict ≡ None
  pub passes : Passes a c
  pub active : IsActiveAgainst c d.best

-- the cut is absorbed: the case and the options stay, and every record that was carried is carried with this event behind it
pub record AbsorbsOn (c : Cut) (old new : Standing) : Type 0 where
  pub case_stays : new.case_of ≡ old.case_of
  pub options_stay : new.options ≡ old.options
  pub part_is : new.part ≡ absorb c old.part
  pub carries : CarriesMore old.case_of old.options old.part (Absorb c ∷ []) new.part

-- the ending of every record that leads to the part
abbrev pub EndsEach : Instance → Options → Part → Ending → Type 0
EndsEach a o d end = (events : List Event) → Carries a o events d → IsEndingOf a o events end
