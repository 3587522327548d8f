-- The reaches of a run's workers, and the end of a run.
use Rattle.std.specs.Prelude.{◌≡◌, All, Bool, List, true}
use Rattle.lpcc_case.specs.Instance.{Instance}
use Rattle.cut_pool.specs.Reaches.{ReachView}
use Rattle.play.specs.declared.event.Options.{Options}
use Rattle.desk.specs.Desks.{DeskView, HasEnding}

-- all reaches are of this case
abbrev pub AreReachesOf : Instance → List ReachView → Type 0
AreReachesOf a reaches = All (λ r. r.case ≡ a) reaches

-- where true is answered, the desk is that of this run and has an ending
abbrev pub MayEnd : Instance → Options → DeskView → Bool → Type 0
MayEnd a o d ended = ended ≡ true → (d.run.case_of ≡ a) × (d.run.options ≡ o) × HasEnding d
