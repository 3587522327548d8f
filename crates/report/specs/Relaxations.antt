-- The texts and statuses of the ways in which solving a relaxation ends.
use Rattle.std.specs.Prelude.{ℕ, List, [], ◌∷◌, ◌++◌, codes}
use Rattle.std.specs.Fmt.{decimal}
use Rattle.lp_nums.specs.Texts.{fraction_text}
use Rattle.lpcc_case.specs.declared.verdict.Verdict.{Verdict}
use Rattle.lpcc_case.specs.declared.verdict.Verdict.TheVariants.{Optimal, Infeasible, Unbounded}
use Rattle.report.specs.Forms.{form_word, forms_text}
use Rattle.report.specs.declared.relaxation.Relaxation.{Relaxation}
use Rattle.report.specs.declared.relaxation.Relaxation.TheVariants.{Solved, Wide, Spent}

abbrev pub verdict_line : Verdict → List ℕ
verdict_line (Optimal value) = codes "relaxation optimal " ++ fraction_text value
verdict_line Infeasible = codes "relaxation infeasible"
verdict_line Unbounded = codes "relaxation unbounded"

abbrev pub line_of : Relaxation → List ℕ
line_of (Solved verdict) = verdict_line verdict
line_of (Wide place) = codes "overflow relaxation pivots " ++ decimal place.pivots ++ codes " forms " ++ forms_text place.forms
line_of (Spent place) = codes "budget pivots " ++ decimal place.pivots ++ codes " relaxation stage " ++ form_word place.stage

abbrev pub text_of : Relaxation → List ℕ
text_of end = line_of end ++ 10 ∷ []

abbrev pub status_of : Relaxation → ℕ
status_of (Solved verdict) = 0
status_of (Wide place) = 7
status_of (Spent place) = 8
