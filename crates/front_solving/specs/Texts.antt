-- The texts of solutions.
use Rattle.std.specs.Prelude.{◌≡◌, ◌+◌, if◌then◌else◌, ℕ, ℤ, List, [], ◌∷◌, ◌++◌, codes, length, take}
use Rattle.std.specs.Fmt.{decimal, signed_decimal}
use Rattle.deck_gen.specs.Generator.{joined}
use Rattle.lp_nums.specs.Fractions.{Fraction}
use Rattle.lpcc_case.specs.Instance.{Instance}
use Rattle.lpcc_case.specs.Values.{IsValue}
use Rattle.lpcc_case.specs.declared.verdict.Verdict.TheVariants as verdict
use Rattle.cert_text.specs.declared.cert.Cert.{Cert}
use Rattle.cert_text.specs.declared.cert.Cert.TheVariants.{Optimal, Infeasible, Unbounded}
use Rattle.cert_text.specs.declared.cert.CertPoint.{CertPoint}
use Rattle.cert_check.specs.Acceptance.{numbers_of}
use Rattle.play.specs.declared.ending.Ending.{Ending}
use Rattle.play.specs.declared.ending.Ending.TheVariants as ending
use Rattle.report.specs.declared.style.Style.TheVariants.{Brief}
use Rattle.report.specs.Endings.{IsTextOf, verdict_line}
use Rattle.kkt_front.specs.DeckTexts.{is_zero, number_at}

-- a number that is not 0, behind the number of its variable, from 1
abbrev pub number_text : List ℤ → ℕ → List ℕ
number_text xs j = if is_zero (number_at xs j) then [] else codes " " ++ decimal (j + 1) ++ codes " " ++ signed_decimal (number_at xs j)

-- the denominator, and behind a colon the numbers over it
abbrev pub point_text : ℤ → List ℤ → List ℕ
point_text d xs = signed_decimal d ++ codes " :" ++ joined (number_text xs) (length xs)

abbrev pub solution_text : ℤ → List ℤ → List ℕ
solution_text d z = codes "* solution " ++ point_text d z ++ codes "\n"

abbrev pub no_solution_text : List ℕ
no_solution_text = codes "* no solution\n"

-- the line of the verdict, and a line with the values of the variables
abbrev pub optimum_text : Fraction → ℤ → List ℤ → List ℕ
optimum_text value d v = verdict_line (verdict.Optimal value) ++ (codes "\n* point " ++ point_text d v ++ codes "\n")

-- the first numbers of the point of a certificate
abbrev pub first_numbers : Instance → CertPoint → ℕ → List ℤ
first_numbers a point count = take count (numbers_of a.columns point.terms)

-- What is written of a verdict on a complementarity problem of this size; of an optimum it is not said which value it has. That the
-- problem is unbounded is never found.
abbrev pub IsLcpText : ℕ → Instance → Cert → List ℕ → Type 0
IsLcpText size a (Optimal point z lines) text = (value : Fraction) × IsValue a z point.d value × (text ≡ solution_text point.d (first_numbers a point size))
IsLcpText size a (Infeasible lines) text = text ≡ no_solution_text
IsLcpText size a (Unbounded piece point ray) text = text ≡ verdict_line verdict.Unbounded ++ 10 ∷ []

-- what is written of a verdict on a bilevel problem with so many variables
abbrev pub IsBilevelText : ℕ → Instance → Cert → List ℕ → Type 0
IsBilevelText variables a (Optimal point z lines) text = (value : Fraction) × IsValue a z point.d value × (text ≡ optimum_text value point.d (first_numbers a point variables))
IsBilevelText variables a (Infeasible lines) text = text ≡ verdict_line verdict.Infeasible ++ 10 ∷ []
IsBilevelText variables a (Unbounded piece point ray) text = text ≡ verdict_line verdict.Unbounded ++ 10 ∷ []

-- every other ending is written as `solve` writes it
abbrev pub IsEndingText : (Cert → List ℕ → Type 0) → Instance → Ending → List ℕ → Type 0
IsEndingText IsVerdictText a (ending.Verdict cert drawn) text = IsVerdictText cert text
IsEndingText IsVerdictText a (ending.Overflow piece at) text = IsTextOf a Brief (ending.Overflow piece at) text
IsEndingText IsVerdictText a (ending.PivotsSpent piece at) text = IsTextOf a Brief (ending.PivotsSpent piece at) text
IsEndingText IsVerdictText a (ending.PiecesSpent drawn left) text = IsTextOf a Brief (ending.PiecesSpent drawn left) text
IsEndingText IsVerdictText a ending.NoMemory text = IsTextOf a Brief ending.NoMemory text
