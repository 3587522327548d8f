-- The texts and statuses of the answers to a deck with a certificate behind it.
use Rattle.std.specs.Prelude.{ℕ, List, [], ◌∷◌, ◌++◌, codes}
use Rattle.std.specs.Fmt.{decimal}
use Rattle.lp_nums.specs.Texts.{fraction_text}
use Rattle.lpcc_case.specs.declared.verdict.Verdict.TheVariants as verdict
use Rattle.cert_text.specs.Names as certificates
use Rattle.cert_check.specs.Names as acceptance
use Rattle.command.specs.Refusals as refusals
use Rattle.verifier.specs.declared.answer.Answer.{Answer}
use Rattle.verifier.specs.declared.answer.Answer.TheVariants.{Refused, Certificate, No, Yes}

-- a content line of the certificate with what is wrong there
abbrev pub no_line : ℕ → List ℕ → List ℕ
no_line line name = codes "no line " ++ decimal line ++ codes " " ++ name

-- the one line of an answer
abbrev pub line_of : Answer → List ℕ
line_of (Refused refusal) = refusals.line_of refusal
line_of (Certificate line why) = no_line line (certificates.name_of why)
line_of (No line why) = no_line line (acceptance.name_of why)
line_of (Yes (verdict.Optimal value)) = codes "yes optimal " ++ fraction_text value
line_of (Yes verdict.Infeasible) = codes "yes infeasible"
line_of (Yes verdict.Unbounded) = codes "yes unbounded"

abbrev pub text_of : Answer → List ℕ
text_of answer = line_of answer ++ 10 ∷ []

abbrev pub status_of : Answer → ℕ
status_of (Yes verdict) = 0
status_of (Certificate line why) = 1
status_of (No line why) = 1
status_of (Refused refusal) = refusals.status_of refusal
