-- The answers that go with the faults of a certificate's reader and of acceptance, and what is to be shown of an answer.
use Rattle.std.specs.Prelude.{ℕ, List, Result, Ok, Err}
use Rattle.lpcc_case.specs.Instance.{Instance}
use Rattle.lpcc_case.specs.declared.verdict.Verdict.{Verdict}
use Rattle.cert2_text.specs.declared.cert2.AnyCert.{AnyCert}
use Rattle.cert_text.specs.declared.fault.CertFault.{CertFault}
use Rattle.cert_text.specs.declared.fault.CertFault.TheVariants as certificate_fault
use Rattle.cert2_text.specs.Texts2 as certificate_texts
use Rattle.cert_check.specs.declared.accept.CheckFault.{CheckFault}
use Rattle.cert_check.specs.declared.accept.CheckFault.TheVariants as check_fault
use Rattle.cert2_check.specs.Acceptance2.{AcceptsAny, RefusesAny}
use Rattle.command.specs.declared.refusal.Refusal.TheVariants as refusal
use Rattle.verifier.specs.declared.answer.Answer.{Answer}
use Rattle.verifier.specs.declared.answer.Answer.TheVariants.{Refused, Certificate, No, Yes}

abbrev pub of_certificate_fault : CertFault → Answer
of_certificate_fault (certificate_fault.NoMemory error) = Refused refusal.NoMemory
of_certificate_fault (certificate_fault.At line why) = Certificate line why

abbrev pub of_check_fault : CheckFault → Answer
of_check_fault (check_fault.NoMemory error) = Refused refusal.NoMemory
of_check_fault (check_fault.No line why) = No line why

abbrev pub of_acceptance : Result Verdict CheckFault → Answer
of_acceptance (Ok verdict) = Yes verdict
of_acceptance (Err fault) = of_check_fault fault

-- acceptance of this certificate for this case is the cause of the answer
abbrev pub OfCertificate : Instance → AnyCert → Answer → Type 0
OfCertificate a cert (Refused refusal) = ⊥
OfCertificate a cert (Certificate line why) = ⊥
OfCertificate a cert (No line why) = RefusesAny a cert line why
OfCertificate a cert (Yes verdict) = AcceptsAny a cert verdict

-- with this case, the bytes behind the deck are the cause of the answer
abbrev pub OfRest : Instance → List ℕ → Answer → Type 0
OfRest a rest (Refused refusal) = ⊥
OfRest a rest (Certificate line why) = certificate_texts.FailsAny rest line why
OfRest a rest (No line why) = (cert : AnyCert) × certificate_texts.SpellsAny rest cert × RefusesAny a cert line why
OfRest a rest (Yes verdict) = (cert : AnyCert) × certificate_texts.SpellsAny rest cert × AcceptsAny a cert verdict
