-- What the bytes of an input show, by the definitions of decks, cases, certificates and acceptance alone.
use Rattle.std.specs.Prelude.{ℕ, List}
use Rattle.lpcc_case.specs.Instance.{Instance}
use Rattle.lpcc_case.specs.declared.verdict.Verdict.{Verdict}
use Rattle.cert2_text.specs.declared.cert2.AnyCert.{AnyCert}
use Rattle.cert_text.specs.declared.fault.CertWhy.{CertWhy}
use Rattle.cert2_text.specs.Texts2 as certificate_texts
use Rattle.cert_check.specs.declared.accept.NoWhy.{NoWhy}
use Rattle.cert2_check.specs.Acceptance2.{AcceptsAny, RefusesAny}
use Rattle.command.specs.Inputs.{IsRefusal, IsTaken, SpellsCase}
use Rattle.command.specs.declared.extent.Extent.TheVariants.{Prefix}
use Rattle.verifier.specs.declared.judging.TheConstants.{MOST_BYTES}
use Rattle.verifier.specs.declared.answer.Answer.{Answer}
use Rattle.verifier.specs.declared.answer.Answer.TheVariants.{Refused, Certificate, No, Yes}

-- the bytes begin with a deck that has this case, and the bytes behind it spell this certificate
pub record SpellsCertified (bytes : List ℕ) (a : Instance) (cert : AnyCert) : Type 0 where
  pub rest : List ℕ
  pub deck : SpellsCase Prefix bytes a rest
  pub certificate : certificate_texts.SpellsAny rest cert

-- behind a deck with a case, this content line is the first with a fault
abbrev pub HasCertificateFault : List ℕ → ℕ → CertWhy → Type 0
HasCertificateFault bytes line why = IsTaken MOST_BYTES bytes × (a : Instance) × (rest : List ℕ) × SpellsCase Prefix bytes a rest × certificate_texts.FailsAny rest line why

-- behind a deck with a case stands a certificate, of which acceptance refuses this content line as the first
abbrev pub HasFailingLine : List ℕ → ℕ → NoWhy → Type 0
HasFailingLine bytes line why = IsTaken MOST_BYTES bytes × (a : Instance) × (cert : AnyCert) × SpellsCertified bytes a cert × RefusesAny a cert line why

-- behind a deck with a case stands a certificate, which is accepted for that case with this verdict
abbrev pub IsAccepted : List ℕ → Verdict → Type 0
IsAccepted bytes verdict = IsTaken MOST_BYTES bytes × (a : Instance) × (cert : AnyCert) × SpellsCertified bytes a cert × AcceptsAny a cert verdict

-- the bytes are the cause of the answer
abbrev pub IsCause : List ℕ → Answer → Type 0
IsCause bytes (Refused refusal) = IsRefusal MOST_BYTES Prefix bytes refusal
IsCause bytes (Certificate line why) = HasCertificateFault bytes line why
IsCause bytes (No line why) = HasFailingLine bytes line why
IsCause bytes (Yes verdict) = IsAccepted bytes verdict
