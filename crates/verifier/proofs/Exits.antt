-- Why the bytes of an input are the cause of what is answered: from what the readers and acceptance promise.
use Rattle.std.proofs.Common.{ℕ, ◌≡◌, refl, ap, sym, subst, arith, List, drop, take, length, ◌-◌, ◌⊎◌, inl, inr, length-drop}
use Rattle.std.specs.Prelude.{IfOk, IfErr, Result, Ok, Err}
use Rattle.std.proofs.lemmas.List.{take_all}
use Rattle.lpcc_case.specs.Instance.{Instance}
use Rattle.lpcc_case.specs.declared.verdict.Verdict.{Verdict}
use Rattle.cert2_text.specs.declared.cert2.AnyCert.{AnyCert}
use Rattle.cert_text.specs.declared.fault.CertFault.{CertFault}
use Rattle.cert_text.specs.declared.fault.CertFault.TheVariants as certificate_fault
use Rattle.cert2_text.specs.Texts2 as certificate_texts
use Rattle.cert_check.specs.declared.accept.CheckFault.{CheckFault}
use Rattle.cert_check.specs.declared.accept.CheckFault.TheVariants as check_fault
use Rattle.cert2_check.specs.Acceptance2.{AcceptsAny, RefusesAnyAs}
use Rattle.command.specs.Inputs.{IsFaulty, IsTaken, SpellsCase}
use Rattle.command.specs.declared.extent.Extent.TheVariants.{Prefix}
use Rattle.command.specs.declared.refusal.Refusal as refusals
use Rattle.command.specs.declared.refusal.Refusal.TheVariants as refusal
use Rattle.verifier.specs.declared.judging.TheConstants.{MOST_BYTES}
use Rattle.verifier.specs.declared.answer.Answer.{Answer}
use Rattle.verifier.specs.declared.answer.Answer.TheVariants.{Refused, Certificate, No, Yes}
use Rattle.verifier.specs.Causes.{IsCause, SpellsCertified}
use Rattle.verifier.specs.Judged.{OfRest, of_acceptance, of_certificate_fault}

pub lift : {E X Y : Type 0} → (X → Y) → E ⊎ X → E ⊎ Y
lift f (inl e) = inl e
lift f (inr x) = inr (f x)

pub of_failed : (a : Instance) (rest : List ℕ) (f : CertFault) → certificate_texts.FailsAnyAs f rest → (of_certificate_fault f ≡ Refused refusal.NoMemory) ⊎ OfRest a rest (of_certificate_fault f)
of_failed a rest (certificate_fault.NoMemory error) fails = inl refl
of_failed a rest (certificate_fault.At line why) fails = inr fails

-- the bytes begin with a deck that has the case
pub to_bytes : (bytes : List ℕ) (a : Instance) (rest : List ℕ) (answer : Answer) → IsTaken MOST_BYTES bytes → SpellsCase Prefix bytes a rest → OfRest a rest answer → IsCause bytes answer
to_bytes bytes a rest (Refused r) taken spelled h = absurd h
to_bytes bytes a rest (Certificate line why) taken spelled h = (taken, a, rest, spelled, h)
to_bytes bytes a rest (No line why) taken spelled h = (taken, a, h.0, record { rest = rest; deck = spelled; certificate = h.1 }, h.2)
to_bytes bytes a rest (Yes verdict) taken spelled h = (taken, a, h.0, record { rest = rest; deck = spelled; certificate = h.1 }, h.2)

-- the code's `&input[place..]`
pub rest_is : (bytes : List ℕ) (place : ℕ) → take (length bytes - place) (drop place bytes) ≡ drop place bytes
rest_is bytes place = take_all (length bytes - place) (drop place bytes) (omega (arith, length-drop place bytes))

pub judged : (bytes : List ℕ) (place : ℕ) (a : Instance) (answer : Answer) → IsTaken MOST_BYTES bytes → SpellsCase Prefix bytes a (drop place bytes) → (answer ≡ Refused refusal.NoMemory) ⊎ OfRest a (take (length bytes - place) (drop place bytes)) answer → (answer ≡ Refused refusal.NoMemory) ⊎ IsCause bytes answer
judged bytes place a answer taken spelled h =
    lift (λ k. to_bytes bytes a (drop place bytes) answer taken spelled (subst (λ (r : List ℕ). OfRest a r answer) (rest_is bytes place) k)) h

pub faulty : (bytes : List ℕ) (r : refusals.Refusal) → IsTaken MOST_BYTES bytes → (r ≡ refusal.NoMemory) ⊎ IsFaulty Prefix bytes r → (Refused r ≡ Refused refusal.NoMemory) ⊎ IsCause bytes (Refused r)
faulty bytes r taken (inl none) = inl (ap (λ x. Refused x) none)
faulty bytes r taken (inr h) = inr (inr (taken, h))

-- the case and the certificate of the bytes
pub certified : (bytes : List ℕ) (place : ℕ) (a : Instance) (cert : AnyCert) → SpellsCase Prefix bytes a (drop place bytes) → certificate_texts.SpellsAny (take (length bytes - place) (drop place bytes)) cert → SpellsCertified bytes a cert
certified bytes place a cert deck spelled = record {
  rest = drop place bytes;
  deck = deck;
  certificate = subst (λ (r : List ℕ). certificate_texts.SpellsAny r cert) (rest_is bytes place) spelled;
}

-- what acceptance of it says
pub acceptance : (bytes : List ℕ) (a : Instance) (cert : AnyCert) (r : Result Verdict CheckFault) (answer : Answer) → IsTaken MOST_BYTES bytes → SpellsCertified bytes a cert → IfOk r (AcceptsAny a cert) → IfErr r (RefusesAnyAs a cert) → answer ≡ of_acceptance r
    → (answer ≡ Refused refusal.NoMemory) ⊎ IsCause bytes answer
acceptance bytes a cert r answer taken spelled accepted refused e = subst (λ (x : Answer). (x ≡ Refused refusal.NoMemory) ⊎ IsCause bytes x) (sym e) (by_result r accepted refused)
  where
    by_result : (r : Result Verdict CheckFault) → IfOk r (AcceptsAny a cert) → IfErr r (RefusesAnyAs a cert) → (of_acceptance r ≡ Refused refusal.NoMemory) ⊎ IsCause bytes (of_acceptance r)
    by_result (Ok verdict) accepted refused = inr (taken, a, cert, spelled, accepted)
    by_result (Err (check_fault.NoMemory error)) accepted refused = inl refl
    by_result (Err (check_fault.No line why)) accepted refused = inr (taken, a, cert, spelled, refused)
