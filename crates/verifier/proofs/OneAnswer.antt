-- The bytes of an input are the cause of one answer at most.
use Rattle.std.proofs.Common.{ℕ, ◌≡◌, ◌∙◌, refl, sym, ap, subst, List, ◌⊎◌, inl, inr}
use Rattle.std.specs.Prelude.{pos, ◌≤ℤ◌}
use Rattle.lpcc_case.specs.Instance.{Instance}
use Rattle.lpcc_case.specs.declared.verdict.Verdict.{Verdict}
use Rattle.cert2_text.specs.declared.cert2.AnyCert.{AnyCert}
use Rattle.cert_text.specs.declared.fault.CertWhy.{CertWhy}
use Rattle.cert2_text.specs.Texts2 as certificate_texts
use Rattle.cert_check.specs.declared.accept.NoWhy.{NoWhy}
use Rattle.cert2_check.specs.Acceptance2.{AcceptsAny, RefusesAny}
use Rattle.command.specs.Inputs.{IsRefusal, IsTaken, SpellsCase}
use Rattle.command.specs.declared.extent.Extent.{Extent}
use Rattle.command.specs.declared.extent.Extent.TheVariants.{Prefix}
use Rattle.command.specs.declared.refusal.Refusal as refusals
use Rattle.verifier.specs.declared.judging.TheConstants.{MOST_BYTES}
use Rattle.verifier.specs.declared.answer.Answer.{Answer}
use Rattle.verifier.specs.declared.answer.Answer.TheVariants.{Refused, Certificate, No, Yes}
use Rattle.verifier.specs.Causes.{IsCause}
use Rattle.verifier.specs.Judged.{OfCertificate, OfRest}

-- what the crates below promise of inputs, certificates and acceptance
pub record Laws : Type 0 where
  pub one_case : (e : Extent) (bytes : List ℕ) (a b : Instance) (rest other : List ℕ) → SpellsCase e bytes a rest → SpellsCase e bytes b other → (a ≡ b) × (rest ≡ other)
  pub case_or_refusal : (limit : ℕ) (e : Extent) (bytes : List ℕ) (a : Instance) (rest : List ℕ) (r : refusals.Refusal) → IsTaken limit bytes → SpellsCase e bytes a rest → IsRefusal limit e bytes r → ⊥
  pub one_input_refusal : (limit : ℕ) (e : Extent) (bytes : List ℕ) (r s : refusals.Refusal) → IsRefusal limit e bytes r → IsRefusal limit e bytes s → r ≡ s
  pub scale : (bytes : List ℕ) (a : Instance) (rest : List ℕ) → SpellsCase Prefix bytes a rest → pos 1 ≤ℤ a.scale
  pub one_certificate : (text : List ℕ) (one other : AnyCert) → certificate_texts.SpellsAny text one → certificate_texts.SpellsAny text other → one ≡ other
  pub one_certificate_fault : (text : List ℕ) (m n : ℕ) (v w : CertWhy) → certificate_texts.FailsAny text m v → certificate_texts.FailsAny text n w → (m ≡ n) × (v ≡ w)
  pub certificate_or_fault : (text : List ℕ) (cert : AnyCert) (line : ℕ) (why : CertWhy) → certificate_texts.SpellsAny text cert → certificate_texts.FailsAny text line why → ⊥
  pub one_verdict : (a : Instance) (cert : AnyCert) (v w : Verdict) → pos 1 ≤ℤ a.scale → AcceptsAny a cert v → AcceptsAny a cert w → v ≡ w
  pub one_refusal : (a : Instance) (cert : AnyCert) (m n : ℕ) (v w : NoWhy) → RefusesAny a cert m v → RefusesAny a cert n w → (m ≡ n) × (v ≡ w)
  pub accepted_or_refused : (a : Instance) (cert : AnyCert) (v : Verdict) (n : ℕ) (why : NoWhy) → AcceptsAny a cert v → RefusesAny a cert n why → ⊥

-- ---- of a certificate

same_judged : (l : Laws) (a : Instance) (cert : AnyCert) (x y : Answer) → pos 1 ≤ℤ a.scale → OfCertificate a cert x → OfCertificate a cert y → x ≡ y
same_judged l a cert (No m v) (No n w) scale h k =
    let e = l.one_refusal a cert m n v w h k in
    cc (e.0, e.1)
same_judged l a cert (No m v) (Yes w) scale h k = absurd (l.accepted_or_refused a cert w m v k h)
same_judged l a cert (Yes v) (No n w) scale h k = absurd (l.accepted_or_refused a cert v n w h k)
same_judged l a cert (Yes v) (Yes w) scale h k = ap Yes (l.one_verdict a cert v w scale h k)
same_judged l a cert (Refused r) y scale h k = absurd h
same_judged l a cert (Certificate m v) y scale h k = absurd h
same_judged l a cert (No m v) (Refused r) scale h k = absurd k
same_judged l a cert (No m v) (Certificate n w) scale h k = absurd k
same_judged l a cert (Yes v) (Refused r) scale h k = absurd k
same_judged l a cert (Yes v) (Certificate n w) scale h k = absurd k

-- ---- behind a case

Read : Instance → List ℕ → Answer → Type 0
Read a rest x = ((line : ℕ) × (why : CertWhy) × (x ≡ Certificate line why) × certificate_texts.FailsAny rest line why) ⊎ ((cert : AnyCert) × certificate_texts.SpellsAny rest cert × OfCertificate a cert x)

read : (a : Instance) (rest : List ℕ) (x : Answer) → OfRest a rest x → Read a rest x
unfolding Read
read a rest (Refused r) h = absurd h
read a rest (Certificate line why) h = inl (line, why, refl, h)
read a rest (No line why) h = inr (h.0, h.1, h.2)
read a rest (Yes v) h = inr (h.0, h.1, h.2)

same_read : (l : Laws) (a : Instance) (rest : List ℕ) (x y : Answer) → pos 1 ≤ℤ a.scale → Read a rest x → Read a rest y → x ≡ y
unfolding Read
same_read l a rest x y scale (inl h) (inl k) =
    let e = l.one_certificate_fault rest h.0 k.0 h.1 k.1 h.3 k.3 in
    cc (h.2, k.2, e.0, e.1)
same_read l a rest x y scale (inl h) (inr k) = absurd (l.certificate_or_fault rest k.0 h.0 h.1 k.1 h.3)
same_read l a rest x y scale (inr h) (inl k) = absurd (l.certificate_or_fault rest h.0 k.0 k.1 h.1 k.3)
same_read l a rest x y scale (inr h) (inr k) =
    let e = l.one_certificate rest h.0 k.0 h.1 k.1 in
    same_judged l a k.0 x y scale (subst (λ (c : AnyCert). OfCertificate a c x) e h.2) k.2

-- ---- in the bytes

Shown : List ℕ → Answer → Type 0
Shown bytes x =
    ((r : refusals.Refusal) × (x ≡ Refused r) × IsRefusal MOST_BYTES Prefix bytes r)
    ⊎ ((a : Instance) × (rest : List ℕ) × IsTaken MOST_BYTES bytes × SpellsCase Prefix bytes a rest × OfRest a rest x)

shown : (bytes : List ℕ) (x : Answer) → IsCause bytes x → Shown bytes x
unfolding Shown
shown bytes (Refused r) h = inl (r, refl, h)
shown bytes (Certificate line why) h = inr (h.1, h.2, h.0, h.3, h.4)
shown bytes (No line why) h = inr (h.1, h.3.rest, h.0, h.3.deck, (h.2, h.3.certificate, h.4))
shown bytes (Yes v) h = inr (h.1, h.3.rest, h.0, h.3.deck, (h.2, h.3.certificate, h.4))

same_shown : (l : Laws) (bytes : List ℕ) (x y : Answer) → Shown bytes x → Shown bytes y → x ≡ y
unfolding Shown
same_shown l bytes x y (inl h) (inl k) = h.1 ∙ ap (λ r. Refused r) (l.one_input_refusal MOST_BYTES Prefix bytes h.0 k.0 h.2 k.2) ∙ sym k.1
same_shown l bytes x y (inl h) (inr k) = absurd (l.case_or_refusal MOST_BYTES Prefix bytes k.0 k.1 h.0 k.2 k.3 h.2)
same_shown l bytes x y (inr h) (inl k) = absurd (l.case_or_refusal MOST_BYTES Prefix bytes h.0 h.1 k.0 h.2 h.3 k.2)
same_shown l bytes x y (inr h) (inr k) =
    let e = l.one_case Prefix bytes h.0 k.0 h.1 k.1 h.3 k.3 in
    let moved = subst (λ (a : Instance). OfRest a k.1 x) e.0 (subst (λ (rest : List ℕ). OfRest h.0 rest x) e.1 h.4) in
    same_read l k.0 k.1 x y (l.scale bytes k.0 k.1 k.3) (read k.0 k.1 x moved) (read k.0 k.1 y k.4)

pub one_answer : Laws → (bytes : List ℕ) (x y : Answer) → IsCause bytes x → IsCause bytes y → x ≡ y
one_answer l bytes x y h k = same_shown l bytes x y (shown bytes x h) (shown bytes y k)
