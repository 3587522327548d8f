-- The bytes of an input are the cause of one reading at most.
use Rattle.std.proofs.Common.{ℕ, ◌≡◌, ap, refl, arith, List, Result, Ok, Err}
use Rattle.cert_text.specs.declared.fault.CertWhy.{CertWhy}
use Rattle.cert2_text.specs.declared.cert2.AnyCert.{AnyCert}
use Rattle.cert2_text.specs.Texts2.{SpellsAny, FailsAny}
use Rattle.converting.specs.declared.refusal.Refusal.{Refusal}
use Rattle.converting.specs.declared.refusal.Refusal.TheVariants.{ReadFault, TooLong, Line, NoMemory}
use Rattle.converting.specs.Readings.{IsRead, IsRefusal}

-- what the reader promises of texts
pub record Laws : Type 0 where
  pub one_certificate : (text : List ℕ) (one other : AnyCert) → SpellsAny text one → SpellsAny text other → one ≡ other
  pub one_fault : (text : List ℕ) (m n : ℕ) (v w : CertWhy) → FailsAny text m v → FailsAny text n w → (m ≡ n) × (v ≡ w)
  pub not_both : (text : List ℕ) (cert : AnyCert) (line : ℕ) (why : CertWhy) → SpellsAny text cert → FailsAny text line why → ⊥

one_refusal : Laws → (bytes : List ℕ) (x y : Refusal) → IsRefusal bytes x → IsRefusal bytes y → x ≡ y
one_refusal l bytes ReadFault y h k = absurd h
one_refusal l bytes NoMemory y h k = absurd h
one_refusal l bytes TooLong ReadFault h k = absurd k
one_refusal l bytes TooLong TooLong h k = refl
one_refusal l bytes TooLong (Line line why) h k = absurd (omega (arith, h, k.0))
one_refusal l bytes TooLong NoMemory h k = absurd k
one_refusal l bytes (Line line why) ReadFault h k = absurd k
one_refusal l bytes (Line line why) TooLong h k = absurd (omega (arith, h.0, k))
one_refusal l bytes (Line m v) (Line n w) h k =
    let e = l.one_fault bytes m n v w h.1 k.1 in
    cc (e.0, e.1)
one_refusal l bytes (Line line why) NoMemory h k = absurd k

read_or_refused : Laws → (bytes : List ℕ) (cert : AnyCert) (r : Refusal) → IsRead bytes (Ok cert) → IsRefusal bytes r → ⊥
read_or_refused l bytes cert ReadFault h k = k
read_or_refused l bytes cert TooLong h k = omega (arith, h.0, k)
read_or_refused l bytes cert (Line line why) h k = l.not_both bytes cert line why h.1 k.1
read_or_refused l bytes cert NoMemory h k = k

abbrev Reading : Type 0
Reading = Result AnyCert Refusal

pub one_reading : Laws → (bytes : List ℕ) (x y : Reading) → IsRead bytes x → IsRead bytes y → x ≡ y
one_reading l bytes (Ok c) (Ok d) h k = ap (λ (z : AnyCert). Ok z) (l.one_certificate bytes c d h.1 k.1)
one_reading l bytes (Ok c) (Err r) h k = absurd (read_or_refused l bytes c r h k)
one_reading l bytes (Err r) (Ok c) h k = absurd (read_or_refused l bytes c r k h)
one_reading l bytes (Err r) (Err s) h k = ap (λ (z : Refusal). Err z) (one_refusal l bytes r s h k)
