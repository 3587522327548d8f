-- What is read of the text of a problem is determined by the bytes.
use Rattle.std.proofs.Common.{ℕ, ◌<◌, ◌≡◌, ◌∙◌, refl, sym, ap, arith, List, length}
use Rattle.std.specs.Prelude.{Result, Ok, Err}
use Rattle.cert_text.proofs.Results.{apart, same_ok}
use Rattle.front_text.specs.declared.fault.FrontWhy.{FrontWhy}
use Rattle.front_text.specs.Steps.{Found}
use Rattle.fronting.specs.declared.refusal.FrontRefusal.{FrontRefusal}
use Rattle.fronting.specs.declared.refusal.FrontRefusal.TheVariants.{ReadFault, TooLong, Problem, NoMemory}
use Rattle.fronting.specs.Inputs.{IsRead, IsRefusal}

-- the first fault, where reading is this function
abbrev FailsBy : {P : Type 0} → (List ℕ → Found P) → List ℕ → ℕ → FrontWhy → Type 0
FailsBy read text line why = read text ≡ Err (line, why)

fault_in : {P : Type 0} → ℕ × FrontWhy → Found P → ℕ × FrontWhy
fault_in default (Ok p) = default
fault_in default (Err found) = found

one_fault : {P : Type 0} (found : Found P) (m n : ℕ × FrontWhy) → found ≡ Err m → found ≡ Err n → m ≡ n
unfolding fault_in
one_fault found m n h k = ap (fault_in m) (sym h ∙ k)

one_refusal : {P : Type 0} (read : List ℕ → Found P) (limit : ℕ) (bytes : List ℕ) (r s : FrontRefusal) → IsRefusal (FailsBy read) limit bytes r → IsRefusal (FailsBy read) limit bytes s → r ≡ s
one_refusal read limit bytes ReadFault s h k = absurd h
one_refusal read limit bytes NoMemory s h k = absurd h
one_refusal read limit bytes TooLong ReadFault h k = absurd k
one_refusal read limit bytes TooLong NoMemory h k = absurd k
one_refusal read limit bytes TooLong TooLong h k = refl
one_refusal read limit bytes TooLong (Problem line why) h k = absurd (omega (arith, h, k.0))
one_refusal read limit bytes (Problem line why) ReadFault h k = absurd k
one_refusal read limit bytes (Problem line why) NoMemory h k = absurd k
one_refusal read limit bytes (Problem line why) TooLong h k = absurd (omega (arith, h.0, k))
one_refusal read limit bytes (Problem line why) (Problem other reason) h k = ap (λ (found : ℕ × FrontWhy). Problem found.0 found.1) (one_fault (read bytes) (line, why) (other, reason) h.1 k.1)

read_or_refused : {P : Type 0} (read : List ℕ → Found P) (limit : ℕ) (bytes : List ℕ) (p : P) (r : FrontRefusal) → read bytes ≡ Ok p → IsRefusal (FailsBy read) limit bytes r → limit < length bytes
read_or_refused read limit bytes p ReadFault e k = absurd k
read_or_refused read limit bytes p NoMemory e k = absurd k
read_or_refused read limit bytes p TooLong e k = k
read_or_refused read limit bytes p (Problem line why) e k = absurd (apart p (line, why) (sym e ∙ k.1))

pub read_once : {P : Type 0} (Spells : List ℕ → P → Type 0) (read : List ℕ → Found P) → ((text : List ℕ) (p : P) → Spells text p → read text ≡ Ok p) → (limit : ℕ) (bytes : List ℕ) (x y : Result P FrontRefusal) → IsRead Spells (FailsBy read) limit bytes x → IsRead Spells (FailsBy read) limit bytes y → x ≡ y
read_once Spells read law limit bytes (Ok p) (Ok q) h k = ap Ok (same_ok p q (sym (law bytes p h.1) ∙ law bytes q k.1))
read_once Spells read law limit bytes (Ok p) (Err r) h k = absurd (omega (arith, h.0, read_or_refused read limit bytes p r (law bytes p h.1) k))
read_once Spells read law limit bytes (Err r) (Ok p) h k = absurd (omega (arith, k.0, read_or_refused read limit bytes p r (law bytes p k.1) h))
read_once Spells read law limit bytes (Err r) (Err s) h k = ap Err (one_refusal read limit bytes r s h k)
