-- The order of forms.
use Rattle.std.proofs.Common.{ℕ, ◌+◌, ◌<◌, ◌≤◌, ◌≡◌, refl, sym, ◌∙◌, arith, true, false, nat_lt, length}
use Rattle.std.proofs.lemmas.Bool.{ltb-true, cases_lt}
use Rattle.lpcc_case.specs.Instance.{Instance}
use Rattle.lpcc_case.specs.declared.form.Form.{Form}
use Rattle.lpcc_case.specs.declared.form.Form.TheVariants.{Col, Con, Cost}
use Rattle.lpcc_case.specs.Forms.{IsFormOf, number, precedes}

below : (m n : ℕ) → m < n → nat_lt m n ≡ true
below m n h = grind arith

not_below : (m n : ℕ) → n ≤ m → nat_lt m n ≡ false
not_below m n h = grind arith

shifted : (c k l : ℕ) → nat_lt k l ≡ nat_lt (c + k) (c + l)
shifted c k l = grind arith

pub by_number : (a : Instance) (f g : Form) → IsFormOf a f → IsFormOf a g → precedes f g ≡ nat_lt (number a f) (number a g)
by_number a (Col i) (Col j) h k = refl
by_number a (Col i) (Con k) h l = sym (below i (a.columns + k) (omega arith))
by_number a (Col i) Cost h k = sym (below i (a.columns + length a.constraints) (omega arith))
by_number a (Con k) (Col j) h l = sym (not_below (a.columns + k) j (omega arith))
by_number a (Con k) (Con l) h m = shifted a.columns k l
by_number a (Con k) Cost h l = sym (below (a.columns + k) (a.columns + length a.constraints) (omega arith))
by_number a Cost (Col j) h k = sym (not_below (a.columns + length a.constraints) j (omega arith))
by_number a Cost (Con k) h l = sym (not_below (a.columns + length a.constraints) (a.columns + k) (omega arith))
by_number a Cost Cost h k = sym (not_below (a.columns + length a.constraints) (a.columns + length a.constraints) (omega arith))

pub precedes-self : (f : Form) → precedes f f ≡ false
precedes-self (Col j) = not_below j j (omega arith)
precedes-self (Con k) = not_below k k (omega arith)
precedes-self Cost = refl

chained : (i j k : ℕ) → nat_lt i j ≡ true → nat_lt j k ≡ true → nat_lt i k ≡ true
chained i j k h l = grind arith

pub precedes-trans : (f g h : Form) → precedes f g ≡ true → precedes g h ≡ true → precedes f h ≡ true
precedes-trans (Col i) (Col j) (Col k) p q = chained i j k p q
precedes-trans (Col i) (Col j) (Con k) p q = refl
precedes-trans (Col i) (Col j) Cost p q = refl
precedes-trans (Col i) (Con j) (Col k) p q = absurd (cc)
precedes-trans (Col i) (Con j) (Con k) p q = refl
precedes-trans (Col i) (Con j) Cost p q = refl
precedes-trans (Col i) Cost h p q = absurd (cc)
precedes-trans (Con i) (Col j) h p q = absurd (cc)
precedes-trans (Con i) (Con j) (Col k) p q = absurd (cc)
precedes-trans (Con i) (Con j) (Con k) p q = chained i j k p q
precedes-trans (Con i) (Con j) Cost p q = refl
precedes-trans (Con i) Cost h p q = absurd (cc)
precedes-trans Cost g h p q = absurd (cc)
