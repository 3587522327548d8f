-- Equal parts make equal lists and equal cuts.
use Rattle.std.proofs.Common.{◌≡◌, sym, ap, List, [], ◌∷◌, Bool, true, false, IsTrue, ℤ, pos}
use Rattle.std.specs.Prelude.{◌↔◌, Option, Some, None}
use Rattle.std.proofs.lemmas.Bool.{false≢true}
use Rattle.cuts.specs.declared.cut.Cut.{Cut}
use Rattle.cuts.specs.declared.cut.Cut.TheVariants.{Ray, Point}
use Rattle.cuts.specs.Cuts.{multipliers_of, no_good_of}
use Rattle.play.specs.Parts.{kind_of}

-- lists with equal heads are equal where their tails are
pub same_list : {T : Type 0} (b : Bool) (x y : T) (xs ys : List T) → x ≡ y → (IsTrue b → xs ≡ ys) → IsTrue b → x ∷ xs ≡ y ∷ ys
same_list b x y xs ys e f h = λ i. e i ∷ f h i

abbrev tail : {T : Type 0} → List T → List T
tail [] = []
tail (z ∷ zs) = zs

pub same_tail : {T : Type 0} (b : Bool) (x y : T) (xs ys : List T) → (xs ≡ ys → IsTrue b) → x ∷ xs ≡ y ∷ ys → IsTrue b
same_tail b x y xs ys f e = f (ap tail e)

pub same_pair : {A B : Type 0} (p q : A × B) → p.0 ≡ q.0 → p.1 ≡ q.1 → p ≡ q
same_pair p q e f = λ i. (e i, f i)

pub ruleset equals = (same_list, same_tail, same_pair)

-- ---- cuts with equal parts

abbrev value : Option (ℤ × ℤ) → ℤ × ℤ
value None = (pos 0, pos 0)
value (Some x) = x

abbrev has : Option (ℤ × ℤ) → Bool
has None = false
has (Some x) = true

joined : (c d : Cut) → no_good_of c ≡ no_good_of d → multipliers_of c ≡ multipliers_of d → kind_of c ≡ kind_of d → c ≡ d
joined (Ray ng mult) (Ray other terms) n m k = λ i. Ray (n i) (m i)
joined (Ray ng mult) (Point other terms e v) n m k = absurd (false≢true (ap has k))
joined (Point ng mult e v) (Ray other terms) n m k = absurd (false≢true (sym (ap has k)))
joined (Point ng mult e v) (Point other terms factor bound) n m k = λ i. Point (n i) (m i) ((ap (λ x. (value x).0) k) i) ((ap (λ x. (value x).1) k) i)

pub other_no_good : (c d : Cut) (b : Bool) → IsTrue b ↔ (no_good_of c ≡ no_good_of d) → (b ≡ true → ⊥) → IsTrue false ↔ (c ≡ d)
other_no_good c d b exact not = ((λ h. absurd (false≢true h)), (λ h. absurd (not (exact.1 (ap no_good_of h)))))

pub other_multipliers : (c d : Cut) (b : Bool) → IsTrue b ↔ (multipliers_of c ≡ multipliers_of d) → (b ≡ true → ⊥) → IsTrue false ↔ (c ≡ d)
other_multipliers c d b exact not = ((λ h. absurd (false≢true h)), (λ h. absurd (not (exact.1 (ap multipliers_of h)))))

pub same_but_kind : (c d : Cut) (n m k : Bool) → IsTrue n ↔ (no_good_of c ≡ no_good_of d) → n ≡ true → IsTrue m ↔ (multipliers_of c ≡ multipliers_of d) → m ≡ true → IsTrue k ↔ (kind_of c ≡ kind_of d) → IsTrue k ↔ (c ≡ d)
same_but_kind c d n m k ng is mult are kind = ((λ h. joined c d (ng.0 is) (mult.0 are) (kind.0 h)), (λ h. kind.1 (ap kind_of h)))

pub ruleset cuts = (other_no_good, other_multipliers, same_but_kind)
