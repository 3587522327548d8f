-- The numbers of a certificate keep the rules of its form.
use Rattle.std.proofs.Common.{ℕ, ◌+◌, ◌-◌, ◌^◌, ◌<◌, ◌≤◌, ◌≡◌, refl, sym, ap, ◌∙◌, arith, ℤ, pos, Bool, true, false, nat_lt, nat_eq, List, [], ◌∷◌, length, take}
use Rattle.std.specs.Prelude.{◌≢◌, All, IsTrue, unsigned_abs, if◌then◌else◌}
use Rattle.std.proofs.lemmas.Bool.{lt-ltb, and_from, eq-eqb, false≢true}
use Rattle.std.proofs.lemmas.List.Elements.{All-nil, All-cons, All-head, All-tail, All-weaker}
use Rattle.lp_base.specs.Ascending.{ascends_by}
use Rattle.lp_base.specs.Numbers.{IsNarrow}
use Rattle.std.proofs.lemmas.List.{take_all}
use Rattle.lp_base.specs.Sums.{dot}
use Rattle.nogoods.specs.declared.choice.Choice.{Choice}
use Rattle.nogoods.specs.Choices.{pairs_ascend}
use Rattle.lpcc_case.specs.Cases.{IsCase}
use Rattle.lpcc_case.specs.Pieces.{NamesPairs}
use Rattle.lpcc_case.specs.Instance.{Instance}
use Rattle.lpcc_case.specs.NarrowPoints.{AreNumbersOf, IsPointOf}
use Rattle.lpcc_case.specs.declared.point.Point.{Point}
use Rattle.lpcc_case.proofs.Products.{cost_small}
use Rattle.cert_text.specs.Certs.{AreTerms, IsNoGood, IsPoint, number_of}
use Rattle.cert_parts.specs.PointTerms.{cert_point, terms_from}

ascends_cons : (x : ℕ × ℤ) (xs : List (ℕ × ℤ)) → All (λ t. x.0 < t.0) xs → IsTrue (ascends_by number_of xs) → IsTrue (ascends_by number_of (x ∷ xs))
ascends_cons x [] below up = refl
ascends_cons x (y ∷ ys) below up = and_from (nat_lt x.0 y.0) (ascends_by number_of (y ∷ ys)) (lt-ltb x.0 y.0 (All-head (λ (t : ℕ × ℤ). x.0 < t.0) y ys below)) up

not_zero : (z : ℤ) → nat_eq (unsigned_abs z) 0 ≡ false → z ≢ pos 0
not_zero z e same =
    let none : unsigned_abs z ≡ 0 = ap unsigned_abs same in
    absurd (false≢true (sym e ∙ eq-eqb (unsigned_abs z) 0 none))

-- terms from column i on, below n columns
record AreFrom (i n : ℕ) (terms : List (ℕ × ℤ)) : Type 0 where
  ascending : IsTrue (ascends_by number_of terms)
  least : All (λ t. i ≤ t.0) terms
  below : All (λ t. t.0 < n) terms
  numbers : All (λ t. IsNarrow t.1 × (t.1 ≢ pos 0)) terms

from_cond : (i n : ℕ) (z : ℤ) (terms : List (ℕ × ℤ)) (b : Bool) → nat_eq (unsigned_abs z) 0 ≡ b → i < n → IsNarrow z → AreFrom (i + 1) n terms → AreFrom i n (if b then terms else (i, z) ∷ terms)
from_cond i n z terms true e inside narrow h = record {
  ascending = h.ascending;
  least = All-weaker (λ (t : ℕ × ℤ). i + 1 ≤ t.0) (λ (t : ℕ × ℤ). i ≤ t.0) (λ t le. omega (arith, le)) terms h.least;
  below = h.below;
  numbers = h.numbers;
}
from_cond i n z terms false e inside narrow h = record {
  ascending = ascends_cons (i, z) terms (All-weaker (λ (t : ℕ × ℤ). i + 1 ≤ t.0) (λ (t : ℕ × ℤ). i < t.0) (λ t le. omega (arith, le)) terms h.least) h.ascending;
  least = All-cons (λ (t : ℕ × ℤ). i ≤ t.0) (i, z) terms (omega arith) (All-weaker (λ (t : ℕ × ℤ). i + 1 ≤ t.0) (λ (t : ℕ × ℤ). i ≤ t.0) (λ t le. omega (arith, le)) terms h.least);
  below = All-cons (λ (t : ℕ × ℤ). t.0 < n) (i, z) terms inside h.below;
  numbers = All-cons (λ (t : ℕ × ℤ). IsNarrow t.1 × (t.1 ≢ pos 0)) (i, z) terms (narrow, not_zero z e) h.numbers;
}

terms_are_from : (i n : ℕ) (zs : List ℤ) → i + length zs ≤ n → All IsNarrow zs → AreFrom i n (terms_from i zs)
terms_are_from i n [] few narrow = record { ascending = refl; least = All-nil (λ (t : ℕ × ℤ). i ≤ t.0); below = All-nil (λ (t : ℕ × ℤ). t.0 < n); numbers = All-nil (λ (t : ℕ × ℤ). IsNarrow t.1 × (t.1 ≢ pos 0)) }
terms_are_from i n (z ∷ zs) few narrow =
    from_cond i n z (terms_from (i + 1) zs) (nat_eq (unsigned_abs z) 0) refl (omega (arith, few)) (All-head IsNarrow z zs narrow) (terms_are_from (i + 1) n zs (omega (arith, few)) (All-tail IsNarrow z zs narrow))

pub terms_keep_form : (a : Instance) (x : List ℤ) → a.columns ≤ 1000 → AreNumbersOf a x → AreTerms (terms_from 0 x)
terms_keep_form a x few h =
    let from = terms_are_from 0 a.columns x (omega (arith, h.size)) h.narrow in
    record {
      ascending = from.ascending;
      numbers = All-weaker (λ (t : ℕ × ℤ). t.0 < a.columns) (λ (t : ℕ × ℤ). t.0 < 2 ^ 32 - 1) (λ t below. omega (arith, below, few)) (terms_from 0 x) from.below;
      narrow = from.numbers;
    }

pub point_keeps_form : (a : Instance) (q : Point) → a.columns ≤ 1000 → IsPointOf a q → IsPoint (cert_point q)
point_keeps_form a q few h = record { positive = h.fits.positive; narrow = h.fits.narrow; terms = terms_keep_form a q.x few h.fits.numbers }

-- choices that name pairs
pub choices_keep_form : (a : Instance) (ng : List Choice) → length a.pairs ≤ 512 → IsTrue (pairs_ascend ng) → NamesPairs a ng → IsNoGood ng
choices_keep_form a ng few up named = record {
  ascending = up;
  pairs_named = All-weaker (λ (c : Choice). c.pair < length a.pairs) (λ (c : Choice). c.pair < 512) (λ c below. omega (arith, below, few)) ng named;
}

pub z_small : (a : Instance) (q : Point) → IsCase a → IsPointOf a q → unsigned_abs q.z ≤ 2 ^ 126
z_small a q kept h =
    let n = a.columns in
    let costs : take n a.cost ≡ a.cost = take_all n a.cost (omega (arith, kept.cost_length)) in
    let numbers : take n q.x ≡ q.x = take_all n q.x (omega (arith, h.fits.numbers.size)) in
    let same : dot (take n a.cost) (take n q.x) ≡ q.z = ap (λ l. dot l (take n q.x)) costs ∙ ap (λ l. dot a.cost l) numbers ∙ sym h.cost in
    let small = cost_small a q.x n kept h.fits.numbers in
    omega (arith, small, ap unsigned_abs same)
