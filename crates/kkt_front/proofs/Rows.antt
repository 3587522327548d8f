-- Rows and columns of decks with whole numbers.
use Rattle.std.proofs.Common.{◌≡◌, ℕ, ◌<◌, get_or, sym, ap, ◌∙◌, arith, ℤ, pos, neg_ℤ, ◌+ℤ◌, ◌*ℤ◌, ◌≤ℤ◌, None, Some, slice_get}
use Rattle.std.specs.Prelude.{◌↔◌}
use Rattle.std.proofs.Math.IntN.{zero-*ℤ}
use Rattle.std.proofs.lemmas.Int.{ints}
use Rattle.std.proofs.lemmas.List.FromFn.{length-map-range_with_len, get_or-map-range_with_len}
use Rattle.std.proofs.lemmas.Option.{slice_get_within, slice_get-get_or, get_or_from_slice_get}
use Rattle.lp_nums.specs.Fractions.{Fraction, SameValue}
use Rattle.lpcc_case.specs.Points.{Point}
use Rattle.decks.specs.Decks.{entries_of, zero as zero_fraction}
use Rattle.decks.specs.declared.deck.Deck.{Deck}
use Rattle.deck_case.specs.DeckPoints.{IsWithin, column_value, row_value}
use Rattle.deck_case.specs.DeckVerdicts.{whole}
use Rattle.deck_case.specs.Rationals.{IsAtMost}
use Rattle.deck_case.proofs.RationalLaws.{IsOver, at_most_iff, same_iff}
use Rattle.deck_case.proofs.SideSteps.{negated_product}
use Rattle.kkt_front.specs.Decks.{listed}
use Rattle.kkt_front.proofs.EntrySums.{AreWhole, IsSum, in_row, total_is, whole_row}

-- ---- lists by number

pub there : {X : Type 0} (f : ℕ → X) (n i : ℕ) → i < n → slice_get (listed f n) i ≡ Some (f i)
there f n i h =
    slice_get-get_or (listed f n) i (f i) (omega (arith, h, length-map-range_with_len f 0 n))
    ∙ ap (λ x. Some x) (get_or-map-range_with_len f 0 n i i (f i) h (omega arith))

pub found : {X : Type 0} (f : ℕ → X) (n i : ℕ) (x : X) → slice_get (listed f n) i ≡ Some x → (i < n) × (f i ≡ x)
found f n i x e =
    let within : i < n = omega (arith, slice_get_within (listed f n) i x e, length-map-range_with_len f 0 n) in
    (within, sym (get_or-map-range_with_len f 0 n i i x within (omega arith)) ∙ get_or_from_slice_get (listed f n) i x x e)

-- ---- the value of a row

pub row_sum : {n : ℕ} (d : Deck) (k : ℕ) (p : Point n) → AreWhole d.entries → IsSum (in_row k p.x d.entries) p.d (row_value d k p)
row_sum d k p h = total_is (entries_of d.entries k) p.x p.d p.positive (whole_row k d.entries h)

times_one : (y : ℤ) → y *ℤ pos 1 ≡ y
times_one y = omega (arith, ints)

whole_over : (c : ℤ) (d : ℕ) → IsOver (c *ℤ pos d) (pos d) (whole c)
whole_over c d = sym (times_one (c *ℤ pos d))

low : (d : ℕ) → 0 < d → pos 1 ≤ℤ pos d
low d h = omega (arith, ints, h)

-- the row is at least c, or at most
pub least_row : (c w : ℤ) (d : ℕ) (f : Fraction) → 0 < d → IsSum w d f → IsAtMost (whole c) f ↔ ((c *ℤ pos d) ≤ℤ w)
least_row c w d f some h = at_most_iff (c *ℤ pos d) w (pos d) (whole c) f (omega (arith, ints)) h.positive (low d some) (whole_over c d) h.over

pub most_row : (c w : ℤ) (d : ℕ) (f : Fraction) → 0 < d → IsSum w d f → IsAtMost f (whole c) ↔ (w ≤ℤ (c *ℤ pos d))
most_row c w d f some h = at_most_iff w (c *ℤ pos d) (pos d) f (whole c) h.positive (omega (arith, ints)) (low d some) h.over (whole_over c d)

-- the row is c
pub same_row : (c w : ℤ) (d : ℕ) (f : Fraction) → 0 < d → IsSum w d f → SameValue f (whole c) ↔ (w ≡ (c *ℤ pos d))
same_row c w d f some h = same_iff (c *ℤ pos d) w (pos d) (whole c) f (omega (arith, ints)) h.positive (low d some) (whole_over c d) h.over

-- ---- a column with the lower bound 0

pub column_from_zero : {n : ℕ} (p : Point n) (j : ℕ) → IsWithin (Some zero_fraction) None (column_value p j) ↔ (pos 0 ≤ℤ get_or p.x j (pos 0))
column_from_zero p j =
    let x = get_or p.x j (pos 0) in (
      λ h. omega (arith, ints, h.above, zero-*ℤ (pos p.d), times_one x),
      λ h. record { above = omega (arith, ints, h, zero-*ℤ (pos p.d), times_one x); below = tt },
    )

-- ---- signs

pub from_negated : (q w : ℤ) (d : ℕ) → ((neg_ℤ q *ℤ pos d) ≤ℤ w) ↔ (pos 0 ≤ℤ (w +ℤ (q *ℤ pos d)))
from_negated q w d = (λ h. omega (arith, ints, h, negated_product q (pos d)), λ h. omega (arith, ints, h, negated_product q (pos d)))

pub same_negated : (q w : ℤ) (d : ℕ) → (w ≡ (neg_ℤ q *ℤ pos d)) ↔ ((w +ℤ (q *ℤ pos d)) ≡ pos 0)
same_negated q w d = (λ h. omega (arith, ints, h, negated_product q (pos d)), λ h. omega (arith, ints, h, negated_product q (pos d)))
