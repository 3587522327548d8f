-- How many entries there are: no more than terms.
use Rattle.std.proofs.Common.{◌≡◌, ℕ, zero, suc, ◌+◌, ◌<◌, ◌≤◌, Bool, true, false, cond, eqb, leb, List, [], ◌∷◌, ◌++◌, get_or, length, map, refl, sym, ap, ◌∙◌, arith, inl, inr, ℤ, pos}
use Rattle.std.specs.Prelude.{count_by}
use Rattle.std.specs.List.{flat_map, range_with_len}
use Rattle.std.proofs.lemmas.Bool.{cases_eq, cases_lt, eq-eqb, ne_eqb, le-leb, lt-leb}
use Rattle.std.proofs.lemmas.List.{length-append}
use Rattle.std.proofs.lemmas.List.Sums.{count_by-le-length, sum_by-cons}
use Rattle.front_text.specs.declared.problem.Line.{Line}
use Rattle.front_text.specs.Problems.{Terms, coefficient_at, number_of_followers, number_of_terms, terms_of}
use Rattle.kkt_front.specs.Decks.{block, entry, entry_if}
use Rattle.kkt_front.specs.DeckTexts.{is_zero}

-- the sum over n numbers, from a on
pub total : (ℕ → ℕ) → ℕ → ℕ → ℕ
total g a zero = 0
total g a (suc n) = g a + total g (a + 1) n

pub length_flat : {X : Type 0} (f : ℕ → List X) (a n : ℕ) → length (flat_map f (range_with_len a n)) ≡ total (λ i. length (f i)) a n
unfolding total
length_flat f a zero = refl
length_flat f a (suc n) = length-append (f a) (flat_map f (range_with_len (a + 1) n)) ∙ ap (λ k. length (f a) + k) (length_flat f (a + 1) n)

pub total_same : (f g : ℕ → ℕ) (a n : ℕ) → ((i : ℕ) → f i ≡ g i) → total f a n ≡ total g a n
unfolding total
total_same f g a zero h = refl
total_same f g a (suc n) h = omega (arith, h a, total_same f g (a + 1) n h)

pub total_le : (f g : ℕ → ℕ) (a n : ℕ) → ((i : ℕ) → f i ≤ g i) → total f a n ≤ total g a n
unfolding total
total_le f g a zero h = omega arith
total_le f g a (suc n) h = omega (arith, h a, total_le f g (a + 1) n h)

pub total_add : (f g : ℕ → ℕ) (a n : ℕ) → total (λ i. f i + g i) a n ≡ total f a n + total g a n
unfolding total
total_add f g a zero = refl
total_add f g a (suc n) = omega (arith, total_add f g (a + 1) n)

pub total_zero : (a n : ℕ) → total (λ i. 0) a n ≡ 0
unfolding total
total_zero a zero = refl
total_zero a (suc n) = omega (arith, total_zero (a + 1) n)

pub total_ones : (a n : ℕ) → total (λ i. 1) a n ≡ n
unfolding total
total_ones a zero = refl
total_ones a (suc n) = omega (arith, total_ones (a + 1) n)

pub total_swap : (g : ℕ → ℕ → ℕ) (a m b n : ℕ) → total (λ j. total (g j) b n) a m ≡ total (λ i. total (λ j. g j i) a m) b n
unfolding total
total_swap g a zero b n = sym (total_zero b n)
total_swap g a (suc m) b n = ap (λ k. total (g a) b n + k) (total_swap g (a + 1) m b n) ∙ sym (total_add (g a) (λ i. total (λ j. g j i) (a + 1) m) b n)

pub total_shift : (g : ℕ → ℕ) (s a n : ℕ) → total (λ k. g (s + k)) a n ≡ total g (s + a) n
unfolding total
total_shift g s a zero = refl
total_shift g s a (suc n) = ap (λ k. g (s + a) + k) (total_shift g s (a + 1) n ∙ ap (λ k. total g k n) (let z : s + (a + 1) ≡ s + a + 1 = omega arith in z))

-- ---- the entries of one row

-- 1 where the variable has a coefficient that is not 0
abbrev pub has : Terms → ℕ → ℕ
has ts j = cond (is_zero (coefficient_at ts j)) 0 1

one_entry : (b : Bool) (c r : ℕ) (v : ℤ) → is_zero v ≡ b → length (entry_if c r v) ≡ cond b 0 1
one_entry true c r v e = ap (λ (b : Bool). length (cond b [] (entry c r v ∷ []))) e
one_entry false c r v e = ap (λ (b : Bool). length (cond b [] (entry c r v ∷ []))) e

pub length_block : (column first : ℕ) (c : ℕ → ℤ) (n : ℕ) → length (block column first c n) ≡ total (λ i. cond (is_zero (c i)) 0 1) 0 n
length_block column first c n =
    length_flat (λ i. entry_if column (first + i) (c i)) 0 n ∙ total_same (λ i. length (entry_if column (first + i) (c i))) (λ i. cond (is_zero (c i)) 0 1) 0 n (λ i. one_entry (is_zero (c i)) column (first + i) (c i) refl)

abbrev from : ℕ → ℕ → ℕ
from a m = cond (leb a m) 1 0

from_yes : (a m : ℕ) → a ≤ m → from a m ≡ 1
from_yes a m h = ap {B = ℕ} (λ (b : Bool). cond b 1 0) (le-leb a m h)

from_no : (a m : ℕ) → m < a → from a m ≡ 0
from_no a m h = ap {B = ℕ} (λ (b : Bool). cond b 1 0) (lt-leb a m h)

from_least : (a m : ℕ) → from (a + 1) m ≤ from a m
from_least a m = elim (cases_lt m (a + 1)) [
  | inl below ↦ omega (arith, from_no (a + 1) m below)
  | inr other ↦ omega (arith, from_yes (a + 1) m (omega (arith, other)), from_yes a m (omega (arith, other)))
]

-- a number is met once at most
once : (m a n : ℕ) → total (λ j. cond (eqb m j) 1 0) a n ≤ from a m
unfolding total
once m a zero = omega arith
once m a (suc n) = elim (cases_eq m a) [
  | inl here ↦ omega (arith, once m (a + 1) n, from_no (a + 1) m (omega (arith, here)), from_yes a m (omega (arith, here)), ap {B = ℕ} (λ (b : Bool). cond b 1 0) (eq-eqb m a here))
  | inr other ↦ omega (arith, once m (a + 1) n, from_least a m, ap {B = ℕ} (λ (b : Bool). cond b 1 0) (ne_eqb m a other))
]

-- the first term's variable, or one of the others
either : (b : Bool) (y z : ℤ) → cond (is_zero (cond b y z)) 0 1 ≤ cond b 1 0 + cond (is_zero z) 0 1
either true y z = least (is_zero y)
  where
    least : (b : Bool) → cond b 0 1 ≤ 1 + cond (is_zero z) 0 1
    least true = omega arith
    least false = omega arith
either false y z = omega arith

pub used : (ts : Terms) (a n : ℕ) → total (has ts) a n ≤ count_by (λ t. leb a t.0) ts
used [] a n = omega (arith, total_zero a n)
used (t ∷ ts) a n =
    omega (
      arith,
      total_le (has (t ∷ ts)) (λ j. cond (eqb t.0 j) 1 0 + has ts j) a n (λ j. either (eqb t.0 j) t.1 (coefficient_at ts j)),
      total_add (λ j. cond (eqb t.0 j) 1 0) (has ts) a n,
      once t.0 a n,
      used ts a n,
      sum_by-cons (λ (u : ℕ × ℤ). cond (leb a u.0) 1 0) t ts,
    )

-- ---- all rows

-- over the elements of a list by number
pub total_list : {X : Type 0} (F : X → ℕ) (x : X) (xs : List X) (d : X) → total (λ i. F (get_or (x ∷ xs) i d)) 0 (length (x ∷ xs)) ≡ F x + total (λ i. F (get_or xs i d)) 0 (length xs)
unfolding total
total_list F x xs d = ap (λ k. F x + k) (sym (total_shift (λ i. F (get_or (x ∷ xs) i d)) 1 0 (length xs)) ∙ total_same (λ k. F (get_or (x ∷ xs) (1 + k) d)) (λ i. F (get_or xs i d)) 0 (length xs) (λ i. ap (λ m. F (get_or (x ∷ xs) m d)) (let z : 1 + i ≡ suc i = omega arith in z)))

all_counted : (ts : Terms) → count_by (λ t. leb 0 t.0) ts ≤ length ts
all_counted ts = count_by-le-length (λ (t : ℕ × ℤ). leb 0 t.0) ts

pub rows_used : (rows : List Terms) (n : ℕ) → total (λ i. total (has (get_or rows i [])) 0 n) 0 (length rows) ≤ number_of_terms rows
unfolding total
rows_used [] n = omega arith
rows_used (r ∷ rows) n = omega (arith, total_list (λ (ts : Terms). total (has ts) 0 n) r rows [], rows_used rows n, used r 0 n, all_counted r)

pub lines_used : (lines : List Line) (n : ℕ) (d : Line) → total (λ i. total (has (get_or lines i d).terms) 0 n) 0 (length lines) ≤ number_of_terms (map terms_of lines)
unfolding total
lines_used [] n d = omega arith
lines_used (l ∷ lines) n d = omega (arith, total_list (λ (x : Line). total (has x.terms) 0 n) l lines d, lines_used lines n d, used l.terms 0 n, all_counted l.terms)

pub followers_used : (lines : List Line) (nx ny : ℕ) (d : Line) → total (λ i. total (has (get_or lines i d).terms) nx ny) 0 (length lines) ≤ number_of_followers nx (map terms_of lines)
unfolding total
followers_used [] nx ny d = omega arith
followers_used (l ∷ lines) nx ny d = omega (arith, total_list (λ (x : Line). total (has x.terms) nx ny) l lines d, followers_used lines nx ny d, used l.terms nx ny)
