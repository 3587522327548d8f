-- The rows of a dictionary after a pivot.
use Rattle.std.proofs.Common.{ℕ, zero, suc, ◌+◌, ◌^◌, ◌≤◌, ◌<◌, ◌≡◌, ◌∙◌, refl, sym, ap, subst, arith, pos, List, [], ◌∷◌, ◌++◌, length, get_or, set, Option, Some, None}
use Rattle.std.proofs.lemmas.Int.{ints, by_lt_z}
use Rattle.std.proofs.lemmas.List.{get_or-set_same, get_or-set_other, length-set}
use Rattle.std.specs.List.{AllByRecursion}
use Rattle.dict.specs.Equations.{Equation, equation, IsRow, IsReduced}
use Rattle.dict.specs.Exchanges.{Enters, IsNext}
use Rattle.dict.specs.Dictionaries.{row_at, AreRows}
use Rattle.dict.specs.Pivots.{next_or, with_next, written, IsAfter}

pub by_lt : {P : Type 0} (a b : ℕ) → (a < b → P) → (b ≤ a → P) → P
by_lt a b f g = by_lt_z (pos a) (pos b) (λ h. f (omega (arith, ints, h))) (λ h. g (omega (arith, ints, h)))

-- equal, or not
pub by_eq : {P : Type 0} (a b : ℕ) → (a ≡ b → P) → ((a ≡ b → ⊥) → P) → P
by_eq a b f g = by_lt a b (λ h. g (λ e. omega (arith, h, e))) (λ h. by_lt b a (λ k. g (λ e. omega (arith, k, e))) (λ k. f (omega (arith, h, k))))

-- an element that is there needs no default
pub row_is : (rows : List Equation) (i : ℕ) (d : Equation) → i < length rows → get_or rows i d ≡ row_at rows i
row_is [] i d h = absurd (omega arith)
row_is (r ∷ rows) zero d h = refl
row_is (r ∷ rows) (suc i) d h = row_is rows i d (omega arith)

pub row_set_same : (rows : List Equation) (i : ℕ) (q : Equation) → i < length rows → row_at (set rows i q) i ≡ q
row_set_same rows i q h = get_or-set_same rows i q (equation (pos 1) (pos 0) []) h

pub row_set_other : (rows : List Equation) (i k : ℕ) (q : Equation) → (k ≡ i → ⊥) → row_at (set rows i q) k ≡ row_at rows k
row_set_other rows i k q h = get_or-set_other rows i k q (equation (pos 1) (pos 0) []) h

written_more : (fresh : List (ℕ × Equation)) (i : ℕ) (q : Equation) (rows : List Equation) → written (fresh ++ (i, q) ∷ []) rows ≡ set (written fresh rows) i q
written_more [] i q rows = refl
written_more (f ∷ fresh) i q rows = written_more fresh i q (set rows f.0 f.1)

all_more : (n : ℕ) (fresh : List (ℕ × Equation)) (i : ℕ) (q : Equation) → i < n → AllByRecursion (λ f. f.0 < n) fresh → AllByRecursion (λ f. f.0 < n) (fresh ++ (i, q) ∷ [])
all_more n [] i q h all = (h, tt)
all_more n (f ∷ fresh) i q h all = (all.0, all_more n fresh i q h all.1)

-- with the new rows written, those below i are after the exchange, and the others are as before
pub record Fresh (places e row : ℕ) (rows : List Equation) (entering : Equation) (fresh : List (ℕ × Equation)) (i : ℕ) : Type 0 where
  pub numbers : AllByRecursion (λ f. f.0 < length rows) fresh
  pub size : length (written fresh rows) ≡ length rows
  pub next : (k : ℕ) → k < i → (k ≡ row → ⊥) → IsNext places e (row_at rows k) entering (row_at (written fresh rows) k)
  pub kept : (k : ℕ) → i ≤ k → row_at (written fresh rows) k ≡ row_at rows k

pub fresh_none : (places e row : ℕ) (rows : List Equation) (entering : Equation) → Fresh places e row rows entering [] 0
fresh_none places e row rows entering = record {
  numbers = tt;
  size = refl;
  next = λ k h other. absurd (omega (arith, h));
  kept = λ k h. refl;
}

fresh_kept : (places e row : ℕ) (rows : List Equation) (entering : Equation) (fresh : List (ℕ × Equation)) (i : ℕ) → ((i ≡ row → ⊥) → IsNext places e (row_at rows i) entering (row_at rows i)) → Fresh places e row rows entering fresh i → Fresh places e row rows entering fresh (i + 1)
fresh_kept places e row rows entering fresh i now before = record {
  numbers = before.numbers;
  size = before.size;
  next = λ k h other.
      by_lt k i
      (λ lt. before.next k lt other)
      (λ ge.
      let same : i ≡ k = omega (arith, ge, h) in
      subst (λ (n : ℕ). (n ≡ row → ⊥) → IsNext places e (row_at rows n) entering (row_at (written fresh rows) n)) same
      (λ o. subst (λ (q : Equation). IsNext places e (row_at rows i) entering q) (sym (before.kept i (omega arith))) (now o))
      other);
  kept = λ k h. before.kept k (omega (arith, h));
}

fresh_new : (places e row : ℕ) (rows : List Equation) (entering : Equation) (fresh : List (ℕ × Equation)) (i : ℕ) (q : Equation) → i < length rows → ((i ≡ row → ⊥) → IsNext places e (row_at rows i) entering q) → Fresh places e row rows entering fresh i → Fresh places e row rows entering (fresh ++ (i, q) ∷ []) (i + 1)
fresh_new places e row rows entering fresh i q within now before =
    let w = written_more fresh i q rows in
    let here : row_at (written (fresh ++ (i, q) ∷ []) rows) i ≡ q = ap (λ (z : List Equation). row_at z i) w ∙ row_set_same (written fresh rows) i q (omega (arith, before.size, within)) in
    let elsewhere : (k : ℕ) → (k ≡ i → ⊥) → row_at (written (fresh ++ (i, q) ∷ []) rows) k ≡ row_at (written fresh rows) k = λ k other. ap (λ (z : List Equation). row_at z k) w ∙ row_set_other (written fresh rows) i k q other in
    record {
      numbers = all_more (length rows) fresh i q within before.numbers;
      size = ap (λ (z : List Equation). length z) w ∙ length-set (written fresh rows) i q ∙ before.size;
      next = λ k h other.
          by_lt k i
          (λ lt. subst (λ (z : Equation). IsNext places e (row_at rows k) entering z) (sym (elsewhere k (λ eq. omega (arith, lt, eq)))) (before.next k lt other))
          (λ ge.
          let same : i ≡ k = omega (arith, ge, h) in
          subst (λ (n : ℕ). (n ≡ row → ⊥) → IsNext places e (row_at rows n) entering (row_at (written (fresh ++ (i, q) ∷ []) rows) n)) same
          (λ o. subst (λ (z : Equation). IsNext places e (row_at rows i) entering z) (sym here) (now o))
          other);
      kept = λ k h. elsewhere k (λ eq. omega (arith, h, eq)) ∙ before.kept k (omega (arith, h));
    }

fresh_step : (places e row : ℕ) (rows : List Equation) (entering : Equation) (fresh : List (ℕ × Equation)) (i : ℕ) (next : Option Equation) → i < length rows → ((i ≡ row → ⊥) → IsNext places e (row_at rows i) entering (next_or next (row_at rows i))) → Fresh places e row rows entering fresh i → Fresh places e row rows entering (with_next fresh i next) (i + 1)
fresh_step places e row rows entering fresh i None within now before = fresh_kept places e row rows entering fresh i now before
fresh_step places e row rows entering fresh i (Some q) within now before = fresh_new places e row rows entering fresh i q within now before

pub fresh_more : (places e row : ℕ) (rows : List Equation) (entering : Equation) (fresh fresh' : List (ℕ × Equation)) (i : ℕ) (next : Option Equation) → fresh' ≡ with_next fresh i next → i < length rows → ((i ≡ row → ⊥) → IsNext places e (row_at rows i) entering (next_or next (row_at rows i))) → Fresh places e row rows entering fresh i → Fresh places e row rows entering fresh' (i + 1)
fresh_more places e row rows entering fresh fresh' i next is within now before =
    subst (λ (z : List (ℕ × Equation)). Fresh places e row rows entering z (i + 1)) (sym is) (fresh_step places e row rows entering fresh i next within now before)

-- the new row of the exchange goes in last
pub after : (places row e : ℕ) (before middle : List Equation) (entering : Equation) → row < length before → length middle ≡ length before → Enters e (row_at before row) entering → IsRow (2 ^ 63) places entering → IsReduced entering → ((i : ℕ) → i < length before → (i ≡ row → ⊥) → IsNext places e (row_at before i) entering (row_at middle i)) → IsAfter places row e before (set middle row entering)
after places row e before middle entering within size enters is reduced next =
    let there : row_at (set middle row entering) row ≡ entering = row_set_same middle row entering (omega (arith, size, within)) in
    record {
      size = length-set middle row entering ∙ size;
      enters = subst (λ (q : Equation). Enters e (row_at before row) q) (sym there) enters;
      is_row = subst (λ (q : Equation). IsRow (2 ^ 63) places q) (sym there) is;
      reduced = subst (λ (q : Equation). IsReduced q) (sym there) reduced;
      next = λ i h other.
          subst (λ (q : Equation). IsNext places e (row_at before i) q (row_at (set middle row entering) i)) (sym there)
          (subst (λ (q : Equation). IsNext places e (row_at before i) entering q) (sym (row_set_other middle row i entering other)) (next i h other));
    }

pub rows_after : (places row e : ℕ) (before after : List Equation) → IsAfter places row e before after → AreRows places after
rows_after places row e before after is i h =
    by_eq i row
    (λ here. subst (λ (k : ℕ). IsRow (2 ^ 63) places (row_at after k) × IsReduced (row_at after k)) (sym here) (is.is_row, is.reduced))
    (λ other.
    let n = is.next i (omega (arith, h, is.size)) other in
    (n.row, n.reduced))
