-- The value of a row of a deck with whole numbers, as a sum over its entries.
use Rattle.std.proofs.Common.{◌≡◌, ℕ, zero, suc, ◌+◌, ◌<◌, Bool, true, false, cond, eqb, List, [], ◌∷◌, ◌++◌, get_or, map, refl, sym, ap, subst, ◌∙◌, arith, ℤ, pos, negsuc, ◌+ℤ◌, ◌*ℤ◌, ◌≤ℤ◌}
use Rattle.std.specs.List.{flat_map, range_with_len}
use Rattle.std.proofs.Math.IntN.{+ℤ_idl, +ℤ_idr, +ℤ_assoc, zero-*ℤ}
use Rattle.std.proofs.lemmas.Bool.{eq-eqb, ne_eqb, eqb-true}
use Rattle.std.proofs.lemmas.Int.{ints}
use Rattle.lp_base.specs.Sums.{sum_over}
use Rattle.lp_nums.specs.Fractions.{Fraction}
use Rattle.decks.specs.Decks.{entries_of}
use Rattle.decks.specs.declared.deck.Entry.{Entry}
use Rattle.deck_case.specs.Rationals.{product, total}
use Rattle.deck_case.proofs.RationalLaws.{IsOver, over_plus}
use Rattle.deck_case.proofs.SideSteps.{positive_product}
use Rattle.kkt_front.specs.Decks.{block, entry, entry_if}
use Rattle.kkt_front.specs.DeckTexts.{is_zero}
use Rattle.kkt_front.proofs.Ranges.{total_from, sum_same, sum_only, sum_zero}

-- ---- whole numbers alone

abbrev pub AreWhole : List Entry → Type 0
AreWhole [] = Unit {0}
AreWhole (e ∷ es) = (e.value.den ≡ pos 1) × AreWhole es

abbrev pub weight : List ℤ → Entry → ℤ
weight x e = e.value.num *ℤ get_or x e.column (pos 0)

-- f is w / d
pub record IsSum (w : ℤ) (d : ℕ) (f : Fraction) : Type 0 where
  pub over : IsOver w (pos d) f
  pub positive : pos 1 ≤ℤ f.den

abbrev valued : List ℤ → ℕ → Entry → Fraction
valued x d e = product e.value (record { num = get_or x e.column (pos 0); den = pos d })

one_times : (n : ℕ) (z : ℤ) → z ≡ pos 1 → z *ℤ pos n ≡ pos n
one_times n z e = ap (λ y. y *ℤ pos n) e ∙ (let k : pos 1 *ℤ pos n ≡ pos n = omega (arith, ints) in k)

pub total_is : (es : List Entry) (x : List ℤ) (d : ℕ) → 0 < d → AreWhole es → IsSum (sum_over (weight x) es) d (total (map (valued x d) es))
total_is [] x d some h = record { over = zero-*ℤ (pos d) ∙ sym (zero-*ℤ (pos 1)); positive = omega (arith, ints) }
total_is (e ∷ es) x d some h =
    let rest = total_is es x d some h.1 in
    let v = valued x d e in
    let den : v.den ≡ pos d = one_times d e.value.den h.0 in
    let first : IsOver (weight x e) (pos d) v = ap (λ z. weight x e *ℤ z) (sym den) in
    let low : pos 1 ≤ℤ pos d = omega (arith, ints, some) in
    record {
      over = over_plus (weight x e) (sum_over (weight x) es) (pos d) v (total (map (valued x d) es)) first rest.over;
      positive = positive_product v.den (total (map (valued x d) es)).den (subst (λ z. pos 1 ≤ℤ z) (sym den) low) rest.positive;
    }

-- ---- the entries of one row

abbrev is_in : ℕ → Entry → Bool
is_in k e = eqb e.row k

abbrev pub in_row : ℕ → List ℤ → List Entry → ℤ
in_row k x es = sum_over (weight x) (entries_of es k)

abbrev one_in_row : ℕ → List ℤ → Entry → ℤ
one_in_row k x e = cond (is_in k e) (weight x e) (pos 0)

in_row_step : (b : Bool) (x : List ℤ) (e : Entry) (es : List Entry) → sum_over (weight x) (cond b (e ∷ es) es) ≡ cond b (weight x e) (pos 0) +ℤ sum_over (weight x) es
in_row_step true x e es = refl
in_row_step false x e es = sym (+ℤ_idl (sum_over (weight x) es))

in_row_cons : (k : ℕ) (x : List ℤ) (e : Entry) (es : List Entry) → in_row k x (e ∷ es) ≡ one_in_row k x e +ℤ in_row k x es
in_row_cons k x e es = in_row_step (is_in k e) x e (entries_of es k)

pub in_row_append : (k : ℕ) (x : List ℤ) (es fs : List Entry) → in_row k x (es ++ fs) ≡ in_row k x es +ℤ in_row k x fs
in_row_append k x [] fs = sym (+ℤ_idl (in_row k x fs))
in_row_append k x (e ∷ es) fs =
    in_row_cons k x e (es ++ fs) ∙ ap (λ z. one_in_row k x e +ℤ z) (in_row_append k x es fs)
    ∙ sym (+ℤ_assoc (one_in_row k x e) (in_row k x es) (in_row k x fs)) ∙ ap (λ z. z +ℤ in_row k x fs) (sym (in_row_cons k x e es))

pub in_row_all : (k : ℕ) (x : List ℤ) (f : ℕ → List Entry) (is : List ℕ) → in_row k x (flat_map f is) ≡ sum_over (λ i. in_row k x (f i)) is
in_row_all k x f [] = refl
in_row_all k x f (i ∷ is) = in_row_append k x (f i) (flat_map f is) ∙ ap (λ z. in_row k x (f i) +ℤ z) (in_row_all k x f is)

-- the objective's entry is in no other row
pub behind_cost : (k : ℕ) (x : List ℤ) (j : ℕ) (v : ℤ) (es : List Entry) → in_row (suc k) x (entry j 0 v ∷ es) ≡ in_row (suc k) x es
behind_cost k x j v es =
    in_row_cons (suc k) x (entry j 0 v) es
    ∙ ap (λ (b : Bool). cond b (weight x (entry j 0 v)) (pos 0) +ℤ in_row (suc k) x es) (ne_eqb 0 (suc k) (λ e. omega (arith, e))) ∙ +ℤ_idl (in_row (suc k) x es)

zero_value : (v : ℤ) → is_zero v ≡ true → v ≡ pos 0
zero_value (pos zero) e = refl
zero_value (pos (suc n)) e = absurd (omega (arith, eqb-true (suc n) 0 e))
zero_value (negsuc n) e = absurd (omega (arith, eqb-true (suc n) 0 e))

in_row_if : (b : Bool) (k : ℕ) (x : List ℤ) (j r : ℕ) (v : ℤ) → is_zero v ≡ b → in_row k x (cond b [] (entry j r v ∷ [])) ≡ cond (eqb r k) (v *ℤ get_or x j (pos 0)) (pos 0)
in_row_if true k x j r v e = sym (ap (λ z. cond (eqb r k) (z *ℤ get_or x j (pos 0)) (pos 0)) (zero_value v e) ∙ zero_either (eqb r k))
  where
    zero_either : (b : Bool) → cond b (pos 0 *ℤ get_or x j (pos 0)) (pos 0) ≡ pos 0
    zero_either true = zero-*ℤ (get_or x j (pos 0))
    zero_either false = refl
in_row_if false k x j r v e = in_row_cons k x (entry j r v) [] ∙ +ℤ_idr (one_in_row k x (entry j r v))

abbrev in_block : ℕ → List ℤ → ℕ → ℕ → (ℕ → ℤ) → ℕ → ℤ
in_block k x j first c i = cond (eqb (first + i) k) (c i *ℤ get_or x j (pos 0)) (pos 0)

block_sum : (k : ℕ) (x : List ℤ) (j first : ℕ) (c : ℕ → ℤ) (n : ℕ) → in_row k x (block j first c n) ≡ total_from (in_block k x j first c) 0 n
block_sum k x j first c n =
    in_row_all k x (λ i. entry_if j (first + i) (c i)) (range_with_len 0 n)
    ∙ sum_same (λ i. in_row k x (entry_if j (first + i) (c i))) (in_block k x j first c) 0 n (λ i _ _. in_row_if (is_zero (c i)) k x j (first + i) (c i) refl)

-- the row is one of the block
pub in_own_block : (x : List ℤ) (j first : ℕ) (c : ℕ → ℤ) (n i : ℕ) → i < n → in_row (first + i) x (block j first c n) ≡ c i *ℤ get_or x j (pos 0)
in_own_block x j first c n i h =
    block_sum (first + i) x j first c n
    ∙ sum_only (in_block (first + i) x j first c) 0 n i (omega arith) (omega (arith, h)) (λ m ne. ap (λ (b : Bool). cond b (c m *ℤ get_or x j (pos 0)) (pos 0)) (ne_eqb (first + m) (first + i) (λ e. ne (omega (arith, e)))))
    ∙ ap (λ (b : Bool). cond b (c i *ℤ get_or x j (pos 0)) (pos 0)) (eq-eqb (first + i) (first + i) refl)

-- the row is none of the block
pub in_other_block : (k : ℕ) (x : List ℤ) (j first : ℕ) (c : ℕ → ℤ) (n : ℕ) → ((i : ℕ) → i < n → first + i ≡ k → ⊥) → in_row k x (block j first c n) ≡ pos 0
in_other_block k x j first c n h =
    block_sum k x j first c n
    ∙ sum_zero (in_block k x j first c) 0 n (λ i _ high. ap (λ (b : Bool). cond b (c i *ℤ get_or x j (pos 0)) (pos 0)) (ne_eqb (first + i) k (h i (omega (arith, high)))))

-- ---- which entries are whole

pub whole_append : (es fs : List Entry) → AreWhole es → AreWhole fs → AreWhole (es ++ fs)
whole_append [] fs h k = k
whole_append (e ∷ es) fs h k = (h.0, whole_append es fs h.1 k)

pub whole_all : (f : ℕ → List Entry) (is : List ℕ) → ((i : ℕ) → AreWhole (f i)) → AreWhole (flat_map f is)
whole_all f [] h = tt
whole_all f (i ∷ is) h = whole_append (f i) (flat_map f is) (h i) (whole_all f is h)

pub whole_block : (j first : ℕ) (c : ℕ → ℤ) (n : ℕ) → AreWhole (block j first c n)
whole_block j first c n = whole_all (λ i. entry_if j (first + i) (c i)) (range_with_len 0 n) (λ i. one (is_zero (c i)) (first + i) (c i))
  where
    one : (b : Bool) (r : ℕ) (v : ℤ) → AreWhole (cond b [] (entry j r v ∷ []))
    one true r v = tt
    one false r v = (refl, tt)

kept_whole : (b : Bool) (e : Entry) (es : List Entry) → e.value.den ≡ pos 1 → AreWhole es → AreWhole (cond b (e ∷ es) es)
kept_whole true e es h k = (h, k)
kept_whole false e es h k = k

pub whole_row : (k : ℕ) (es : List Entry) → AreWhole es → AreWhole (entries_of es k)
whole_row k [] h = tt
whole_row k (e ∷ es) h = kept_whole (is_in k e) e (entries_of es k) h.0 (whole_row k es h.1)
