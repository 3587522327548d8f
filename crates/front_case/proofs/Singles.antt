-- The entries of one row: each column has one at most, and they stand in the order of columns.
use Rattle.std.proofs.Common.{◌≡◌, ℕ, zero, suc, ◌+◌, ◌<◌, ◌≤◌, Bool, true, false, cond, eqb, List, [], ◌∷◌, ◌++◌, refl, sym, ap, subst, ◌∙◌, append_assoc, inl, inr, arith, ℤ}
use Rattle.std.specs.Prelude.{All}
use Rattle.std.specs.List.{flat_map, range_with_len}
use Rattle.std.proofs.lemmas.Bool.{cases_eq, eq-eqb, ne_eqb}
use Rattle.std.proofs.lemmas.List.Elements.{All-head, All-tail, filter-append}
use Rattle.cert_text.proofs.Ascents.{Ascend, ascend_more, ascend_parts}
use Rattle.decks.specs.Decks.{entries_of, entry_column}
use Rattle.decks.specs.declared.deck.Entry.{Entry}
use Rattle.kkt_front.specs.Decks.{block, entry, entry_if}
use Rattle.kkt_front.specs.DeckTexts.{is_zero}

abbrev pub entry_row : Entry → ℕ
entry_row e = e.row

-- none, or one with this key
abbrev pub IsSingle : {T : Type 0} → (T → ℕ) → ℕ → List T → Type 0
IsSingle key k [] = Unit {0}
IsSingle key k (x ∷ []) = key x ≡ k
IsSingle key k (x ∷ y ∷ xs) = ⊥

weaker : {T : Type 0} (key : T → ℕ) (low high : ℕ) (xs : List T) → low ≤ high → Ascend key high xs → Ascend key low xs
weaker key low high [] le h = h
weaker key low high (x ∷ xs) le h = (omega (arith, le, h.0), h.1)

single_first : {T : Type 0} (key : T → ℕ) (k : ℕ) (xs rest : List T) → IsSingle key k xs → Ascend key (k + 1) rest → Ascend key k (xs ++ rest)
single_first key k [] rest one h = weaker key k (k + 1) rest (omega arith) h
single_first key k (x ∷ []) rest one h = ascend_more key k x rest (omega (arith, one)) (subst (λ n. Ascend key (n + 1) rest) (sym one) h)
single_first key k (x ∷ y ∷ xs) rest one h = absurd one

-- parts of one at most, whose keys are those from o + a on
pub ascend_flat : {T : Type 0} (key : T → ℕ) (o : ℕ) (f : ℕ → List T) (a n : ℕ) (rest : List T) → ((i : ℕ) → IsSingle key (o + i) (f i)) → Ascend key (o + (a + n)) rest → Ascend key (o + a) (flat_map f (range_with_len a n) ++ rest)
ascend_flat key o f a zero rest single h = subst (λ k. Ascend key k rest) (let z : o + (a + 0) ≡ o + a = omega arith in z) h
ascend_flat key o f a (suc n) rest single h =
    let tail = ascend_flat key o f (a + 1) n rest single (subst (λ k. Ascend key k rest) (let z : o + (a + suc n) ≡ o + (a + 1 + n) = omega arith in z) h) in
    subst (λ xs. Ascend key (o + a) xs) (sym (append_assoc (f a) (flat_map f (range_with_len (a + 1) n)) rest))
    (single_first key (o + a) (f a) (flat_map f (range_with_len (a + 1) n) ++ rest) (single a) (subst (λ k. Ascend key k (flat_map f (range_with_len (a + 1) n) ++ rest)) (let z : o + (a + 1) ≡ o + a + 1 = omega arith in z) tail))

-- ---- one row of a list

pub row_flat : (f : ℕ → List Entry) (row a n : ℕ) → entries_of (flat_map f (range_with_len a n)) row ≡ flat_map (λ i. entries_of (f i) row) (range_with_len a n)
row_flat f row a zero = refl
row_flat f row a (suc n) = filter-append (λ (e : Entry). eqb e.row row) (f a) (flat_map f (range_with_len (a + 1) n)) ∙ ap (λ es. entries_of (f a) row ++ es) (row_flat f row (a + 1) n)

skipped : (e : Entry) (es : List Entry) (row : ℕ) → (e.row ≡ row → ⊥) → entries_of (e ∷ es) row ≡ entries_of es row
skipped e es row other = ap (λ (b : Bool). cond b (e ∷ entries_of es row) (entries_of es row)) (ne_eqb e.row row other)

taken : (e : Entry) (es : List Entry) (row : ℕ) → e.row ≡ row → entries_of (e ∷ es) row ≡ e ∷ entries_of es row
taken e es row same = ap (λ (b : Bool). cond b (e ∷ entries_of es row) (entries_of es row)) (eq-eqb e.row row same)

none_in : (es : List Entry) (a row : ℕ) → row < a → Ascend entry_row a es → entries_of es row ≡ []
none_in [] a row low h = refl
none_in (e ∷ es) a row low h =
    skipped e es row (λ same. omega (arith, same, low, h.0)) ∙ none_in es (e.row + 1) row (omega (arith, low, h.0)) (ascend_parts entry_row e es h.1)

abbrev AreOf : ℕ → List Entry → Type 0
AreOf column es = All (λ (e : Entry). e.column ≡ column) es

-- the entries of one column, whose rows ascend
pub single_in : (es : List Entry) (a row column : ℕ) → Ascend entry_row a es → AreOf column es → IsSingle entry_column column (entries_of es row)
single_in [] a row column h of = tt
single_in (e ∷ es) a row column h of =
    let rest = ascend_parts entry_row e es h.1 in
    elim (cases_eq e.row row) [
      | inl same ↦
          let alone : entries_of (e ∷ es) row ≡ e ∷ [] = taken e es row same ∙ ap (λ t. e ∷ t) (none_in es (e.row + 1) row (omega (arith, same)) rest) in
          subst (λ xs. IsSingle entry_column column xs) (sym alone) (All-head (λ (x : Entry). x.column ≡ column) e es of)
      | inr other ↦
          subst (λ xs. IsSingle entry_column column xs) (sym (skipped e es row other)) (single_in es (e.row + 1) row column rest (All-tail (λ (x : Entry). x.column ≡ column) e es of))
    ]

-- ---- blocks

entry_single : (b : Bool) (column row : ℕ) (v : ℤ) → IsSingle entry_row row (cond b [] (entry column row v ∷ []))
entry_single true column row v = tt
entry_single false column row v = refl

pub block_ascends : (column first : ℕ) (c : ℕ → ℤ) (n : ℕ) (rest : List Entry) → Ascend entry_row (first + n) rest → Ascend entry_row first (block column first c n ++ rest)
block_ascends column first c n rest h =
    subst (λ k. Ascend entry_row k (block column first c n ++ rest)) (let z : first + 0 ≡ first = omega arith in z)
    (ascend_flat entry_row first (λ i. entry_if column (first + i) (c i)) 0 n rest (λ i. entry_single (is_zero (c i)) column (first + i) (c i)) (subst (λ k. Ascend entry_row k rest) (let z : first + n ≡ first + (0 + n) = omega arith in z) h))
