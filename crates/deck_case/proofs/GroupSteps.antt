-- Each two items of a group.
use Rattle.std.proofs.Common.{ℕ, zero, suc, ◌≡◌, refl, sym, ap, subst, ◌∙◌, inl, inr, List, [], ◌∷◌, ◌++◌, append_assoc, map, Some, slice_get, arith}
use Rattle.std.specs.Prelude.{◌⊎◌, All}
use Rattle.std.specs.List.{AllByRecursion}
use Rattle.std.proofs.lemmas.List.{map-append}
use Rattle.std.proofs.lemmas.List.Elements.{All-head, All-tail}
use Rattle.std.proofs.lemmas.Option.{same_Some}
use Rattle.decks.specs.Decks.{NamesQuantity, twos}
use Rattle.decks.specs.declared.deck.Deck.{Deck}
use Rattle.decks.specs.declared.deck.PairLine.{PairLine}
use Rattle.decks.specs.declared.deck.Quantity.{Quantity}
use Rattle.deck_case.specs.DeckCases.{pair_of}
use Rattle.deck_case.specs.Steps.{pair_with}

-- ---- facts of both members

abbrev pub Both : (Quantity → Type 0) → PairLine → Type 0
Both P p = P p.a × P p.b

abbrev pub Either : (Quantity → Type 0) → PairLine → Type 0
Either Z p = Z p.a ⊎ Z p.b

pub all_joined : {X : Type 0} (P : X → Type 0) (xs ys : List X) → AllByRecursion P xs → AllByRecursion P ys → AllByRecursion P (xs ++ ys)
all_joined P [] ys a b = b
all_joined P (x ∷ xs) ys a b = (a.0, all_joined P xs ys a.1 b)

pub all_front : {X : Type 0} (P : X → Type 0) (xs ys : List X) → AllByRecursion P (xs ++ ys) → AllByRecursion P xs
all_front P [] ys a = tt
all_front P (x ∷ xs) ys a = (a.0, all_front P xs ys a.1)

pub all_rest : {X : Type 0} (P : X → Type 0) (xs ys : List X) → AllByRecursion P (xs ++ ys) → AllByRecursion P ys
all_rest P [] ys a = a
all_rest P (x ∷ xs) ys a = all_rest P xs ys a.1

with_each : (P : Quantity → Type 0) (a : Quantity) (items : List Quantity) → P a → AllByRecursion P items → AllByRecursion (Both P) (map (pair_with a) items)
with_each P a [] h all = tt
with_each P a (b ∷ items) h all = ((h, all.0), with_each P a items h all.1)

pub both_of_twos : (P : Quantity → Type 0) (items : List Quantity) → AllByRecursion P items → AllByRecursion (Both P) (twos items)
both_of_twos P [] all = tt
both_of_twos P (a ∷ items) all = all_joined (Both P) (map (pair_with a) items) (twos items) (with_each P a items all.0 all.1) (both_of_twos P items all.1)

-- ---- in each two one is zero exactly where at most one is not

abbrev pub IsOneOff : (Quantity → Type 0) → List Quantity → Type 0
IsOneOff Z items = (i j : ℕ) (a b : Quantity) → slice_get items i ≡ Some a → slice_get items j ≡ Some b → (Z a → ⊥) → (Z b → ⊥) → i ≡ j

one_zero : (Z : Quantity → Type 0) (a : Quantity) (items : List Quantity) (j : ℕ) (b : Quantity) → AllByRecursion (Either Z) (map (pair_with a) items) → slice_get items j ≡ Some b → Z a ⊎ Z b
one_zero Z a [] j b all e = absurd cc
one_zero Z a (c ∷ items) zero b all e = subst (λ (x : Quantity). Z a ⊎ Z x) (same_Some c b e) all.0
one_zero Z a (c ∷ items) (suc j) b all e = one_zero Z a items j b all.1 e

neither : {A B C : Type 0} → A ⊎ B → (A → ⊥) → (B → ⊥) → C
neither (inl a) na nb = absurd (na a)
neither (inr b) na nb = absurd (nb b)

pub one_off_from : (Z : Quantity → Type 0) (items : List Quantity) → AllByRecursion (Either Z) (twos items) → IsOneOff Z items
one_off_from Z [] all i j a b ea eb na nb = absurd cc
one_off_from Z (x ∷ items) all zero zero a b ea eb na nb = refl
one_off_from Z (x ∷ items) all zero (suc j) a b ea eb na nb =
    neither (one_zero Z x items j b (all_front (Either Z) (map (pair_with x) items) (twos items) all) eb) (λ z. na (subst Z (same_Some x a ea) z)) nb
one_off_from Z (x ∷ items) all (suc i) zero a b ea eb na nb =
    neither (one_zero Z x items i a (all_front (Either Z) (map (pair_with x) items) (twos items) all) ea) (λ z. nb (subst Z (same_Some x b eb) z)) na
one_off_from Z (x ∷ items) all (suc i) (suc j) a b ea eb na nb =
    ap suc (one_off_from Z items (all_rest (Either Z) (map (pair_with x) items) (twos items) all) i j a b ea eb na nb)

abbrev pub Decided : (Quantity → Type 0) → Quantity → Type 0
Decided Z q = Z q ⊎ (Z q → ⊥)

never : {C : Type 0} (n : ℕ) → zero ≡ suc n → C
never n e = absurd cc

with_first : (Z : Quantity → Type 0) (x : Quantity) (items : List Quantity) → AllByRecursion (Decided Z) items → (Z x → ⊥) → ((j : ℕ) (b : Quantity) → slice_get items j ≡ Some b → (Z b → ⊥) → ⊥)
    → AllByRecursion (Either Z) (map (pair_with x) items)
with_first Z x [] d nx h = tt
with_first Z x (b ∷ items) d nx h = (by d.0, with_first Z x items d.1 nx (λ j c e. h (suc j) c e))
  where
    by : Decided Z b → Z x ⊎ Z b
    by (inl z) = inr z
    by (inr nz) = absurd (h 0 b refl nz)

first_zero : (Z : Quantity → Type 0) (x : Quantity) (items : List Quantity) → Z x → AllByRecursion (Either Z) (map (pair_with x) items)
first_zero Z x [] z = tt
first_zero Z x (b ∷ items) z = (inl z, first_zero Z x items z)

first_pairs : (Z : Quantity → Type 0) (x : Quantity) (items : List Quantity) → Decided Z x → AllByRecursion (Decided Z) items → IsOneOff Z (x ∷ items) → AllByRecursion (Either Z) (map (pair_with x) items)
first_pairs Z x items (inl z) d h = first_zero Z x items z
first_pairs Z x items (inr nz) d h = with_first Z x items d nz (λ j b e nb. never j (h 0 (suc j) x b refl e nz nb))

drop_suc : (i j : ℕ) → suc i ≡ suc j → i ≡ j
drop_suc i j e = omega (arith, e)

pub one_off_to : (Z : Quantity → Type 0) (items : List Quantity) → AllByRecursion (Decided Z) items → IsOneOff Z items → AllByRecursion (Either Z) (twos items)
one_off_to Z [] d h = tt
one_off_to Z (x ∷ items) d h =
    all_joined (Either Z) (map (pair_with x) items) (twos items) (first_pairs Z x items d.0 d.1 h)
    (one_off_to Z items d.1 (λ i j a b ea eb na nb. drop_suc i j (h (suc i) (suc j) a b ea eb na nb)))

-- ---- the pairs of a group, from the first item on

pub twos_next : (d : Deck) (rest others : List Quantity) (first : Quantity) (made new all : List (ℕ × ℕ)) → rest ≡ first ∷ others → made ++ map (pair_of d) (twos rest) ≡ all → new ≡ made ++ map (pair_of d) (map (pair_with first) others)
    → new ++ map (pair_of d) (twos others) ≡ all
twos_next d rest others first made new all q so_far pushed =
    let own = map (pair_of d) (map (pair_with first) others) in
    let later = map (pair_of d) (twos others) in
    ap (λ (x : List (ℕ × ℕ)). x ++ later) pushed ∙ append_assoc made own later
    ∙ ap (λ (x : List (ℕ × ℕ)). made ++ x) (sym (map-append (pair_of d) (map (pair_with first) others) (twos others)))
    ∙ ap (λ (x : List Quantity). made ++ map (pair_of d) (twos x)) (sym q) ∙ so_far

pub first_named : (d : Deck) (rest others : List Quantity) (first : Quantity) → rest ≡ first ∷ others → All (NamesQuantity d) rest → NamesQuantity d first × All (NamesQuantity d) others
first_named d rest others first q named =
    let all : All (NamesQuantity d) (first ∷ others) = subst (All (NamesQuantity d)) q named in
    (All-head (NamesQuantity d) first others all, All-tail (NamesQuantity d) first others all)
