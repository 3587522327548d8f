-- Lists and texts that are made by number.
use Rattle.std.proofs.Common.{ℕ, zero, suc, ◌+◌, ◌<◌, ◌≡◌, Bool, true, false, cond, List, [], ◌∷◌, ◌++◌, length, map, get_or, refl, sym, ap, subst, ◌∙◌, append_assoc, inl, inr, arith}
use Rattle.std.specs.List.{AllByRecursion, flat_map, range_with_len}
use Rattle.std.proofs.lemmas.Grind.{flat_map-append}
use Rattle.std.proofs.lemmas.List.{append-nil}
use Rattle.std.proofs.lemmas.List.Elements.{recursion_from_All}
use Rattle.std.proofs.lemmas.List.Folds.{flat_map-map}
use Rattle.std.proofs.lemmas.List.FromFn.{get_or-map-range_with_len}
use Rattle.std.proofs.lemmas.Simd.{map-map}
use Rattle.deck_gen.specs.Generator.{joined}
use Rattle.decks.specs.declared.deck.Entry.{Entry}
use Rattle.kkt_front.specs.Decks.{listed}
use Rattle.kkt_front.proofs.LcpMeaning.{all_listed}
use Rattle.front_case.proofs.Lists.{flat_more}
use Rattle.deck_print.specs.Printed.{AreRowsFrom, FollowColumns, IsRowOn, NamedRow}

pub mapped : {X Y : Type 0} (g : X → Y) (f : ℕ → X) (n : ℕ) → map g (listed f n) ≡ listed (λ i. g (f i)) n
mapped g f n = map-map g f (range_with_len 0 n)

pub each_listed : {X : Type 0} (P : X → Type 0) (f : ℕ → X) (n : ℕ) → ((i : ℕ) → i < n → P (f i)) → AllByRecursion P (listed f n)
each_listed P f n h = recursion_from_All P (listed f n) (all_listed P f n h)

pub at_number : {X : Type 0} (f : ℕ → X) (n i : ℕ) (d : X) → i < n → get_or (listed f n) i d ≡ f i
at_number f n i d l = get_or-map-range_with_len f 0 n i i d l (let z : 0 + i ≡ i = omega arith in z)

-- ---- texts

pub joined_same : (f g : ℕ → List ℕ) (n : ℕ) → ((i : ℕ) → i < n → f i ≡ g i) → joined f n ≡ joined g n
joined_same f g zero h = refl
joined_same f g (suc n) h = λ i. joined_same f g n (λ k l. h k (omega (arith, l))) i ++ h n (omega arith) i

pub joined_flat : (f : ℕ → List ℕ) (n : ℕ) → joined f n ≡ flat_map f (range_with_len 0 n)
joined_flat f zero = refl
joined_flat f (suc n) = (λ i. joined_flat f n i ++ f (let z : n ≡ 0 + n = omega arith in z i)) ∙ sym (flat_more f 0 n)

-- what each part is made of
pub flat_flat : {X Y : Type 0} (f : Y → List ℕ) (g : X → List Y) (xs : List X) → flat_map f (flat_map g xs) ≡ flat_map (λ x. flat_map f (g x)) xs
flat_flat f g [] = refl
flat_flat f g (x ∷ xs) = flat_map-append f (g x) (flat_map g xs) ∙ ap (λ t. flat_map f (g x) ++ t) (flat_flat f g xs)

-- parts by number, each of which is a text
pub parts_joined : {X : Type 0} (f : X → List ℕ) (g : ℕ → List X) (line : ℕ → List ℕ) (n : ℕ) → ((i : ℕ) → i < n → line i ≡ flat_map f (g i)) → joined line n ≡ flat_map f (flat_map g (range_with_len 0 n))
parts_joined f g line n h = joined_same line (λ i. flat_map f (g i)) n h ∙ joined_flat (λ i. flat_map f (g i)) n ∙ sym (flat_flat f g (range_with_len 0 n))

pub lines_joined : {X : Type 0} (f : X → List ℕ) (g : ℕ → X) (line : ℕ → List ℕ) (n : ℕ) → ((i : ℕ) → i < n → line i ≡ f (g i)) → joined line n ≡ flat_map f (listed g n)
lines_joined f g line n h = joined_same line (λ i. f (g i)) n h ∙ joined_flat (λ i. f (g i)) n ∙ sym (flat_map-map f g (range_with_len 0 n))

-- a part that a test leaves out
pub if_left : {X : Type 0} (f : X → List ℕ) (t : Bool) (x : X) (line : List ℕ) → line ≡ f x → cond t [] line ≡ flat_map f (cond t [] (x ∷ []))
if_left f true x line e = refl
if_left f false x line e = e ∙ sym (append-nil (f x))

-- ---- rows and columns on their lines

rows_on : (f : ℕ → NamedRow) (line a n : ℕ) → ((i : ℕ) → i < a + n → IsRowOn (line + i) (f i).1) → AreRowsFrom (line + a) (map f (range_with_len a n))
rows_on f line a zero h = tt
rows_on f line a (suc n) h = (h a (omega arith), subst (λ k. AreRowsFrom k (map f (range_with_len (a + 1) n))) (let z : line + (a + 1) ≡ line + a + 1 = omega arith in z) (rows_on f line (a + 1) n (λ i l. h i (omega (arith, l)))))

pub rows_from : (f : ℕ → NamedRow) (line n : ℕ) → ((i : ℕ) → i < n → IsRowOn (line + i) (f i).1) → AreRowsFrom line (listed f n)
rows_from f line n h = subst (λ k. AreRowsFrom k (listed f n)) (let z : line + 0 ≡ line = omega arith in z) (rows_on f line 0 n (λ i l. h i (omega (arith, l))))

pub rows_and : (line : ℕ) (xs ys : List NamedRow) → AreRowsFrom line xs → AreRowsFrom (line + length xs) ys → AreRowsFrom line (xs ++ ys)
rows_and line [] ys h k = subst (λ n. AreRowsFrom n ys) (let z : line + 0 ≡ line = omega arith in z) k
rows_and line (x ∷ xs) ys h k = (h.0, rows_and (line + 1) xs ys h.1 (subst (λ n. AreRowsFrom n ys) (let z : line + length (x ∷ xs) ≡ line + 1 + length xs = omega arith in z) k))

-- ---- entries, column by column

-- the entries of one column, one at least
abbrev pub IsBlock : ℕ → List Entry → Type 0
IsBlock j [] = ⊥
IsBlock j (e ∷ es) = AllByRecursion (λ (x : Entry). x.column ≡ j) (e ∷ es)

follow_rest : (n j : ℕ) (es more : List Entry) → AllByRecursion (λ (x : Entry). x.column ≡ j) es → FollowColumns n (suc j) more → FollowColumns n (suc j) (es ++ more)
follow_rest n j [] more h f = f
follow_rest n j (e ∷ es) more h f = inr (ap suc h.0, follow_rest n j es more h.1 f)

follow_block : (n j : ℕ) (es more : List Entry) → IsBlock j es → FollowColumns n (suc j) more → FollowColumns n j (es ++ more)
follow_block n j [] more h f = absurd h
follow_block n j (e ∷ es) more h f = inl (h.0, follow_rest n j es more h.1 f)

pub follow_all : (total o : ℕ) (g : ℕ → List Entry) (a n : ℕ) (more : List Entry) → ((i : ℕ) → IsBlock (o + i) (g i)) → FollowColumns total (o + (a + n)) more → FollowColumns total (o + a) (flat_map g (range_with_len a n) ++ more)
follow_all total o g a zero more h f = subst (λ k. FollowColumns total k more) (let z : o + (a + 0) ≡ o + a = omega arith in z) f
follow_all total o g a (suc n) more h f =
    let rest = follow_all total o g (a + 1) n more h (subst (λ k. FollowColumns total k more) (let z : o + (a + suc n) ≡ o + (a + 1 + n) = omega arith in z) f) in
    subst (FollowColumns total (o + a)) (sym (append_assoc (g a) (flat_map g (range_with_len (a + 1) n)) more))
    (follow_block total (o + a) (g a) (flat_map g (range_with_len (a + 1) n) ++ more) (h a) (subst (λ k. FollowColumns total k (flat_map g (range_with_len (a + 1) n) ++ more)) (let z : o + (a + 1) ≡ suc (o + a) = omega arith in z) rest))
