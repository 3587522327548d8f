-- Lists that are made by number.
use Rattle.std.proofs.Common.{◌≡◌, ℕ, zero, suc, ◌+◌, ◌<◌, ◌≤◌, List, [], ◌∷◌, ◌++◌, map, length, refl, sym, ap, ◌∙◌, append_assoc, arith}
use Rattle.std.specs.Prelude.{All}
use Rattle.std.specs.List.{flat_map, range_with_len}
use Rattle.std.proofs.lemmas.List.{append-nil, length-append}
use Rattle.std.proofs.lemmas.List.Elements.{All-append, All-nil}

-- one more
pub flat_more : {X : Type 0} (f : ℕ → List X) (a n : ℕ) → flat_map f (range_with_len a (suc n)) ≡ flat_map f (range_with_len a n) ++ f (a + n)
flat_more f a zero = append-nil (f a) ∙ ap f (let z : a ≡ a + 0 = omega arith in z)
flat_more f a (suc n) =
    ap (λ t. f a ++ t) (flat_more f (a + 1) n ∙ ap (λ k. flat_map f (range_with_len (a + 1) n) ++ f k) (let z : a + 1 + n ≡ a + suc n = omega arith in z))
    ∙ sym (append_assoc (f a) (flat_map f (range_with_len (a + 1) n)) (f (a + suc n)))

pub listed_more : {X : Type 0} (f : ℕ → X) (a n : ℕ) → map f (range_with_len a (suc n)) ≡ map f (range_with_len a n) ++ f (a + n) ∷ []
listed_more f a zero = ap (λ k. f k ∷ []) (let z : a ≡ a + 0 = omega arith in z)
listed_more f a (suc n) = ap (λ t. f a ∷ t) (listed_more f (a + 1) n ∙ ap (λ k. map f (range_with_len (a + 1) n) ++ f k ∷ []) (let z : a + 1 + n ≡ a + suc n = omega arith in z))

-- in a loop: what is pushed behind what was there, up to the end
pub flat_goes_on : {X : Type 0} (f : ℕ → List X) (o now next : List X) (i k : ℕ) → k ≡ i + 1 → now ≡ o ++ flat_map f (range_with_len 0 i) → next ≡ now ++ f i → next ≡ o ++ flat_map f (range_with_len 0 k)
flat_goes_on f o now next i k ek en ex =
    ex ∙ ap (λ t. t ++ f i) en ∙ append_assoc o (flat_map f (range_with_len 0 i)) (f i)
    ∙ ap (λ t. o ++ t) (ap (λ m. flat_map f (range_with_len 0 i) ++ f m) (let z : i ≡ 0 + i = omega arith in z) ∙ sym (flat_more f 0 i) ∙ ap (λ m. flat_map f (range_with_len 0 m)) (let z : suc i ≡ k = omega (arith, ek) in z))

pub listed_goes_on : {X : Type 0} (f : ℕ → X) (o now next : List X) (x : X) (i k : ℕ) → k ≡ i + 1 → now ≡ o ++ map f (range_with_len 0 i) → next ≡ now ++ x ∷ [] → x ≡ f i → next ≡ o ++ map f (range_with_len 0 k)
listed_goes_on f o now next x i k ek en ex is =
    ex ∙ ap (λ y. now ++ y ∷ []) is ∙ ap (λ t. t ++ f i ∷ []) en ∙ append_assoc o (map f (range_with_len 0 i)) (f i ∷ [])
    ∙ ap (λ t. o ++ t) (ap (λ m. map f (range_with_len 0 i) ++ f m ∷ []) (let z : i ≡ 0 + i = omega arith in z) ∙ sym (listed_more f 0 i) ∙ ap (λ m. map f (range_with_len 0 m)) (let z : suc i ≡ k = omega (arith, ek) in z))

pub ends : {X : Type 0} (f : ℕ → X) (i n : ℕ) → i ≤ n → n ≤ i → f i ≡ f n
ends f i n low high = ap f (let z : i ≡ n = omega (arith, low, high) in z)

-- what holds of each part holds of all
pub all_flat : {X : Type 0} (P : X → Type 0) (f : ℕ → List X) (a n : ℕ) → ((i : ℕ) → a ≤ i → i < a + n → All P (f i)) → All P (flat_map f (range_with_len a n))
all_flat P f a zero h = All-nil P
all_flat P f a (suc n) h = All-append P (f a) (flat_map f (range_with_len (a + 1) n)) (h a (omega arith) (omega arith)) (all_flat P f (a + 1) n (λ i low high. h i (omega (arith, low)) (omega (arith, high))))

-- one element, and further ones behind it
pub element_and_two : {X : Type 0} (o x y z : List X) (e : X) (u l : List X) → x ≡ o ++ e ∷ [] → y ≡ x ++ u → z ≡ y ++ l → z ≡ o ++ (e ∷ u ++ l)
element_and_two o x y z e u l ex ey ez =
    ez ∙ ap (λ t. t ++ l) (ey ∙ ap (λ t. t ++ u) ex ∙ append_assoc o (e ∷ []) u) ∙ append_assoc o (e ∷ u) l
