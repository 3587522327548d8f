-- What lists contain; ascending numbers.
use Rattle.std.proofs.Common.{inl, inr, ℕ, zero, suc, ◌<◌, ◌≤◌, ◌≡◌, refl, sym, ap, ◌∙◌, arith, nat_lt, List, [], ◌∷◌, ◌++◌, length, get_or, map}
use Rattle.std.specs.Prelude.{◌⊎◌, Contains, IsTrue}
use Rattle.std.proofs.lemmas.Bool.{and_parts, ltb-true}
use Rattle.std.proofs.lemmas.List.{get_or_default}
use Rattle.lp_base.specs.Ascending.{ascends_by}

pub here : {X : Type 0} (x : X) (xs : List X) → Contains (x ∷ xs) x
here x xs = (0, omega arith, refl)

pub there : {X : Type 0} (y : X) (xs : List X) (x : X) → Contains xs x → Contains (y ∷ xs) x
there y xs x c = (suc c.0, omega (arith, c.1), c.2)

pub front_or_rest : {X : Type 0} (y : X) (xs : List X) (x : X) → Contains (y ∷ xs) x → (y ≡ x) ⊎ Contains xs x
front_or_rest y xs x (zero, inside, e) = inl e
front_or_rest y xs x (suc k, inside, e) = inr (k, omega (arith, inside), e)

pub map_both : {X Y : Type 0} (f : X → Y) (xs ys : List X) → map f (xs ++ ys) ≡ map f xs ++ map f ys
map_both f [] ys = refl
map_both f (x ∷ xs) ys = ap (λ l. f x ∷ l) (map_both f xs ys)

-- ---- ascending numbers

front_below : (x : ℕ) (xs : List ℕ) (k : ℕ) → IsTrue (ascends_by (λ n. n) (x ∷ xs)) → Contains xs k → x < k
front_below x [] k up c = absurd (omega (arith, c.1))
front_below x (y ∷ ys) k up c =
    let both = and_parts (nat_lt x y) (ascends_by (λ n. n) (y ∷ ys)) up in
    let first : x < y = ltb-true x y both.0 in
    elim (front_or_rest y ys k c) [
      | inl same ↦ omega (arith, first, same)
      | inr later ↦ omega (arith, first, front_below y ys k both.1 later)
    ]

rest_up : (x : ℕ) (xs : List ℕ) → IsTrue (ascends_by (λ n. n) (x ∷ xs)) → IsTrue (ascends_by (λ n. n) xs)
rest_up x [] up = refl
rest_up x (y ∷ ys) up = (and_parts (nat_lt x y) (ascends_by (λ n. n) (y ∷ ys)) up).1

least : (x y : ℕ) (ys : List ℕ) → IsTrue (ascends_by (λ n. n) (y ∷ ys)) → Contains (y ∷ ys) x → y ≤ x
least x y ys up c = elim (front_or_rest y ys x c) [
  | inl same ↦ omega (arith, same)
  | inr later ↦ omega (arith, front_below y ys x up later)
]

behind : (x y : ℕ) (xs ys : List ℕ) → x ≡ y → IsTrue (ascends_by (λ n. n) (x ∷ xs)) → ((k : ℕ) → Contains (x ∷ xs) k → Contains (y ∷ ys) k) → (k : ℕ) → Contains xs k → Contains ys k
behind x y xs ys same up all k c = elim (front_or_rest y ys k (all k (there x xs k c))) [
  | inl e ↦ absurd (omega (arith, same, e, front_below x xs k up c))
  | inr later ↦ later
]

-- they are known by which they are
pub same_numbers : (xs ys : List ℕ) → IsTrue (ascends_by (λ n. n) xs) → IsTrue (ascends_by (λ n. n) ys) → ((k : ℕ) → Contains xs k → Contains ys k) → ((k : ℕ) → Contains ys k → Contains xs k) → xs ≡ ys
same_numbers [] [] u v f g = refl
same_numbers [] (y ∷ ys) u v f g = absurd (omega (arith, (g y (here y ys)).1))
same_numbers (x ∷ xs) [] u v f g = absurd (omega (arith, (f x (here x xs)).1))
same_numbers (x ∷ xs) (y ∷ ys) u v f g =
    let same : x ≡ y = omega (arith, least x y ys v (f x (here x xs)), least y x xs u (g y (here y ys))) in
    let rest = same_numbers xs ys (rest_up x xs u) (rest_up y ys v) (behind x y xs ys same u f) (behind y x ys xs (sym same) v g) in
    ap (λ k. k ∷ xs) same ∙ ap (λ l. y ∷ l) rest

-- a number further on is no less
pub further : (places : List ℕ) (i j : ℕ) → IsTrue (ascends_by (λ n. n) places) → i ≤ j → j < length places → get_or places i 0 ≤ get_or places j 0
further [] i j up le inside = absurd (omega (arith, inside))
further (p ∷ places) zero zero up le inside = omega arith
further (p ∷ places) zero (suc j) up le inside = least (get_or places j 0) p places up (suc j, inside, get_or_default places j (get_or places j 0) 0 (omega (arith, inside)))
further (p ∷ places) (suc i) zero up le inside = absurd (omega (arith, le))
further (p ∷ places) (suc i) (suc j) up le inside = further places i j (rest_up p places up) (omega (arith, le)) (omega (arith, inside))
