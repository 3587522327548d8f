-- What lists contain.
use Rattle.std.proofs.Common.{inl, inr, zero, suc, ◌≡◌, refl, sym, ap, subst, arith, List, [], ◌∷◌, ◌++◌, map}
use Rattle.std.specs.Prelude.{◌⊎◌, Any, Contains}
use Rattle.std.proofs.lemmas.List.Elements.{Contains-append_left, Contains-append_cases, Contains-push}

pub here : {X : Type 0} (x : X) (xs : List X) → Contains (x ∷ xs) x
here x xs = (0, omega arith, refl)

pub there : {X : Type 0} (y : X) (xs : List X) (x : X) → Contains xs x → Contains (y ∷ xs) x
there y xs x c = (suc c.0, omega (arith, c.1), c.2)

pub front_or_rest : {X : Type 0} (y : X) (xs : List X) (x : X) → Contains (y ∷ xs) x → (y ≡ x) ⊎ Contains xs x
front_or_rest y xs x (zero, inside, e) = inl e
front_or_rest y xs x (suc k, inside, e) = inr (k, omega (arith, inside), e)

pub any_more : {X : Type 0} (P : X → Type 0) (xs ys : List X) → ((x : X) → Contains xs x → Contains ys x) → Any P xs → Any P ys
any_more P xs ys more any =
    let c = more any.1 (any.0, any.2, any.3) in
    (c.0, any.1, c.1, c.2, any.4)

pub any_of : {X : Type 0} (P : X → Type 0) (xs : List X) (x : X) → Contains xs x → P x → Any P xs
any_of P xs x c p = (c.0, x, c.1, c.2, p)

pub in_map : {X Y : Type 0} (f : X → Y) (xs : List X) (x : X) → Contains xs x → Contains (map f xs) (f x)
in_map f [] x c = absurd (omega (arith, c.1))
in_map f (y ∷ ys) x (zero, inside, e) = (0, omega arith, ap f e)
in_map f (y ∷ ys) x (suc k, inside, e) = there (f y) (map f ys) (f x) (in_map f ys x (k, omega (arith, inside), e))

-- what a mapped list contains is made of an element
pub from_map : {X Y : Type 0} (f : X → Y) (xs : List X) (y : Y) → Contains (map f xs) y → (x : X) × Contains xs x × (f x ≡ y)
from_map f [] y c = absurd (omega (arith, c.1))
from_map f (x ∷ xs) y (zero, inside, e) = (x, here x xs, e)
from_map f (x ∷ xs) y (suc k, inside, e) =
    let found = from_map f xs y (k, omega (arith, inside), e) in
    (found.0, there x xs found.0 found.1, found.2)

pub map_both : {X Y : Type 0} (f : X → Y) (xs ys : List X) → map f (xs ++ ys) ≡ map f xs ++ map f ys
map_both f [] ys = refl
map_both f (x ∷ xs) ys = ap (λ l. f x ∷ l) (map_both f xs ys)

pub in_map_front : {X Y : Type 0} (f : X → Y) (xs ys : List X) (y : Y) → Contains (map f xs) y → Contains (map f (xs ++ ys)) y
in_map_front {Y = Y} f xs ys y c =
    let P : List Y → Type 0 = λ l. Contains l y in
    subst P (sym (map_both f xs ys)) (Contains-append_left (map f xs) (map f ys) y c)

pub in_map_last : {X Y : Type 0} (f : X → Y) (xs : List X) (x : X) → Contains (map f (xs ++ x ∷ [])) (f x)
in_map_last f xs x = in_map f (xs ++ x ∷ []) x (Contains-push xs x)

pub in_map_cases : {X Y : Type 0} (f : X → Y) (xs : List X) (x : X) (y : Y) → Contains (map f (xs ++ x ∷ [])) y → Contains (map f xs) y ⊎ (f x ≡ y)
in_map_cases {Y = Y} f xs x y c =
    let P : List Y → Type 0 = λ l. Contains l y in
    elim (Contains-append_cases (map f xs) (f x ∷ []) y (subst P (map_both f xs (x ∷ [])) c)) [
      | inl front ↦ inl front
      | inr last ↦ elim (front_or_rest (f x) [] y last) [
        | inl e ↦ inr e
        | inr none ↦ absurd (omega (arith, none.1))
      ]
    ]
