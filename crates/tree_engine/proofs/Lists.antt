-- Lists, and what they contain.
use Rattle.std.proofs.Common.{inl, inr, ℕ, suc, ◌<◌, ◌≡◌, refl, sym, ap, ◌∙◌, subst, arith, List, [], ◌∷◌, ◌++◌, length, get_or, map, take, Some}
use Rattle.std.specs.Prelude.{Any, Contains, slice_get}
use Rattle.std.proofs.lemmas.Bool.{cases_lt}
use Rattle.std.proofs.lemmas.List.{length-append, get_or_append_left, get_or_at, take-append-le, take_at}
use Rattle.std.proofs.lemmas.List.Elements.{Contains-append_left}
use Rattle.std.proofs.lemmas.Option.{slice_get_within, slice_get-get_or, get_or_from_slice_get}

pub here : {X : Type 0} (x : X) (xs : List X) → Contains (x ∷ xs) x
here x xs = (0, omega arith, refl)

pub there : {X : Type 0} (y : X) (xs : List X) (x : X) → Contains xs x → Contains (y ∷ xs) x
there y xs x c = (suc c.0, omega (arith, c.1), c.2)

pub any_left : {X : Type 0} (P : X → Type 0) (xs ys : List X) → Any P xs → Any P (xs ++ ys)
any_left P xs ys (k, x, inside, e, p) =
    let c = Contains-append_left xs ys x (k, inside, e) in
    (c.0, x, c.1, c.2, p)

pub map_push : {X Y : Type 0} (f : X → Y) (xs : List X) (x : X) → map f (xs ++ x ∷ []) ≡ map f xs ++ f x ∷ []
map_push f [] x = refl
map_push f (y ∷ xs) x = ap (λ l. f y ∷ l) (map_push f xs x)

-- ---- a fact of each element and those before it, with one element more

abbrev pub Each : {X : Type 0} → (List X → X → Type 0) → List X → Type 0
Each {X} P xs = (k : ℕ) (x : X) → slice_get xs k ≡ Some x → P (take k xs) x

before : {X : Type 0} (P : List X → X → Type 0) (xs : List X) (y x : X) (k : ℕ) → Each P xs → k < length xs → slice_get (xs ++ y ∷ []) k ≡ Some x → P (take k (xs ++ y ∷ [])) x
before P xs y x k each inside found =
    let same : get_or xs k x ≡ x = sym (get_or_append_left xs (y ∷ []) x k inside) ∙ get_or_from_slice_get (xs ++ y ∷ []) k x x found in
    rw (take-append-le k xs (y ∷ []) (omega arith)) (subst (λ z. P (take k xs) z) same (each k (get_or xs k x) (slice_get-get_or xs k x inside)))

last : {X : Type 0} (P : List X → X → Type 0) (xs : List X) (y x : X) (k : ℕ) → P xs y → length xs ≡ k → slice_get (xs ++ y ∷ []) k ≡ Some x → P (take k (xs ++ y ∷ [])) x
last P xs y x k holds size found =
    let same : y ≡ x = sym (get_or_at xs y [] x k size) ∙ get_or_from_slice_get (xs ++ y ∷ []) k x x found in
    rw (take_at xs (y ∷ []) k size) (subst (λ z. P xs z) same holds)

pub each_more : {X : Type 0} (P : List X → X → Type 0) (xs : List X) (y : X) → Each P xs → P xs y → Each P (xs ++ y ∷ [])
each_more P xs y each holds k x found =
    let inside = slice_get_within (xs ++ y ∷ []) k x found in
    let size = length-append xs (y ∷ []) in
    elim (cases_lt k (length xs)) [
      | inl early ↦ before P xs y x k each early found
      | inr past ↦ last P xs y x k holds (omega arith) found
    ]
