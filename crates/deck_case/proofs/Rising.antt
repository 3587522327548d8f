-- Lists whose keys ascend strictly.
use Rattle.std.proofs.Common.{ℕ, zero, suc, ◌<◌, ◌≡◌, refl, arith, ap, List, [], ◌∷◌, length, get_or, map, filter, All, Bool, nat_lt, ◌&&◌}
use Rattle.std.specs.Prelude.{IsTrue}
use Rattle.std.proofs.lemmas.Bool.{and_parts, and_from, cond_both, ltb-true, lt-ltb}
use Rattle.std.proofs.lemmas.List.Elements.{All-filter}
use Rattle.lp_base.specs.Ascending.{ascends_by}

pub ascends-tail : {T : Type 0} (key : T → ℕ) (x : T) (xs : List T) → IsTrue (ascends_by key (x ∷ xs)) → IsTrue (ascends_by key xs)
ascends-tail key x [] h = refl
ascends-tail key x (y ∷ ys) h = (and_parts (nat_lt (key x) (key y)) (ascends_by key (y ∷ ys)) h).1

-- the first key is below each other
pub head_below : {T : Type 0} (key : T → ℕ) (x : T) (xs : List T) (i : ℕ) (d : T) → IsTrue (ascends_by key (x ∷ xs)) → i < length xs → key x < key (get_or xs i d)
head_below key x [] i d h k = absurd (omega arith)
head_below key x (y ∷ ys) zero d h k = ltb-true (key x) (key y) (and_parts (nat_lt (key x) (key y)) (ascends_by key (y ∷ ys)) h).0
head_below key x (y ∷ ys) (suc i) d h k =
    let first : key x < key y = ltb-true (key x) (key y) (and_parts (nat_lt (key x) (key y)) (ascends_by key (y ∷ ys)) h).0 in
    let rest : key y < key (get_or ys i d) = head_below key y ys i d (ascends-tail key x (y ∷ ys) h) (omega arith) in
    omega arith

pub ascends-cons : {T : Type 0} (key : T → ℕ) (x : T) (xs : List T) → All (λ y. key x < key y) xs → IsTrue (ascends_by key xs) → IsTrue (ascends_by key (x ∷ xs))
ascends-cons key x [] below h = refl
ascends-cons key x (y ∷ ys) below h = and_from (nat_lt (key x) (key y)) (ascends_by key (y ∷ ys)) (lt-ltb (key x) (key y) (below 0 y (omega arith))) h

-- what a filter keeps still ascends
pub ascends-filter : {T : Type 0} (key : T → ℕ) (p : T → Bool) (xs : List T) → IsTrue (ascends_by key xs) → IsTrue (ascends_by key (filter p xs))
ascends-filter key p [] h = refl
ascends-filter key p (x ∷ xs) h =
    let rest = ascends-filter key p xs (ascends-tail key x xs h) in
    cond_both (p x) (x ∷ filter p xs) (filter p xs) (λ l. IsTrue (ascends_by key l))
    (λ kept. ascends-cons key x (filter p xs) (All-filter p (λ y. key x < key y) xs (λ i d k. head_below key x xs i d h k)) rest)
    (λ left. rest)

-- the keys are the keys of another list
pub ascends-map : {S T : Type 0} (key : T → ℕ) (f : S → T) (xs : List S) → ascends_by key (map f xs) ≡ ascends_by (λ s. key (f s)) xs
ascends-map key f [] = refl
ascends-map key f (x ∷ []) = refl
ascends-map key f (x ∷ y ∷ ys) = ap (λ b. nat_lt (key (f x)) (key (f y)) && b) (ascends-map key f (y ∷ ys))
