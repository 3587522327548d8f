-- Lists whose keys ascend, and how a test of neighbours goes on, place by place.
use Rattle.std.proofs.Common.{ℕ, zero, suc, ◌+◌, ◌<◌, ◌≤◌, ◌≡◌, refl, arith, Bool, IsTrue, List, [], ◌∷◌, length, get_or, drop, ◌&&◌, nat_lt, true, false}
use Rattle.std.specs.Prelude.{All}
use Rattle.std.specs.List.{AllByRecursion}
use Rattle.std.proofs.lemmas.Bool.{ltb-true}
use Rattle.std.proofs.lemmas.List.Elements.{recursion_from_All}
use Rattle.std.proofs.lemmas.List.{drop_more}
use Rattle.std.proofs.Math.Seq.{drop-nil}
use Rattle.lp_base.specs.Ascending.{ascends_by}

-- the test from place j on is the test of j with its neighbour i, and the test from i on
pub ascends_from : {T : Type 0} (key : T → ℕ) (xs : List T) (j i : ℕ) (d : T) → j + 1 ≡ i → i < length xs → ascends_by key (drop j xs) ≡ (nat_lt (key (get_or xs j d)) (key (get_or xs i d)) && ascends_by key (drop i xs))
ascends_from key xs j i d e h =
    let hj : j < length xs = omega arith in
    rw (drop_more xs j d hj, e, drop_more xs i d h) refl

-- the last element, or none
pub ascends_end : {T : Type 0} (key : T → ℕ) (xs : List T) (j : ℕ) → length xs ≤ j + 1 → ascends_by key (drop j xs) ≡ true
ascends_end key [] j h = rw drop-nil refl
ascends_end key (x ∷ []) zero h = refl
ascends_end key (x ∷ y ∷ xs) zero h = absurd (omega arith)
ascends_end key (x ∷ xs) (suc j) h = ascends_end key xs j (omega arith)

both_tests : (b c : Bool) → IsTrue (b && c) → IsTrue b × IsTrue c
both_tests true true h = (h, h)
both_tests true false h = absurd (cc)
both_tests false c h = absurd (cc)

-- of keys that ascend, the first is below the second, and the rest ascend
pub ascends_next : {T : Type 0} (key : T → ℕ) (x y : T) (ys : List T) → IsTrue (ascends_by key (x ∷ y ∷ ys)) → (key x < key y) × IsTrue (ascends_by key (y ∷ ys))
ascends_next key x y ys h =
    let p = both_tests (nat_lt (key x) (key y)) (ascends_by key (y ∷ ys)) h in
    (ltb-true (key x) (key y) p.0, p.1)

-- the first is below each later one
pub ascends_below : {T : Type 0} (key : T → ℕ) (x : T) (xs : List T) (i : ℕ) (d : T) → IsTrue (ascends_by key (x ∷ xs)) → i < length xs → key x < key (get_or xs i d)
ascends_below key x [] i d h within = absurd (omega arith)
ascends_below key x (y ∷ ys) zero d h within = (ascends_next key x y ys h).0
ascends_below key x (y ∷ ys) (suc i) d h within =
    let p = ascends_next key x y ys h in
    omega (arith, p.0, ascends_below key y ys i d p.1 (omega arith))

pub ascends_tail : {T : Type 0} (key : T → ℕ) (x : T) (xs : List T) → IsTrue (ascends_by key (x ∷ xs)) → IsTrue (ascends_by key xs)
ascends_tail key x [] h = refl
ascends_tail key x (y ∷ ys) h = (ascends_next key x y ys h).1

-- keys that ascend strictly below n are at most n
few_from : {T : Type 0} (key : T → ℕ) (n : ℕ) (x : T) (xs : List T) → IsTrue (ascends_by key (x ∷ xs)) → AllByRecursion (λ y. key y < n) (x ∷ xs) → key x + length (x ∷ xs) ≤ n
few_from key n x [] h below = omega (arith, below.0)
few_from key n x (y ∷ ys) h below =
    let p = ascends_next key x y ys h in
    omega (arith, p.0, few_from key n y ys p.1 below.1)

pub few_ascending : {T : Type 0} (key : T → ℕ) (n : ℕ) (xs : List T) → IsTrue (ascends_by key xs) → All (λ y. key y < n) xs → length xs ≤ n
few_ascending key n [] h below = omega arith
few_ascending key n (x ∷ xs) h below = omega (arith, few_from key n x xs h (recursion_from_All (λ y. key y < n) (x ∷ xs) below))
