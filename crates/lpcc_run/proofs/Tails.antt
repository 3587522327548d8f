-- The words behind the first.
use Rattle.std.proofs.Common.{◌<◌, ◌-◌, ◌≡◌, ◌∙◌, refl, sym, ap, arith, List, [], ◌∷◌, drop, take, length, map}

pub none_behind : {A B : Type 0} (f : A → B) (xs : List A) → length xs < 1 → drop 1 (map f xs) ≡ []
none_behind f [] h = refl
none_behind f (x ∷ xs) h = absurd (omega (arith, h))

all_taken : {A : Type 0} (xs : List A) → take (length xs) xs ≡ xs
all_taken [] = refl
all_taken (x ∷ xs) = ap (λ l. x ∷ l) (all_taken xs)

pub mapped_behind : {A B : Type 0} (f : A → B) (xs : List A) → drop 1 (map f xs) ≡ map f (take (length xs - 1) (drop 1 xs))
mapped_behind f [] = refl
mapped_behind f (x ∷ xs) =
    let fewer : length xs ≡ length (x ∷ xs) - 1 = omega arith in
    ap (map f) (sym (all_taken xs) ∙ ap (λ n. take n xs) fewer)
