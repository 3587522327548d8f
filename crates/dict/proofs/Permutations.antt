-- An exchange of two elements between two lists only moves elements.
use Rattle.std.proofs.Common.{ℕ, zero, suc, ◌<◌, arith, List, [], ◌∷◌, ◌++◌, length, get_or, set}
use Rattle.std.specs.Prelude.{IsPermutation}
use Rattle.lpcc_case.specs.declared.form.Form.{Form}
use Rattle.std.proofs.lemmas.List.Sorted.{IsPermutation-cons, IsPermutation-trans, IsPermutation-sym, IsPermutation-middle, IsPermutation-append_right}

two_first : (x y : Form) (ys : List Form) → IsPermutation (x ∷ y ∷ ys) (y ∷ x ∷ ys)
two_first x y ys = IsPermutation-middle (x ∷ []) y ys

to_front : (x : Form) (ys : List Form) (j : ℕ) (d : Form) → j < length ys → IsPermutation (x ∷ ys) (get_or ys j d ∷ set ys j x)
to_front x [] j d h = absurd (omega arith)
to_front x (y ∷ ys) zero d h = two_first x y ys
to_front x (y ∷ ys) (suc j) d h =
    let rest : IsPermutation (y ∷ x ∷ ys) (y ∷ get_or ys j d ∷ set ys j x) = IsPermutation-cons y (x ∷ ys) (get_or ys j d ∷ set ys j x) (to_front x ys j d (omega arith)) in
    IsPermutation-trans (x ∷ y ∷ ys) (y ∷ x ∷ ys) (get_or ys j d ∷ y ∷ set ys j x) (two_first x y ys)
    (IsPermutation-trans (y ∷ x ∷ ys) (y ∷ get_or ys j d ∷ set ys j x) (get_or ys j d ∷ y ∷ set ys j x) rest (two_first y (get_or ys j d) (set ys j x)))

pub exchange_permutes : (xs ys : List Form) (i j : ℕ) (d : Form) → i < length xs → j < length ys → IsPermutation (xs ++ ys) (set xs i (get_or ys j d) ++ set ys j (get_or xs i d))
exchange_permutes [] ys i j d h k = absurd (omega arith)
exchange_permutes (x ∷ xs) ys zero j d h k =
    IsPermutation-trans (x ∷ (xs ++ ys)) (xs ++ x ∷ ys) (get_or ys j d ∷ (xs ++ set ys j x)) (IsPermutation-sym (xs ++ x ∷ ys) (x ∷ (xs ++ ys)) (IsPermutation-middle xs x ys))
    (IsPermutation-trans (xs ++ x ∷ ys) (xs ++ get_or ys j d ∷ set ys j x) (get_or ys j d ∷ (xs ++ set ys j x)) (IsPermutation-append_right xs (x ∷ ys) (get_or ys j d ∷ set ys j x) (to_front x ys j d k)) (IsPermutation-middle xs (get_or ys j d) (set ys j x)))
exchange_permutes (x ∷ xs) ys (suc i) j d h k = IsPermutation-cons x (xs ++ ys) (set xs i (get_or ys j d) ++ set ys j (get_or xs i d)) (exchange_permutes xs ys i j d (omega arith) k)
