-- What stands at a place of a list that grows.
use Rattle.std.proofs.Common.{◌≡◌, ℕ, zero, suc, ◌+◌, List, [], ◌∷◌, ◌++◌, length, get_or, set, drop, ◌⊎◌, inl, inr, Some, refl, sym, ap, ◌∙◌, arith, subst, add-zero}
use Rattle.std.specs.Prelude.{slice_get}
use Rattle.std.proofs.lemmas.List.{drop-set-lt, get_or-drop}
use Rattle.std.proofs.lemmas.Grind.{drop_more_same}

pub push_cases : {X : Type 0} (xs : List X) (y z : X) (k : ℕ) → slice_get (xs ++ y ∷ []) k ≡ Some z → (slice_get xs k ≡ Some z) ⊎ ((k ≡ length xs) × (y ≡ z))
push_cases [] y z zero e = let same : y ≡ z = cc in inr (refl, same)
push_cases [] y z (suc k) e = inl e
push_cases (x ∷ xs) y z zero e = inl e
push_cases (x ∷ xs) y z (suc k) e = elim (push_cases xs y z k e) [ inl h ↦ inl h | inr h ↦ inr (ap suc h.0, h.1) ]

pub at_left : {X : Type 0} (xs ys : List X) (z : X) (k : ℕ) → slice_get xs k ≡ Some z → slice_get (xs ++ ys) k ≡ Some z
at_left [] ys z k e = let clash : ⊥ = cc in absurd clash
at_left (x ∷ xs) ys z zero e = e
at_left (x ∷ xs) ys z (suc k) e = at_left xs ys z k e

pub at_end : {X : Type 0} (xs : List X) (y : X) → slice_get (xs ++ y ∷ []) (length xs) ≡ Some y
at_end [] y = refl
at_end (x ∷ xs) y = at_end xs y

pub none_nowhere : {X : Type 0} (z : X) (k : ℕ) → slice_get [] k ≡ Some z → ⊥
none_nowhere z k e = cc

-- two lists that are the same from a place on have the same there
pub same_at : {X : Type 0} (xs ys : List X) (k : ℕ) (d : X) → drop k xs ≡ drop k ys → get_or xs k d ≡ get_or ys k d
same_at xs ys k d e =
    let P : ℕ → Type 0 = λ j. get_or xs j d ≡ get_or ys j d in
    subst P (add-zero k) (sym (get_or-drop k xs 0 d) ∙ ap (λ (zs : List _). get_or zs 0 d) e ∙ get_or-drop k ys 0 d)

pub rest_after : {X : Type 0} (xs ys : List X) (k : ℕ) (y : X) → drop k xs ≡ drop k ys → drop (k + 1) (set xs k y) ≡ drop (k + 1) ys
rest_after xs ys k y e = drop-set-lt (k + 1) xs k y (omega arith) ∙ drop_more_same xs ys k e
