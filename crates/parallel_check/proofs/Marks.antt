-- Marks that were collected from many threads.
use Rattle.std.proofs.Common.{◌≡◌, ℕ, zero, suc, ◌<◌, Bool, true, false, List, [], ◌∷◌, length, get_or, Some, subst, arith}
use Rattle.std.specs.Prelude.{slice_get}
use Rattle.std.specs.List.{AllZip}
use Rattle.std.proofs.lemmas.Option.{slice_get_within, get_or_from_slice_get}

abbrev pub Marks : {X : Type 0} → (X → Type 0) → X → Bool → Type 0
Marks P x b = b ≡ true → P x

zip_at : {X : Type 0} (P : X → Type 0) (xs : List X) (bs : List Bool) (k : ℕ) (d : X) → AllZip (Marks P) xs bs → k < length xs → get_or bs k false ≡ true → P (get_or xs k d)
zip_at P [] bs k d h inside e = absurd (omega (arith, inside))
zip_at P (x ∷ xs) [] k d h inside e = absurd h
zip_at P (x ∷ xs) (b ∷ bs) zero d h inside e = h.0 e
zip_at P (x ∷ xs) (b ∷ bs) (suc k) d h inside e = zip_at P xs bs k d h.1 (omega (arith, inside)) e

pub marked_at : {X : Type 0} (P : X → Type 0) (xs : List X) (bs : List Bool) → AllZip (Marks P) xs bs → (k : ℕ) (x : X) → slice_get xs k ≡ Some x → get_or bs k false ≡ true → P x
marked_at P xs bs h k x here e = subst P (get_or_from_slice_get xs k x x here) (zip_at P xs bs k x h (slice_get_within xs k x here) e)
