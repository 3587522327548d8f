-- Distinct names at their places.
use Rattle.std.proofs.Common.{ℕ, zero, suc, ◌+◌, ◌<◌, ◌≤◌, ◌≡◌, true, false, not, cond, List, [], ◌∷◌, ◌++◌, length, take, Some, refl, sym, ap, ◌∙◌, arith}
use Rattle.std.specs.Prelude.{slice_get}
use Rattle.std.specs.Str.{bytes_eq}
use Rattle.std.proofs.lemmas.Bool.{or_from, or_left, or_parts, or_right}
use Rattle.std.proofs.lemmas.List.{take_all}
use Rattle.std.proofs.lemmas.List.Folds.{list_any-append}
use Rattle.std.proofs.lemmas.Option.{same_Some, slice_get_within}
use Rattle.mps_lex.specs.Kinds.{Name}
use Rattle.decks.specs.Names.{has, place}
use Rattle.decks.proofs.KeptNames.{own_name, one}
use Rattle.decks.proofs.OnceNames.{other_way}
use Rattle.deck_print.specs.Printed.{AreDistinct}

same_own : (m n : Name) → m ≡ n → bytes_eq n m ≡ true
same_own m n e = ap (bytes_eq n) e ∙ own_name n

-- a name is not among those before it
pub distinct_front : (a b : List Name) (n : Name) → AreDistinct (a ++ n ∷ b) → has a n ≡ false
distinct_front [] b n d = refl
distinct_front (m ∷ a) b n d =
    let parts = or_parts (has a m) (has (n ∷ b) m) (sym (list_any-append (bytes_eq m) a (n ∷ b)) ∙ d.0) in
    or_from (bytes_eq n m) (has a n) (other_way m n (or_parts (bytes_eq m n) (has b m) parts.1).0) (distinct_front a b n d.1)

pub apart_at : (ns : List Name) (m n : Name) (j : ℕ) → has ns m ≡ false → slice_get ns j ≡ Some n → bytes_eq m n ≡ false
apart_at [] m n j h e = absurd cc
apart_at (x ∷ ns) m n zero h e = ap (bytes_eq m) (sym (same_Some x n e)) ∙ (or_parts (bytes_eq m x) (has ns m) h).0
apart_at (x ∷ ns) m n (suc j) h e = apart_at ns m n j (or_parts (bytes_eq m x) (has ns m) h).1 e

pub has_at : (ns : List Name) (n : Name) (j : ℕ) → slice_get ns j ≡ Some n → has ns n ≡ true
has_at [] n j e = absurd cc
has_at (x ∷ ns) n zero e = or_left (bytes_eq n x) (has ns n) (same_own x n (same_Some x n e))
has_at (x ∷ ns) n (suc j) e = or_right (bytes_eq n x) (has ns n) (has_at ns n j e)

-- ---- the first names

stops : (ns : List Name) (n x : Name) → bytes_eq n x ≡ true → place (x ∷ ns) n ≡ 0
stops ns n x e = ap (λ t. cond (not t) (1 + place ns n) 0) e

skips : (ns : List Name) (n x : Name) → bytes_eq n x ≡ false → place (x ∷ ns) n ≡ suc (place ns n)
skips ns n x e = ap (λ t. cond (not t) (1 + place ns n) 0) e ∙ one (place ns n)

-- a name has its place among the first ones, and their number if it is the next one
pub place_taken : (ns : List Name) (c j : ℕ) (n : Name) → AreDistinct ns → slice_get ns j ≡ Some n → j ≤ c → place (take c ns) n ≡ j
place_taken [] c j n d e l = absurd cc
place_taken (x ∷ ns) zero zero n d e l = refl
place_taken (x ∷ ns) zero (suc j) n d e l = absurd (omega (arith, l))
place_taken (x ∷ ns) (suc c) zero n d e l = stops (take c ns) n x (same_own x n (same_Some x n e))
place_taken (x ∷ ns) (suc c) (suc j) n d e l = skips (take c ns) n x (other_way x n (apart_at ns x n j d.0 e)) ∙ ap suc (place_taken ns c j n d.1 e (omega (arith, l)))

pub place_at : (ns : List Name) (j : ℕ) (n : Name) → AreDistinct ns → slice_get ns j ≡ Some n → place ns n ≡ j
place_at ns j n d e =
    let l = slice_get_within ns j n e in
    ap (λ t. place t n) (sym (take_all (length ns) ns (omega arith))) ∙ place_taken ns (length ns) j n d e (omega (arith, l))

pub has_taken : (ns : List Name) (c j : ℕ) (n : Name) → slice_get ns j ≡ Some n → j < c → has (take c ns) n ≡ true
has_taken [] c j n e l = absurd cc
has_taken (x ∷ ns) zero j n e l = absurd (omega (arith, l))
has_taken (x ∷ ns) (suc c) zero n e l = or_left (bytes_eq n x) (has (take c ns) n) (same_own x n (same_Some x n e))
has_taken (x ∷ ns) (suc c) (suc j) n e l = or_right (bytes_eq n x) (has (take c ns) n) (has_taken ns c j n e (omega (arith, l)))

pub not_taken : (ns : List Name) (c : ℕ) (n : Name) → AreDistinct ns → slice_get ns c ≡ Some n → has (take c ns) n ≡ false
not_taken [] c n d e = absurd cc
not_taken (x ∷ ns) zero n d e = refl
not_taken (x ∷ ns) (suc c) n d e = or_from (bytes_eq n x) (has (take c ns) n) (other_way x n (apart_at ns x n c d.0 e)) (not_taken ns c n d.1 e)

pub take_next : {X : Type 0} (xs : List X) (c : ℕ) (x : X) → slice_get xs c ≡ Some x → take c xs ++ x ∷ [] ≡ take (suc c) xs
take_next [] c x e = absurd cc
take_next (y ∷ xs) zero x e = ap (λ z. z ∷ []) (sym (same_Some y x e))
take_next (y ∷ xs) (suc c) x e = ap (λ t. y ∷ t) (take_next xs c x e)

-- names at two places are two
pub one_place : (ns : List Name) (i j : ℕ) (m n : Name) → AreDistinct ns → slice_get ns i ≡ Some m → slice_get ns j ≡ Some n → (i ≡ j → ⊥) → bytes_eq m n ≡ false
one_place [] i j m n d e f ne = absurd cc
one_place (x ∷ ns) zero zero m n d e f ne = absurd (ne refl)
one_place (x ∷ ns) zero (suc j) m n d e f ne = ap (λ y. bytes_eq y n) (sym (same_Some x m e)) ∙ apart_at ns x n j d.0 f
one_place (x ∷ ns) (suc i) zero m n d e f ne = ap (bytes_eq m) (sym (same_Some x n f)) ∙ other_way x m (apart_at ns x m i d.0 e)
one_place (x ∷ ns) (suc i) (suc j) m n d e f ne = one_place ns i j m n d.1 e f (λ k. ne (ap suc k))
