-- Parts of faults that are none, and facts of each element.
use Rattle.std.proofs.Common.{ℕ, zero, suc, ◌≡◌, Bool, true, false, not, List, [], ◌∷◌, ◌++◌, length, map, Option, Some, None, refl, ap, subst}
use Rattle.std.proofs.lemmas.Bool.{not-false}
use Rattle.std.proofs.lemmas.Option.{same_Some}
use Rattle.std.specs.Prelude.{slice_get, option_map}
use Rattle.std.specs.List.{AllByRecursion, flat_map}
use Rattle.decks.specs.declared.fault.DeckWhy.{DeckWhy}
use Rattle.decks.specs.Faults.{◌or◌, fault_if}

-- ---- parts of a fault that is none

pub first_none : {X : Type 0} (a b : Option X) → (a or b) ≡ None → a ≡ None
first_none None b e = refl
first_none (Some w) b e = absurd cc

pub second_none : {X : Type 0} (a b : Option X) → (a or b) ≡ None → b ≡ None
second_none None b e = e
second_none (Some w) b e = absurd cc

pub if_none : (b : Bool) (w : DeckWhy) → fault_if b w ≡ None → b ≡ false
if_none true w e = absurd cc
if_none false w e = refl

pub unless_none : (b : Bool) (w : DeckWhy) → fault_if (not b) w ≡ None → b ≡ true
unless_none b w e = not-false b (if_none (not b) w e)

pub map_none : {X Y : Type 0} (f : X → Y) (o : Option X) → option_map f o ≡ None → o ≡ None
map_none f None e = refl
map_none f (Some x) e = absurd cc

-- ---- facts of each element

pub all_append : {X : Type 0} (P : X → Type 0) (xs ys : List X) → AllByRecursion P xs → AllByRecursion P ys → AllByRecursion P (xs ++ ys)
all_append P [] ys a b = b
all_append P (x ∷ xs) ys a b = (a.0, all_append P xs ys a.1 b)

pub all_weaker : {X : Type 0} (P Q : X → Type 0) (f : (x : X) → P x → Q x) (xs : List X) → AllByRecursion P xs → AllByRecursion Q xs
all_weaker P Q f [] a = tt
all_weaker P Q f (x ∷ xs) a = (f x a.0, all_weaker P Q f xs a.1)

pub all_map : {X Y : Type 0} (P : X → Type 0) (Q : Y → Type 0) (g : X → Y) (h : (x : X) → P x → Q (g x)) (xs : List X) → AllByRecursion P xs → AllByRecursion Q (map g xs)
all_map P Q g h [] a = tt
all_map P Q g h (x ∷ xs) a = (h x a.0, all_map P Q g h xs a.1)

pub all_flat : {X Y : Type 0} (P : X → Type 0) (Q : Y → Type 0) (g : X → List Y) (h : (x : X) → P x → AllByRecursion Q (g x)) (xs : List X) → AllByRecursion P xs → AllByRecursion Q (flat_map g xs)
all_flat P Q g h [] a = tt
all_flat P Q g h (x ∷ xs) a = all_append Q (g x) (flat_map g xs) (h x a.0) (all_flat P Q g h xs a.1)

pub all_at : {X : Type 0} (P : X → Type 0) (xs : List X) (i : ℕ) (x : X) → AllByRecursion P xs → slice_get xs i ≡ Some x → P x
all_at P [] i x a e = absurd cc
all_at P (y ∷ xs) zero x a e = subst P (same_Some y x e) a.0
all_at P (y ∷ xs) (suc i) x a e = all_at P xs i x a.1 e

-- ---- elements at places

pub get_front : {X : Type 0} (xs ys : List X) (i : ℕ) (x : X) → slice_get xs i ≡ Some x → slice_get (xs ++ ys) i ≡ Some x
get_front [] ys i x e = absurd cc
get_front (y ∷ xs) ys zero x e = e
get_front (y ∷ xs) ys (suc i) x e = get_front xs ys i x e

pub get_last : {X : Type 0} (xs : List X) (y : X) → slice_get (xs ++ y ∷ []) (length xs) ≡ Some y
get_last [] y = refl
get_last (x ∷ xs) y = get_last xs y

pub get_map : {X Y : Type 0} (g : X → Y) (xs : List X) (i : ℕ) (x : X) → slice_get xs i ≡ Some x → slice_get (map g xs) i ≡ Some (g x)
get_map g [] i x e = absurd cc
get_map g (y ∷ xs) zero x e = ap (option_map g) e
get_map g (y ∷ xs) (suc i) x e = get_map g xs i x e

pub get_mapped : {X Y : Type 0} (g : X → Y) (xs : List X) (i : ℕ) (y : Y) → slice_get (map g xs) i ≡ Some y → (x : X) × (slice_get xs i ≡ Some x) × (g x ≡ y)
get_mapped g [] i y e = absurd cc
get_mapped g (x ∷ xs) zero y e = (x, refl, same_Some (g x) y e)
get_mapped g (x ∷ xs) (suc i) y e = get_mapped g xs i y e

pub every_map : {X Y : Type 0} (P : Y → Type 0) (g : X → Y) (h : (x : X) → P (g x)) (xs : List X) → AllByRecursion P (map g xs)
every_map P g h [] = tt
every_map P g h (x ∷ xs) = (h x, every_map P g h xs)
