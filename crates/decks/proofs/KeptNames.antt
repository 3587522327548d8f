-- Names at their places, and names that are added.
use Rattle.std.proofs.Common.{ℕ, suc, ◌+◌, ◌<◌, ◌≡◌, Bool, true, false, not, ◌||◌, cond, List, [], ◌∷◌, ◌++◌, length, map, Some, refl, sym, ap, ◌∙◌, arith}
use Rattle.std.proofs.lemmas.List.{map_push}
use Rattle.std.proofs.lemmas.List.Folds.{list_any-append}
use Rattle.std.proofs.lemmas.List.Sums.{fold_push}
use Rattle.std.proofs.lemmas.Option.{same_Some, slice_get_within}
use Rattle.std.proofs.lemmas.Slice.Eq.{bytes_eq-Decides}
use Rattle.std.specs.Prelude.{slice_get, fold}
use Rattle.std.specs.List.{list_any, position_or_len}
use Rattle.std.specs.Str.{bytes_eq}
use Rattle.mps_lex.specs.Kinds.{Name}
use Rattle.mps_lex.specs.Lines.{Line}
use Rattle.decks.specs.Names.{has, place, add_name}
use Rattle.decks.specs.Spelling.{field, column_names}

pub same_name : (m n : Name) → bytes_eq m n ≡ true → m ≡ n
same_name m n e = (bytes_eq-Decides m n).0 e

pub own_name : (n : Name) → bytes_eq n n ≡ true
own_name n = (bytes_eq-Decides n n).1 refl

pub one : (n : ℕ) → 1 + n ≡ suc n
one n = omega arith

-- ---- places

-- the first element that passes stands at its place
pub get_first : {X : Type 0} (p : X → Bool) (xs : List X) → list_any p xs ≡ true → (x : X) × (slice_get xs (position_or_len p xs) ≡ Some x) × (p x ≡ true)
get_first p [] h = absurd cc
get_first {X = X} p (y ∷ xs) h = by (p y) refl h (λ e. get_first p xs e)
  where
    by : (b : Bool) → p y ≡ b → (b || list_any p xs) ≡ true → (list_any p xs ≡ true → (x : X) × (slice_get xs (position_or_len p xs) ≡ Some x) × (p x ≡ true))
        → (x : X) × (slice_get (y ∷ xs) (cond (not b) (1 + position_or_len p xs) 0) ≡ Some x) × (p x ≡ true)
    by true q e next = (y, refl, q)
    by false q e next = let r = next e in (r.0, ap (λ (i : ℕ). slice_get (y ∷ xs) i) (one (position_or_len p xs)) ∙ r.1, r.2)

pub get_place : (ns : List Name) (n : Name) → has ns n ≡ true → slice_get ns (place ns n) ≡ Some n
get_place ns n h = let r = get_first (bytes_eq n) ns h in r.1 ∙ ap (λ (x : Name). Some x) (sym (same_name n r.0 r.2))

pub place_has : (ns : List Name) (n : Name) → has ns n ≡ true → place ns n < length ns
place_has ns n h = slice_get_within ns (place ns n) n (get_place ns n h)

-- one place has one name
pub place_same : (ns : List Name) (m n : Name) → has ns m ≡ true → has ns n ≡ true → place ns m ≡ place ns n → m ≡ n
place_same ns m n hm hn e = same_Some m n (sym (get_place ns m hm) ∙ ap (slice_get ns) e ∙ get_place ns n hn)

-- ---- a name that is added

-- a name that stands keeps standing, at its place
pub has_more : (ns : List Name) (c n : Name) → has ns n ≡ true → has (add_name ns c) n ≡ true
has_more ns c n h = by (has ns c)
  where
    by : (b : Bool) → list_any (bytes_eq n) (cond b ns (ns ++ c ∷ [])) ≡ true
    by true = h
    by false = list_any-append (bytes_eq n) ns (c ∷ []) ∙ ap (λ (x : Bool). x || list_any (bytes_eq n) (c ∷ [])) h

in_two : (a b : Bool) → b ≡ true → (a || (b || false)) ≡ true
in_two true b e = refl
in_two false b e = ap (λ (x : Bool). x || false) e

pub has_added : (ns : List Name) (c : Name) → has (add_name ns c) c ≡ true
has_added ns c = by (has ns c) refl
  where
    by : (b : Bool) → has ns c ≡ b → list_any (bytes_eq c) (cond b ns (ns ++ c ∷ [])) ≡ true
    by true e = e
    by false e = list_any-append (bytes_eq c) ns (c ∷ []) ∙ in_two (has ns c) (bytes_eq c c) (own_name c)

by_first : (b any : Bool) (m n : ℕ) → (any ≡ true → m ≡ n) → (b || any) ≡ true → cond (not b) (1 + m) 0 ≡ cond (not b) (1 + n) 0
by_first true any m n f h = refl
by_first false any m n f h = ap (λ (x : ℕ). 1 + x) (f h)

pub first_stays : {X : Type 0} (p : X → Bool) (xs : List X) (y : X) → list_any p xs ≡ true → position_or_len p (xs ++ y ∷ []) ≡ position_or_len p xs
first_stays p [] y h = absurd cc
first_stays p (x ∷ xs) y h = by_first (p x) (list_any p xs) _ _ (λ e. first_stays p xs y e) h

pub place_more : (ns : List Name) (c n : Name) → has ns n ≡ true → place (add_name ns c) n ≡ place ns n
place_more ns c n h = by (has ns c)
  where
    by : (b : Bool) → position_or_len (bytes_eq n) (cond b ns (ns ++ c ∷ [])) ≡ position_or_len (bytes_eq n) ns
    by true = refl
    by false = first_stays (bytes_eq n) ns c h

stops : (b : Bool) → b ≡ true → cond (not b) (1 + 0) 0 ≡ 0
stops true e = refl
stops false e = absurd cc

place_last : (p : Name → Bool) (xs : List Name) (y : Name) → p y ≡ true → position_or_len p (xs ++ y ∷ []) ≡ position_or_len p xs
place_last p [] y h = stops (p y) h
place_last p (x ∷ xs) y h = ap (λ (n : ℕ). cond (not (p x)) (1 + n) 0) (place_last p xs y h)

-- a name has the place at which it is added, before and after
pub place_own : (ns : List Name) (c : Name) → place (add_name ns c) c ≡ place ns c
place_own ns c = by (has ns c)
  where
    by : (b : Bool) → position_or_len (bytes_eq c) (cond b ns (ns ++ c ∷ [])) ≡ position_or_len (bytes_eq c) ns
    by true = refl
    by false = place_last (bytes_eq c) ns c (own_name c)

pub columns_push : (cs : List Line) (l : Line) → column_names (cs ++ l ∷ []) ≡ add_name (column_names cs) (field 0 l.fields)
columns_push cs l = ap (fold add_name []) (map_push (λ (x : Line). field 0 x.fields) cs l) ∙ fold_push add_name [] (map (λ (x : Line). field 0 x.fields) cs) (field 0 l.fields)
