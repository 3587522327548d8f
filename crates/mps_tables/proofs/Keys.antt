-- A table's keys as the list of names that they show.
use Rattle.std.proofs.Common.{ℕ, ◌≡◌, ◌≤◌, Bool, true, false, not, cond, List, [], ◌∷◌, ◌++◌, length, map, Some, None, refl, ap, sym, ◌∙◌, arith}
use Rattle.std.specs.Borrow.{Bor}
use Rattle.std.specs.List.{list_any, position_or_len, position}
use Rattle.std.proofs.lemmas.Bool.{ltb-false}
use Rattle.std.proofs.lemmas.List.Sums.{prefix_len-le-length}
use Rattle.std.specs.Str.{bytes_eq}
use Rattle.mps_lex.specs.Shown.{shown}
use Rattle.std.specs.Map.{lookup}
use Rattle.indexmap.specs.IndexMap.{insert_entry}
use Rattle.decks.specs.Names.{has, place, add_name, named, put}
use Rattle.mps_tables.specs.Seen.{shown_entry}

pub any_shown : (n : List ℕ) (ks : List (Bor (List ℕ))) → list_any (λ k. bytes_eq n k.now) ks ≡ has (map shown ks) n
any_shown n [] = refl
any_shown n (k ∷ ks) = rw (any_shown n ks) refl

pub place_shown : (n : List ℕ) (ks : List (Bor (List ℕ))) → position_or_len (λ k. bytes_eq n k.now) ks ≡ place (map shown ks) n
place_shown n [] = refl
place_shown n (k ∷ ks) = rw (place_shown n ks) refl

some_is : (b : Bool) (m i : ℕ) → cond b (Some m) None ≡ Some i → m ≡ i
some_is true m i e = cc
some_is false m i e = absurd cc

none_is : (b : Bool) (m : ℕ) → cond b (Some m) None ≡ None → b ≡ false
none_is true m e = absurd cc
none_is false m e = refl

pub found : (n : List ℕ) (ks : List (Bor (List ℕ))) (i : ℕ) → Some i ≡ position (λ k. bytes_eq n k.now) ks → i ≡ place (map shown ks) n
found n ks i e = sym (some_is _ _ i (sym e)) ∙ place_shown n ks

pub missing : (n : List ℕ) (ks : List (Bor (List ℕ))) (len : ℕ) → None ≡ position (λ k. bytes_eq n k.now) ks → len ≡ length ks → len ≡ place (map shown ks) n
missing n ks len e l =
    let p = λ (k : Bor (List ℕ)). bytes_eq n k.now in
    let past : length ks ≤ position_or_len p ks = ltb-false _ _ (none_is _ _ (sym e)) in
    let short : position_or_len p ks ≤ length ks = prefix_len-le-length (λ x. not (p x)) ks in
    let same : len ≡ position_or_len p ks = omega (arith, l, past, short) in
    same ∙ place_shown n ks

pub map_push : (ks : List (Bor (List ℕ))) (k : Bor (List ℕ)) → map shown (ks ++ k ∷ []) ≡ map shown ks ++ k.now ∷ []
map_push [] k = refl
map_push (x ∷ ks) k = rw (map_push ks k) refl

by_added : (b : Bool) (ks : List (Bor (List ℕ))) (k : Bor (List ℕ)) → map shown (cond b ks (ks ++ k ∷ [])) ≡ cond b (map shown ks) (map shown ks ++ k.now ∷ [])
by_added true ks k = refl
by_added false ks k = map_push ks k

pub added : (ks : List (Bor (List ℕ))) (k : Bor (List ℕ)) → map shown (cond (list_any (λ x. bytes_eq k.now x.now) ks) ks (ks ++ k ∷ [])) ≡ add_name (map shown ks) k.now
added ks k = by_added (list_any (λ x. bytes_eq k.now x.now) ks) ks k ∙ ap (λ (b : Bool). cond b (map shown ks) (map shown ks ++ k.now ∷ [])) (any_shown k.now ks)

-- ---- names with what is known of each

pub named_shown : {T : Type 0} (n : List ℕ) (es : List (Bor (List ℕ) × T)) → lookup (λ k. bytes_eq n k.now) es ≡ named (map shown_entry es) n
named_shown n [] = refl
named_shown n (e ∷ es) = ap (cond (bytes_eq n e.0.now) (Some e.1)) (named_shown n es)

by_put : {T : Type 0} (b : Bool) (e : Bor (List ℕ) × T) (x : T) (es fs : List (Bor (List ℕ) × T)) (gs : List (List ℕ × T)) → map shown_entry fs ≡ gs
    → map shown_entry (cond b ((e.0, x) ∷ es) (e ∷ fs)) ≡ cond b ((e.0.now, x) ∷ map shown_entry es) (shown_entry e ∷ gs)
by_put true e x es fs gs h = refl
by_put false e x es fs gs h = ap (λ t. shown_entry e ∷ t) h

pub put_shown : {T : Type 0} (k : Bor (List ℕ)) (x : T) (es : List (Bor (List ℕ) × T)) → map shown_entry (insert_entry (λ a b. bytes_eq a.now b.now) es k x) ≡ put (map shown_entry es) k.now x
put_shown k x [] = refl
put_shown k x (e ∷ es) = by_put (bytes_eq k.now e.0.now) e x es _ _ (put_shown k x es)
