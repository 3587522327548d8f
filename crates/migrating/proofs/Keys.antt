-- The lists of a table, as what its keys show.
use Rattle.std.proofs.Common.{◌≡◌, ◌≤◌, ℕ, ◌+◌, ℤ, pos, negsuc, Bool, true, false, not, ◌&&◌, cond, eqb, List, [], ◌∷◌, ◌++◌, length, map, Some, None, refl, sym, ap, ◌∙◌, arith}
use Rattle.std.specs.Prelude.{◌||◌}
use Rattle.std.specs.Borrow.{Bor}
use Rattle.std.specs.Cmp.{signed_Decides}
use Rattle.std.specs.Cmp.Lexicographic.{pointwise}
use Rattle.std.specs.Ordering.{int_eq}
use Rattle.std.specs.List.{list_any, position, position_or_len}
use Rattle.std.proofs.lemmas.Bool.{eq-eqb, ltb-false}
use Rattle.std.proofs.lemmas.List.Recursion.{is_position_or_len}
use Rattle.std.proofs.lemmas.List.Sums.{prefix_len-le-length}
use Rattle.cert2_text.specs.Wholes.{Terms}
use Rattle.migrating.specs.Migration.{same_number, same_terms, has_list, place}
use Rattle.migrating.specs.Making.{add_list}
use Rattle.migrating.proofs.Saying.{same_number_is}

same_number_own : (x : ℤ) → same_number x x ≡ true
same_number_own (pos m) = eq-eqb m m refl
same_number_own (negsuc m) = eq-eqb m m refl

pub same_terms_own : (xs : Terms) → same_terms xs xs ≡ true
same_terms_own [] = refl
same_terms_own (x ∷ xs) =
    ap (λ (b : Bool). (b && same_number x.1 x.1) && same_terms xs xs) (eq-eqb x.0 x.0 refl) ∙ ap (λ (b : Bool). b && same_terms xs xs) (same_number_own x.1)
    ∙ same_terms_own xs

-- two tests that decide the same
one_answer : {P : Type 0} (r s : Bool) → (r ≡ true → P) → (P → r ≡ true) → (s ≡ true → P) → (P → s ≡ true) → r ≡ s
one_answer true s rp pr sp ps = sym (ps (rp refl))
one_answer false true rp pr sp ps = pr (sp refl)
one_answer false false rp pr sp ps = refl

number_is : (x y : ℤ) → int_eq x y ≡ same_number x y
number_is x y =
    one_answer (int_eq x y) (same_number x y) (signed_Decides x y).0 (signed_Decides x y).1 (same_number_is x y) (λ e. ap (λ (z : ℤ). same_number x z) (sym e) ∙ same_number_own x)

abbrev same_term : ℕ × ℤ → ℕ × ℤ → Bool
same_term t u = eqb t.0 u.0 && int_eq t.1 u.1

abbrev same_key : Terms → Bor Terms → Bool
same_key mult k = pointwise same_term mult k.now

terms_are : (xs ys : Terms) → pointwise same_term xs ys ≡ same_terms xs ys
terms_are [] [] = refl
terms_are [] (y ∷ ys) = refl
terms_are (x ∷ xs) [] = refl
terms_are (x ∷ xs) (y ∷ ys) =
    ap (λ (b : Bool). (eqb x.0 y.0 && b) && pointwise same_term xs ys) (number_is x.1 y.1)
    ∙ ap (λ (b : Bool). (eqb x.0 y.0 && same_number x.1 y.1) && b) (terms_are xs ys)

abbrev shown : Bor Terms → Terms
shown k = k.now

pub any_shown : (mult : Terms) (ks : List (Bor Terms)) → list_any (same_key mult) ks ≡ has_list (map shown ks) mult
any_shown mult [] = refl
any_shown mult (k ∷ ks) =
    ap (λ (b : Bool). b || list_any (same_key mult) ks) (terms_are mult k.now) ∙ ap (λ (b : Bool). same_terms mult k.now || b) (any_shown mult ks)

place_step : (mult : Terms) (k : Bor Terms) (ks : List (Bor Terms)) → place (map shown (k ∷ ks)) mult ≡ cond (same_key mult k) 0 (1 + place (map shown ks) mult)
place_step mult k ks =
    ap (λ (n : ℕ). cond (same_terms mult k.now) 0 n) one_more ∙ ap (λ (b : Bool). cond b 0 (1 + place (map shown ks) mult)) (sym (terms_are mult k.now))
  where
    one_more : place (map shown ks) mult + 1 ≡ 1 + place (map shown ks) mult
    one_more = omega arith

pub place_shown : (mult : Terms) (ks : List (Bor Terms)) → position_or_len (same_key mult) ks ≡ place (map shown ks) mult
place_shown mult ks = sym (is_position_or_len (λ (xs : List (Bor Terms)). place (map shown xs) mult) (same_key mult) refl (λ k xs. place_step mult k xs) ks)

some_is : (b : Bool) (m i : ℕ) → cond b (Some m) None ≡ Some i → m ≡ i
some_is true m i e = cc
some_is false m i e = absurd cc

none_is : (b : Bool) (m : ℕ) → cond b (Some m) None ≡ None → b ≡ false
none_is true m e = absurd cc
none_is false m e = refl

pub found : (mult : Terms) (ks : List (Bor Terms)) (i : ℕ) → Some i ≡ position (same_key mult) ks → i ≡ place (map shown ks) mult
found mult ks i e = sym (some_is _ _ i (sym e)) ∙ place_shown mult ks

pub missing : (mult : Terms) (ks : List (Bor Terms)) (len : ℕ) → None ≡ position (same_key mult) ks → len ≡ length ks → len ≡ place (map shown ks) mult
missing mult ks len e l =
    let p : Bor Terms → Bool = same_key mult in
    let past : length ks ≤ position_or_len p ks = ltb-false _ _ (none_is _ _ (sym e)) in
    let short : position_or_len p ks ≤ length ks = prefix_len-le-length (λ x. not (p x)) ks in
    let same : len ≡ position_or_len p ks = omega (arith, l, past, short) in
    same ∙ place_shown mult ks

map_push : (ks : List (Bor Terms)) (k : Bor Terms) → map shown (ks ++ k ∷ []) ≡ map shown ks ++ k.now ∷ []
map_push [] k = refl
map_push (x ∷ ks) k = ap (λ (ls : List Terms). x.now ∷ ls) (map_push ks k)

by_added : (b : Bool) (ks : List (Bor Terms)) (k : Bor Terms) → map shown (cond b ks (ks ++ k ∷ [])) ≡ cond b (map shown ks) (map shown ks ++ k.now ∷ [])
by_added true ks k = refl
by_added false ks k = map_push ks k

pub added : (ks : List (Bor Terms)) (k : Bor Terms) → map shown (cond (list_any (same_key k.now) ks) ks (ks ++ k ∷ [])) ≡ add_list (map shown ks) k.now
added ks k = by_added (list_any (same_key k.now) ks) ks k ∙ ap (λ (b : Bool). cond b (map shown ks) (map shown ks ++ k.now ∷ [])) (any_shown k.now ks)
