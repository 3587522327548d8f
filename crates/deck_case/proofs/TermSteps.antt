-- How the terms of entries grow.
use Rattle.std.proofs.Common.{ℕ, ◌+◌, ◌<◌, ◌≡◌, refl, sym, ap, ◌∙◌, inl, inr, ℤ, pos, List, [], ◌∷◌, ◌++◌, Bool, true, false, ◌||◌, not, cond, length, get_or, map, take, drop, filter, None, Some}
use Rattle.std.specs.Ordering.{int_eq}
use Rattle.std.proofs.lemmas.Bool.{cases_Bool, cond-true, cond-false}
use Rattle.std.proofs.lemmas.Bool.Decides.{Decides-int_eq}
use Rattle.std.proofs.lemmas.List.{append-nil, map-append, take_more, take-append-drop}
use Rattle.std.proofs.lemmas.List.Elements.{filter-append}
use Rattle.std.proofs.lemmas.List.Folds.{list_any-append}
use Rattle.decks.specs.declared.deck.Entry.{Entry}
use Rattle.deck_case.specs.CaseParts.{coefficients, is_nonzero, terms_of}
use Rattle.deck_case.specs.Multipliers.{times}
use Rattle.deck_case.specs.Wide.{has_wide, is_wide, named}
use Rattle.deck_case.specs.Steps.{narrow}

-- ---- narrow numbers

pub narrow_none : (z : ℤ) → narrow z ≡ None → is_wide z ≡ true
narrow_none z h = by_test (is_wide z) h
  where
    by_test : (b : Bool) → cond b None (Some z) ≡ None → b ≡ true
    by_test true h = refl
    by_test false h = absurd (cc)

pub narrow_some : (z w : ℤ) → narrow z ≡ Some w → (w ≡ z) × (is_wide z ≡ false)
narrow_some z w h = by_test (is_wide z) h
  where
    by_test : (b : Bool) → cond b None (Some z) ≡ Some w → (w ≡ z) × (b ≡ false)
    by_test true h = absurd (cc)
    by_test false h = (cc, refl)

pub wide_append : (xs ys : List ℤ) → has_wide (xs ++ ys) ≡ (has_wide xs || has_wide ys)
wide_append xs ys = list_any-append is_wide xs ys

pub or_true_left : (a b : Bool) → a ≡ true → (a || b) ≡ true
or_true_left true b h = refl
or_true_left false b h = absurd (cc)

pub or_true_right : (a b : Bool) → b ≡ true → (a || b) ≡ true
or_true_right true b h = refl
or_true_right false b h = h

pub or_false : (a b : Bool) → a ≡ false → b ≡ false → (a || b) ≡ false
or_false true b h k = h
or_false false b h k = k

-- ---- terms

pub terms_of-append : (m : ℕ) (es fs : List Entry) → terms_of m (es ++ fs) ≡ terms_of m es ++ terms_of m fs
terms_of-append m es fs =
    ap (map (λ e. (e.column, times m e.value))) (filter-append is_nonzero es fs)
    ∙ map-append (λ e. (e.column, times m e.value)) (filter is_nonzero es) (filter is_nonzero fs)

zero_entry : (e : Entry) → e.value.num ≡ pos 0 → is_nonzero e ≡ false
zero_entry e h = ap not ((Decides-int_eq e.value.num (pos 0)).1 h)

pub terms_skipped : (m : ℕ) (es : List Entry) (i : ℕ) (d : Entry) → i < length es → (get_or es i d).value.num ≡ pos 0 → terms_of m (take (i + 1) es) ≡ terms_of m (take i es)
terms_skipped m es i d l z =
    let e = get_or es i d in
    ap (terms_of m) (take_more es i d l)
    ∙ terms_of-append m (take i es) (e ∷ [])
    ∙ ap (λ t. terms_of m (take i es) ++ map (λ e. (e.column, times m e.value)) t) (cond-false (is_nonzero e) (e ∷ []) [] (zero_entry e z))
    ∙ append-nil (terms_of m (take i es))

other_entry : (e : Entry) → (e.value.num ≡ pos 0 → ⊥) → is_nonzero e ≡ true
other_entry e h =
    elim (cases_Bool (int_eq e.value.num (pos 0))) [
      | inl same ↦ absurd (h ((Decides-int_eq e.value.num (pos 0)).0 same))
      | inr other ↦ ap not other
    ]

terms_pushed : (m : ℕ) (es : List Entry) (i : ℕ) (d : Entry) → i < length es → ((get_or es i d).value.num ≡ pos 0 → ⊥) → terms_of m (take (i + 1) es) ≡ terms_of m (take i es) ++ ((get_or es i d).column, times m (get_or es i d).value) ∷ []
terms_pushed m es i d l nonzero =
    let e = get_or es i d in
    ap (terms_of m) (take_more es i d l)
    ∙ terms_of-append m (take i es) (e ∷ [])
    ∙ ap (λ t. terms_of m (take i es) ++ map (λ e. (e.column, times m e.value)) t) (cond-true (is_nonzero e) (e ∷ []) [] (other_entry e nonzero))

coefficients-append : (xs ys : List (ℕ × ℤ)) → coefficients (xs ++ ys) ≡ coefficients xs ++ coefficients ys
coefficients-append xs ys = map-append (λ t. t.1) xs ys

wide_behind : (xs : List (ℕ × ℤ)) (j : ℕ) (z : ℤ) → has_wide (coefficients (xs ++ (j, z) ∷ [])) ≡ (has_wide (coefficients xs) || has_wide (z ∷ []))
wide_behind xs j z = ap has_wide (coefficients-append xs ((j, z) ∷ [])) ∙ wide_append (coefficients xs) (z ∷ [])

pub term_step : (m : ℕ) (es : List Entry) (i : ℕ) (e d : Entry) (made new : List (ℕ × ℤ)) (z : ℤ) → i < length es → e ≡ get_or es i d → (e.value.num ≡ pos 0 → ⊥) → made ≡ terms_of m (take i es) → has_wide (coefficients made) ≡ false → Some z ≡ narrow (times m e.value) → new ≡ made ++ (e.column, z) ∷ [] → (new ≡ terms_of m (take (i + 1) es)) × (has_wide (coefficients new) ≡ false)
term_step m es i e d made new z l same nonzero so_far small found pushed =
    let is = narrow_some (times m e.value) z (sym found) in
    let nonzero' : (get_or es i d).value.num ≡ pos 0 → ⊥ = λ h. nonzero (ap (λ (x : Entry). x.value.num) same ∙ h) in
    let one : made ++ (e.column, z) ∷ [] ≡ terms_of m (take i es) ++ ((get_or es i d).column, times m (get_or es i d).value) ∷ [] =
    ap (λ l. l ++ (e.column, z) ∷ []) so_far
    ∙ ap (λ v. terms_of m (take i es) ++ (e.column, v) ∷ []) is.0
    ∙ ap (λ (x : Entry). terms_of m (take i es) ++ (x.column, times m x.value) ∷ []) same in (
      pushed ∙ one ∙ sym (terms_pushed m es i d l nonzero'),
      ap (λ t. has_wide (coefficients t)) pushed ∙ wide_behind made e.column z ∙ or_false (has_wide (coefficients made)) (has_wide (z ∷ [])) small (or_false (is_wide z) false (ap is_wide is.0 ∙ is.1) refl),
    )

pub term_passed : (m : ℕ) (es : List Entry) (i : ℕ) (e d : Entry) (made : List (ℕ × ℤ)) → i < length es → e ≡ get_or es i d → e.value.num ≡ pos 0 → made ≡ terms_of m (take i es) → made ≡ terms_of m (take (i + 1) es)
term_passed m es i e d made l same is_zero so_far = so_far ∙ sym (terms_skipped m es i d l (ap (λ (x : Entry). x.value.num) (sym same) ∙ is_zero))

pub term_wide : (m : ℕ) (es : List Entry) (i : ℕ) (e d : Entry) → i < length es → e ≡ get_or es i d → (e.value.num ≡ pos 0 → ⊥) → None ≡ narrow (times m e.value) → has_wide (coefficients (terms_of m es)) ≡ true
term_wide m es i e d l same nonzero none =
    let nonzero' : (get_or es i d).value.num ≡ pos 0 → ⊥ = λ h. nonzero (ap (λ (x : Entry). x.value.num) same ∙ h) in
    let z = times m (get_or es i d).value in
    let front = terms_of m (take i es) in
    let wide : is_wide z ≡ true = narrow_none z (ap (λ (x : Entry). narrow (times m x.value)) (sym same) ∙ sym none) in
    let part : has_wide (coefficients (terms_of m (take (i + 1) es))) ≡ true =
    ap (λ t. has_wide (coefficients t)) (terms_pushed m es i d l nonzero')
    ∙ wide_behind front (get_or es i d).column z
    ∙ or_true_right (has_wide (coefficients front)) (has_wide (z ∷ [])) (or_true_left (is_wide z) false wide) in
    let split : terms_of m es ≡ terms_of m (take (i + 1) es) ++ terms_of m (drop (i + 1) es) = ap (terms_of m) (sym (take-append-drop (i + 1) es)) ∙ terms_of-append m (take (i + 1) es) (drop (i + 1) es) in
    ap (λ t. has_wide (coefficients t)) split
    ∙ ap has_wide (coefficients-append (terms_of m (take (i + 1) es)) (terms_of m (drop (i + 1) es)))
    ∙ wide_append (coefficients (terms_of m (take (i + 1) es))) (coefficients (terms_of m (drop (i + 1) es)))
    ∙ or_true_left (has_wide (coefficients (terms_of m (take (i + 1) es)))) (has_wide (coefficients (terms_of m (drop (i + 1) es)))) part

pub named_wide : (line : ℕ) (numbers : List ℤ) → has_wide numbers ≡ true → named line numbers ≡ line ∷ []
named_wide line numbers h = cond-true (has_wide numbers) (line ∷ []) [] h

pub named_narrow : (line : ℕ) (numbers : List ℤ) → has_wide numbers ≡ false → named line numbers ≡ []
named_narrow line numbers h = cond-false (has_wide numbers) (line ∷ []) [] h
