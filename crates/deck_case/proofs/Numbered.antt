-- Lists that numbered elements make, element by element, and the first of the lines that they name.
use Rattle.std.proofs.Common.{ℕ, ◌+◌, ◌<◌, ◌≤◌, ◌≡◌, sym, ap, subst, ◌∙◌, arith, List, [], ◌∷◌, ◌++◌, length, get_or, map, take, drop}
use Rattle.std.specs.List.{enumerate_from, flat_map, range_with_len}
use Rattle.std.proofs.lemmas.List.{append-nil, take_all, take_more, take-append-drop}
use Rattle.std.proofs.lemmas.List.Concat.{flat_map-append}
use Rattle.std.proofs.lemmas.List.FromFn.{get_or-enumerate_from, length-enumerate_from, map-range_with_len_more}
use Rattle.deck_case.specs.declared.fault.CaseFault.{CaseFault}
use Rattle.deck_case.specs.declared.fault.CaseFault.TheVariants.{RowWide, TooMany, NoMemory}
use Rattle.deck_case.specs.Steps.{IsFirstOf}

-- one more element
pub flat_more : {X A : Type 0} (f : X → List A) (xs : List X) (k : ℕ) (d : X) → k < length xs → flat_map f (take (k + 1) xs) ≡ flat_map f (take k xs) ++ f (get_or xs k d)
flat_more f xs k d h =
    ap (flat_map f) (take_more xs k d h)
    ∙ flat_map-append f (take k xs) (get_or xs k d ∷ [])
    ∙ ap (λ l. flat_map f (take k xs) ++ l) (append-nil (f (get_or xs k d)))

pub numbered_more : {X A : Type 0} (f : ℕ × X → List A) (xs : List X) (k : ℕ) (d : X) → k < length xs → flat_map f (take (k + 1) (enumerate_from 0 xs)) ≡ flat_map f (take k (enumerate_from 0 xs)) ++ f (k, get_or xs k d)
numbered_more f xs k d h =
    let within : k < length (enumerate_from 0 xs) = omega (arith, length-enumerate_from 0 xs) in
    let here : get_or (enumerate_from 0 xs) k (0, d) ≡ (k, get_or xs k d) = get_or-enumerate_from 0 xs k (0, d) h ∙ ap (λ n. (n, get_or xs k d)) (omega arith) in
    flat_more f (enumerate_from 0 xs) k (0, d) within ∙ ap (λ q. flat_map f (take k (enumerate_from 0 xs)) ++ f q) here

pub numbered_all : {X A : Type 0} (f : ℕ × X → List A) (xs : List X) (k : ℕ) → length xs ≤ k → flat_map f (take k (enumerate_from 0 xs)) ≡ flat_map f (enumerate_from 0 xs)
numbered_all f xs k h = ap (flat_map f) (take_all k (enumerate_from 0 xs) (omega (arith, length-enumerate_from 0 xs)))

-- a list made at each number, with one more
pub numbers_pushed : {A : Type 0} (f : ℕ → A) (k : ℕ) (now new : List A) (x : A) → now ≡ map f (range_with_len 0 k) → x ≡ f k → new ≡ now ++ x ∷ [] → new ≡ map f (range_with_len 0 (k + 1))
numbers_pushed f k now new x e g h = h ∙ ap (λ l. l ++ x ∷ []) e ∙ ap (λ y. map f (range_with_len 0 k) ++ y ∷ []) g ∙ sym (map-range_with_len_more f 0 k k (omega arith))

-- ---- the first line

pub first_kept : (xs ys : List ℕ) (fault : CaseFault) → IsFirstOf xs fault → IsFirstOf (xs ++ ys) fault
first_kept xs ys (TooMany l) h = h
first_kept xs ys (NoMemory e) h = tt
first_kept [] ys (RowWide l) h = absurd (cc)
first_kept (x ∷ xs) ys (RowWide l) h = h

pub flat-split : {X A : Type 0} (f : X → List A) (xs : List X) (k : ℕ) → flat_map f xs ≡ flat_map f (take k xs) ++ flat_map f (drop k xs)
flat-split f xs k = ap (flat_map f) (sym (take-append-drop k xs)) ∙ flat_map-append f (take k xs) (drop k xs)

-- where the lines before are none, the first of the next ones is the first of all
pub first_here : {X : Type 0} (f : X → List ℕ) (xs : List X) (k : ℕ) (d : X) (fault : CaseFault) → k < length xs → flat_map f (take k xs) ≡ [] → IsFirstOf (f (get_or xs k d)) fault → IsFirstOf (flat_map f xs) fault
first_here f xs k d fault h none first =
    let here = f (get_or xs k d) in
    let rest = flat_map f (drop (k + 1) xs) in
    let split : flat_map f xs ≡ here ++ rest = flat-split f xs (k + 1) ∙ ap (λ l. l ++ rest) (flat_more f xs k d h ∙ ap (λ l. l ++ here) none) in
    subst (λ l. IsFirstOf l fault) (sym split) (first_kept here rest fault first)

pub none_more : {X : Type 0} (f : X → List ℕ) (xs : List X) (k : ℕ) (d : X) → k < length xs → flat_map f (take k xs) ≡ [] → f (get_or xs k d) ≡ [] → flat_map f (take (k + 1) xs) ≡ []
none_more f xs k d h none here = flat_more f xs k d h ∙ ap (λ l. l ++ f (get_or xs k d)) none ∙ here

pub none_all : {X : Type 0} (f : X → List ℕ) (xs : List X) (k : ℕ) → length xs ≤ k → flat_map f (take k xs) ≡ [] → flat_map f xs ≡ []
none_all f xs k h none = ap (flat_map f) (sym (take_all k xs h)) ∙ none
