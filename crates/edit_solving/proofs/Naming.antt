-- The columns that the terms of a script name.
use Rattle.std.proofs.Common.{ℕ, ◌+◌, ◌<◌, ◌≤◌, ◌≡◌, ◌≢◌, refl, sym, ◌∙◌, ap, subst, arith, Bool, true, false, ℤ, pos, inl, inr, List, [], ◌∷◌, ◌++◌, map, length, get_or, take}
use Rattle.std.specs.Prelude.{neg_ℤ, All, Option, None, Some, unsigned_abs}
use Rattle.std.proofs.lemmas.Bool.{false≢true}
use Rattle.std.proofs.lemmas.Int.{ints}
use Rattle.std.proofs.lemmas.List.{get_or-map, length-map, map-append, take_all, take_more}
use Rattle.std.proofs.lemmas.List.Elements.{All-append, All-cons, All-nil}
use Rattle.lp_base.specs.Ascending.{ascends_by, number_of}
use Rattle.lp_base.specs.Numbers.{IsNarrow}
use Rattle.edit_text.specs.Scripts.{IsTerm, Terms}
use Rattle.edit_text.specs.declared.script.Relation.{Relation}
use Rattle.edit_text.specs.declared.script.Relation.TheVariants.{Ge, Le, Eq}
use Rattle.case_edits.specs.Edits.{AreTerms}
use Rattle.edit_solving.specs.Meanings.{AreNamed, AreOwn, signed}

-- ---- signs

pub signed_again : (relation : Relation) (z : ℤ) → signed relation (signed relation z) ≡ z
signed_again Ge z = refl
signed_again Le z = omega (arith, ints)
signed_again Eq z = refl

pub signed_narrow : (relation : Relation) (z : ℤ) → IsNarrow z → IsNarrow (signed relation z)
signed_narrow Ge z h = h
signed_narrow Le z h = omega (arith, ints, h)
signed_narrow Eq z h = h

pub signed_other : (relation : Relation) (z : ℤ) → z ≢ pos 0 → signed relation z ≢ pos 0
signed_other Ge z h = h
signed_other Le z h = λ e. h (omega (arith, ints, e))
signed_other Eq z h = h

-- ---- one term

abbrev pub as_written : Relation → ℕ × ℤ → ℤ × ℤ
as_written relation t = (pos (t.0 + 1), signed relation t.1)

same_pair : {X Y : Type 0} (p q : X × Y) → p.0 ≡ q.0 → p.1 ≡ q.1 → p ≡ q
same_pair p q e f = λ i. (e i, f i)

written_once : (relation : Relation) (t u : ℕ × ℤ) → as_written relation t ≡ as_written relation u → t ≡ u
written_once relation t u e =
    let number : pos (t.0 + 1) ≡ pos (u.0 + 1) = ap (λ (p : ℤ × ℤ). p.0) e in
    let factor : signed relation t.1 ≡ signed relation u.1 = ap (λ (p : ℤ × ℤ). p.1) e in
    same_pair t u (omega (arith, ints, number)) (sym (signed_again relation t.1) ∙ ap (signed relation) factor ∙ signed_again relation u.1)

-- ---- lists of them

abbrev head_of : {X : Type 0} → X → List X → X
head_of d [] = d
head_of d (x ∷ xs) = x

abbrev tail_of : {X : Type 0} → List X → List X
tail_of [] = []
tail_of (x ∷ xs) = xs

pub named_once : (relation : Relation) (ts us : List (ℕ × ℤ)) → map (as_written relation) ts ≡ map (as_written relation) us → ts ≡ us
named_once relation [] [] e = refl
named_once relation [] (u ∷ us) e = absurd (cc e)
named_once relation (t ∷ ts) [] e = absurd (cc e)
named_once relation (t ∷ ts) (u ∷ us) e =
    let first : t ≡ u = written_once relation t u (ap (head_of (as_written relation t)) e) in
    let rest : ts ≡ us = named_once relation ts us (ap tail_of e) in
    λ i. first i ∷ rest i

-- ---- term by term

pub none_named : (columns : ℕ) (relation : Relation) → AreOwn columns relation [] []
none_named columns relation = record { names = refl; parts = All-nil (λ t. (t.0 < columns) × (t.1 ≢ pos 0)); narrow = All-nil (λ t. IsNarrow t.1) }

pub named_more : (columns : ℕ) (relation : Relation) (terms : Terms) (named : List (ℕ × ℤ)) (i k : ℕ) (z : ℤ) → All IsTerm terms → i < length terms → (get_or terms i (pos 0, pos 0)).0 ≡ pos (k + 1) → k < columns → z ≡ signed relation (get_or terms i (pos 0, pos 0)).1
    → AreOwn columns relation (take i terms) named → AreOwn columns relation (take (i + 1) terms) (named ++ (k, z) ∷ [])
named_more columns relation terms named i k z rules inside number within factor before =
    let t = get_or terms i (pos 0, pos 0) in
    let rule = rules i (pos 0, pos 0) inside in
    let back : signed relation z ≡ t.1 = ap (signed relation) factor ∙ signed_again relation t.1 in
    let here : t ≡ as_written relation (k, z) = same_pair t (as_written relation (k, z)) number (sym back) in
    record {
      names = take_more terms i (pos 0, pos 0) inside ∙ ap (λ (front : Terms). front ++ t ∷ []) before.names ∙ ap (λ (x : ℤ × ℤ). map (as_written relation) named ++ x ∷ []) here ∙ sym (map-append (as_written relation) named ((k, z) ∷ []));
      parts = All-append (λ u. (u.0 < columns) × (u.1 ≢ pos 0)) named ((k, z) ∷ []) before.parts (All-cons (λ u. (u.0 < columns) × (u.1 ≢ pos 0)) (k, z) [] (within, subst (λ (y : ℤ). y ≢ pos 0) (sym factor) (signed_other relation t.1 rule.2)) (All-nil (λ u. (u.0 < columns) × (u.1 ≢ pos 0))));
      narrow = All-append (λ u. IsNarrow u.1) named ((k, z) ∷ []) before.narrow (All-cons (λ u. IsNarrow u.1) (k, z) [] (subst IsNarrow (sym factor) (signed_narrow relation t.1 rule.1)) (All-nil (λ u. IsNarrow u.1)));
    }

pub named_all : (columns : ℕ) (relation : Relation) (terms : Terms) (named : List (ℕ × ℤ)) (i : ℕ) → length terms ≤ i → AreOwn columns relation (take i terms) named → AreOwn columns relation terms named
named_all columns relation terms named i past before = subst (λ (ts : Terms). AreOwn columns relation ts named) (take_all i terms past) before

-- a number that is no column's
pub no_column : (columns : ℕ) (relation : Relation) (terms : Terms) (i : ℕ) → i < length terms → ((k : ℕ) → (get_or terms i (pos 0, pos 0)).0 ≡ pos (k + 1) → k < columns → ⊥)
    → (ts : List (ℕ × ℤ)) → AreNamed relation terms ts → AreTerms columns ts → ⊥
no_column columns relation terms i inside none ts names right =
    let size : length terms ≡ length ts = ap length names ∙ length-map ts (as_written relation) in
    let within : i < length ts = omega (arith, inside, size) in
    let t = get_or ts i (0, pos 0) in
    let here : get_or terms i (pos 0, pos 0) ≡ as_written relation t = ap (λ (xs : Terms). get_or xs i (pos 0, pos 0)) names ∙ get_or-map (as_written relation) ts i (0, pos 0) (pos 0, pos 0) within in
    none t.0 (ap (λ (p : ℤ × ℤ). p.0) here) (right.named i (0, pos 0) within).0

-- columns that do not ascend
pub not_ascending : (columns : ℕ) (relation : Relation) (terms : Terms) (named : List (ℕ × ℤ)) → AreNamed relation terms named → (AreTerms columns named → ⊥) → (ts : List (ℕ × ℤ)) → AreNamed relation terms ts → AreTerms columns ts → ⊥
not_ascending columns relation terms named names none ts others right = none (subst (AreTerms columns) (named_once relation ts named (sym others ∙ names)) right)

pub never_ascends : (columns : ℕ) (b : Bool) (list named : List (ℕ × ℤ)) → b ≡ ascends_by number_of list → list ≡ named → b ≡ false → AreTerms columns named → ⊥
never_ascends columns b list named is same off right =
    false≢true (sym off ∙ is ∙ ap (ascends_by number_of) same ∙ right.ascending)
