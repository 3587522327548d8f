-- The constraints of a column.
use Rattle.std.proofs.Common.{ℕ, ◌^◌, ◌<◌, ◌≤◌, ◌≡◌, sym, ap, ◌∙◌, inl, inr, arith, ℤ, pos, neg_ℤ, ◌-ℤ◌, to_z, of_z, List, [], ◌∷◌, ◌++◌, false, ◌+◌, Option, Some, append_assoc, length, get_or, take}
use mir.Syntax.{w64}
use Rattle.std.specs.Prelude.{unsigned_abs}
use Rattle.std.specs.List.{enumerate_from}
use Rattle.std.proofs.lemmas.Bool.{cases_Bool}
use Rattle.std.proofs.lemmas.List.{length-append}
use Rattle.std.proofs.lemmas.Int.{ints}
use Rattle.lp_nums.specs.Fractions.{Fraction}
use Rattle.lpcc_case.specs.declared.constraint.Constraint.{Constraint}
use Rattle.deck_case.specs.CaseParts.{Terms, at_least, constraints_of_column, constraints_of_columns, for_bound, upper_bound}
use Rattle.deck_case.specs.Wide.{has_wide, is_wide, named}
use Rattle.decks.specs.declared.deck.Column.{Column}
use Rattle.deck_case.proofs.Numbered.{numbered_all, numbered_more}
use Rattle.deck_case.proofs.RowSteps.{not_wide, or_left_false, or_right_false}
use Rattle.deck_case.proofs.TermSteps.{named_wide}

pub bound_narrow : (line : ℕ) (n d : ℤ) → named line (n ∷ d ∷ []) ≡ [] → (unsigned_abs n ≤ 2 ^ 52) × (unsigned_abs d ≤ 2 ^ 52)
bound_narrow line n d h =
    elim (cases_Bool (has_wide (n ∷ d ∷ []))) [
      | inl wide ↦
          let e : line ∷ [] ≡ [] = sym (named_wide line (n ∷ d ∷ []) wide) ∙ h in
          absurd (cc)
      | inr small ↦ (
        not_wide n (or_left_false (is_wide n) (has_wide (d ∷ [])) small),
        not_wide d (or_left_false (is_wide d) false (or_right_false (is_wide n) (has_wide (d ∷ [])) small)),
      )
    ]

-- a number with its sign changed, as the code has it
pub negative_read : (z : ℤ) → unsigned_abs z ≤ 2 ^ 52 → to_z w64 (of_z w64 (pos 0 -ℤ to_z w64 (of_z w64 z))) ≡ neg_ℤ z
negative_read z h = omega (arith, ints)

pub upper_made : (made new : List Constraint) (j line : ℕ) (v : Fraction) (num den : ℤ) (x : Constraint) (terms : Terms) (bound : Option Fraction) → new ≡ made ++ x ∷ [] → x ≡ at_least terms (to_z w64 (of_z w64 (pos 0 -ℤ to_z w64 (of_z w64 num)))) → terms ≡ (j, to_z w64 (of_z w64 (pos 0 -ℤ to_z w64 (of_z w64 den)))) ∷ [] → num ≡ v.num → den ≡ v.den → named line (v.num ∷ v.den ∷ []) ≡ [] → bound ≡ Some v → new ≡ made ++ for_bound (upper_bound j) bound
upper_made made new j line v num den x terms bound e ex et en ed small eb =
    let sizes = bound_narrow line v.num v.den small in
    let n = negative_read num (omega (arith, ap unsigned_abs en, sizes.0)) ∙ ap neg_ℤ en in
    let d = negative_read den (omega (arith, ap unsigned_abs ed, sizes.1)) ∙ ap neg_ℤ ed in
    let made_is : x ≡ at_least ((j, neg_ℤ v.den) ∷ []) (neg_ℤ v.num) = ex ∙ ap (λ t. at_least t (to_z w64 (of_z w64 (pos 0 -ℤ to_z w64 (of_z w64 num))))) et ∙ ap (λ z. at_least ((j, z) ∷ []) (to_z w64 (of_z w64 (pos 0 -ℤ to_z w64 (of_z w64 num))))) d ∙ ap (at_least ((j, neg_ℤ v.den) ∷ [])) n in
    e ∙ ap (λ y. made ++ y ∷ []) made_is ∙ ap (λ (o : Option Fraction). made ++ for_bound (upper_bound j) o) (sym eb)

-- ---- one more column

abbrev pub column_made : ℕ × Column → List Constraint
column_made c = constraints_of_column c.0 c.1

pub columns_more : (old made new : List Constraint) (cols : List Column) (k : ℕ) (col d : Column) → k < length cols → col ≡ get_or cols k d → made ≡ old ++ constraints_of_columns (take k (enumerate_from 0 cols)) → new ≡ made ++ constraints_of_column k col → new ≡ old ++ constraints_of_columns (take (k + 1) (enumerate_from 0 cols))
columns_more old made new cols k col d h same so_far e =
    e
    ∙ ap (λ l. l ++ constraints_of_column k col) so_far
    ∙ append_assoc old (constraints_of_columns (take k (enumerate_from 0 cols))) (constraints_of_column k col)
    ∙ ap (λ (x : Column). old ++ (constraints_of_columns (take k (enumerate_from 0 cols)) ++ constraints_of_column k x)) same
    ∙ ap (λ l. old ++ l) (sym (numbered_more column_made cols k d h))

pub columns_done : (old made : List Constraint) (cols : List Column) (k : ℕ) → length cols ≤ k → made ≡ old ++ constraints_of_columns (take k (enumerate_from 0 cols)) → made ≡ old ++ constraints_of_columns (enumerate_from 0 cols)
columns_done old made cols k h e = e ∙ ap (λ l. old ++ l) (numbered_all column_made cols k h)

-- how many constraints stand before those of column j
abbrev pub behind : ℕ → List Column → ℕ → ℕ
behind old cols j = old + length (constraints_of_columns (take j (enumerate_from 0 cols)))

pub behind_is : (old made : List Constraint) (cols : List Column) (k n : ℕ) → made ≡ old ++ constraints_of_columns (take k (enumerate_from 0 cols)) → n ≡ length made → n ≡ behind (length old) cols k
behind_is old made cols k n e h = h ∙ ap length e ∙ length-append old (constraints_of_columns (take k (enumerate_from 0 cols)))
