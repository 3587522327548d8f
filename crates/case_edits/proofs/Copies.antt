-- Copies of constraints, where the right side of one may be changed.
use Rattle.std.proofs.Common.{ℕ, ℤ, ◌+◌, ◌<◌, ◌≤◌, ◌≡◌, refl, sym, ◌∙◌, ap, inl, inr, Bool, Option, Some, None, List, [], ◌∷◌, ◌++◌, length, get_or, take}
use Rattle.std.specs.Prelude.{if◌then◌else◌}
use Rattle.std.proofs.lemmas.Bool.{cases_eq, eq-eqb, ne_eqb}
use Rattle.std.proofs.lemmas.List.{length-set, get_or-set_other, get_or_default, take_more, take_all}
use Rattle.std.proofs.lemmas.Grind.{get_or-set_at}
use Rattle.lpcc_case.specs.declared.constraint.Constraint.{Constraint}
use Rattle.lpcc_case.specs.Instance.{no_constraint}
use Rattle.case_edits.specs.Edits.{right_side, with_right_sides}

same_length : (changed : Option (ℕ × ℤ)) (cs : List Constraint) → length (with_right_sides changed cs) ≡ length cs
same_length None cs = refl
same_length (Some p) cs = length-set cs p.0 _

-- the copy of each constraint has the right side that the function gives
copy_is : (changed : Option (ℕ × ℤ)) (cs : List Constraint) (k : ℕ) (d : Constraint) → k < length cs → get_or (with_right_sides changed cs) k d ≡ record (get_or cs k d) { rhs = right_side changed k (get_or cs k d).rhs }
copy_is None cs k d lt = refl
copy_is (Some p) cs k d lt =
    let old : Constraint = get_or cs k d in
    let put : Constraint = record (get_or cs p.0 no_constraint) { rhs = p.1 } in
    let by : Bool → Constraint = λ b. record old { rhs = if b then p.1 else old.rhs } in
    elim (cases_eq k p.0) [
      | inl same ↦
          let room : p.0 < length cs = rw (sym same) lt in
          let base : get_or cs p.0 no_constraint ≡ old = ap (λ (n : ℕ). get_or cs n no_constraint) (sym same) ∙ get_or_default cs k no_constraint d lt in
          get_or-set_at cs p.0 k put d same room ∙ ap (λ (c : Constraint). record c { rhs = p.1 }) base ∙ ap by (sym (eq-eqb p.0 k (sym same)))
      | inr other ↦ get_or-set_other cs p.0 k put d other ∙ ap by (sym (ne_eqb p.0 k (λ e. other (sym e))))
    ]

pub copied_more : (changed : Option (ℕ × ℤ)) (cs made : List Constraint) (k : ℕ) (d x : Constraint) → k < length cs → made ≡ take k (with_right_sides changed cs) → x ≡ record (get_or cs k d) { rhs = right_side changed k (get_or cs k d).rhs } → made ++ x ∷ [] ≡ take (k + 1) (with_right_sides changed cs)
copied_more changed cs made k d x lt before here =
    let room : k < length (with_right_sides changed cs) = rw (same_length changed cs) lt in
    ap (λ (m : List Constraint). m ++ x ∷ []) before ∙ ap (λ (y : Constraint). take k (with_right_sides changed cs) ++ y ∷ []) (here ∙ sym (copy_is changed cs k d lt)) ∙ sym (take_more (with_right_sides changed cs) k d room)

pub copied_all : (changed : Option (ℕ × ℤ)) (cs made : List Constraint) (k : ℕ) → length cs ≤ k → made ≡ take k (with_right_sides changed cs) → made ≡ with_right_sides changed cs
copied_all changed cs made k past before = before ∙ take_all k (with_right_sides changed cs) (rw (same_length changed cs) past)
