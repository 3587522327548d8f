-- The instance behind an edit that may be made keeps the facts of a case.
use Rattle.std.proofs.Common.{ℕ, ℤ, pos, ◌<◌, ◌≡◌, ◌≢◌, sym, ◌∙◌, ap, subst, arith, inl, inr, List, [], ◌∷◌, ◌++◌, length, get_or, set, Some}
use Rattle.std.specs.Prelude.{All}
use Rattle.std.proofs.lemmas.Bool.{cases_eq}
use Rattle.std.proofs.lemmas.Int.{ints}
use Rattle.std.proofs.lemmas.List.{length-append, length-set, get_or_append_left, get_or-set_other}
use Rattle.std.proofs.lemmas.Grind.{get_or-set_at}
use Rattle.std.proofs.lemmas.List.Elements.{All-append, All-cons, All-get_or, All-nil, All-set, All-weaker}
use Rattle.std.proofs.lemmas.Option.{slice_get-get_or, slice_get_within, get_or_from_slice_get}
use Rattle.lp_base.specs.declared.limits.TheConstants.{MOST_CONSTRAINTS}
use Rattle.sense.specs.declared.objective.Sense.TheVariants.{Min}
use Rattle.lpcc_case.specs.declared.constraint.Constraint.{Constraint}
use Rattle.lpcc_case.specs.declared.constraint.Kind.TheVariants.{Ge}
use Rattle.lpcc_case.specs.Cases.{FitsCase, IsCase, IsConstraint, NamesInequality, instance_of}
use Rattle.lpcc_case.specs.Instance.{Instance, constraint_at, no_constraint}
use Rattle.case_edits.specs.declared.edit.Edit.TheVariants.{Add, Tighten, Cost}
use Rattle.case_edits.specs.Edits.{AreTerms, MayBeMade, edited, with_constraints, with_right_side}

-- the terms and the right side of a constraint that may be added
constraint_of : (columns : ℕ) (c : Constraint) → AreTerms columns c.terms → FitsCase c.rhs → All (λ t. FitsCase t.1) c.terms → IsConstraint columns c
constraint_of columns c terms right fit = record {
  ascending = terms.ascending;
  columns_named = All-weaker (λ t. (t.0 < columns) × (t.1 ≢ pos 0)) (λ t. t.0 < columns) (λ t h. h.0) c.terms terms.named;
  coefficients = λ k d h. (fit k d h, (terms.named k d h).1);
  right = right;
}

-- ---- inequalities stay what they are

kept_in_front : (cs ds : List Constraint) (k : ℕ) → NamesInequality cs k → NamesInequality (cs ++ ds) k
kept_in_front cs ds k there =
    let lt : k < length cs = slice_get_within cs k there.0 there.1 in
    let room : k < length (cs ++ ds) = rw (length-append cs ds) (omega arith) in
    let same : get_or (cs ++ ds) k there.0 ≡ there.0 = get_or_append_left cs ds there.0 k lt ∙ get_or_from_slice_get cs k there.0 there.0 there.1 in
    (there.0, slice_get-get_or (cs ++ ds) k there.0 room ∙ ap Some same, there.2)

kept_in_place : (cs : List Constraint) (at k : ℕ) (c : Constraint) → at < length cs → c.kind ≡ Ge → NamesInequality cs k → NamesInequality (set cs at c) k
kept_in_place cs at k c lt ge there =
    let within : k < length cs = slice_get_within cs k there.0 there.1 in
    let room : k < length (set cs at c) = rw (length-set cs at c) within in
    elim (cases_eq k at) [
      | inl same ↦ (c, slice_get-get_or (set cs at c) k c room ∙ ap Some (get_or-set_at cs at k c c same lt), ge)
      | inr other ↦
          let e : get_or (set cs at c) k there.0 ≡ there.0 = get_or-set_other cs at k c there.0 other ∙ get_or_from_slice_get cs k there.0 there.0 there.1 in
          (there.0, slice_get-get_or (set cs at c) k there.0 room ∙ ap Some e, there.2)
    ]

-- ---- the three edits

pub added_is_case : (a : Instance) (c : Constraint) → IsCase a → MayBeMade a (Add c) → IsCase (with_constraints (a.constraints ++ c ∷ []) a)
added_is_case a c kept may =
    let few : length a.constraints < MOST_CONSTRAINTS = may.limits.0 in
    record {
      few_columns = kept.few_columns;
      few_constraints = rw (length-append a.constraints (c ∷ [])) (omega arith);
      few_pairs = kept.few_pairs;
      cost_length = kept.cost_length;
      costs = kept.costs;
      scale_positive = kept.scale_positive;
      scale = kept.scale;
      offset = kept.offset;
      constraints = All-append (IsConstraint a.columns) a.constraints (c ∷ []) kept.constraints (All-cons (IsConstraint a.columns) c [] (constraint_of a.columns c may.parts may.limits.1 may.limits.2) (All-nil (IsConstraint a.columns)));
      pairs = λ k d h. (kept_in_front a.constraints (c ∷ []) (get_or a.pairs k d).0 (kept.pairs k d h).0, kept_in_front a.constraints (c ∷ []) (get_or a.pairs k d).1 (kept.pairs k d h).1);
    }

pub tightened_is_case : (a : Instance) (con : ℕ) (rhs : ℤ) → IsCase a → MayBeMade a (Tighten con rhs) → IsCase (with_constraints (with_right_side con rhs a.constraints) a)
tightened_is_case a con rhs kept may =
    let old : Constraint = constraint_at a con in
    let new : Constraint = record old { rhs = rhs } in
    let was : IsConstraint a.columns old = All-get_or (IsConstraint a.columns) a.constraints con no_constraint may.parts kept.constraints in
    let fits : IsConstraint a.columns new = record { ascending = was.ascending; columns_named = was.columns_named; coefficients = was.coefficients; right = may.limits } in
    record {
      few_columns = kept.few_columns;
      few_constraints = rw (length-set a.constraints con new) kept.few_constraints;
      few_pairs = kept.few_pairs;
      cost_length = kept.cost_length;
      costs = kept.costs;
      scale_positive = kept.scale_positive;
      scale = kept.scale;
      offset = kept.offset;
      constraints = All-set (IsConstraint a.columns) a.constraints con new fits kept.constraints;
      pairs = λ k d h. (kept_in_place a.constraints con (get_or a.pairs k d).0 new may.parts may.tightens.0 (kept.pairs k d h).0, kept_in_place a.constraints con (get_or a.pairs k d).1 new may.parts may.tightens.0 (kept.pairs k d h).1);
    }

pub priced_is_case : (a : Instance) (cost : List ℤ) → IsCase a → MayBeMade a (Cost cost) → IsCase (edited (Cost cost) a)
priced_is_case a cost kept may = record {
  few_columns = kept.few_columns;
  few_constraints = kept.few_constraints;
  few_pairs = kept.few_pairs;
  cost_length = may.parts;
  costs = may.limits;
  scale_positive = omega (arith, ints);
  scale = omega arith;
  offset = omega arith;
  constraints = kept.constraints;
  pairs = kept.pairs;
}

-- as the code has its parts
pub priced_as : (a : Instance) (cost : List ℤ) (n : ℕ) (cs : List Constraint) (ps : List (ℕ × ℕ)) → n ≡ a.columns → cs ≡ a.constraints → ps ≡ a.pairs → IsCase a → MayBeMade a (Cost cost) → IsCase (instance_of n cost (pos 1) (pos 0) Min cs ps)
priced_as a cost n cs ps columns constraints pairs kept may =
    let P : ℕ → List Constraint → List (ℕ × ℕ) → Type 0 = λ m ds qs. IsCase (instance_of m cost (pos 1) (pos 0) Min ds qs) in
    subst (λ (m : ℕ). P m cs ps) (sym columns) (subst (λ (ds : List Constraint). P a.columns ds ps) (sym constraints) (subst (λ (qs : List (ℕ × ℕ)). P a.columns a.constraints qs) (sym pairs) (priced_is_case a cost kept may)))
