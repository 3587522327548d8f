-- Edits of an instance: which may be made, which are refused and why, and the instance behind one.
use Rattle.std.specs.Prelude.{◌≡◌, ◌≢◌, ◌<◌, ◌≤ℤ◌, ℕ, ℤ, pos, nat_eq, if◌then◌else◌, List, [], ◌∷◌, ◌++◌, All, IsTrue, Option, Some, None, length, slice_index_or, slice_set}
use Rattle.lp_base.specs.Ascending.{ascends_by, number_of}
use Rattle.lp_base.specs.declared.limits.TheConstants.{MOST_CONSTRAINTS}
use Rattle.sense.specs.declared.objective.Sense.TheVariants.{Min}
use Rattle.lpcc_case.specs.declared.constraint.Constraint.{Constraint}
use Rattle.lpcc_case.specs.declared.constraint.Kind.TheVariants.{Ge}
use Rattle.lpcc_case.specs.Cases.{FitsCase}
use Rattle.lpcc_case.specs.Instance.{Instance, constraint_at, no_constraint}
use Rattle.case_edits.specs.declared.edit.Edit.{Edit}
use Rattle.case_edits.specs.declared.edit.Edit.TheVariants.{Add, Tighten, Cost}
use Rattle.case_edits.specs.declared.edit.EditFault.{EditFault}
use Rattle.case_edits.specs.declared.edit.EditFault.TheVariants.{NoSuch, Loosens, Limit, NoMemory}

-- ---- what an edit asks

-- the terms name columns that ascend strictly, and none is zero
pub record AreTerms (columns : ℕ) (terms : List (ℕ × ℤ)) : Type 0 where
  pub ascending : IsTrue (ascends_by number_of terms)
  pub named : All (λ t. (t.0 < columns) × (t.1 ≢ pos 0)) terms

-- the instance has what the edit names: the columns of its terms or of its cost, or its constraint
abbrev pub HasParts : Instance → Edit → Type 0
HasParts a (Add c) = AreTerms a.columns c.terms
HasParts a (Tighten con rhs) = con < length a.constraints
HasParts a (Cost cost) = length cost ≡ a.columns

-- a right side is changed of an inequality alone, and not to one below the present one
abbrev pub Tightens : Instance → Edit → Type 0
Tightens a (Add c) = Unit {0}
Tightens a (Tighten con rhs) = ((constraint_at a con).kind ≡ Ge) × ((constraint_at a con).rhs ≤ℤ rhs)
Tightens a (Cost cost) = Unit {0}

-- the numbers of the edit are those of a case, and there is room for one more constraint
abbrev pub FitsLimits : Instance → Edit → Type 0
FitsLimits a (Add c) = (length a.constraints < MOST_CONSTRAINTS) × FitsCase c.rhs × All (λ t. FitsCase t.1) c.terms
FitsLimits a (Tighten con rhs) = FitsCase rhs
FitsLimits a (Cost cost) = All FitsCase cost

pub record MayBeMade (a : Instance) (edit : Edit) : Type 0 where
  pub parts : HasParts a edit
  pub tightens : Tightens a edit
  pub limits : FitsLimits a edit

-- the first of the three that fails; memory may be short for an edit that may be made
abbrev pub IsRefusedBy : Instance → Edit → EditFault → Type 0
IsRefusedBy a edit NoSuch = ¬ (HasParts a edit)
IsRefusedBy a edit Loosens = HasParts a edit × ¬ (Tightens a edit)
IsRefusedBy a edit Limit = HasParts a edit × Tightens a edit × ¬ (FitsLimits a edit)
IsRefusedBy a edit (NoMemory error) = MayBeMade a edit

-- ---- the instance behind an edit

-- the constraint of this number has another right side
abbrev pub with_right_side : ℕ → ℤ → List Constraint → List Constraint
with_right_side con rhs constraints = slice_set constraints con (record (slice_index_or constraints con no_constraint) { rhs = rhs })

abbrev pub with_constraints : List Constraint → Instance → Instance
with_constraints constraints a = record a { constraints = constraints }

-- a constraint more behind the others, another right side, or another cost, to be least as it stands
abbrev pub edited : Edit → Instance → Instance
edited (Add c) a = with_constraints (a.constraints ++ c ∷ []) a
edited (Tighten con rhs) a = with_constraints (with_right_side con rhs a.constraints) a
edited (Cost cost) a = record a { cost = cost; scale = pos 1; offset = pos 0; sense = Min }

-- ---- copies of constraints, where the right side of one may be changed

abbrev pub with_right_sides : Option (ℕ × ℤ) → List Constraint → List Constraint
with_right_sides None constraints = constraints
with_right_sides (Some changed) constraints = with_right_side changed.0 changed.1 constraints

abbrev pub right_side : Option (ℕ × ℤ) → ℕ → ℤ → ℤ
right_side None number present = present
right_side (Some changed) number present = if nat_eq changed.0 number then changed.1 else present
