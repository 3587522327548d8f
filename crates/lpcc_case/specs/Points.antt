-- Points with a denominator, and what they meet. Every fraction is multiplied out, so all numbers are whole.
use Rattle.std.specs.Prelude.{◌≡◌, ◌<◌, ◌*◌, ℕ, ℤ, pos, ◌*ℤ◌, ◌≤ℤ◌, ◌<ℤ◌, List, All, ◌⊎◌, length, map, nat_eq, slice_index_or, if◌then◌else◌}
use Rattle.lp_base.specs.Sums.{sum_over, dot}
use Rattle.nogoods.specs.declared.choice.Choice.{Choice}
use Rattle.lpcc_case.specs.declared.constraint.Constraint.{Constraint}
use Rattle.lpcc_case.specs.declared.constraint.Kind.{Kind}
use Rattle.lpcc_case.specs.declared.constraint.Kind.TheVariants.{Ge, Eq}
use Rattle.lpcc_case.specs.Instance.{Instance, constraint_at, chosen}

-- the point x / d
pub record Point (columns : ℕ) : Type 0 where
  pub x : List ℤ
  pub d : ℕ
  pub size : length x ≡ columns
  pub positive : 0 < d

-- the left side of a constraint with these terms
abbrev pub left_side : List (ℕ × ℤ) → List ℤ → ℤ
left_side terms x = sum_over (λ t. t.1 *ℤ slice_index_or x t.0 (pos 0)) terms

-- the coefficient of column j in these terms
abbrev pub coefficient : List (ℕ × ℤ) → ℕ → ℤ
coefficient terms j = sum_over (λ t. if nat_eq t.0 j then t.1 else pos 0) terms

abbrev pub Relates : Kind → ℤ → ℤ → Type 0
Relates Ge left right = right ≤ℤ left
Relates Eq left right = left ≡ right

abbrev pub Meets : {n : ℕ} → Point n → Constraint → Type 0
Meets p c = Relates c.kind (left_side c.terms p.x) (c.rhs *ℤ pos p.d)

-- it is met with equality
abbrev pub IsTight : {n : ℕ} → Point n → Constraint → Type 0
IsTight p c = left_side c.terms p.x ≡ (c.rhs *ℤ pos p.d)

abbrev pub MeetsAll : (a : Instance) → Point a.columns → Type 0
MeetsAll a p = All (Meets p) a.constraints

-- tight at the constraint of each choice
abbrev pub IsTightAt : (a : Instance) → Point a.columns → List Choice → Type 0
IsTightAt a p choices = All (λ c. IsTight p (chosen a c)) choices

-- in each pair at least one member is tight
abbrev pub IsComplementary : (a : Instance) → Point a.columns → Type 0
IsComplementary a p = All (λ pair. IsTight p (constraint_at a pair.0) ⊎ IsTight p (constraint_at a pair.1)) a.pairs

-- all constraints are met, and in each pair at least one member is tight
pub record IsFeasible (a : Instance) (p : Point a.columns) : Type 0 where
  pub met : MeetsAll a p
  pub complementary : IsComplementary a p

-- the cost of a point, times its denominator
abbrev pub cost_at : (a : Instance) → Point a.columns → ℤ
cost_at a p = dot a.cost p.x

-- p costs less than q
abbrev pub IsLower : (a : Instance) → Point a.columns → Point a.columns → Type 0
IsLower a p q = (cost_at a p *ℤ pos q.d) <ℤ (cost_at a q *ℤ pos p.d)

-- a direction in which every point of the system that is tight at the choices can go without end, its cost falling
pub record Recedes (a : Instance) (choices : List Choice) (r : List ℤ) : Type 0 where
  pub size : length r ≡ a.columns
  pub keeps : All (λ c. Relates c.kind (left_side c.terms r) (pos 0)) a.constraints
  pub stays : All (λ c. left_side (chosen a c).terms r ≡ pos 0) choices
  pub falls : dot a.cost r <ℤ pos 0

-- q has each number of p times k, its denominator too, so it means the same point
pub record IsMultiple {n : ℕ} (k : ℕ) (p q : Point n) : Type 0 where
  pub numbers : q.x ≡ map (λ z. pos k *ℤ z) p.x
  pub denominator : q.d ≡ k * p.d
