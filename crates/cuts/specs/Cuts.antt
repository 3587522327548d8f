-- The test of a cut, with its faults in their order, and the truth of a cut.
use Rattle.std.specs.Prelude.{◌≡◌, ◌≢◌, ◌<◌, ℕ, ℤ, pos, ◌*ℤ◌, ◌≤ℤ◌, ◌<ℤ◌, List, All, Any, IsTrue, Option, Some, None, Result, Ok, Err, length, slice_index_or}
use Rattle.lp_base.specs.Ascending.{ascends_by, number_of}
use Rattle.lp_base.specs.Numbers.{IsNarrow}
use Rattle.lp_base.specs.Sums.{sum_over}
use Rattle.nogoods.specs.declared.choice.Choice.{Choice}
use Rattle.lpcc_case.specs.declared.constraint.Kind.TheVariants.{Ge}
use Rattle.lpcc_case.specs.Instance.{Instance, constraint_at, chosen_number}
use Rattle.lpcc_case.specs.Pieces.{NamesPairs}
pub use Rattle.lpcc_case.specs.Pieces.{Improves}
use Rattle.lpcc_case.specs.Points as points
use Rattle.cuts.specs.declared.cut.Cut.{Cut}
use Rattle.cuts.specs.declared.cut.Cut.TheVariants.{Ray, Point}
use Rattle.cuts.specs.declared.cut.CutFault.{CutFault}
use Rattle.cuts.specs.declared.cut.CutFault.TheVariants.{Index, Sign, Sum, Bound}

abbrev pub no_good_of : Cut → List Choice
no_good_of (Ray ng mult) = ng
no_good_of (Point ng mult e v) = ng

abbrev pub multipliers_of : Cut → List (ℕ × ℤ)
multipliers_of (Ray ng mult) = mult
multipliers_of (Point ng mult e v) = mult

-- ---- weighed sums of constraints

-- the multipliers times the coefficients of column j
abbrev pub column_sum : Instance → List (ℕ × ℤ) → ℕ → ℤ
column_sum a mult j = sum_over (λ m. m.1 *ℤ points.coefficient (constraint_at a m.0).terms j) mult

-- the multipliers times the right sides
abbrev pub right_sum : Instance → List (ℕ × ℤ) → ℤ
right_sum a mult = sum_over (λ m. m.1 *ℤ (constraint_at a m.0).rhs) mult

-- ---- the four parts of the test

abbrev pub IsMultiplier : ℤ → Type 0
IsMultiplier y = IsNarrow y × (y ≢ pos 0)

-- constraints of the case in ascending order, each with a multiplier that is narrow and not zero
pub record AreMultipliers (a : Instance) (mult : List (ℕ × ℤ)) : Type 0 where
  pub ascending : IsTrue (ascends_by number_of mult)
  pub constraints_named : All (λ m. m.0 < length a.constraints) mult
  pub numbers : All (λ m. IsMultiplier m.1) mult

-- multipliers of the case, and choices that name pairs
pub record IsIndexed (a : Instance) (ng : List Choice) (mult : List (ℕ × ℤ)) : Type 0 where
  pub multipliers : AreMultipliers a mult
  pub pairs_named : NamesPairs a ng

-- a negative multiplier stands on an equation, or on the chosen side of one of the choices
abbrev pub HasSign : Instance → List Choice → ℕ × ℤ → Type 0
HasSign a ng m = m.1 <ℤ pos 0 → (constraint_at a m.0).kind ≡ Ge → Any (λ c. chosen_number a c ≡ m.0) ng

abbrev pub HasSigns : Instance → List Choice → List (ℕ × ℤ) → Type 0
HasSigns a ng mult = All (HasSign a ng) mult

-- in each column the weighed sum is 0, or e times the cost
abbrev pub HasSums : Instance → Cut → Type 0
HasSums a (Ray ng mult) = (j : ℕ) → j < a.columns → column_sum a mult j ≡ pos 0
HasSums a (Point ng mult e v) = (pos 1 ≤ℤ e) × ((j : ℕ) → j < a.columns → column_sum a mult j ≡ (e *ℤ slice_index_or a.cost j (pos 0)))

-- the weighed right side is above 0, or is v
abbrev pub HasBound : Instance → Cut → Type 0
HasBound a (Ray ng mult) = pos 0 <ℤ right_sum a mult
HasBound a (Point ng mult e v) = right_sum a mult ≡ v

pub record Passes (a : Instance) (cut : Cut) : Type 0 where
  pub indexed : IsIndexed a (no_good_of cut) (multipliers_of cut)
  pub signs : HasSigns a (no_good_of cut) (multipliers_of cut)
  pub sums : HasSums a cut
  pub bound : HasBound a cut

-- what the test answers: the first of the four parts that fails, or that all hold
abbrev pub IsJudged : {T : Type 0} → Instance → Cut → Result T CutFault → Type 0
IsJudged a cut (Ok done) = Passes a cut
IsJudged a cut (Err Index) = IsIndexed a (no_good_of cut) (multipliers_of cut) → ⊥
IsJudged a cut (Err Sign) = IsIndexed a (no_good_of cut) (multipliers_of cut) × (HasSigns a (no_good_of cut) (multipliers_of cut) → ⊥)
IsJudged a cut (Err Sum) = IsIndexed a (no_good_of cut) (multipliers_of cut) × HasSigns a (no_good_of cut) (multipliers_of cut) × (HasSums a cut → ⊥)
IsJudged a cut (Err Bound) = IsIndexed a (no_good_of cut) (multipliers_of cut) × HasSigns a (no_good_of cut) (multipliers_of cut) × HasSums a cut × (HasBound a cut → ⊥)

-- ---- what a cut says of points

-- Of the points that meet all constraints and are tight at each of the choices there is none;
-- or each of them has a value of at least v / e, where e is at least 1.
abbrev pub IsTrueCut : Instance → Cut → Type 0
IsTrueCut a (Ray ng mult) = (p : points.Point a.columns) → points.MeetsAll a p → points.IsTightAt a p ng → ⊥
IsTrueCut a (Point ng mult e v) = (pos 1 ≤ℤ e) × ((p : points.Point a.columns) → points.MeetsAll a p → points.IsTightAt a p ng → (v *ℤ pos p.d) ≤ℤ (e *ℤ points.cost_at a p))

-- a ray cut is always active; a point cut is active against a best point whose value is at most its bound v / e
abbrev pub IsActive : (a : Instance) → Cut → Option (points.Point a.columns) → Type 0
IsActive a (Ray ng mult) best = Unit {0}
IsActive a (Point ng mult e v) None = ⊥
IsActive a (Point ng mult e v) (Some p) = (e *ℤ points.cost_at a p) ≤ℤ (v *ℤ pos p.d)
