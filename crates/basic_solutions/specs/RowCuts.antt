-- The cuts that rows of a dictionary give.
use Rattle.std.specs.Prelude.{◌≡◌, ◌∷◌, ℕ, ℤ, ◌*ℤ◌, Bool, List, map}
use Rattle.nogoods.specs.declared.choice.Choice.{Choice}
use Rattle.lpcc_case.specs.Instance.{Instance}
use Rattle.lpcc_case.specs.declared.point.Point.{Point}
use Rattle.cuts.specs.declared.cut.Cut.{Cut}
use Rattle.cuts.specs.declared.cut.Cut.TheVariants as cut_of
use Rattle.cuts.specs.Cuts.{Passes}
use Rattle.dict.specs.Dictionaries.{Dictionary, row_at, form_at}
use Rattle.walks.specs.Divisors.{AreCoprime}
use Rattle.walks.specs.Duals.{AreMultipliersOf, blamed}

abbrev pub weights : List (ℕ × ℤ) → List ℤ
weights mult = map (λ m. m.1) mult

-- a ray cut that passes, in lowest terms, whose choices are those that its multipliers need
pub record IsRayCutOf (a : Instance) (tight : List Choice) (cut : Cut) : Type 0 where
  pub mult : List (ℕ × ℤ)
  pub cut_is : cut ≡ cut_of.Ray (blamed a mult tight) mult
  pub passes : Passes a cut
  pub lowest : AreCoprime (weights mult)

-- a point cut that passes, in lowest terms, whose choices are those that its multipliers need, and whose bound is the value of the point
pub record IsPointCutOf (a : Instance) (tight : List Choice) (q : Point) (cut : Cut) : Type 0 where
  pub mult : List (ℕ × ℤ)
  pub e : ℤ
  pub v : ℤ
  pub cut_is : cut ≡ cut_of.Point (blamed a mult tight) mult e v
  pub passes : Passes a cut
  pub lowest : AreCoprime (e ∷ weights mult)
  pub bound : (e *ℤ q.z) ≡ (v *ℤ q.d)

-- the cut has the multipliers of a row, with a sign, and the choices that they need
pub record IsCutOfRow (a : Instance) (tight : List Choice) (d : Dictionary) (row : ℕ) (sign : Bool) (ng : List Choice) (mult : List (ℕ × ℤ)) : Type 0 where
  pub of : AreMultipliersOf a sign (row_at d.rows row) d.nonbasic (form_at d.basic row) mult
  pub needed : ng ≡ blamed a mult tight
