-- The multipliers that a row gives, and the choices that they need.
use Rattle.std.specs.Prelude.{◌≡◌, ◌≢◌, ◌<◌, ◌^◌, ◌+◌, ℕ, ℤ, pos, ◌<ℤ◌, Bool, true, false, not, ◌&&◌, int_lt, if◌then◌else◌, List, [], ◌∷◌, length, IsTrue}
use Rattle.nogoods.specs.declared.choice.Choice.{Choice}
use Rattle.lpcc_case.specs.declared.form.Form.{Form}
use Rattle.lpcc_case.specs.declared.form.Form.TheVariants.{Col, Con, Cost}
use Rattle.lpcc_case.specs.Instance.{Instance, chosen_number}
use Rattle.lpcc_case.specs.Points.{coefficient}
use Rattle.dict.specs.Terms.{AreTerms}
use Rattle.dict.specs.Equations.{Equation}
use Rattle.dict.specs.Dictionaries.{Dictionary, form_at, entry_at}
use Rattle.dict.specs.Exchanges.{turn}
use Rattle.walks.specs.Values.{is_fixed, is_chosen, share}

-- the shares of a row, with a sign, as a list of multipliers
pub record AreMultipliersOf (a : Instance) (sign : Bool) (q : Equation) (forms : List Form) (f : Form) (mult : List (ℕ × ℤ)) : Type 0 where
  pub terms : AreTerms (2 ^ 63) 0 (length a.constraints) mult
  pub numbers : (k : ℕ) → k < length a.constraints → coefficient mult k ≡ turn sign (share q forms f k)

-- the choices whose constraint has a negative multiplier, of those that name one constraint the first; earlier are the choices before them
abbrev pub blamed_after : Instance → List (ℕ × ℤ) → List Choice → List Choice → List Choice
blamed_after a mult earlier [] = []
blamed_after a mult earlier (c ∷ cs) =
    if int_lt (coefficient mult (chosen_number a c)) (pos 0) && not (is_chosen a earlier (chosen_number a c))
    then c ∷ blamed_after a mult (c ∷ earlier) cs
    else blamed_after a mult (c ∷ earlier) cs

abbrev pub blamed : Instance → List (ℕ × ℤ) → List Choice → List Choice
blamed a mult tight = blamed_after a mult [] tight

-- a change of this nonbasic form, where the row has this number at it, helps: it raises the row, or lowers it where falls is true
abbrev pub Helps : Instance → List Choice → Bool → Form → ℤ → Type 0
Helps a tight falls (Col j) z = z ≢ pos 0
Helps a tight falls (Con k) z = IsTrue (not (is_fixed a tight k)) × (pos 0 <ℤ turn falls z)
Helps a tight falls Cost z = ⊥

-- no form can enter for this row
abbrev pub NoneHelps : Instance → List Choice → Bool → Dictionary → ℕ → Type 0
NoneHelps a tight falls d i = (j : ℕ) → j < length d.nonbasic → Helps a tight falls (form_at d.nonbasic j) (entry_at d i j) → ⊥

-- a form that may change: a column, or a constraint that is not fixed
abbrev pub is_free : Instance → List Choice → Form → Bool
is_free a tight (Col j) = true
is_free a tight (Con k) = not (is_fixed a tight k)
is_free a tight Cost = false

-- no form that may change has an entry in the row
abbrev pub NoneFree : Instance → List Choice → Dictionary → ℕ → Type 0
NoneFree a tight d i = (j : ℕ) → j < length d.nonbasic → is_free a tight (form_at d.nonbasic j) ≡ true → entry_at d i j ≡ pos 0

-- a column or a constraint of the instance
abbrev pub IsNamed : Instance → Form → Type 0
IsNamed a (Col j) = j < a.columns
IsNamed a (Con k) = k < length a.constraints
IsNamed a Cost = ⊥

-- the cost stands in the last row, and each other form is a column or a constraint
pub record IsPlaced (a : Instance) (d : Dictionary) : Type 0 where
  pub size : length d.rows ≡ length a.constraints + 1
  pub cost : form_at d.basic (length a.constraints) ≡ Cost
  pub basic : (i : ℕ) → i < length a.constraints → IsNamed a (form_at d.basic i)
  pub nonbasic : (j : ℕ) → j < length d.nonbasic → IsNamed a (form_at d.nonbasic j)
