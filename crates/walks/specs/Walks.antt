-- The walk of an instance and a list of tight choices, and its ends without an answer.
use Rattle.std.specs.Prelude.{◌≡◌, ◌<◌, ◌≤◌, ℕ, suc, pos, true, false, List, [], ◌∷◌, length, ◌⊎◌, IsPermutation}
use Rattle.nogoods.specs.declared.choice.Choice.{Choice}
use Rattle.lpcc_case.specs.declared.form.Form.{Form}
use Rattle.lpcc_case.specs.declared.form.Form.TheVariants.{Con}
use Rattle.lpcc_case.specs.Instance.{Instance}
use Rattle.dict.specs.Equations.{Equation}
use Rattle.dict.specs.Dictionaries.{Dictionary, row_at, form_at, nonbasic_after}
use Rattle.dict.specs.Forms.{IsDictionaryAt, IsWideDictionary, after_exchange, start_of, with_rows}
use Rattle.orders.specs.Order.{IsBelow}
use Rattle.walks.specs.Values.{is_fixed, parts, value}
use Rattle.walks.specs.Duals.{IsPlaced, NoneFree}
use Rattle.walks.specs.Bases.{AreAbove, ArePassed}
use Rattle.walks.specs.Steps.{IsExchanged, IsFixing, IsPivot, IsSized, goal}

-- where a walk stands: how many constraints were looked at for a fixed one, the stage, the pivots made in it, all exchanges and pivots made, and the dictionary
pub record Place : Type 0 where
  pub looked : ℕ
  pub stage : ℕ
  pub pivots : ℕ
  pub steps : ℕ
  pub at : Dictionary

abbrev pub place : ℕ → ℕ → ℕ → ℕ → Dictionary → Place
place looked stage pivots steps at = record { looked = looked; stage = stage; pivots = pivots; steps = steps; at = at }

-- constraint k is not fixed, or all that may change has no entry in its row and its constant is 0
abbrev pub IsSkipped : Instance → List Choice → ℕ → Dictionary → Type 0
IsSkipped a tight k d = (is_fixed a tight k ≡ false) ⊎ ((row : ℕ) × (row < length d.rows) × (form_at d.basic row ≡ Con k) × NoneFree a tight d row × ((row_at d.rows row).constant ≡ pos 0))

-- the stage of constraint k is at its end: it is fixed, or nonbasic, or its value is not below 0
abbrev pub IsRaised : Instance → List Choice → ℕ → Dictionary → Type 0
IsRaised a tight k d =
    (is_fixed a tight k ≡ true)
    ⊎ (((j : ℕ) × (j < length d.nonbasic) × (form_at d.nonbasic j ≡ Con k))
    ⊎ ((row : ℕ) × (row < length d.rows) × (form_at d.basic row ≡ Con k) × (IsBelow (parts a) (value a tight d row) → ⊥)))

-- at this place the next exchange or pivot is at this row and column
abbrev pub IsStep : Instance → List Choice → Place → ℕ → ℕ → Type 0
IsStep a tight p row col =
    ((p.looked < length a.constraints) × IsFixing a tight p.looked p.at row col)
    ⊎ ((p.looked ≡ length a.constraints) × (p.stage ≤ length a.constraints) × IsPivot a tight p.stage p.at row col)

-- the walk goes from p to q
abbrev pub Leads : Instance → List Choice → Place → Place → Type 0
Leads a tight p q =
    ((p.looked < length a.constraints) × IsSkipped a tight p.looked p.at × (q ≡ place (suc p.looked) p.stage p.pivots p.steps p.at))
    ⊎ (((p.looked < length a.constraints) × (row : ℕ) × (col : ℕ) × (e : Dictionary) × IsFixing a tight p.looked p.at row col × IsExchanged a row col p.at e × (q ≡ place (suc p.looked) p.stage p.pivots (suc p.steps) e))
    ⊎ (((p.looked ≡ length a.constraints) × (p.stage < length a.constraints) × IsRaised a tight p.stage p.at × (q ≡ place p.looked (suc p.stage) 0 p.steps p.at))
    ⊎ ((p.looked ≡ length a.constraints) × (p.stage ≤ length a.constraints) × (row : ℕ) × (col : ℕ) × (e : Dictionary) × IsPivot a tight p.stage p.at row col × IsExchanged a row col p.at e × (q ≡ place p.looked p.stage (suc p.pivots) (suc p.steps) e))))

-- p is reached from the start over these places, the newest first
abbrev pub IsPath : Instance → List Choice → Place → List Place → Type 0
IsPath a tight p [] = p ≡ place 0 0 0 0 (start_of a)
IsPath a tight p (q ∷ before) = Leads a tight q p × IsPath a tight q before

abbrev pub IsOnWalk : Instance → List Choice → Place → Type 0
IsOnWalk a tight p = (before : List Place) × IsPath a tight p before

-- after so many steps the next one leads to a wide dictionary with these nonbasic forms
pub record IsWideEnd (a : Instance) (tight : List Choice) (made : ℕ) (reached : List Form) : Type 0 where
  pub at : Place
  pub on : IsOnWalk a tight at
  pub row : ℕ
  pub col : ℕ
  pub step : IsStep a tight at row col
  pub wide : (rows : List Equation) → IsDictionaryAt a (with_rows rows (after_exchange row col at.at)) → IsWideDictionary (with_rows rows (after_exchange row col at.at))
  pub steps : at.steps ≡ made
  pub forms : IsPermutation (nonbasic_after row col at.at) reached

-- in this stage so many pivots were made, and another may follow
pub record IsSpentEnd (a : Instance) (tight : List Choice) (goal_form : Form) (budget : ℕ) : Type 0 where
  pub at : Place
  pub on : IsOnWalk a tight at
  pub looked : at.looked ≡ length a.constraints
  pub stages : at.stage ≤ length a.constraints
  pub row : ℕ
  pub col : ℕ
  pub another : IsPivot a tight at.stage at.at row col
  pub pivots : at.pivots ≡ budget
  pub stage : goal a at.stage ≡ goal_form

-- what holds wherever a walk comes to
pub record IsSound (a : Instance) (tight : List Choice) (p : Place) : Type 0 where
  pub sized : IsSized a p.at
  pub placed : IsPlaced a p.at
  pub columns : length p.at.nonbasic ≡ a.columns
  pub passed : ArePassed a tight p.looked p.at
  pub above : AreAbove a tight p.stage p.at
