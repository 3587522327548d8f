-- Dictionaries: a row for each basic form, over the nonbasic forms.
use Rattle.std.specs.Prelude.{◌≡◌, ◌≢◌, ◌+◌, ◌≤◌, ◌<◌, ◌^◌, ℕ, ℤ, pos, List, [], ⊤, length, slice_index_or, slice_set}
use Rattle.lp_base.specs.Numbers.{IsNarrow, narrow_bound}
use Rattle.lp_base.specs.declared.limits.TheConstants.{MOST_COLUMNS, MOST_CONSTRAINTS}
use Rattle.lpcc_case.specs.declared.form.Form.{Form}
use Rattle.lpcc_case.specs.declared.form.Form.TheVariants.{Cost}
use Rattle.lpcc_case.specs.Points.{coefficient}
use Rattle.dict.specs.Equations.{Equation, equation, Holds, IsRow, IsReduced, number_at}
use Rattle.dict.specs.declared.fault.Wide.{Wide as Place}
use Rattle.dict.specs.declared.fault.PivotFault.{PivotFault}
use Rattle.dict.specs.declared.fault.PivotFault.TheVariants.{Wide, NoMemory}

pub record Dictionary : Type 0 where
  pub rows : List Equation
  pub basic : List Form
  pub nonbasic : List Form

abbrev pub row_at : List Equation → ℕ → Equation
row_at rows i = slice_index_or rows i (equation (pos 1) (pos 0) [])

abbrev pub form_at : List Form → ℕ → Form
form_at forms i = slice_index_or forms i Cost

abbrev pub entry_at : Dictionary → ℕ → ℕ → ℤ
entry_at d i j = coefficient (row_at d.rows i).entries j

-- each row is narrow and has no common divisor above 1
abbrev pub AreRows : ℕ → List Equation → Type 0
AreRows places rows = (i : ℕ) → i < length rows → IsRow narrow_bound places (row_at rows i) × IsReduced (row_at rows i)

-- what every dictionary of the code keeps
pub record IsDictionary (places : ℕ) (d : Dictionary) : Type 0 where
  pub few_columns : places ≤ MOST_COLUMNS
  pub few_rows : length d.rows ≤ MOST_CONSTRAINTS + 1
  pub nonbasic : length d.nonbasic ≡ places
  pub basic : length d.basic ≡ length d.rows
  pub rows : AreRows places d.rows

-- each row holds, where a form f is worth m f, and 1 is worth one
abbrev pub AllHold : (Form → ℤ) → ℤ → Dictionary → Type 0
AllHold m one d = (i : ℕ) → i < length d.rows → Holds (row_at d.rows i) (m (form_at d.basic i)) (λ j. m (form_at d.nonbasic j)) one

-- the lists of forms with the form of the row and the form of the column exchanged
abbrev pub basic_after : ℕ → ℕ → Dictionary → List Form
basic_after row col d = slice_set d.basic row (form_at d.nonbasic col)

abbrev pub nonbasic_after : ℕ → ℕ → Dictionary → List Form
nonbasic_after row col d = slice_set d.nonbasic col (form_at d.basic row)

-- the row of the same form after the exchange, reduced by itself, has a number at this place that is not narrow
pub record IsWideRow (row col : ℕ) (d : Dictionary) (i at : ℕ) : Type 0 where
  pub within : i < length d.rows
  pub other : i ≢ row
  pub made : Equation
  pub is_row : IsRow (2 ^ 127) (length d.nonbasic) made
  pub reduced : IsReduced made
  pub holds : (m : Form → ℤ) (one : ℤ) → AllHold m one d → Holds made (m (form_at d.basic i)) (λ j. m (form_at (nonbasic_after row col d) j)) one
  pub wide : IsNarrow (number_at (length d.nonbasic) made at) → ⊥

-- the place of the pivot, and that of a number that would not be narrow
pub record IsWide (row col : ℕ) (d : Dictionary) (w : Place) : Type 0 where
  pub at_row : w.row ≡ row
  pub at_col : w.col ≡ col
  pub cause : IsWideRow row col d w.at_row w.at_col

-- the cause of a fault. Want of memory has none that a clause could name
abbrev pub IsCause : ℕ → ℕ → Dictionary → PivotFault → Type 0
IsCause row col d (Wide w) = IsWide row col d w
IsCause row col d (NoMemory fault) = ⊤
