-- The forms of a case as affine functions of its columns, the start, and the dictionary at a list of forms.
use Rattle.std.specs.Prelude.{◌≡◌, ◌<◌, ℕ, ℤ, pos, ◌-ℤ◌, ◌*ℤ◌, neg_ℤ, List, [], ◌∷◌, ◌++◌, length, map, filter, nat_lt, unsigned_abs, IsPermutation}
use Rattle.std.specs.List.{AllByRecursion, enumerate_from, range_with_len}
use Rattle.lp_base.specs.Numbers.{IsNarrow}
use Rattle.lpcc_case.specs.declared.constraint.Constraint.{Constraint}
use Rattle.lpcc_case.specs.declared.form.Form.{Form}
use Rattle.lpcc_case.specs.declared.form.Form.TheVariants.{Col, Con, Cost}
use Rattle.lpcc_case.specs.Instance.{Instance, constraint_at}
use Rattle.lpcc_case.specs.Points.{coefficient}
use Rattle.dict.specs.Terms.{weigh}
use Rattle.dict.specs.Equations.{Equation, equation, Holds, IsRow, Divides, number_at}
use Rattle.dict.specs.Dictionaries.{Dictionary, row_at, form_at, entry_at, AllHold, basic_after, nonbasic_after}

-- an affine function of the columns: what it is worth where column j is worth x j, and 1 is worth one
abbrev pub Affine : Type 0
Affine = (ℕ → ℤ) → ℤ → ℤ

-- a column's value, a constraint's left side minus its right side, or the cost
abbrev pub affine_of : Instance → Form → Affine
affine_of a (Col j) x one = x j
affine_of a (Con k) x one = weigh (constraint_at a k).terms x -ℤ ((constraint_at a k).rhs *ℤ one)
affine_of a Cost x one = weigh (enumerate_from 0 a.cost) x

abbrev pub affine_at : Instance → List Form → ℕ → Affine
affine_at a forms j = affine_of a (form_at forms j)

-- the linear parts of the first n of the functions are independent: a combination of them that is 0 everywhere has no coefficient
abbrev pub AreIndependent : ℕ → (ℕ → Affine) → Type 0
AreIndependent n g = (c : List (ℕ × ℤ)) → AllByRecursion (λ t. t.0 < n) c → ((x : ℕ → ℤ) → weigh c (λ j. g j x (pos 0)) ≡ pos 0) → (j : ℕ) → coefficient c j ≡ pos 0

-- the row is that of f over the functions g, as an identity in all columns
abbrev pub IsRowOf : Equation → Affine → (ℕ → Affine) → Type 0
IsRowOf q f g = (x : ℕ → ℤ) (one : ℤ) → Holds q (f x one) (λ j. g j x one) one

-- all forms of a case, in their order
abbrev pub forms_of : Instance → List Form
forms_of a = map Col (range_with_len 0 a.columns) ++ (map Con (range_with_len 0 (length a.constraints)) ++ Cost ∷ [])

-- each form has one place, each row is an identity in all columns, and the nonbasic forms are independent
pub record IsDictionaryOf (a : Instance) (d : Dictionary) : Type 0 where
  pub forms : IsPermutation (forms_of a) (d.nonbasic ++ d.basic)
  pub identities : (x : ℕ → ℤ) (one : ℤ) → AllHold (λ f. affine_of a f x one) one d
  pub independent : AreIndependent (length d.nonbasic) (affine_at a d.nonbasic)

-- the dictionary at its list of nonbasic forms: all rows over one denominator, and no common divisor of all numbers above 1
pub record IsDictionaryAt (a : Instance) (d : Dictionary) : Type 0 where
  pub of : IsDictionaryOf a d
  pub size : length d.basic ≡ length d.rows
  pub bound : ℕ
  pub rows : (i : ℕ) → i < length d.rows → IsRow bound (length d.nonbasic) (row_at d.rows i)
  pub den : ℤ
  pub one_den : (i : ℕ) → i < length d.rows → (row_at d.rows i).den ≡ den
  pub reduced : (n : ℕ) → ((i : ℕ) → i < length d.rows → Divides n (row_at d.rows i)) → n ≡ 1

-- the dictionary over the same forms with these rows
abbrev pub with_rows : List Equation → Dictionary → Dictionary
with_rows rows d = record { rows = rows; basic = d.basic; nonbasic = d.nonbasic }

-- the forms after an exchange; the rows are as before
abbrev pub after_exchange : ℕ → ℕ → Dictionary → Dictionary
after_exchange row col d = record { rows = d.rows; basic = basic_after row col d; nonbasic = nonbasic_after row col d }

-- what stands at place j of the one list stands at place to j of the other
pub record IsRenumbering (to : ℕ → ℕ) (xs ys : List Form) : Type 0 where
  pub within : (j : ℕ) → j < length xs → to j < length ys
  pub same : (j : ℕ) → j < length xs → form_at ys (to j) ≡ form_at xs j

-- the one has the numbers of the other, at the places of the same forms
pub record IsRenumbered (places rows : ℕ → ℕ) (d t : Dictionary) : Type 0 where
  pub den : (k : ℕ) → k < length t.rows → (row_at t.rows k).den ≡ (row_at d.rows (rows k)).den
  pub constant : (k : ℕ) → k < length t.rows → (row_at t.rows k).constant ≡ (row_at d.rows (rows k)).constant
  pub entry : (k j : ℕ) → k < length t.rows → j < length t.nonbasic → entry_at t k j ≡ entry_at d (rows k) (places j)

-- one of its numbers is not narrow
pub record IsWideDictionary (d : Dictionary) : Type 0 where
  pub row : ℕ
  pub at : ℕ
  pub within : row < length d.rows
  pub wide : IsNarrow (number_at (length d.nonbasic) (row_at d.rows row) at) → ⊥

-- the terms whose number is not zero
abbrev pub nonzero : List (ℕ × ℤ) → List (ℕ × ℤ)
nonzero ts = filter (λ t. nat_lt 0 (unsigned_abs t.1)) ts

abbrev pub constraint_row : Constraint → Equation
constraint_row c = equation (pos 1) (neg_ℤ c.rhs) c.terms

abbrev pub cost_row : Instance → Equation
cost_row a = equation (pos 1) (pos 0) (nonzero (enumerate_from 0 a.cost))

-- constraint i in row i, the cost in the last row, column j at place j
abbrev pub start_of : Instance → Dictionary
start_of a = record {
  rows = map constraint_row a.constraints ++ cost_row a ∷ [];
  basic = map Con (range_with_len 0 (length a.constraints)) ++ Cost ∷ [];
  nonbasic = map Col (range_with_len 0 a.columns);
}
