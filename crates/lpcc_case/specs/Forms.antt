-- The forms of a case and their order: columns, then constraints, both by number, then the cost.
use Rattle.std.specs.Prelude.{◌<◌, ◌+◌, ℕ, Bool, true, false, nat_lt, length}
use Rattle.lpcc_case.specs.declared.form.Form.{Form}
use Rattle.lpcc_case.specs.declared.form.Form.TheVariants.{Col, Con, Cost}
use Rattle.lpcc_case.specs.Instance.{Instance}

-- the form is one of the instance
abbrev pub IsFormOf : Instance → Form → Type 0
IsFormOf a (Col j) = j < a.columns
IsFormOf a (Con k) = k < length a.constraints
IsFormOf a Cost = Unit {0}

abbrev pub precedes : Form → Form → Bool
precedes (Col i) (Col j) = nat_lt i j
precedes (Col i) (Con k) = true
precedes (Col i) Cost = true
precedes (Con k) (Col j) = false
precedes (Con k) (Con l) = nat_lt k l
precedes (Con k) Cost = true
precedes Cost form = false

-- the number of a form of the instance in that order, counted from 0
abbrev pub number : Instance → Form → ℕ
number a (Col j) = j
number a (Con k) = a.columns + k
number a Cost = a.columns + length a.constraints
