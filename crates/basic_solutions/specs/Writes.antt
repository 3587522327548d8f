-- What single writes make of tables and lists.
use Rattle.std.specs.Prelude.{ℕ, List, slice_set}
use Rattle.lp_nums.specs.Fractions.{Fraction}
use Rattle.lpcc_case.specs.declared.form.Form.{Form}
use Rattle.lpcc_case.specs.declared.form.Form.TheVariants.{Col, Con, Cost}

-- the table with the place of this form, where it is a constraint
abbrev pub with_place : List ℕ → Form → ℕ → List ℕ
with_place places (Col j) place = places
with_place places (Con k) place = slice_set places k place
with_place places Cost place = places

-- the fractions of columns with that of this form, where it is a column
abbrev pub with_fraction : List Fraction → Form → Fraction → List Fraction
with_fraction values (Col c) f = slice_set values c f
with_fraction values (Con k) f = values
with_fraction values Cost f = values
