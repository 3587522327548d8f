-- The forms by their numbers.
use Rattle.std.specs.Prelude.{ℕ, ◌-◌, nat_lt, if◌then◌else◌}
use Rattle.lpcc_case.specs.declared.form.Form.{Form}
use Rattle.lpcc_case.specs.declared.form.Form.TheVariants.{Col, Con}
use Rattle.lpcc_case.specs.Instance.{Instance}

-- the column or the constraint of this number
abbrev pub form_of : Instance → ℕ → Form
form_of a x = if nat_lt x a.columns then Col x else Con (x - a.columns)
