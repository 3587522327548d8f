-- Forms in texts: columns and constraints are counted from 1.
use Rattle.std.specs.Prelude.{◌+◌, ℕ, List, ◌++◌, map, codes}
use Rattle.std.specs.Fmt.{decimal}
use Rattle.std.specs.List.{join_with_byte}
use Rattle.lpcc_case.specs.declared.form.Form.{Form}
use Rattle.lpcc_case.specs.declared.form.Form.TheVariants.{Col, Con, Cost}

abbrev pub form_word : Form → List ℕ
form_word (Col j) = codes "x" ++ decimal (j + 1)
form_word (Con k) = codes "c" ++ decimal (k + 1)
form_word Cost = codes "cost"

-- one space between forms
abbrev pub forms_text : List Form → List ℕ
forms_text forms = join_with_byte 32 (map form_word forms)
