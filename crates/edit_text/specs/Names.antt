-- How faults are named in what programs print.
use Rattle.std.specs.Prelude.{ℕ, List, codes}
use Rattle.edit_text.specs.declared.fault.ScriptWhy.{ScriptWhy}
use Rattle.edit_text.specs.declared.fault.ScriptWhy.TheVariants.{BadEdit, NotEnded, AfterEnd}

abbrev pub name_of : ScriptWhy → List ℕ
name_of BadEdit = codes "BadEdit"
name_of NotEnded = codes "NotEnded"
name_of AfterEnd = codes "AfterEnd"
