-- The texts and statuses of the refusals of a deck with a script behind it.
use Rattle.std.specs.Prelude.{ℕ, List, [], ◌∷◌, ◌++◌, codes}
use Rattle.std.specs.Fmt.{decimal}
use Rattle.command.specs.Refusals as refusals
use Rattle.command.specs.declared.refusal.Refusal.TheVariants.{NoMemory as short}
use Rattle.edit_text.specs.Names.{name_of}
use Rattle.edit_text.specs.declared.fault.ScriptFault.{ScriptFault}
use Rattle.edit_text.specs.declared.fault.ScriptFault.TheVariants.{NoMemory, At}
use Rattle.editing.specs.declared.refusal.EditRefusal.{EditRefusal}
use Rattle.editing.specs.declared.refusal.EditRefusal.TheVariants.{Input, Script}
use Rattle.editing.specs.declared.refusal.EditWhy.{EditWhy}
use Rattle.editing.specs.declared.refusal.EditWhy.TheVariants.{Text, NoSuch, Loosens, Limit}

abbrev pub why_name : EditWhy → List ℕ
why_name (Text why) = name_of why
why_name NoSuch = codes "NoSuch"
why_name Loosens = codes "Loosens"
why_name Limit = codes "Limit"

-- the one line of a refusal
abbrev pub line_of : EditRefusal → List ℕ
line_of (Input refusal) = refusals.line_of refusal
line_of (Script line why) = codes "script: line " ++ decimal line ++ codes ": " ++ why_name why

abbrev pub text_of : EditRefusal → List ℕ
text_of refusal = line_of refusal ++ 10 ∷ []

abbrev pub status_of : EditRefusal → ℕ
status_of (Input refusal) = refusals.status_of refusal
status_of (Script line why) = 3

-- the refusals that go with the faults of a script
abbrev pub of_script_fault : ScriptFault → EditRefusal
of_script_fault (NoMemory error) = Input short
of_script_fault (At line why) = Script line (Text why)
