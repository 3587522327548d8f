-- Which script a text spells, and which fault is its first.
use Rattle.std.specs.Prelude.{◌≡◌, ◌≢◌, ◌+◌, ℕ, List, [], ◌∷◌, ◌++◌, All, length, Option, Some, None, codes}
use Rattle.lp_base.specs.Answers.{UnlessShort}
use Rattle.cert_text.specs.Spelling.{line_bytes}
use Rattle.cert_text.specs.Splits.{split}
use Rattle.edit_text.specs.declared.fault.ScriptFault.{ScriptFault}
use Rattle.edit_text.specs.declared.fault.ScriptFault.TheVariants.{NoMemory, At}
use Rattle.edit_text.specs.declared.fault.ScriptWhy.{ScriptWhy}
use Rattle.edit_text.specs.declared.fault.ScriptWhy.TheVariants.{BadEdit, NotEnded, AfterEnd}
use Rattle.edit_text.specs.declared.script.Command.{Command}
use Rattle.edit_text.specs.declared.script.Script.{Script}
use Rattle.edit_text.specs.Scripts.{IsCommand}
use Rattle.edit_text.specs.Spelling.{command_words, spelling}

-- the text is the spelling of the script, and the script's numbers keep the rules
pub record Spells (text : List ℕ) (script : Script) : Type 0 where
  pub rules : All IsCommand script.commands
  pub text_is : text ≡ spelling script.commands

-- ---- faults

-- the line spells a command
pub record IsCommandLine (line : List ℕ) : Type 0 where
  pub command : Command
  pub rules : IsCommand command
  pub line_is : line ≡ line_bytes (command_words command)

abbrev pub end_line : List ℕ
end_line = codes "end"

-- A text has parts between its LFs. Each part but the last is a line; the last stands behind the last LF, where a text that
-- is whole has no bytes.

-- behind commands stands a line that is none, and is not the last line of a script
pub record HasBadEdit (parts : List (List ℕ)) (number : ℕ) : Type 0 where
  pub front : List (List ℕ)
  pub line : List ℕ
  pub next : List ℕ
  pub rest : List (List ℕ)
  pub parts_are : parts ≡ front ++ line ∷ next ∷ rest
  pub commands : All IsCommandLine front
  pub no_command : IsCommandLine line → ⊥
  pub no_end : line ≢ end_line
  pub number_is : number ≡ length front + 1

-- each line is a command
pub record HasNoEnd (parts : List (List ℕ)) (number : ℕ) : Type 0 where
  pub front : List (List ℕ)
  pub tail : List ℕ
  pub parts_are : parts ≡ front ++ tail ∷ []
  pub commands : All IsCommandLine front
  pub number_is : number ≡ length front + 1

-- behind commands and the last line of a script stands another line, or bytes that no LF ends
pub record HasMore (parts : List (List ℕ)) (number : ℕ) : Type 0 where
  pub front : List (List ℕ)
  pub rest : List (List ℕ)
  pub parts_are : parts ≡ front ++ end_line ∷ rest
  pub commands : All IsCommandLine front
  pub is_line : rest ≢ []
  pub more : rest ≢ [] ∷ []
  pub number_is : number ≡ length front + 2

abbrev pub FailsIn : List (List ℕ) → ℕ → ScriptWhy → Type 0
FailsIn parts number BadEdit = HasBadEdit parts number
FailsIn parts number NotEnded = HasNoEnd parts number
FailsIn parts number AfterEnd = HasMore parts number

-- the first fault of a text, with its line, from 1
abbrev pub Fails : List ℕ → ℕ → ScriptWhy → Type 0
Fails text number why = FailsIn (split 10 text) number why

-- the line and the fault that a call names, none where memory is short
abbrev pub found_by : ScriptFault → Option (ℕ × ScriptWhy)
found_by (NoMemory e) = None
found_by (At line why) = Some (line, why)

-- the fault that a call names is the text's first, unless memory is short
abbrev pub FailsAs : ScriptFault → List ℕ → Type 0
FailsAs fault text = UnlessShort found_by (λ found. Fails text found.0 found.1) fault
