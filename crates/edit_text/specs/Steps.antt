-- Reading a script line by line: its commands, or the first fault with its line.
use Rattle.std.specs.Prelude.{◌≡◌, ◌<◌, ◌+◌, ℕ, nat_lt, if◌then◌else◌, List, [], ◌∷◌, length, Result, Ok, Err, bytes_eq}
use Rattle.lp_base.specs.Answers.{UnlessShort}
use Rattle.cert_text.specs.declared.words.Fault.{Fault}
use Rattle.cert_text.specs.declared.words.Fault.TheVariants.{Memory, Of}
use Rattle.cert_text.specs.Splits.{split}
use Rattle.edit_text.specs.declared.fault.ScriptFault.{ScriptFault}
use Rattle.edit_text.specs.declared.fault.ScriptFault.TheVariants.{NoMemory, At}
use Rattle.edit_text.specs.declared.fault.ScriptWhy.{ScriptWhy}
use Rattle.edit_text.specs.declared.fault.ScriptWhy.TheVariants.{BadEdit, NotEnded, AfterEnd}
use Rattle.edit_text.specs.declared.script.Command.{Command}
use Rattle.edit_text.specs.Reading.{◌>>=◌, Reading, command_in}
use Rattle.edit_text.specs.Texts.{end_line, found_by}

-- a value, or the number of a line with its fault
abbrev pub Found : Type 0 → Type 0
Found X = Result X (ℕ × ScriptWhy)

abbrev pub Finds : {X Y : Type 0} → (X → Y) → Result X ScriptFault → Found Y → Type 0
Finds view (Ok x) found = found ≡ Ok (view x)
Finds view (Err fault) found = UnlessShort found_by (λ why. found ≡ Err why) fault

-- the first line of a text, and what stands behind its LF
abbrev pub IsFirst : List ℕ → List ℕ → List ℕ → Type 0
IsFirst text line rest = (split 10 text ≡ line ∷ split 10 rest) × (length rest < length text)

-- what was read of a line, with the line's number
abbrev pub at : {X : Type 0} → ℕ → Reading X → Found X
at number (Ok x) = Ok x
at number (Err why) = Err (number, BadEdit)

abbrev pub placed_fault : ℕ → Fault → ScriptFault
placed_fault number (Memory e) = NoMemory e
placed_fault number (Of why) = At number BadEdit

abbrev pub placed : {X : Type 0} → ℕ → Result X Fault → Result X ScriptFault
placed number (Ok x) = Ok x
placed number (Err fault) = Err (placed_fault number fault)

-- the parts behind the last line are one without bytes; else more stands there, on the line of this number
abbrev pub over_at : ℕ → List (List ℕ) → Found (List Command)
over_at number [] = Ok []
over_at number (tail ∷ []) = if nat_lt 0 (length tail) then Err (number, AfterEnd) else Ok []
over_at number (line ∷ next ∷ parts) = Err (number, AfterEnd)

-- the commands of these parts, which stand behind n lines
unfoldable pub commands_from : ℕ → List (List ℕ) → Found (List Command)
commands_from n [] = Err (n + 1, NotEnded)
commands_from n (tail ∷ []) = Err (n + 1, NotEnded)
commands_from n (line ∷ next ∷ parts) =
    if bytes_eq line end_line then over_at (n + 2) (next ∷ parts)
    else (at (n + 1) (command_in line) >>= λ x. commands_from (n + 1) (next ∷ parts) >>= λ xs. Ok (x ∷ xs))

unfoldable pub script_in : List ℕ → Found (List Command)
script_in text = commands_from 0 (split 10 text)
