-- Which case and which script the bytes of an input spell, and for which refusal they are the cause before any edit is made.
use Rattle.std.specs.Prelude.{◌≤◌, ℕ, All, List, Option, Result, Ok, Err, length}
use Rattle.lpcc_case.specs.Instance.{Instance}
use Rattle.command.specs.Answers.{IsAnswer}
use Rattle.command.specs.Inputs.{IsRefusal, IsTaken, SpellsCase}
use Rattle.command.specs.declared.extent.Extent.TheVariants.{Prefix}
use Rattle.command.specs.declared.reading.TheConstants.{MOST_DECK_BYTES}
use Rattle.command.specs.declared.refusal.Refusal.TheVariants.{NoMemory, ReadFault}
use Rattle.edit_text.specs.Scripts.{IsCommand}
use Rattle.edit_text.specs.Texts.{Fails, Spells}
use Rattle.edit_text.specs.declared.script.Script as scripts
use Rattle.editing.specs.declared.refusal.EditRefusal.{EditRefusal}
use Rattle.editing.specs.declared.refusal.EditRefusal.TheVariants.{Input, Script}
use Rattle.editing.specs.declared.refusal.EditWhy.{EditWhy}
use Rattle.editing.specs.declared.refusal.EditWhy.TheVariants.{Text, NoSuch, Loosens, Limit}

-- a case to edit, and the script of the edits
abbrev pub Edits : Type 0
Edits = Instance × scripts.Script

-- the numbers of the commands keep the rules, and there are no more commands than bytes that may be read
pub record KeepsRules (script : scripts.Script) : Type 0 where
  pub rules : All IsCommand script.commands
  pub few : length script.commands ≤ MOST_DECK_BYTES

-- the bytes begin with a deck that has this case, and the bytes behind it spell this script
pub record SpellsEdits (bytes : List ℕ) (a : Instance) (script : scripts.Script) : Type 0 where
  pub rest : List ℕ
  pub deck : SpellsCase Prefix bytes a rest
  pub edits : Spells rest script

-- the text is no script, for this reason; what is wrong with an edit of a script is not judged here
abbrev pub IsNoScript : List ℕ → ℕ → EditWhy → Type 0
IsNoScript text line (Text why) = Fails text line why
IsNoScript text line NoSuch = ⊥
IsNoScript text line Loosens = ⊥
IsNoScript text line Limit = ⊥

-- the text behind a deck is the cause of the refusal
abbrev pub IsBehind : List ℕ → EditRefusal → Type 0
IsBehind text (Input refusal) = ⊥
IsBehind text (Script line why) = IsNoScript text line why

-- with a limit of bytes: there are more, or the deck is the cause, or the text behind it
abbrev pub IsEditRefusal : ℕ → List ℕ → EditRefusal → Type 0
IsEditRefusal limit bytes (Input refusal) = IsRefusal limit Prefix bytes refusal
IsEditRefusal limit bytes (Script line why) = IsTaken limit bytes × (a : Instance) × (rest : List ℕ) × SpellsCase Prefix bytes a rest × IsNoScript rest line why

-- what is read: a case and a script, or the refusal
abbrev pub IsRead : ℕ → List ℕ → Result Edits EditRefusal → Type 0
IsRead limit bytes (Ok edits) = IsTaken limit bytes × SpellsEdits bytes edits.0 edits.1
IsRead limit bytes (Err refusal) = IsEditRefusal limit bytes refusal

-- what is read of a source with these bytes left, whose count of faults was `before` and is `now`
abbrev pub AreRightEdits : Option (List ℕ) → ℕ → ℕ → Result Edits EditRefusal → Type 0
AreRightEdits left before now read = IsAnswer (IsRead MOST_DECK_BYTES) (Err (Input ReadFault)) (Err (Input NoMemory)) left before now read
