-- What calls answer for the fault of a line, which is named with its line.
use Rattle.std.specs.Prelude.{◌≡◌, Option, Some, None, Result, Ok, Err}
use Rattle.lp_base.specs.Answers.{UnlessShort}
use Rattle.decks.specs.declared.fault.DeckFault.{DeckFault}
use Rattle.decks.specs.Faults.{Found}
use Rattle.decks.specs.Texts.{found_by}

-- a call's fault is the fault of a line, unless memory is short
abbrev pub TellsAt : DeckFault → Option Found → Type 0
TellsAt fault o = UnlessShort found_by (λ found. o ≡ Some found) fault

-- where a call goes well, there is no fault
abbrev pub JudgesAt : {X : Type 0} → Result X DeckFault → Option Found → Type 0
JudgesAt (Ok x) o = o ≡ None
JudgesAt (Err fault) o = TellsAt fault o
