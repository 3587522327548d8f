-- A run of a command that reads a deck alone and says something of its case.
use Rattle.std.specs.Prelude.{ℕ, List, Option, Result, Ok, Err}
use Rattle.lpcc_case.specs.Instance.{Instance}
use Rattle.command.specs.Answers.{IsAnswer, IsWritten}
use Rattle.command.specs.Inputs.{IsReadAlone}
use Rattle.command.specs.Refusals.{status_of, text_of}
use Rattle.command.specs.declared.reading.TheConstants.{MOST_DECK_BYTES}
use Rattle.command.specs.declared.refusal.Refusal.{Refusal}
use Rattle.command.specs.declared.refusal.Refusal.TheVariants.{NoMemory, ReadFault}

-- what is read of a source with these bytes left, whose count of faults was `before` and is `now`: the case of the deck, or
-- the refusal
abbrev pub IsRightCase : Option (List ℕ) → ℕ → ℕ → Result Instance Refusal → Type 0
IsRightCase left before now read = IsAnswer (IsReadAlone MOST_DECK_BYTES) (Err ReadFault) (Err NoMemory) left before now read

-- what is written: the text of the refusal, or a text that the command may say of the case, with the status that goes with it
abbrev pub IsWrittenFor : (Instance → List ℕ → ℕ → Type 0) → Result Instance Refusal → Option (List ℕ) → Option (List ℕ) → ℕ → ℕ → ℕ → Type 0
IsWrittenFor Says (Ok a) taken_before taken_now before now status =
    (text : List ℕ) × (meant : ℕ) × Says a text meant × IsWritten taken_before taken_now before now text meant status
IsWrittenFor Says (Err refusal) taken_before taken_now before now status =
    IsWritten taken_before taken_now before now (text_of refusal) (status_of refusal) status

-- The run over a source with these bytes left and a sink that took these, with the counts of faults of both before and
-- behind it. `Says` relates a case to the texts, each with its status, that the command may write of it.
pub record IsRun (Says : Instance → List ℕ → ℕ → Type 0) (left : Option (List ℕ)) (read_before read_now : ℕ) (taken_before taken_now : Option (List ℕ)) (write_before write_now : ℕ) (status : ℕ) : Type 0 where
  pub read : Result Instance Refusal
  pub right : IsRightCase left read_before read_now read
  pub written : IsWrittenFor Says read taken_before taken_now write_before write_now status
