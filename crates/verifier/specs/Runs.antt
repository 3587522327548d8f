-- What a run of the command does: its one answer, and what `yes` says.
use Rattle.std.specs.Prelude.{ℕ, List, Option}
use Rattle.std.specs.Io.KnownBytes.{Appends}
use Rattle.lpcc_case.specs.declared.verdict.Verdict.{Verdict}
use Rattle.command.specs.Answers.{IsAnswer, IsWritten}
use Rattle.command.specs.Inputs.{IsTrueOfBytes}
use Rattle.command.specs.declared.refusal.Refusal.TheVariants.{NoMemory, ReadFault}
use Rattle.verifier.specs.declared.answer.Answer.{Answer}
use Rattle.verifier.specs.declared.answer.Answer.TheVariants.{Refused, Yes}
use Rattle.verifier.specs.Answers.{status_of, text_of}
use Rattle.verifier.specs.Causes.{IsAccepted, IsCause}

-- the answer over a source with these bytes left, whose count of faults was `before` and is `now`
abbrev pub IsRight : Option (List ℕ) → ℕ → ℕ → Answer → Type 0
IsRight left before now answer = IsAnswer IsCause (Refused ReadFault) (Refused NoMemory) left before now answer

-- The run of the command over a source with these bytes left and a sink that took these, with the counts of faults of
-- both before and behind it: one answer is right, and it is written, its text whole, or after a counted fault a front of it.
pub record IsChecked (left : Option (List ℕ)) (read_before read_now : ℕ) (taken_before taken_now : Option (List ℕ)) (write_before write_now : ℕ) (status : ℕ) : Type 0 where
  pub answer : Answer
  pub right : IsRight left read_before read_now answer
  pub written : IsWritten taken_before taken_now write_before write_now (text_of answer) (status_of answer) status

-- what status 0 says: behind a deck stands a certificate that is accepted with a verdict, the verdict is true of the deck,
-- and its text is what was written
pub record SaysYes (bytes : List ℕ) (taken_before taken_now : Option (List ℕ)) : Type 0 where
  pub verdict : Verdict
  pub accepted : IsAccepted bytes verdict
  pub is_true : IsTrueOfBytes bytes verdict
  pub written : Appends taken_before taken_now (text_of (Yes verdict))
