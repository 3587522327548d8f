-- What a run of the command does.
use Rattle.std.specs.Prelude.{ℕ, List, Option, Result, Ok, Err}
use Rattle.std.specs.Io.KnownBytes.{Appends}
use Rattle.cert2_text.specs.declared.cert2.AnyCert.{AnyCert}
use Rattle.cert2_text.specs.Spelling2.{spelling2}
use Rattle.cert2_text.specs.Texts2.{SpellsAny}
use Rattle.command.specs.Answers.{IsAnswer, IsWritten}
use Rattle.converting.specs.declared.refusal.Refusal.{Refusal}
use Rattle.converting.specs.declared.refusal.Refusal.TheVariants.{ReadFault, NoMemory}
use Rattle.converting.specs.Readings.{IsRead, in_form_2}
use Rattle.converting.specs.Refusals as refusals

-- what is read of a source with these bytes left, whose count of faults was `before` and is `now`
abbrev pub IsRight : Option (List ℕ) → ℕ → ℕ → Result AnyCert Refusal → Type 0
IsRight left before now read = IsAnswer IsRead (Err ReadFault) (Err NoMemory) left before now read

-- the text of the certificate in form 2 without comments, or of the refusal
abbrev pub text_of : Result AnyCert Refusal → List ℕ
text_of (Ok cert) = spelling2 (in_form_2 cert)
text_of (Err refusal) = refusals.text_of refusal

abbrev pub status_of : Result AnyCert Refusal → ℕ
status_of (Ok cert) = 0
status_of (Err refusal) = refusals.status_of refusal

-- The run of the command over a source with these bytes left and a sink that took these, with the counts of faults of
-- both before and behind it: what is read is right, and its text is written, whole, or after a counted fault a front of it.
pub record IsConverted (left : Option (List ℕ)) (read_before read_now : ℕ) (taken_before taken_now : Option (List ℕ)) (write_before write_now : ℕ) (status : ℕ) : Type 0 where
  pub read : Result AnyCert Refusal
  pub right : IsRight left read_before read_now read
  pub written : IsWritten taken_before taken_now write_before write_now (text_of read) (status_of read) status

-- what status 0 says: the bytes spell a certificate, and its text in form 2 is what was written
pub record SaysConverted (bytes : List ℕ) (taken_before taken_now : Option (List ℕ)) : Type 0 where
  pub cert : AnyCert
  pub spelled : SpellsAny bytes cert
  pub written : Appends taken_before taken_now (spelling2 (in_form_2 cert))
