-- A run of the command that edits a case by a script.
use Rattle.std.specs.Prelude.{◌≡◌, ◌≤◌, ◌+◌, ◌^◌, ℕ, List, [], Option, Result, Ok, Err, length}
use Rattle.std.specs.Io.KnownBytes.{Appends}
use Rattle.lpcc_case.specs.Instance.{Instance}
use Rattle.orders.specs.Counts.{choose}
use Rattle.play.specs.declared.event.Options.{Options}
use Rattle.command.specs.Answers.{IsWritten}
use Rattle.edit_session.specs.Answers.{SessionView}
use Rattle.edit_text.specs.declared.script.Script as scripts
use Rattle.editing.specs.Inputs.{AreRightEdits, Edits, SpellsEdits}
use Rattle.editing.specs.Refusals as refusals
use Rattle.editing.specs.declared.refusal.EditRefusal.{EditRefusal}
use Rattle.edit_solving.specs.Scripts.{AreVerdicts, Said, Says}

abbrev pub text_of : Said → List ℕ
text_of (Ok said) = said.0
text_of (Err refusal) = refusals.text_of refusal

abbrev pub status_of : Said → ℕ
status_of (Ok said) = said.1
status_of (Err refusal) = refusals.status_of refusal

-- a session over the case, without kept cuts
abbrev pub opened : Instance → Options → SessionView
opened a o = record { kept = record { case_of = a; cuts = [] }; options = o }

-- what is said of what was read: what the script says over its case, or the refusal
abbrev pub IsSaid : Options → Result Edits EditRefusal → Said → Type 0
IsSaid o (Ok edits) said = Says (opened edits.0 o) 1 edits.1.commands said
IsSaid o (Err refusal) said = said ≡ Err refusal

-- The run over a source with these bytes left and a sink that took these, with the counts of faults of both before and
-- behind it.
pub record IsEditRun (o : Options) (left : Option (List ℕ)) (read_before read_now : ℕ) (taken_before taken_now : Option (List ℕ)) (write_before write_now : ℕ) (status : ℕ) : Type 0 where
  pub read : Result Edits EditRefusal
  pub right : AreRightEdits left read_before read_now read
  pub said : Said
  pub says : IsSaid o read said
  pub written : IsWritten taken_before taken_now write_before write_now (text_of said) (status_of said) status

-- What status 0 says: the bytes spell a deck with a script behind it, and what was written has the verdicts of its answers,
-- each true of the case as the edits before have made it.
pub record SaysVerdicts (bytes : List ℕ) (taken_before taken_now : Option (List ℕ)) : Type 0 where
  pub a : Instance
  pub script : scripts.Script
  pub spelled : SpellsEdits bytes a script
  pub text : List ℕ
  pub verdicts : AreVerdicts a script.commands text
  pub written : Appends taken_before taken_now text

-- as many draws as there are pieces, and as many pivots as there are choices of the columns among columns and constraints,
-- with a constraint more for each command
abbrev pub AreEnough : Instance → scripts.Script → Options → Type 0
AreEnough a script o = (2 ^ length a.pairs ≤ o.pieces) × (choose (a.columns + (length a.constraints + length script.commands)) a.columns ≤ o.pivots)
