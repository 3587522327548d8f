-- What the commands of a script say, one behind the other.
use Rattle.std.specs.Prelude.{◌≡◌, ◌≢◌, ◌⊎◌, ◌+◌, ℕ, List, [], ◌∷◌, ◌++◌, Result, Ok, Err}
use Rattle.lpcc_case.specs.Instance.{Instance}
use Rattle.lpcc_case.specs.Verdicts.{IsTrueOf}
use Rattle.lpcc_case.specs.declared.verdict.Verdict.{Verdict}
use Rattle.play.specs.declared.ending.Ending.{Ending}
use Rattle.engine.specs.Solved.{PiecesLast, PivotsLast, VerdictsAreShown, alone}
use Rattle.report.specs.Endings.{IsTextOf, comments, status_of}
use Rattle.report.specs.declared.style.Style.TheVariants.{Brief}
use Rattle.case_edits.specs.Edits.{MayBeMade, edited}
use Rattle.case_edits.specs.declared.edit.Edit.{Edit}
use Rattle.case_edits.specs.declared.edit.EditFault.{EditFault}
use Rattle.case_edits.specs.declared.edit.EditFault.TheVariants as fault
use Rattle.command.specs.declared.refusal.Refusal.TheVariants.{NoMemory as short}
use Rattle.edit_session.specs.Answers.{Answers, IsEditedSession, SessionView}
use Rattle.edit_text.specs.declared.script.Command.{Command}
use Rattle.edit_text.specs.declared.script.Command.TheVariants.{Add, Tighten, Cost, Solve}
use Rattle.editing.specs.declared.refusal.EditRefusal.{EditRefusal}
use Rattle.editing.specs.declared.refusal.EditRefusal.TheVariants.{Input, Script}
use Rattle.editing.specs.declared.refusal.EditWhy.{EditWhy}
use Rattle.editing.specs.declared.refusal.EditWhy.TheVariants.{NoSuch, Loosens, Limit}
use Rattle.edit_solving.specs.Meanings.{IsMeant, IsRefusedAs}

-- ---- one command

-- the text and the status of the session's answer for its present case
pub record IsSolved (old new : SessionView) (text : List ℕ) (status : ℕ) : Type 0 where
  pub end : Ending
  pub answers : Answers old new end
  pub shown : VerdictsAreShown old.kept.case_of (alone old.options) end
  pub pieces : PiecesLast old.kept.case_of old.options end
  pub pivots : PivotsLast old.kept.case_of old.options end
  pub text_is : IsTextOf old.kept.case_of Brief end text
  pub status_is : status ≡ status_of end

-- the edit that the command means is made
pub record IsMade (c : Command) (old new : SessionView) : Type 0 where
  pub edit : Edit
  pub meant : IsMeant old.kept.case_of.columns c edit
  pub made : IsEditedSession edit old new

-- nothing is said of that
abbrev pub IsSilent : List ℕ → ℕ → Type 0
IsSilent text status = (text ≡ []) × (status ≡ 0)

abbrev pub IsDone : Command → SessionView → SessionView → List ℕ → ℕ → Type 0
IsDone (Add relation rhs terms) old new text status = IsMade (Add relation rhs terms) old new × IsSilent text status
IsDone (Tighten con rhs) old new text status = IsMade (Tighten con rhs) old new × IsSilent text status
IsDone (Cost terms) old new text status = IsMade (Cost terms) old new × IsSilent text status
IsDone Solve old new text status = IsSolved old new text status

abbrev pub IsRefused : Instance → Command → EditWhy → Type 0
IsRefused a (Add relation rhs terms) why = IsRefusedAs a (Add relation rhs terms) why
IsRefused a (Tighten con rhs) why = IsRefusedAs a (Tighten con rhs) why
IsRefused a (Cost terms) why = IsRefusedAs a (Cost terms) why
IsRefused a Solve why = ⊥

-- the refusal of a line for the fault of its edit
abbrev pub refusal_of : ℕ → EditFault → EditRefusal
refusal_of line fault.NoSuch = Script line NoSuch
refusal_of line fault.Loosens = Script line Loosens
refusal_of line fault.Limit = Script line Limit
refusal_of line (fault.NoMemory error) = Input short

-- ---- all of them

-- the whole text with its status, or the refusal
abbrev pub Said : Type 0
Said = Result (List ℕ × ℕ) EditRefusal

-- a refusal is said alone
abbrev pub behind : List ℕ → Said → Said
behind text (Ok said) = Ok (text ++ said.0, said.1)
behind text (Err refusal) = Err refusal

-- Commands from this line on, over a session. An edit that is refused is said with its line. An answer that is no verdict is
-- the last.
abbrev pub Says : SessionView → ℕ → List Command → Said → Type 0
Says s line [] said = said ≡ Ok ([], 0)
Says s line (c ∷ commands) said =
    ((why : EditWhy) × IsRefused s.kept.case_of c why × (said ≡ Err (Script line why)))
    ⊎ ((t : SessionView) × (text : List ℕ) × (status : ℕ) × IsDone c s t text status
    × (((status ≢ 0) × (said ≡ Ok (text, status)))
    ⊎ ((status ≡ 0) × (more : Said) × Says t (line + 1) commands more × (said ≡ behind text more))))

-- ---- where each answer is a verdict

-- the edit that the command means may be made, and behind it the case is the other
abbrev pub LeadsTo : Command → Instance → Instance → Type 0
LeadsTo c a b = (edit : Edit) × IsMeant a.columns c edit × MayBeMade a edit × (b ≡ edited edit a)

-- the text has the verdict of each answer, which is true of the case as the edits before have made it, and a number of draws
abbrev pub AreVerdicts : Instance → List Command → List ℕ → Type 0
AreVerdicts a [] text = text ≡ []
AreVerdicts a (Add relation rhs terms ∷ commands) text = (b : Instance) × LeadsTo (Add relation rhs terms) a b × AreVerdicts b commands text
AreVerdicts a (Tighten con rhs ∷ commands) text = (b : Instance) × LeadsTo (Tighten con rhs) a b × AreVerdicts b commands text
AreVerdicts a (Cost terms ∷ commands) text = (b : Instance) × LeadsTo (Cost terms) a b × AreVerdicts b commands text
AreVerdicts a (Solve ∷ commands) text = (verdict : Verdict) × (drawn : ℕ) × (more : List ℕ) × IsTrueOf a verdict
    × (text ≡ comments verdict drawn ++ more) × AreVerdicts a commands more
