-- A run of the command, from what was read and what is said.
use Rattle.std.proofs.Common.{ℕ, ◌+◌, ◌≤◌, ◌≡◌, ◌≢◌, refl, sym, ◌∙◌, ap, subst, arith, inl, inr, ◌⊎◌, List, Option, Some, length}
use Rattle.std.specs.Prelude.{Result, Ok, Err}
use Rattle.std.specs.Io.KnownBytes.{Appends}
use Rattle.lpcc_case.specs.Instance.{Instance}
use Rattle.play.specs.declared.event.Options.{Options}
use Rattle.command.specs.Answers.{IsOnly, IsWritten}
use Rattle.command.specs.declared.reading.TheConstants.{MOST_DECK_BYTES}
use Rattle.command.specs.declared.refusal.Refusal.TheVariants.{NoMemory as short, ReadFault}
use Rattle.command.proofs.CaseRuns.{IsOther, eight_is_other, zero_is_other}
use Rattle.edit_text.specs.declared.script.Script as scripts
use Rattle.editing.specs.Inputs.{AreRightEdits, Edits, IsRead, SpellsEdits}
use Rattle.editing.specs.Refusals as refusals
use Rattle.editing.specs.declared.refusal.EditRefusal.{EditRefusal}
use Rattle.editing.specs.declared.refusal.EditRefusal.TheVariants.{Input, Script}
use Rattle.edit_solving.specs.Scripts.{Said, Says}
use Rattle.edit_solving.specs.Runs.{AreEnough, IsEditRun, IsSaid, SaysVerdicts, opened, status_of, text_of}
use Rattle.edit_solving.proofs.Verdicts.{same_status, same_text, verdicts}
use Rattle.edit_solving.proofs.Budgets.{never_eight}

-- ---- making one

out_of_memory : (left : Option (List ℕ)) (before now : ℕ) → AreRightEdits left before now (Err (Input short))
out_of_memory left before now = record { counted = λ same. absurd (cc same); right = λ bytes told. inr (inl refl) }

-- memory ran out
pub short_run : (o : Options) (left : Option (List ℕ)) (rb rn : ℕ) (tb tn : Option (List ℕ)) (wb wn status : ℕ) → IsWritten tb tn wb wn (refusals.text_of (Input short)) (refusals.status_of (Input short)) status → IsEditRun o left rb rn tb tn wb wn status
short_run o left rb rn tb tn wb wn status w = record { read = Err (Input short); right = out_of_memory left rb rn; said = Err (Input short); says = refl; written = w }

-- the script was followed
pub said_run : (o : Options) (left : Option (List ℕ)) (rb rn : ℕ) (tb tn : Option (List ℕ)) (wb wn status : ℕ) (a : Instance) (script : scripts.Script) (text given : List ℕ) (meant : ℕ) → AreRightEdits left rb rn (Ok (a, script)) → Says (opened a o) 1 script.commands (Ok (text, meant)) → given ≡ text → IsWritten tb tn wb wn given meant status → IsEditRun o left rb rn tb tn wb wn status
said_run o left rb rn tb tn wb wn status a script text given meant right says same w = record { read = Ok (a, script); right = right; said = Ok (text, meant); says = says; written = subst (λ (x : List ℕ). IsWritten tb tn wb wn x meant status) same w }

-- a refusal was written, or that memory ran out
given_run : (o : Options) (left : Option (List ℕ)) (rb rn : ℕ) (tb tn : Option (List ℕ)) (wb wn status : ℕ) (read : Result Edits EditRefusal) (refusal given : EditRefusal) → AreRightEdits left rb rn read → IsSaid o read (Err refusal) → (given ≡ refusal) ⊎ (given ≡ Input short)
    → IsWritten tb tn wb wn (refusals.text_of given) (refusals.status_of given) status → IsEditRun o left rb rn tb tn wb wn status
given_run o left rb rn tb tn wb wn status read refusal given right says (inl same) w = record { read = read; right = right; said = Err refusal; says = says; written = subst (λ (r : EditRefusal). IsWritten tb tn wb wn (refusals.text_of r) (refusals.status_of r) status) same w }
given_run o left rb rn tb tn wb wn status read refusal given right says (inr none) w = short_run o left rb rn tb tn wb wn status (subst (λ (r : EditRefusal). IsWritten tb tn wb wn (refusals.text_of r) (refusals.status_of r) status) none w)

abbrev pub IsGiven : Option (List ℕ) → Option (List ℕ) → ℕ → ℕ → EditRefusal → ℕ → Type 0
IsGiven tb tn wb wn refusal status = (given : EditRefusal) × ((given ≡ refusal) ⊎ (given ≡ Input short)) × IsWritten tb tn wb wn (refusals.text_of given) (refusals.status_of given) status

pub read_refused : (o : Options) (left : Option (List ℕ)) (rb rn : ℕ) (tb tn : Option (List ℕ)) (wb wn status : ℕ) (refusal : EditRefusal) → AreRightEdits left rb rn (Err refusal) → IsGiven tb tn wb wn refusal status → IsEditRun o left rb rn tb tn wb wn status
read_refused o left rb rn tb tn wb wn status refusal right w = given_run o left rb rn tb tn wb wn status (Err refusal) refusal w.0 right refl w.1 w.2

pub script_refused : (o : Options) (left : Option (List ℕ)) (rb rn : ℕ) (tb tn : Option (List ℕ)) (wb wn status : ℕ) (a : Instance) (script : scripts.Script) (refusal : EditRefusal) → AreRightEdits left rb rn (Ok (a, script)) → (refusal ≡ Input short) ⊎ Says (opened a o) 1 script.commands (Err refusal) → IsGiven tb tn wb wn refusal status → IsEditRun o left rb rn tb tn wb wn status
script_refused o left rb rn tb tn wb wn status a script refusal right (inl none) w = given_run o left rb rn tb tn wb wn status (Err (Input short)) (Input short) w.0 (out_of_memory left rb rn) refl (subst (λ (r : EditRefusal). (w.0 ≡ r) ⊎ (w.0 ≡ Input short)) none w.1) w.2
script_refused o left rb rn tb tn wb wn status a script refusal right (inr says) w = given_run o left rb rn tb tn wb wn status (Ok (a, script)) refusal w.0 right says w.1 w.2

-- ---- the status of a run whose case and script are known

-- the input spells this case and this script, and what they say was written
record Told (o : Options) (bytes : List ℕ) (tb tn : Option (List ℕ)) (status : ℕ) : Type 0 where
  a : Instance
  script : scripts.Script
  cause : IsOnly (IsRead MOST_DECK_BYTES) bytes (Ok (a, script))
  text : List ℕ
  says : Says (opened a o) 1 script.commands (Ok (text, status))
  written : Appends tb tn text

abbrev IsNone : ℕ → Type 0
IsNone status = (status ≡ 5 → ⊥) × ((r : EditRefusal) → status ≡ refusals.status_of r → ⊥)

none_of : (status : ℕ) → IsOther status → (status ≡ 3 → ⊥) → IsNone status
none_of status other three = (other.0, not_refused)
  where
    not_refused : (r : EditRefusal) → status ≡ refusals.status_of r → ⊥
    not_refused (Input r) e = other.1 r e
    not_refused (Script line why) e = three e

zero_is_none : IsNone 0
zero_is_none = none_of 0 zero_is_other (λ e. omega (arith, e))

eight_is_none : IsNone 8
eight_is_none = none_of 8 eight_is_other (λ e. omega (arith, e))

-- either free answer, or the bytes are the only cause
abbrev Three : List ℕ → Result Edits EditRefusal → Type 0
Three bytes read = (read ≡ Err (Input ReadFault)) ⊎ (read ≡ Err (Input short)) ⊎ IsOnly (IsRead MOST_DECK_BYTES) bytes read

cause_of : (bytes : List ℕ) (edits : Edits) → Three bytes (Ok edits) → IsOnly (IsRead MOST_DECK_BYTES) bytes (Ok edits)
cause_of bytes edits (inl e) = absurd (cc e)
cause_of bytes edits (inr (inl e)) = absurd (cc e)
cause_of bytes edits (inr (inr h)) = h

written_of : (tb tn : Option (List ℕ)) (wb wn : ℕ) (text : List ℕ) (meant status : ℕ) → (status ≡ 5 → ⊥) → IsWritten tb tn wb wn text meant status → (meant ≡ status) × Appends tb tn text
written_of tb tn wb wn text meant status other (inl w) = (sym w.0, w.1)
written_of tb tn wb wn text meant status other (inr w) = absurd (other w.0)

told_by : (o : Options) (left : Option (List ℕ)) (rb rn : ℕ) (tb tn : Option (List ℕ)) (wb wn status : ℕ) (bytes : List ℕ) (read : Result Edits EditRefusal) (said : Said) → AreRightEdits left rb rn read → IsSaid o read said → IsWritten tb tn wb wn (text_of said) (status_of said) status → left ≡ Some bytes → IsNone status → Told o bytes tb tn status
told_by o left rb rn tb tn wb wn status bytes (Ok edits) (Ok said) right says w told none =
    let done = written_of tb tn wb wn said.0 said.1 status none.0 w in
    record { a = edits.0; script = edits.1; cause = cause_of bytes edits (right.right bytes told); text = said.0; says = subst (λ (n : ℕ). Says (opened edits.0 o) 1 edits.1.commands (Ok (said.0, n))) done.0 says; written = done.1 }
told_by o left rb rn tb tn wb wn status bytes (Ok edits) (Err refusal) right says w told none = absurd (none.1 refusal (sym (written_of tb tn wb wn (refusals.text_of refusal) (refusals.status_of refusal) status none.0 w).0))
told_by o left rb rn tb tn wb wn status bytes (Err r) (Ok said) right says w told none = absurd (cc says)
told_by o left rb rn tb tn wb wn status bytes (Err r) (Err refusal) right says w told none = absurd (none.1 refusal (sym (written_of tb tn wb wn (refusals.text_of refusal) (refusals.status_of refusal) status none.0 w).0))

told : (o : Options) (left : Option (List ℕ)) (rb rn : ℕ) (tb tn : Option (List ℕ)) (wb wn status : ℕ) (bytes : List ℕ) → IsEditRun o left rb rn tb tn wb wn status → left ≡ Some bytes → IsNone status → Told o bytes tb tn status
told o left rb rn tb tn wb wn status bytes run is none = told_by o left rb rn tb tn wb wn status bytes run.read run.said run.right run.says run.written is none

pub says_verdicts : (o : Options) (left : Option (List ℕ)) (rb rn : ℕ) (tb tn : Option (List ℕ)) (wb wn status : ℕ) (bytes : List ℕ) → IsEditRun o left rb rn tb tn wb wn status → status ≡ 0 → left ≡ Some bytes → SaysVerdicts bytes tb tn
says_verdicts o left rb rn tb tn wb wn status bytes run zero is =
    let t = told o left rb rn tb tn wb wn 0 bytes (subst (λ (n : ℕ). IsEditRun o left rb rn tb tn wb wn n) zero run) is zero_is_none in
    record { a = t.a; script = t.script; spelled = t.cause.cause.1; text = t.text; verdicts = verdicts t.script.commands (opened t.a o) 1 t.text t.says; written = t.written }

-- ---- budgets

abbrev commands_in : scripts.Script → Result Edits EditRefusal → scripts.Script
commands_in default (Ok edits) = edits.1
commands_in default (Err r) = default

abbrev case_in : Instance → Result Edits EditRefusal → Instance
case_in default (Ok edits) = edits.0
case_in default (Err r) = default

pub never_spent : (o : Options) (left : Option (List ℕ)) (rb rn : ℕ) (tb tn : Option (List ℕ)) (wb wn status : ℕ) (bytes : List ℕ) (a : Instance) (script : scripts.Script) → IsEditRun o left rb rn tb tn wb wn status → left ≡ Some bytes → SpellsEdits bytes a script → AreEnough a script o → status ≡ 8 → ⊥
never_spent o left rb rn tb tn wb wn status bytes a script run is spelled enough eight =
    let t = told o left rb rn tb tn wb wn 8 bytes (subst (λ (n : ℕ). IsEditRun o left rb rn tb tn wb wn n) eight run) is eight_is_none in
    let same = t.cause.only (Ok (a, script)) (t.cause.cause.0, spelled) in
    let same_case : a ≡ t.a = ap (case_in a) same in
    let same_script : script ≡ t.script = ap (commands_in script) same in
    let there : AreEnough t.a t.script o = subst (λ (b : Instance). AreEnough b t.script o) same_case (subst (λ (x : scripts.Script). AreEnough a x o) same_script enough) in
    never_eight t.script.commands (opened t.a o) 1 t.text (record { pieces = there.0; pivots = there.1 }) t.says
