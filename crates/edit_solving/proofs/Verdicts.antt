-- A script with status 0 says verdicts.
use Rattle.std.proofs.Common.{ℕ, ◌+◌, ◌<◌, ◌≤◌, ◌≡◌, ◌≢◌, refl, sym, ◌∙◌, ap, subst, arith, inl, inr, ◌⊎◌, List, [], ◌∷◌, ◌++◌}
use Rattle.std.specs.Prelude.{Result, Ok, Err}
use Rattle.std.proofs.lemmas.List.{append-nil}
use Rattle.lpcc_case.specs.Instance.{Instance}
use Rattle.lpcc_case.specs.Verdicts.{IsTrueOf}
use Rattle.lpcc_case.specs.declared.verdict.Verdict.{Verdict}
use Rattle.play.specs.declared.ending.Ending.{Ending}
use Rattle.play.specs.declared.ending.Ending.TheVariants as ending
use Rattle.play.specs.declared.event.Options.{Options}
use Rattle.engine.specs.Solved.{VerdictsAreShown}
use Rattle.report.specs.Endings.{IsTextOf, comments, status_of}
use Rattle.report.specs.declared.style.Style.TheVariants.{Brief}
use Rattle.edit_session.specs.Answers.{SessionView}
use Rattle.edit_text.specs.declared.script.Command.{Command}
use Rattle.edit_text.specs.declared.script.Command.TheVariants.{Add, Tighten, Cost, Solve}
use Rattle.editing.specs.declared.refusal.EditRefusal.{EditRefusal}
use Rattle.edit_solving.specs.Scripts.{AreVerdicts, IsDone, IsMade, IsSilent, IsSolved, LeadsTo, Said, Says, behind}

-- ---- the parts of what is said

abbrev pub done_with : List ℕ → ℕ → Said
done_with text status = Ok (text, status)

abbrev pub text_in : Said → List ℕ
text_in (Ok said) = said.0
text_in (Err refusal) = []

abbrev pub status_in : Said → ℕ
status_in (Ok said) = said.1
status_in (Err refusal) = 0

-- what stands behind a text, where both are said with this status
pub record Parts (text : List ℕ) (rest : Said) (all : List ℕ) (status : ℕ) : Type 0 where
  pub left : List ℕ
  pub rest_is : rest ≡ Ok (left, status)
  pub all_is : all ≡ text ++ left

pub parted : (text : List ℕ) (rest : Said) (all : List ℕ) (status : ℕ) → Ok (all, status) ≡ behind text rest → Parts text rest all status
parted text (Ok said) all status e = record {
  left = said.0;
  rest_is = let same : status ≡ said.1 = ap status_in e in (λ i. Ok (said.0, sym same i));
  all_is = ap text_in e;
}
parted text (Err refusal) all status e = absurd (cc e)

pub same_status : (text more : List ℕ) (status other : ℕ) → done_with text status ≡ Ok (more, other) → status ≡ other
same_status text more status other e = ap status_in e

pub same_text : (text more : List ℕ) (status other : ℕ) → done_with text status ≡ Ok (more, other) → text ≡ more
same_text text more status other e = ap text_in e

-- ---- one answer

abbrev SaysTrue : Instance → List ℕ → Type 0
SaysTrue a text = (verdict : Verdict) × (drawn : ℕ) × IsTrueOf a verdict × (text ≡ comments verdict drawn)

true_said : (a : Instance) (o : Options) (end : Ending) (text : List ℕ) → VerdictsAreShown a o end → IsTextOf a Brief end text → status_of end ≡ 0 → SaysTrue a text
true_said a o (ending.Verdict cert drawn) text shown is zero =
    let here = shown cert drawn refl in
    (is.0, drawn, here.truth is.0 is.1, is.2 ∙ append-nil (comments is.0 drawn))
true_said a o (ending.Overflow piece at) text shown is zero = absurd (omega (arith, zero))
true_said a o (ending.PivotsSpent piece at) text shown is zero = absurd (omega (arith, zero))
true_said a o (ending.PiecesSpent drawn left) text shown is zero = absurd (omega (arith, zero))
true_said a o ending.NoMemory text shown is zero = absurd (omega (arith, zero))

-- ---- the whole script

abbrev Behind : List Command → Type 0
Behind commands = (s : SessionView) (line : ℕ) (text : List ℕ) → Says s line commands (Ok (text, 0)) → AreVerdicts s.kept.case_of commands text

-- an edit and what follows
edited_and : (c : Command) (commands : List Command) (s t : SessionView) (line : ℕ) (all text : List ℕ) (status : ℕ) → Behind commands → IsMade c s t → IsSilent text status
    → ((status ≢ 0) × (Ok (all, 0) ≡ done_with text status)) ⊎ ((status ≡ 0) × (more : Said) × Says t (line + 1) commands more × (Ok (all, 0) ≡ behind text more))
    → (b : Instance) × LeadsTo c s.kept.case_of b × AreVerdicts b commands all
edited_and c commands s t line all text status further made silent (inl stop) = absurd (stop.0 silent.1)
edited_and c commands s t line all text status further made silent (inr (zero, more, next, is)) =
    let p = parted text more all 0 is in
    let left : all ≡ p.left = p.all_is ∙ ap (λ (x : List ℕ). x ++ p.left) silent.0 in
    let says = subst (Says t (line + 1) commands) p.rest_is next in
    (t.kept.case_of, (made.edit, made.meant, made.made.kept.may, made.made.kept.case_is), subst (AreVerdicts t.kept.case_of commands) (sym left) (further t (line + 1) p.left says))

solved_and : (commands : List Command) (s t : SessionView) (line : ℕ) (all text : List ℕ) (status : ℕ) → Behind commands → IsSolved s t text status
    → ((status ≢ 0) × (Ok (all, 0) ≡ done_with text status)) ⊎ ((status ≡ 0) × (more : Said) × Says t (line + 1) commands more × (Ok (all, 0) ≡ behind text more))
    → AreVerdicts s.kept.case_of (Solve ∷ commands) all
solved_and commands s t line all text status further done (inl stop) = absurd (stop.0 (sym (same_status all text 0 status stop.1)))
solved_and commands s t line all text status further done (inr (zero, more, next, is)) =
    let p = parted text more all 0 is in
    let says = subst (Says t (line + 1) commands) p.rest_is next in
    let said = true_said s.kept.case_of _ done.end text done.shown done.text_is (sym done.status_is ∙ zero) in
    let same : t.kept.case_of ≡ s.kept.case_of = ap (λ (u : SessionView). u.kept.case_of) done.answers.new_is in
    (said.0, said.1, p.left, said.2, p.all_is ∙ ap (λ (x : List ℕ). x ++ p.left) said.3, subst (λ (a : Instance). AreVerdicts a commands p.left) same (further t (line + 1) p.left says))

pub verdicts : (commands : List Command) → Behind commands
verdicts [] s line text says = same_text text [] 0 0 says
verdicts (Add relation rhs terms ∷ commands) s line text (inl bad) = absurd (cc bad.2)
verdicts (Add relation rhs terms ∷ commands) s line text (inr (t, said, status, done, then)) = edited_and (Add relation rhs terms) commands s t line text said status (verdicts commands) done.0 done.1 then
verdicts (Tighten con rhs ∷ commands) s line text (inl bad) = absurd (cc bad.2)
verdicts (Tighten con rhs ∷ commands) s line text (inr (t, said, status, done, then)) = edited_and (Tighten con rhs) commands s t line text said status (verdicts commands) done.0 done.1 then
verdicts (Cost terms ∷ commands) s line text (inl bad) = absurd (cc bad.2)
verdicts (Cost terms ∷ commands) s line text (inr (t, said, status, done, then)) = edited_and (Cost terms) commands s t line text said status (verdicts commands) done.0 done.1 then
verdicts (Solve ∷ commands) s line text (inl bad) = absurd (cc bad.2)
verdicts (Solve ∷ commands) s line text (inr (t, said, status, done, then)) = solved_and commands s t line text said status (verdicts commands) done then
