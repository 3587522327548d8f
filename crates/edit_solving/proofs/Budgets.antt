-- Budgets that last.
use Rattle.std.proofs.Common.{ℕ, zero, suc, ◌+◌, ◌-◌, ◌^◌, ◌<◌, ◌≤◌, ◌≡◌, ◌≢◌, refl, sym, ◌∙◌, ap, subst, arith, inl, inr, ◌⊎◌, List, [], ◌∷◌, ◌++◌, length}
use Rattle.std.specs.Prelude.{Result, Ok, Err}
use Rattle.std.proofs.lemmas.List.{length-append, length-set}
use Rattle.lpcc_case.specs.Instance.{Instance}
use Rattle.orders.specs.Counts.{choose}
use Rattle.play.specs.declared.ending.Ending.{Ending}
use Rattle.play.specs.declared.ending.Ending.TheVariants as ending
use Rattle.play.specs.declared.event.Options.{Options}
use Rattle.engine.specs.Solved.{PiecesLast, PivotsLast}
use Rattle.report.specs.Endings.{status_of}
use Rattle.case_edits.specs.Edits.{edited, with_right_side}
use Rattle.case_edits.specs.declared.edit.Edit.{Edit}
use Rattle.case_edits.specs.declared.edit.Edit.TheVariants as edit_of
use Rattle.edit_session.specs.Answers.{SessionView}
use Rattle.edit_text.specs.declared.script.Command.{Command}
use Rattle.edit_text.specs.declared.script.Command.TheVariants.{Add, Tighten, Cost, Solve}
use Rattle.editing.specs.declared.refusal.EditRefusal.{EditRefusal}
use Rattle.edit_solving.specs.Scripts.{IsDone, IsMade, IsSilent, IsSolved, Said, Says, behind}
use Rattle.edit_solving.proofs.Verdicts.{Parts, done_with, parted, same_status}

-- ---- more forms have no fewer choices

choose_step : (n k : ℕ) → choose n k ≤ choose (suc n) k
choose_step n zero = omega arith
choose_step n (suc k) = omega arith

choose_more : (d n k : ℕ) → choose n k ≤ choose (n + d) k
choose_more zero n k = let e : n ≡ n + 0 = omega arith in subst (λ (j : ℕ). choose n k ≤ choose j k) e (omega arith)
choose_more (suc d) n k =
    let below = choose_more d n k in
    let step = choose_step (n + d) k in
    let e : suc (n + d) ≡ n + suc d = omega arith in
    subst (λ (j : ℕ). choose n k ≤ choose j k) e (omega (arith, below, step))

choose_grows : (m n k : ℕ) → m ≤ n → choose m k ≤ choose n k
choose_grows m n k h = let e : m + (n - m) ≡ n = omega (arith, h) in subst (λ (j : ℕ). choose m k ≤ choose j k) e (choose_more (n - m) m k)

-- ---- with n commands to come

pub record AreEnoughFor (a : Instance) (o : Options) (n : ℕ) : Type 0 where
  pub pieces : 2 ^ length a.pairs ≤ o.pieces
  pub pivots : choose (a.columns + (length a.constraints + n)) a.columns ≤ o.pivots

fewer : (a : Instance) (o : Options) (n m : ℕ) → m ≤ length a.constraints + n → AreEnoughFor a o n → choose (a.columns + m) a.columns ≤ o.pivots
fewer a o n m h enough =
    let grows = choose_grows (a.columns + m) (a.columns + (length a.constraints + n)) a.columns (omega (arith, h)) in
    omega (arith, grows, enough.pivots)

edited_enough : (edit : Edit) (a : Instance) (o : Options) (n : ℕ) → AreEnoughFor a o (n + 1) → AreEnoughFor (edited edit a) o n
edited_enough (edit_of.Add c) a o n enough = record {
  pieces = enough.pieces;
  pivots = fewer a o (n + 1) (length (a.constraints ++ c ∷ []) + n) (omega (arith, length-append a.constraints (c ∷ []))) enough;
}
edited_enough (edit_of.Tighten con rhs) a o n enough =
    let size : length (with_right_side con rhs a.constraints) ≡ length a.constraints = length-set a.constraints con _ in
    record {
      pieces = enough.pieces;
      pivots = fewer a o (n + 1) (length (with_right_side con rhs a.constraints) + n) (omega (arith, size)) enough;
    }
edited_enough (edit_of.Cost cost) a o n enough = record {
  pieces = enough.pieces;
  pivots = fewer a o (n + 1) (length a.constraints + n) (omega arith) enough;
}

not_spent : (a : Instance) (o : Options) (n : ℕ) (end : Ending) → PiecesLast a o end → PivotsLast a o end → AreEnoughFor a o n → status_of end ≡ 8 → ⊥
not_spent a o n (ending.Verdict cert drawn) pieces pivots enough e = omega (arith, e)
not_spent a o n (ending.Overflow piece at) pieces pivots enough e = omega (arith, e)
not_spent a o n (ending.PivotsSpent piece at) pieces pivots enough e = pivots (fewer a o n (length a.constraints) (omega arith) enough) piece at refl
not_spent a o n (ending.PiecesSpent drawn left) pieces pivots enough e = pieces enough.pieces drawn left refl
not_spent a o n ending.NoMemory pieces pivots enough e = omega (arith, e)

-- ---- the whole script

abbrev Behind : List Command → Type 0
Behind commands = (s : SessionView) (line : ℕ) (text : List ℕ) → AreEnoughFor s.kept.case_of s.options (length commands) → Says s line commands (Ok (text, 8)) → ⊥

after_edit : (c : Command) (s t : SessionView) (n : ℕ) → IsMade c s t → AreEnoughFor s.kept.case_of s.options (n + 1) → AreEnoughFor t.kept.case_of t.options n
after_edit c s t n made enough =
    let there = edited_enough made.edit s.kept.case_of s.options n enough in
    subst (λ (a : Instance). AreEnoughFor a t.options n) (sym made.made.kept.case_is) (subst (λ (o : Options). AreEnoughFor (edited made.edit s.kept.case_of) o n) (sym made.made.options_stay) there)

edited_and : (c : Command) (commands : List Command) (s t : SessionView) (line : ℕ) (all text : List ℕ) (status : ℕ) → Behind commands → IsMade c s t → IsSilent text status → AreEnoughFor s.kept.case_of s.options (length commands + 1)
    → ((status ≢ 0) × (Ok (all, 8) ≡ done_with text status)) ⊎ ((status ≡ 0) × (more : Said) × Says t (line + 1) commands more × (Ok (all, 8) ≡ behind text more)) → ⊥
edited_and c commands s t line all text status further made silent enough (inl stop) = stop.0 silent.1
edited_and c commands s t line all text status further made silent enough (inr (nought, more, next, is)) =
    let p = parted text more all 8 is in
    further t (line + 1) p.left (after_edit c s t (length commands) made enough) (subst (Says t (line + 1) commands) p.rest_is next)

solved_and : (commands : List Command) (s t : SessionView) (line : ℕ) (all text : List ℕ) (status : ℕ) → Behind commands → IsSolved s t text status → AreEnoughFor s.kept.case_of s.options (length commands + 1)
    → ((status ≢ 0) × (Ok (all, 8) ≡ done_with text status)) ⊎ ((status ≡ 0) × (more : Said) × Says t (line + 1) commands more × (Ok (all, 8) ≡ behind text more)) → ⊥
solved_and commands s t line all text status further done enough (inl stop) =
    not_spent s.kept.case_of s.options (length commands + 1) done.end done.pieces done.pivots enough (sym done.status_is ∙ sym (same_status all text 8 status stop.1))
solved_and commands s t line all text status further done enough (inr (nought, more, next, is)) =
    let p = parted text more all 8 is in
    let less : AreEnoughFor s.kept.case_of s.options (length commands) = record { pieces = enough.pieces; pivots = fewer s.kept.case_of s.options (length commands + 1) (length s.kept.case_of.constraints + length commands) (omega arith) enough } in
    let there = subst (λ (u : SessionView). AreEnoughFor u.kept.case_of u.options (length commands)) (sym done.answers.new_is) less in
    further t (line + 1) p.left there (subst (Says t (line + 1) commands) p.rest_is next)

with_one_more : (c : Command) (commands : List Command) (s : SessionView) → AreEnoughFor s.kept.case_of s.options (length (c ∷ commands)) → AreEnoughFor s.kept.case_of s.options (length commands + 1)
with_one_more c commands s enough = let e : length (c ∷ commands) ≡ length commands + 1 = omega arith in subst (λ (n : ℕ). AreEnoughFor s.kept.case_of s.options n) e enough

pub never_eight : (commands : List Command) → Behind commands
never_eight [] s line text enough says = let e = same_status text [] 8 0 says in omega (arith, e)
never_eight (Add relation rhs terms ∷ commands) s line text enough (inl bad) = absurd (cc bad.2)
never_eight (Add relation rhs terms ∷ commands) s line text enough (inr (t, said, status, done, then)) = edited_and (Add relation rhs terms) commands s t line text said status (never_eight commands) done.0 done.1 (with_one_more (Add relation rhs terms) commands s enough) then
never_eight (Tighten con rhs ∷ commands) s line text enough (inl bad) = absurd (cc bad.2)
never_eight (Tighten con rhs ∷ commands) s line text enough (inr (t, said, status, done, then)) = edited_and (Tighten con rhs) commands s t line text said status (never_eight commands) done.0 done.1 (with_one_more (Tighten con rhs) commands s enough) then
never_eight (Cost terms ∷ commands) s line text enough (inl bad) = absurd (cc bad.2)
never_eight (Cost terms ∷ commands) s line text enough (inr (t, said, status, done, then)) = edited_and (Cost terms) commands s t line text said status (never_eight commands) done.0 done.1 (with_one_more (Cost terms) commands s enough) then
never_eight (Solve ∷ commands) s line text enough (inl bad) = absurd (cc bad.2)
never_eight (Solve ∷ commands) s line text enough (inr (t, said, status, done, then)) = solved_and commands s t line text said status (never_eight commands) done (with_one_more Solve commands s enough) then
