-- One command, and the statuses of commands.
use Rattle.std.proofs.Common.{ℕ, ◌+◌, ◌≡◌, ◌∙◌, refl, sym, ap, subst, arith, true, false, Bool, List, [], ◌∷◌, Option, None, Some, inl, inr}
use Rattle.std.specs.Prelude.{◌⊎◌, ◌≢◌, Ok, Err, Result}
use Rattle.lpcc_case.specs.Instance.{Instance}
use Rattle.branching.specs.Branching as branching
use Rattle.branching.specs.Texts as branching_texts
use Rattle.command.specs.Answers.{IsWritten}
use Rattle.command.specs.Refusals as refusals
use Rattle.command.specs.Inputs.{SpellsAlone}
use Rattle.command.specs.Runs.{IsRightCase, IsRun, IsWrittenFor}
use Rattle.command.specs.declared.refusal.Refusal.{Refusal}
use Rattle.command.specs.declared.refusal.Refusal.TheVariants.{Deck, NoMemory, ReadFault, RowWide, TooLong, TooMany}
use Rattle.cert2_text.specs.declared.cert2.AnyCert.{AnyCert}
use Rattle.converting.specs.Refusals as conversions
use Rattle.converting.specs.Runs as converted
use Rattle.converting.specs.declared.refusal.Refusal as certificate_refusals
use Rattle.converting.specs.declared.refusal.Refusal.TheVariants as certificate_refusal
use Rattle.deck_gen.specs.Generator.{deck_text}
use Rattle.deck_gen.specs.declared.sizes.Sizes.{Sizes}
use Rattle.edit_session.specs.Answers.{SessionView}
use Rattle.edit_solving.specs.Runs as edit_runs
use Rattle.edit_solving.specs.Scripts as scripts
use Rattle.edit_text.specs.declared.script.Command.{Command as Line}
use Rattle.edit_text.specs.declared.script.Command.TheVariants as line
use Rattle.edit_text.specs.declared.script.Script.{Script}
use Rattle.editing.specs.Inputs.{Edits, SpellsEdits}
use Rattle.editing.specs.Refusals as edit_refusals
use Rattle.editing.specs.declared.refusal.EditRefusal.{EditRefusal}
use Rattle.editing.specs.declared.refusal.EditRefusal.TheVariants as edit_refusal
use Rattle.front_text.specs.Texts.{FailsAsBilevel, FailsAsLcp, SpellsBilevel, SpellsLcp}
use Rattle.front_text.specs.declared.fault.FrontWhy.{FrontWhy}
use Rattle.fronting.specs.Refusals as front_refusals
use Rattle.fronting.specs.Runs as fronts
use Rattle.fronting.specs.declared.refusal.FrontRefusal.{FrontRefusal}
use Rattle.fronting.specs.declared.refusal.FrontRefusal.TheVariants as front_refusal
use Rattle.front_solving.specs.Solving as solutions
use Rattle.generating.specs.Generating.{IsGenerated, IsGeneratedAndSolved, IsOutOfMemory}
use Rattle.play.specs.declared.event.Options.{Options}
use Rattle.play.specs.declared.ending.Ending.{Ending}
use Rattle.play.specs.declared.ending.Ending.TheVariants as ending
use Rattle.relaxing.specs.Relaxing as relaxing
use Rattle.report.specs.Endings as endings
use Rattle.report.specs.Relaxations as relaxations
use Rattle.report.specs.declared.style.Style.{Style}
use Rattle.report.specs.declared.style.Style.TheVariants.{Brief}
use Rattle.report.specs.declared.relaxation.Relaxation.{Relaxation}
use Rattle.report.specs.declared.relaxation.Relaxation.TheVariants as relaxation
use Rattle.solving.specs.Solving as solving
use Rattle.tree_engine.specs.declared.answer.Branch.{Branch}
use Rattle.tree_engine.specs.declared.answer.Branch.TheVariants as branch
use Rattle.tree_engine.specs.declared.answer.BranchOptions.{BranchOptions}
use Rattle.verifier.specs.Runs.{IsChecked}
use Rattle.words.specs.declared.command.Command.{Command}
use Rattle.words.specs.declared.command.Command.TheVariants.{Bilevel, Check, Edit, Generate, Lcp, Migrate, Relax, Solve, Tree}
use Rattle.words.specs.declared.command.Draft.{Draft}
use Rattle.words.specs.declared.command.EditSettings.{EditSettings}
use Rattle.words.specs.declared.command.Settings.{Settings}
use Rattle.words.specs.declared.command.TreeSettings.{TreeSettings}
use Rattle.verifier.specs.declared.answer.Answer.TheVariants.{Refused}
use Rattle.lpcc_run.specs.Answers.{Answers, words_refused}
use Rattle.lpcc_run.specs.Commands.{IsCommand, IsNoCommand, IsNoSolve, Runs, as_asked, by_one_worker, limits_of, session_options, sizes_of, style_of, usual}

-- ---- one command

value_in : Command → Option Command → Command
value_in default (Some c) = c
value_in default None = default

one_command : (words : List (List ℕ)) (c d : Command) → IsCommand words c → IsCommand words d → c ≡ d
unfolding value_in
one_command words c d h k = ap (value_in c) (sym h.0 ∙ k.0)

pub of_one : (o : Settings → Options) (words : List (List ℕ)) (c d : Command) (left : Option (List ℕ)) (rb rn : ℕ) (tb tn : Option (List ℕ)) (wb wn status : ℕ) → IsCommand words c → IsCommand words d → Runs o c left rb rn tb tn wb wn status → Runs o d left rb rn tb tn wb wn status
of_one o words c d left rb rn tb tn wb wn status h k run = subst (λ (x : Command). Runs o x left rb rn tb tn wb wn status) (one_command words c d h k) run

pub is_one : (words : List (List ℕ)) (c d : Command) → IsCommand words c → IsCommand words d → c ≡ d
is_one words c d h k = one_command words c d h k

-- ---- none of them has the status 2

refusal_not_two : (r : Refusal) → 2 ≡ refusals.status_of r → ⊥
refusal_not_two ReadFault e = omega arith
refusal_not_two TooLong e = omega arith
refusal_not_two (Deck line why) e = omega arith
refusal_not_two (RowWide line) e = omega arith
refusal_not_two (TooMany line) e = omega arith
refusal_not_two NoMemory e = omega arith

written_not_two : (tb tn : Option (List ℕ)) (wb wn : ℕ) (text : List ℕ) (meant : ℕ) → (2 ≡ meant → ⊥) → IsWritten tb tn wb wn text meant 2 → ⊥
written_not_two tb tn wb wn text meant other (inl w) = other w.0
written_not_two tb tn wb wn text meant other (inr w) = omega (arith, w.0)

case_not_two : (Says : Instance → List ℕ → ℕ → Type 0) (tb tn : Option (List ℕ)) (wb wn : ℕ) (read : Result Instance Refusal) → ((a : Instance) (text : List ℕ) (meant : ℕ) → Says a text meant → 2 ≡ meant → ⊥) → IsWrittenFor Says read tb tn wb wn 2 → ⊥
case_not_two Says tb tn wb wn (Ok a) other w = written_not_two tb tn wb wn w.0 w.1 (other a w.0 w.1 w.2) w.3
case_not_two Says tb tn wb wn (Err r) other w = written_not_two tb tn wb wn (refusals.text_of r) (refusals.status_of r) (refusal_not_two r) w

run_not_two : (Says : Instance → List ℕ → ℕ → Type 0) (left : Option (List ℕ)) (rb rn : ℕ) (tb tn : Option (List ℕ)) (wb wn : ℕ) → ((a : Instance) (text : List ℕ) (meant : ℕ) → Says a text meant → 2 ≡ meant → ⊥) → IsRun Says left rb rn tb tn wb wn 2 → ⊥
run_not_two Says left rb rn tb tn wb wn other run = case_not_two Says tb tn wb wn run.read other run.written

relaxation_not_two : (end : Relaxation) → 2 ≡ relaxations.status_of end → ⊥
relaxation_not_two (relaxation.Solved v) e = omega arith
relaxation_not_two (relaxation.Wide place) e = omega arith
relaxation_not_two (relaxation.Spent place) e = omega arith

ending_not_two : (end : Ending) → 2 ≡ endings.status_of end → ⊥
ending_not_two (ending.Verdict cert drawn) e = omega arith
ending_not_two (ending.Overflow piece place) e = omega arith
ending_not_two (ending.PivotsSpent piece place) e = omega arith
ending_not_two (ending.PiecesSpent drawn left) e = omega arith
ending_not_two ending.NoMemory e = omega arith

solve_not_two : (o : Options) (style : Style) (left : Option (List ℕ)) (rb rn : ℕ) (tb tn : Option (List ℕ)) (wb wn : ℕ) → IsRun (solving.Says o style) left rb rn tb tn wb wn 2 → ⊥
solve_not_two o style left rb rn tb tn wb wn run = run_not_two (solving.Says o style) left rb rn tb tn wb wn (λ a text meant says e. ending_not_two says.end (e ∙ says.status_is)) run

branch_not_two : (answer : Branch) → 2 ≡ branching_texts.status_of answer → ⊥
branch_not_two (branch.Closed best tree nodes) e = omega arith
branch_not_two (branch.Unbounded piece point ray nodes) e = omega arith
branch_not_two (branch.Overflow piece place run) e = omega arith
branch_not_two (branch.PivotsSpent piece place run) e = omega arith
branch_not_two (branch.NodesSpent nodes left run) e = omega arith

tree_not_two : (s : TreeSettings) (left : Option (List ℕ)) (rb rn : ℕ) (tb tn : Option (List ℕ)) (wb wn : ℕ) → IsRun (branching.Says (limits_of s) s.brief) left rb rn tb tn wb wn 2 → ⊥
tree_not_two s left rb rn tb tn wb wn run = run_not_two (branching.Says (limits_of s) s.brief) left rb rn tb tn wb wn (λ a text meant says e. branch_not_two says.answer (e ∙ says.status_is)) run

edit_refusal_not_two : (r : EditRefusal) → 2 ≡ edit_refusals.status_of r → ⊥
edit_refusal_not_two (edit_refusal.Input r) e = refusal_not_two r e
edit_refusal_not_two (edit_refusal.Script number why) e = omega arith

done_not_two : (c : Line) (s t : SessionView) (text : List ℕ) (status : ℕ) → scripts.IsDone c s t text status → 2 ≡ status → ⊥
done_not_two (line.Add relation rhs terms) s t text status done e = omega (arith, e, done.1.1)
done_not_two (line.Tighten con rhs) s t text status done e = omega (arith, e, done.1.1)
done_not_two (line.Cost terms) s t text status done e = omega (arith, e, done.1.1)
done_not_two line.Solve s t text status done e = ending_not_two done.end (e ∙ done.status_is)

behind_keeps : (text : List ℕ) (said : scripts.Said) → edit_runs.status_of (scripts.behind text said) ≡ edit_runs.status_of said
behind_keeps text (Ok said) = refl
behind_keeps text (Err refusal) = refl

script_not_two : (lines : List Line) (s : SessionView) (number : ℕ) (said : scripts.Said) → scripts.Says s number lines said → 2 ≡ edit_runs.status_of said → ⊥
script_not_two [] s number said is e = omega (arith, e, ap edit_runs.status_of is)
script_not_two (c ∷ lines) s number said (inl bad) e = omega (arith, e, ap edit_runs.status_of bad.2)
script_not_two (c ∷ lines) s number said (inr (t, text, status, done, inl stop)) e = done_not_two c s t text status done (e ∙ ap edit_runs.status_of stop.1)
script_not_two (c ∷ lines) s number said (inr (t, text, status, done, inr (nought, more, next, is))) e =
    script_not_two lines t (number + 1) more next (e ∙ ap edit_runs.status_of is ∙ behind_keeps text more)

said_not_two : (o : Options) (read : Result Edits EditRefusal) (said : scripts.Said) → edit_runs.IsSaid o read said → 2 ≡ edit_runs.status_of said → ⊥
said_not_two o (Ok edits) said says e = script_not_two edits.1.commands (edit_runs.opened edits.0 o) 1 said says e
said_not_two o (Err refusal) said says e = edit_refusal_not_two refusal (e ∙ ap edit_runs.status_of says)

edits_not_two : (o : Options) (left : Option (List ℕ)) (rb rn : ℕ) (tb tn : Option (List ℕ)) (wb wn : ℕ) → edit_runs.IsEditRun o left rb rn tb tn wb wn 2 → ⊥
edits_not_two o left rb rn tb tn wb wn run =
    written_not_two tb tn wb wn (edit_runs.text_of run.said) (edit_runs.status_of run.said) (said_not_two o run.read run.said run.says) run.written

memory_not_two : (tb tn : Option (List ℕ)) (wb wn : ℕ) → IsOutOfMemory tb tn wb wn 2 → ⊥
memory_not_two tb tn wb wn w = written_not_two tb tn wb wn (refusals.text_of NoMemory) 6 (λ e. omega arith) w

plain_not_two : (z : Sizes) (tb tn : Option (List ℕ)) (wb wn : ℕ) → IsGenerated z tb tn wb wn 2 → ⊥
plain_not_two z tb tn wb wn (inl w) = written_not_two tb tn wb wn (deck_text z) 0 (λ e. omega arith) w
plain_not_two z tb tn wb wn (inr w) = memory_not_two tb tn wb wn w

solved_not_two : (z : Sizes) (tb tn : Option (List ℕ)) (wb wn : ℕ) → IsGeneratedAndSolved usual z tb tn wb wn 2 → ⊥
solved_not_two z tb tn wb wn (inl w) = solve_not_two usual Brief (Some (deck_text z)) w.0 w.1 tb tn wb wn w.2
solved_not_two z tb tn wb wn (inr w) = memory_not_two tb tn wb wn w

made_not_two : (o : Settings → Options) (draft : Draft) (left : Option (List ℕ)) (rb rn : ℕ) (tb tn : Option (List ℕ)) (wb wn : ℕ) (b : Bool) → draft.solve ≡ b → Runs o (Generate draft) left rb rn tb tn wb wn 2 → ⊥
made_not_two o draft left rb rn tb tn wb wn false e run = plain_not_two (sizes_of draft) tb tn wb wn (run.0 e)
made_not_two o draft left rb rn tb tn wb wn true e run = solved_not_two (sizes_of draft) tb tn wb wn (run.1 e)

certificate_not_two : (r : certificate_refusals.Refusal) → 2 ≡ conversions.status_of r → ⊥
certificate_not_two certificate_refusal.ReadFault e = omega arith
certificate_not_two certificate_refusal.TooLong e = omega arith
certificate_not_two (certificate_refusal.Line line why) e = omega arith
certificate_not_two certificate_refusal.NoMemory e = omega arith

conversion_not_two : (read : Result AnyCert certificate_refusals.Refusal) → 2 ≡ converted.status_of read → ⊥
conversion_not_two (Ok cert) e = omega (arith, e)
conversion_not_two (Err r) e = certificate_not_two r e

front_not_two : (r : FrontRefusal) → 2 ≡ front_refusals.status_of r → ⊥
front_not_two front_refusal.ReadFault e = omega arith
front_not_two front_refusal.TooLong e = omega arith
front_not_two (front_refusal.Problem line why) e = omega arith
front_not_two front_refusal.NoMemory e = omega arith

problem_not_two : {P : Type 0} (Says : P → List ℕ → ℕ → Type 0) (tb tn : Option (List ℕ)) (wb wn : ℕ) (read : Result P FrontRefusal) → ((p : P) (text : List ℕ) (meant : ℕ) → Says p text meant → 2 ≡ meant → ⊥) → fronts.IsWrittenFor Says read tb tn wb wn 2 → ⊥
problem_not_two Says tb tn wb wn (Ok p) other w = written_not_two tb tn wb wn w.0 w.1 (other p w.0 w.1 w.2) w.3
problem_not_two Says tb tn wb wn (Err r) other w = written_not_two tb tn wb wn (front_refusals.text_of r) (front_refusals.status_of r) (front_not_two r) w

lcp_not_two : (left : Option (List ℕ)) (rb rn : ℕ) (tb tn : Option (List ℕ)) (wb wn : ℕ) (solve b : Bool) → solve ≡ b → (o : Settings → Options) → Runs o (Lcp solve) left rb rn tb tn wb wn 2 → ⊥
lcp_not_two left rb rn tb tn wb wn solve false e o run = problem_not_two fronts.IsLcpDeck tb tn wb wn (run.0 e).0.read (λ p text meant says two. omega (arith, two, says.1)) (run.0 e).0.written
lcp_not_two left rb rn tb tn wb wn solve true e o run = problem_not_two (solutions.SaysOfLcp usual) tb tn wb wn (run.1 e).0.read (λ p text meant says two. ending_not_two says.end (two ∙ says.status_is)) (run.1 e).0.written

bilevel_not_two : (left : Option (List ℕ)) (rb rn : ℕ) (tb tn : Option (List ℕ)) (wb wn : ℕ) (solve b : Bool) → solve ≡ b → (o : Settings → Options) → Runs o (Bilevel solve) left rb rn tb tn wb wn 2 → ⊥
bilevel_not_two left rb rn tb tn wb wn solve false e o run = problem_not_two fronts.IsBilevelDeck tb tn wb wn (run.0 e).0.read (λ p text meant says two. omega (arith, two, says.1)) (run.0 e).0.written
bilevel_not_two left rb rn tb tn wb wn solve true e o run = problem_not_two (solutions.SaysOfBilevel usual) tb tn wb wn (run.1 e).0.read (λ p text meant says two. ending_not_two says.end (two ∙ says.status_is)) (run.1 e).0.written

abbrev pub NotTwo : Type 0
NotTwo = (left : Option (List ℕ)) (rb rn : ℕ) (tb tn : Option (List ℕ)) (wb wn status : ℕ) → IsChecked left rb rn tb tn wb wn status → status ≡ 2 → ⊥

not_two : (o : Settings → Options) → NotTwo → (c : Command) (left : Option (List ℕ)) (rb rn : ℕ) (tb tn : Option (List ℕ)) (wb wn : ℕ) → Runs o c left rb rn tb tn wb wn 2 → ⊥
not_two o law Check left rb rn tb tn wb wn run = law left rb rn tb tn wb wn 2 run.0 refl
not_two o law Migrate left rb rn tb tn wb wn run =
    written_not_two tb tn wb wn (converted.text_of run.0.read) (converted.status_of run.0.read) (conversion_not_two run.0.read) run.0.written
not_two o law (Relax q) left rb rn tb tn wb wn run = run_not_two (relaxing.Says q) left rb rn tb tn wb wn (λ a text meant says e. relaxation_not_two says.end (e ∙ says.status_is)) run.0
not_two o law (Solve s) left rb rn tb tn wb wn run = solve_not_two (o s) (style_of s) left rb rn tb tn wb wn run.0
not_two o law (Tree s) left rb rn tb tn wb wn run = tree_not_two s left rb rn tb tn wb wn run.0
not_two o law (Edit s) left rb rn tb tn wb wn run = edits_not_two (session_options s) left rb rn tb tn wb wn run.0
not_two o law (Generate d) left rb rn tb tn wb wn run = made_not_two o d left rb rn tb tn wb wn d.solve refl run
not_two o law (Lcp solve) left rb rn tb tn wb wn run = lcp_not_two left rb rn tb tn wb wn solve solve refl o run
not_two o law (Bilevel solve) left rb rn tb tn wb wn run = bilevel_not_two left rb rn tb tn wb wn solve solve refl o run

pub never_two : (o : Settings → Options) → NotTwo → (c : Command) (left : Option (List ℕ)) (rb rn : ℕ) (tb tn : Option (List ℕ)) (wb wn status : ℕ) → Runs o c left rb rn tb tn wb wn status → status ≡ 2 → ⊥
never_two o law c left rb rn tb tn wb wn status run two = not_two o law c left rb rn tb tn wb wn (subst (λ (n : ℕ). Runs o c left rb rn tb tn wb wn n) two run)

-- ---- the commands

pub at_command : (o : Settings → Options) (c d : Command) (left : Option (List ℕ)) (rb rn : ℕ) (tb tn : Option (List ℕ)) (wb wn status : ℕ) → c ≡ d → Runs o d left rb rn tb tn wb wn status → Runs o c left rb rn tb tn wb wn status
at_command o c d left rb rn tb tn wb wn status e run = subst (λ (x : Command). Runs o x left rb rn tb tn wb wn status) (sym e) run

pub of_solve : (how : Settings → Options) (s : Settings) (o : Options) (style : Style) (left : Option (List ℕ)) (rb rn : ℕ) (tb tn : Option (List ℕ)) (wb wn status : ℕ) → o ≡ how s → style ≡ style_of s → IsRun (solving.Says o style) left rb rn tb tn wb wn status → (status ≡ 0 → (bytes : List ℕ) → left ≡ Some bytes → solving.SaysVerdict bytes o style tb tn) → ((bytes : List ℕ) → left ≡ Some bytes → (a : Instance) → SpellsAlone bytes a → solving.AreEnough a o → status ≡ 8 → ⊥) → Runs how (Solve s) left rb rn tb tn wb wn status
of_solve how s o style left rb rn tb tn wb wn status e same answered verdict enough = (
  subst (λ (y : Style). IsRun (solving.Says (how s) y) left rb rn tb tn wb wn status) same (subst (λ (x : Options). IsRun (solving.Says x style) left rb rn tb tn wb wn status) e answered),
  λ zero bytes told. subst (λ (y : Style). solving.SaysVerdict bytes (how s) y tb tn) same (subst (λ (x : Options). solving.SaysVerdict bytes x style tb tn) e (verdict zero bytes told)),
  λ bytes told a spelled many. enough bytes told a spelled (subst (λ (x : Options). solving.AreEnough a x) (sym e) many),
)

pub of_tree : (how : Settings → Options) (s : TreeSettings) (o : BranchOptions) (left : Option (List ℕ)) (rb rn : ℕ) (tb tn : Option (List ℕ)) (wb wn status : ℕ) → o ≡ limits_of s → IsRun (branching.Says o s.brief) left rb rn tb tn wb wn status → (status ≡ 0 → (bytes : List ℕ) → left ≡ Some bytes → branching.SaysVerdict bytes s.brief tb tn) → ((bytes : List ℕ) → left ≡ Some bytes → (a : Instance) → SpellsAlone bytes a → branching.AreEnough a o → status ≡ 8 → ⊥) → ((bytes : List ℕ) → left ≡ Some bytes → (a : Instance) → SpellsAlone bytes a → branching.NoneIsWide a → status ≡ 7 → ⊥) → Runs how (Tree s) left rb rn tb tn wb wn status
of_tree how s o left rb rn tb tn wb wn status e answered verdict enough narrow = (
  subst (λ (x : BranchOptions). IsRun (branching.Says x s.brief) left rb rn tb tn wb wn status) e answered,
  verdict,
  λ bytes told a spelled many. enough bytes told a spelled (subst (λ (x : BranchOptions). branching.AreEnough a x) (sym e) many),
  narrow,
)

pub of_edits : (how : Settings → Options) (s : EditSettings) (o : Options) (left : Option (List ℕ)) (rb rn : ℕ) (tb tn : Option (List ℕ)) (wb wn status : ℕ) → o ≡ session_options s → edit_runs.IsEditRun o left rb rn tb tn wb wn status → (status ≡ 0 → (bytes : List ℕ) → left ≡ Some bytes → edit_runs.SaysVerdicts bytes tb tn) → ((bytes : List ℕ) → left ≡ Some bytes → (a : Instance) (script : Script) → SpellsEdits bytes a script → edit_runs.AreEnough a script o → status ≡ 8 → ⊥) → Runs how (Edit s) left rb rn tb tn wb wn status
of_edits how s o left rb rn tb tn wb wn status e answered verdicts enough = (
  subst (λ (x : Options). edit_runs.IsEditRun x left rb rn tb tn wb wn status) e answered,
  verdicts,
  λ bytes told a script spelled many. enough bytes told a script spelled (subst (λ (x : Options). edit_runs.AreEnough a script x) (sym e) many),
)

-- the workers matter to a solve alone
pub of_alone : (c : Command) (left : Option (List ℕ)) (rb rn : ℕ) (tb tn : Option (List ℕ)) (wb wn status : ℕ) → IsNoSolve c → Runs by_one_worker c left rb rn tb tn wb wn status → Runs as_asked c left rb rn tb tn wb wn status
of_alone Check left rb rn tb tn wb wn status other run = run
of_alone Migrate left rb rn tb tn wb wn status other run = run
of_alone (Relax q) left rb rn tb tn wb wn status other run = run
of_alone (Solve s) left rb rn tb tn wb wn status other run = absurd (other s refl)
of_alone (Tree s) left rb rn tb tn wb wn status other run = run
of_alone (Edit s) left rb rn tb tn wb wn status other run = run
of_alone (Generate d) left rb rn tb tn wb wn status other run = run
of_alone (Lcp solve) left rb rn tb tn wb wn status other run = run
of_alone (Bilevel solve) left rb rn tb tn wb wn status other run = run

pub of_usual : (how : Settings → Options) (d : Draft) (o : Options) (left : Option (List ℕ)) (rb rn : ℕ) (tb tn : Option (List ℕ)) (wb wn status : ℕ) → d.solve ≡ true → o ≡ usual → IsGeneratedAndSolved o (sizes_of d) tb tn wb wn status → Runs how (Generate d) left rb rn tb tn wb wn status
of_usual how d o left rb rn tb tn wb wn status on e made = (
  λ off. absurd (cc (on, off)),
  λ _. subst (λ (x : Options). IsGeneratedAndSolved x (sizes_of d) tb tn wb wn status) e made,
)

-- a problem is printed or solved
pub of_lcp : (how : Settings → Options) (solve : Bool) (o : Options) (left : Option (List ℕ)) (rb rn : ℕ) (tb tn : Option (List ℕ)) (wb wn status : ℕ) → solve ≡ true → o ≡ usual → fronts.IsLcpRun (solutions.SaysOfLcp o) left rb rn tb tn wb wn status → (status ≡ 0 → (bytes : List ℕ) → left ≡ Some bytes → solutions.IsLcpAnswered bytes tb tn) → Runs how (Lcp solve) left rb rn tb tn wb wn status
of_lcp how solve o left rb rn tb tn wb wn status on e answered solved = (
  λ off. absurd (cc (on, off)),
  λ _. (subst (λ (x : Options). fronts.IsLcpRun (solutions.SaysOfLcp x) left rb rn tb tn wb wn status) e answered, solved),
)

pub of_bilevel : (how : Settings → Options) (solve : Bool) (o : Options) (left : Option (List ℕ)) (rb rn : ℕ) (tb tn : Option (List ℕ)) (wb wn status : ℕ) → solve ≡ true → o ≡ usual → fronts.IsBilevelRun (solutions.SaysOfBilevel o) left rb rn tb tn wb wn status → (status ≡ 0 → (bytes : List ℕ) → left ≡ Some bytes → solutions.IsBilevelAnswered bytes tb tn) → Runs how (Bilevel solve) left rb rn tb tn wb wn status
of_bilevel how solve o left rb rn tb tn wb wn status on e answered solved = (
  λ off. absurd (cc (on, off)),
  λ _. (subst (λ (x : Options). fronts.IsBilevelRun (solutions.SaysOfBilevel x) left rb rn tb tn wb wn status) e answered, solved),
)

-- ---- want of memory

short_problem : {P : Type 0} (Spells : List ℕ → P → Type 0) (Fails : List ℕ → ℕ → FrontWhy → Type 0) (Says : P → List ℕ → ℕ → Type 0) (left : Option (List ℕ)) (count : ℕ) (tb tn : Option (List ℕ)) (wb wn status : ℕ) → IsOutOfMemory tb tn wb wn status → fronts.IsFrontRun Spells Fails Says left count count tb tn wb wn status
short_problem Spells Fails Says left count tb tn wb wn status short = record { read = Err front_refusal.NoMemory; right = record { counted = λ e. absurd (cc e); right = λ bytes told. inr (inl refl) }; written = short }

short_read : (left : Option (List ℕ)) (count : ℕ) → IsRightCase left count count (Err NoMemory)
short_read left count = record { counted = λ e. absurd (cc e); right = λ bytes told. inr (inl refl) }

short_run : (Says : Instance → List ℕ → ℕ → Type 0) (left : Option (List ℕ)) (count : ℕ) (tb tn : Option (List ℕ)) (wb wn status : ℕ) → IsOutOfMemory tb tn wb wn status → IsRun Says left count count tb tn wb wn status
short_run Says left count tb tn wb wn status short = record { read = Err NoMemory; right = short_read left count; written = short }

short_check : (left : Option (List ℕ)) (count : ℕ) (tb tn : Option (List ℕ)) (wb wn status : ℕ) → IsOutOfMemory tb tn wb wn status → IsChecked left count count tb tn wb wn status
short_check left count tb tn wb wn status short = record { answer = Refused NoMemory; right = record { counted = λ e. absurd (cc e); right = λ bytes told. inr (inl refl) }; written = short }

short_conversion : (left : Option (List ℕ)) (count : ℕ) (tb tn : Option (List ℕ)) (wb wn status : ℕ) → IsOutOfMemory tb tn wb wn status → converted.IsConverted left count count tb tn wb wn status
short_conversion left count tb tn wb wn status short = record { read = Err certificate_refusal.NoMemory; right = record { counted = λ e. absurd (cc e); right = λ bytes told. inr (inl refl) }; written = short }

short_edits : (o : Options) (left : Option (List ℕ)) (count : ℕ) (tb tn : Option (List ℕ)) (wb wn status : ℕ) → IsOutOfMemory tb tn wb wn status → edit_runs.IsEditRun o left count count tb tn wb wn status
short_edits o left count tb tn wb wn status short = record {
  read = Err (edit_refusal.Input NoMemory);
  right = record { counted = λ e. absurd (cc e); right = λ bytes told. inr (inl refl) };
  said = Err (edit_refusal.Input NoMemory);
  says = refl;
  written = short;
}

five_or_six : (tb tn : Option (List ℕ)) (wb wn status : ℕ) → IsOutOfMemory tb tn wb wn status → (status ≡ 5) ⊎ (status ≡ 6)
five_or_six tb tn wb wn status (inl w) = inr w.0
five_or_six tb tn wb wn status (inr w) = inl w.0

is_other : (k status : ℕ) → k ≢ 5 → k ≢ 6 → (status ≡ 5) ⊎ (status ≡ 6) → status ≡ k → ⊥
is_other k status five six (inl e) same = five (sym same ∙ e)
is_other k status five six (inr e) same = six (sym same ∙ e)

-- want of memory is an answer to every command
pub of_memory : (how : Settings → Options) (c : Command) (left : Option (List ℕ)) (count : ℕ) (tb tn : Option (List ℕ)) (wb wn status : ℕ) → IsOutOfMemory tb tn wb wn status → Runs how c left count count tb tn wb wn status
of_memory how Check left count tb tn wb wn status short =
    let five_six = five_or_six tb tn wb wn status short in
    (short_check left count tb tn wb wn status short, λ zero. absurd (is_other 0 status (λ e. omega arith) (λ e. omega arith) five_six zero))
of_memory how Migrate left count tb tn wb wn status short =
    let five_six = five_or_six tb tn wb wn status short in
    (short_conversion left count tb tn wb wn status short, λ zero. absurd (is_other 0 status (λ e. omega arith) (λ e. omega arith) five_six zero))
of_memory how (Relax q) left count tb tn wb wn status short =
    let five_six = five_or_six tb tn wb wn status short in
    (short_run (relaxing.Says q) left count tb tn wb wn status short, λ zero. absurd (is_other 0 status (λ e. omega arith) (λ e. omega arith) five_six zero), λ bytes told a spelled many eight. is_other 8 status (λ e. omega arith) (λ e. omega arith) five_six eight)
of_memory how (Solve s) left count tb tn wb wn status short =
    let five_six = five_or_six tb tn wb wn status short in
    (short_run (solving.Says (how s) (style_of s)) left count tb tn wb wn status short, λ zero. absurd (is_other 0 status (λ e. omega arith) (λ e. omega arith) five_six zero), λ bytes told a spelled many eight. is_other 8 status (λ e. omega arith) (λ e. omega arith) five_six eight)
of_memory how (Tree s) left count tb tn wb wn status short =
    let five_six = five_or_six tb tn wb wn status short in
    (short_run (branching.Says (limits_of s) s.brief) left count tb tn wb wn status short, λ zero. absurd (is_other 0 status (λ e. omega arith) (λ e. omega arith) five_six zero), λ bytes told a spelled many eight. is_other 8 status (λ e. omega arith) (λ e. omega arith) five_six eight, λ bytes told a spelled none seven. is_other 7 status (λ e. omega arith) (λ e. omega arith) five_six seven)
of_memory how (Edit s) left count tb tn wb wn status short =
    let five_six = five_or_six tb tn wb wn status short in
    (short_edits (session_options s) left count tb tn wb wn status short, λ zero. absurd (is_other 0 status (λ e. omega arith) (λ e. omega arith) five_six zero), λ bytes told a script spelled many eight. is_other 8 status (λ e. omega arith) (λ e. omega arith) five_six eight)
of_memory how (Generate d) left count tb tn wb wn status short = (λ off. inr short, λ on. inr short)
of_memory how (Lcp solve) left count tb tn wb wn status short =
    let five_six = five_or_six tb tn wb wn status short in
    let never : status ≡ 0 → ⊥ = is_other 0 status (λ e. omega arith) (λ e. omega arith) five_six in
    (λ off. (short_problem SpellsLcp FailsAsLcp fronts.IsLcpDeck left count tb tn wb wn status short, λ zero. absurd (never zero)), λ on. (short_problem SpellsLcp FailsAsLcp (solutions.SaysOfLcp usual) left count tb tn wb wn status short, λ zero. absurd (never zero)))
of_memory how (Bilevel solve) left count tb tn wb wn status short =
    let five_six = five_or_six tb tn wb wn status short in
    let never : status ≡ 0 → ⊥ = is_other 0 status (λ e. omega arith) (λ e. omega arith) five_six in
    (λ off. (short_problem SpellsBilevel FailsAsBilevel fronts.IsBilevelDeck left count tb tn wb wn status short, λ zero. absurd (never zero)), λ on. (short_problem SpellsBilevel FailsAsBilevel (solutions.SaysOfBilevel usual) left count tb tn wb wn status short, λ zero. absurd (never zero)))

pub memory_never_two : (tb tn : Option (List ℕ)) (wb wn status : ℕ) → IsOutOfMemory tb tn wb wn status → status ≡ 2 → ⊥
memory_never_two tb tn wb wn status short two = is_other 2 status (λ e. omega arith) (λ e. omega arith) (five_or_six tb tn wb wn status short) two

-- ---- the answers to words

pub answers_to_command : (how : Settings → Options) (words : List (List ℕ)) (c : Command) (left : Option (List ℕ)) (rb rn : ℕ) (tb tn : Option (List ℕ)) (wb wn status : ℕ) → NotTwo → IsCommand words c → Runs how c left rb rn tb tn wb wn status → Answers how words left rb rn tb tn wb wn status
answers_to_command how words c left rb rn tb tn wb wn status law is run = record {
  refused = λ none. absurd (none c is);
  refused_only = λ two. absurd (never_two how law c left rb rn tb tn wb wn status run two);
  answered = λ d other. of_one how words c d left rb rn tb tn wb wn status is other run;
}

pub answers_to_no_command : (how : Settings → Options) (words : List (List ℕ)) (left : Option (List ℕ)) (rb rn : ℕ) (tb tn : Option (List ℕ)) (wb wn status : ℕ) → IsNoCommand words → IsWritten tb tn wb wn words_refused 2 status → Answers how words left rb rn tb tn wb wn status
answers_to_no_command how words left rb rn tb tn wb wn status none written = record {
  refused = λ _. inl written;
  refused_only = λ _. none;
  answered = λ c is. absurd (none c is);
}

pub answers_without_memory : (how : Settings → Options) (words : List (List ℕ)) (left : Option (List ℕ)) (count : ℕ) (tb tn : Option (List ℕ)) (wb wn status : ℕ) → IsOutOfMemory tb tn wb wn status → Answers how words left count count tb tn wb wn status
answers_without_memory how words left count tb tn wb wn status short = record {
  refused = λ _. inr short;
  refused_only = λ two. absurd (memory_never_two tb tn wb wn status short two);
  answered = λ c is. of_memory how c left count tb tn wb wn status short;
}
