-- The commands of the program, and what a run of each says.
use Rattle.std.specs.Prelude.{◌≡◌, ◌≤◌, ⊤, if◌then◌else◌, ℕ, true, false, List, Option, Some}
use Rattle.lpcc_case.specs.Instance.{Instance}
use Rattle.branching.specs.Branching as branching
use Rattle.command.specs.Inputs.{SpellsAlone}
use Rattle.command.specs.Runs.{IsRun}
use Rattle.converting.specs.Runs.{IsConverted, SaysConverted}
use Rattle.deck_gen.specs.Generator.{IsInRange}
use Rattle.deck_gen.specs.declared.sizes.Sizes.{Sizes}
use Rattle.edit_solving.specs.Runs as editing
use Rattle.edit_text.specs.declared.script.Script.{Script}
use Rattle.editing.specs.Inputs.{SpellsEdits}
use Rattle.generating.specs.Generating.{IsGenerated, IsGeneratedAndSolved}
use Rattle.fronting.specs.Runs.{IsBilevelDeck, IsBilevelRun, IsLcpDeck, IsLcpRun, SaysBilevelDeck, SaysLcpDeck}
use Rattle.front_solving.specs.Solving.{IsBilevelAnswered, IsLcpAnswered, SaysOfBilevel, SaysOfLcp}
use Rattle.play.specs.declared.event.Options.{Options}
use Rattle.play.specs.declared.event.ShrinkMode.TheVariants.{Full, Off}
use Rattle.relaxing.specs.Relaxing as relaxing
use Rattle.report.specs.declared.style.Style.{Style}
use Rattle.report.specs.declared.style.Style.TheVariants.{Brief, One, Two}
use Rattle.solving.specs.Solving as solving
use Rattle.tree_engine.specs.declared.answer.BranchOptions.{BranchOptions}
use Rattle.verifier.specs.Runs.{IsChecked, SaysYes}
use Rattle.words.specs.Commands.{command_of}
use Rattle.words.specs.declared.command.Command.{Command}
use Rattle.words.specs.declared.command.Command.TheVariants.{Bilevel, Check, Edit, Generate, Lcp, Migrate, Relax, Solve, Tree}
use Rattle.words.specs.declared.command.Draft.{Draft}
use Rattle.words.specs.declared.command.EditSettings.{EditSettings}
use Rattle.words.specs.declared.command.Form.{Form}
use Rattle.words.specs.declared.command.Form.TheVariants as form
use Rattle.words.specs.declared.command.Settings.{Settings}
use Rattle.words.specs.declared.command.TreeSettings.{TreeSettings}
use Rattle.words.specs.declared.command.TheConstants.{MOST_WORKERS, USUAL_PIECES, USUAL_PIVOTS}

-- there is such a deck; there may be so many workers
abbrev pub IsPossible : Command → Type 0
IsPossible Check = ⊤
IsPossible Migrate = ⊤
IsPossible (Relax pivots) = ⊤
IsPossible (Solve settings) = (1 ≤ settings.workers) × (settings.workers ≤ MOST_WORKERS)
IsPossible (Tree settings) = ⊤
IsPossible (Edit settings) = ⊤
IsPossible (Generate draft) = IsInRange draft.columns draft.rows draft.pairs
IsPossible (Lcp solve) = ⊤
IsPossible (Bilevel solve) = ⊤

-- the words are this command
abbrev pub IsCommand : List (List ℕ) → Command → Type 0
IsCommand words command = (command_of words ≡ Some command) × IsPossible command

abbrev pub IsNoCommand : List (List ℕ) → Type 0
IsNoCommand words = (c : Command) → IsCommand words c → ⊥

-- the words are no command, or a deck is made
abbrev pub ReadsNothing : List (List ℕ) → Type 0
ReadsNothing words = (c : Command) → IsCommand words c → (d : Draft) × (c ≡ Generate d)

abbrev pub IsNoSolve : Command → Type 0
IsNoSolve command = (settings : Settings) → command ≡ Solve settings → ⊥

-- ---- the options of a solve

-- as the words ask for it
abbrev pub as_asked : Settings → Options
as_asked s = record { workers = s.workers; pieces = s.pieces; pivots = s.pivots; shrink = if s.full then Full else Off }

-- with one worker, whatever number of workers the words name
abbrev pub by_one_worker : Settings → Options
by_one_worker s = record (as_asked s) { workers = 1 }

-- the style of a certificate in this form
abbrev pub in_form : Form → Style
in_form form.One = One
in_form form.Two = Two

-- what is written of a verdict: its certificate in the form that is asked for, unless it is to be brief
abbrev pub style_of : Settings → Style
style_of s = if s.brief then Brief else in_form s.form

abbrev pub usual : Options
usual = record { workers = 1; pieces = USUAL_PIECES; pivots = USUAL_PIVOTS; shrink = Full }

-- how long a search by branching may be
abbrev pub limits_of : TreeSettings → BranchOptions
limits_of s = record { nodes = s.nodes; pivots = s.pivots }

-- the options of the answers to a script: those of a solve whose words name no others
abbrev pub session_options : EditSettings → Options
session_options s = record usual { pieces = s.pieces; pivots = s.pivots }

abbrev pub sizes_of : Draft → Sizes
sizes_of d = record { seed = d.seed; columns = d.columns; rows = d.rows; pairs = d.pairs }

-- ---- what a run says

-- the deck of the problem is written; status 0 says that it was, and what the deck means
abbrev pub IsLcpPrinted : Option (List ℕ) → ℕ → ℕ → Option (List ℕ) → Option (List ℕ) → ℕ → ℕ → ℕ → Type 0
IsLcpPrinted left rb rn tb tn wb wn status =
    IsLcpRun IsLcpDeck left rb rn tb tn wb wn status
    × (status ≡ 0 → (bytes : List ℕ) → left ≡ Some bytes → SaysLcpDeck bytes tb tn)

abbrev pub IsBilevelPrinted : Option (List ℕ) → ℕ → ℕ → Option (List ℕ) → Option (List ℕ) → ℕ → ℕ → ℕ → Type 0
IsBilevelPrinted left rb rn tb tn wb wn status =
    IsBilevelRun IsBilevelDeck left rb rn tb tn wb wn status
    × (status ≡ 0 → (bytes : List ℕ) → left ≡ Some bytes → SaysBilevelDeck bytes tb tn)

-- the problem is solved by its deck; status 0 says that the answer is true of it
abbrev pub IsLcpSolved : Option (List ℕ) → ℕ → ℕ → Option (List ℕ) → Option (List ℕ) → ℕ → ℕ → ℕ → Type 0
IsLcpSolved left rb rn tb tn wb wn status =
    IsLcpRun (SaysOfLcp usual) left rb rn tb tn wb wn status
    × (status ≡ 0 → (bytes : List ℕ) → left ≡ Some bytes → IsLcpAnswered bytes tb tn)

abbrev pub IsBilevelSolved : Option (List ℕ) → ℕ → ℕ → Option (List ℕ) → Option (List ℕ) → ℕ → ℕ → ℕ → Type 0
IsBilevelSolved left rb rn tb tn wb wn status =
    IsBilevelRun (SaysOfBilevel usual) left rb rn tb tn wb wn status
    × (status ≡ 0 → (bytes : List ℕ) → left ≡ Some bytes → IsBilevelAnswered bytes tb tn)

-- What a run of the command does over a source with these bytes left and a sink that took these, with the counts of faults
-- of both before and behind it, a solve being made with the options that `options_of` gives it: the right answer is
-- written; what status 0 says; and that budgets which are enough are never spent.
abbrev pub Runs : (Settings → Options) → Command → Option (List ℕ) → ℕ → ℕ → Option (List ℕ) → Option (List ℕ) → ℕ → ℕ → ℕ → Type 0
Runs options_of Check left rb rn tb tn wb wn status =
    IsChecked left rb rn tb tn wb wn status
    × (status ≡ 0 → (bytes : List ℕ) → left ≡ Some bytes → SaysYes bytes tb tn)
Runs options_of Migrate left rb rn tb tn wb wn status =
    IsConverted left rb rn tb tn wb wn status
    × (status ≡ 0 → (bytes : List ℕ) → left ≡ Some bytes → SaysConverted bytes tb tn)
Runs options_of (Relax pivots) left rb rn tb tn wb wn status =
    IsRun (relaxing.Says pivots) left rb rn tb tn wb wn status
    × (status ≡ 0 → (bytes : List ℕ) → left ≡ Some bytes → relaxing.SaysVerdict bytes tb tn)
    × ((bytes : List ℕ) → left ≡ Some bytes → (a : Instance) → SpellsAlone bytes a → relaxing.AreEnough a pivots → status ≡ 8 → ⊥)
Runs options_of (Solve settings) left rb rn tb tn wb wn status =
    IsRun (solving.Says (options_of settings) (style_of settings)) left rb rn tb tn wb wn status
    × (status ≡ 0 → (bytes : List ℕ) → left ≡ Some bytes → solving.SaysVerdict bytes (options_of settings) (style_of settings) tb tn)
    × ((bytes : List ℕ) → left ≡ Some bytes → (a : Instance) → SpellsAlone bytes a → solving.AreEnough a (options_of settings) → status ≡ 8 → ⊥)
Runs options_of (Tree settings) left rb rn tb tn wb wn status =
    IsRun (branching.Says (limits_of settings) settings.brief) left rb rn tb tn wb wn status
    × (status ≡ 0 → (bytes : List ℕ) → left ≡ Some bytes → branching.SaysVerdict bytes settings.brief tb tn)
    × ((bytes : List ℕ) → left ≡ Some bytes → (a : Instance) → SpellsAlone bytes a → branching.AreEnough a (limits_of settings) → status ≡ 8 → ⊥)
    × ((bytes : List ℕ) → left ≡ Some bytes → (a : Instance) → SpellsAlone bytes a → branching.NoneIsWide a → status ≡ 7 → ⊥)
Runs options_of (Edit settings) left rb rn tb tn wb wn status =
    editing.IsEditRun (session_options settings) left rb rn tb tn wb wn status
    × (status ≡ 0 → (bytes : List ℕ) → left ≡ Some bytes → editing.SaysVerdicts bytes tb tn)
    × ((bytes : List ℕ) → left ≡ Some bytes → (a : Instance) (script : Script) → SpellsEdits bytes a script → editing.AreEnough a script (session_options settings) → status ≡ 8 → ⊥)
Runs options_of (Generate draft) left rb rn tb tn wb wn status =
    (draft.solve ≡ false → IsGenerated (sizes_of draft) tb tn wb wn status)
    × (draft.solve ≡ true → IsGeneratedAndSolved usual (sizes_of draft) tb tn wb wn status)
Runs options_of (Lcp solve) left rb rn tb tn wb wn status =
    (solve ≡ false → IsLcpPrinted left rb rn tb tn wb wn status) × (solve ≡ true → IsLcpSolved left rb rn tb tn wb wn status)
Runs options_of (Bilevel solve) left rb rn tb tn wb wn status =
    (solve ≡ false → IsBilevelPrinted left rb rn tb tn wb wn status) × (solve ≡ true → IsBilevelSolved left rb rn tb tn wb wn status)
