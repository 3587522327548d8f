-- The commands that words are.
use Rattle.std.specs.Prelude.{if◌then◌else◌, ◌||◌, ℕ, Bool, true, false, List, [], ◌∷◌, Option, None, Some, codes, find, option_and_then, option_map, unwrap_or}
use Rattle.std.specs.Str.{bytes_eq}
use Rattle.clap.specs.Words.{Kinds, Row, Text, all_of, fault_of, first_of, matches_of}
use Rattle.clap.specs.declared.parser.ValueSource.{ValueSource}
use Rattle.clap.specs.declared.parser.ValueSource.TheVariants.{CommandLine, DefaultValue}
use Rattle.words.specs.declared.command.Command.{Command}
use Rattle.words.specs.declared.command.Command.TheVariants.{Bilevel, Check, Edit, Generate, Lcp, Migrate, Relax, Solve, Tree}
use Rattle.words.specs.declared.command.Draft.{Draft}
use Rattle.words.specs.declared.command.EditSettings.{EditSettings}
use Rattle.words.specs.declared.command.Form.{Form}
use Rattle.words.specs.declared.command.Form.TheVariants.{One, Two}
use Rattle.words.specs.declared.command.Settings.{Settings}
use Rattle.words.specs.declared.command.TreeSettings.{TreeSettings}
use Rattle.words.specs.declared.command.TheConstants.{MOST_WORKERS, USUAL_NODES, USUAL_PIECES, USUAL_PIVOTS}
use Rattle.words.specs.declared.numbers.TheConstants.{MOST}
use Rattle.words.specs.Command.{lpcc_command}
use Rattle.words.specs.Numbers.{number_in}

-- ---- what a parse of the words gives, argument by argument

abbrev pub is_of_words : Option ValueSource → Bool
is_of_words None = false
is_of_words (Some DefaultValue) = false
is_of_words (Some CommandLine) = true

abbrev pub source_of : Text → List Row → Option ValueSource
source_of id rows = option_and_then (λ r. r.source) (find (λ r. bytes_eq r.id id) rows)

-- the argument stands among the words
abbrev pub stands : Text → List Row → Bool
stands id rows = is_of_words (source_of id rows)

abbrev pub numbers_of : List Row → List Text
numbers_of rows = unwrap_or (all_of (codes "numbers") rows) []

-- a number from 1 to the most, or the usual one where there is no text
abbrev pub number_or : ℕ → ℕ → Option Text → Option ℕ
number_or usual most None = Some usual
number_or usual most (Some w) = number_in 1 most w

-- `full`, as is usual, or `none`
abbrev pub is_full : Option Text → Option Bool
is_full None = Some true
is_full (Some w) = if bytes_eq w (codes "full") then Some true else if bytes_eq w (codes "none") then Some false else None

-- form 2, as is usual, or form 1
abbrev pub form_of : Option Text → Option Form
form_of None = Some Two
form_of (Some w) = if bytes_eq w (codes "1") then Some One else if bytes_eq w (codes "2") then Some Two else None

-- ---- which arguments stand that a command does not take

abbrev pub is_beyond_solve : List Row → Bool
is_beyond_solve rows = stands (codes "numbers") rows || stands (codes "solve") rows || stands (codes "nodes") rows

abbrev pub is_beyond_relax : List Row → Bool
is_beyond_relax rows = is_beyond_solve rows || stands (codes "workers") rows || stands (codes "pieces") rows || stands (codes "shrink") rows || stands (codes "form") rows || stands (codes "brief") rows

abbrev pub is_beyond_check : List Row → Bool
is_beyond_check rows = is_beyond_relax rows || stands (codes "pivots") rows

abbrev pub is_beyond_tree : List Row → Bool
is_beyond_tree rows = stands (codes "numbers") rows || stands (codes "solve") rows || stands (codes "workers") rows || stands (codes "pieces") rows || stands (codes "shrink") rows || stands (codes "form") rows

abbrev pub is_beyond_edit : List Row → Bool
is_beyond_edit rows = is_beyond_solve rows || stands (codes "workers") rows || stands (codes "shrink") rows || stands (codes "form") rows || stands (codes "brief") rows

abbrev pub is_beyond_gen : List Row → Bool
is_beyond_gen rows = stands (codes "workers") rows || stands (codes "pieces") rows || stands (codes "pivots") rows || stands (codes "nodes") rows || stands (codes "shrink") rows || stands (codes "form") rows || stands (codes "brief") rows

abbrev pub is_beyond_front : List Row → Bool
is_beyond_front rows = stands (codes "numbers") rows || is_beyond_gen rows

-- ---- the commands

abbrev pub settings : ℕ → ℕ → ℕ → Bool → Bool → Form → Settings
settings workers pieces pivots full brief form = record { workers = workers; pieces = pieces; pivots = pivots; full = full; brief = brief; form = form }

abbrev pub tree_settings : ℕ → ℕ → Bool → TreeSettings
tree_settings nodes pivots brief = record { nodes = nodes; pivots = pivots; brief = brief }

abbrev pub edit_settings : ℕ → ℕ → EditSettings
edit_settings pieces pivots = record { pieces = pieces; pivots = pivots }

abbrev pub draft : Bool → ℕ → ℕ → ℕ → ℕ → Draft
draft solve seed columns rows pairs = record { seed = seed; columns = columns; rows = rows; pairs = pairs; solve = solve }

abbrev pub check_of : List Row → Option Command
check_of rows = if is_beyond_check rows then None else Some Check

abbrev pub migrate_of : List Row → Option Command
migrate_of rows = if is_beyond_check rows then None else Some Migrate

abbrev pub relax_of : List Row → Option Command
relax_of rows = if is_beyond_relax rows then None else option_map Relax (number_or USUAL_PIVOTS MOST (first_of (codes "pivots") rows))

abbrev pub settings_of : List Row → Option Settings
settings_of rows =
    option_and_then (λ workers.
    option_and_then (λ pieces.
    option_and_then (λ pivots.
    option_and_then (λ full.
    option_map (λ form. settings workers pieces pivots full (stands (codes "brief") rows) form)
    (form_of (first_of (codes "form") rows)))
    (is_full (first_of (codes "shrink") rows)))
    (number_or USUAL_PIVOTS MOST (first_of (codes "pivots") rows)))
    (number_or USUAL_PIECES MOST (first_of (codes "pieces") rows)))
    (number_or 1 MOST_WORKERS (first_of (codes "workers") rows))

abbrev pub solve_of : List Row → Option Command
solve_of rows = if is_beyond_solve rows then None else option_map Solve (settings_of rows)

abbrev pub tree_settings_of : List Row → Option TreeSettings
tree_settings_of rows =
    option_and_then (λ nodes.
    option_map (λ pivots. tree_settings nodes pivots (stands (codes "brief") rows))
    (number_or USUAL_PIVOTS MOST (first_of (codes "pivots") rows)))
    (number_or USUAL_NODES MOST (first_of (codes "nodes") rows))

abbrev pub tree_of : List Row → Option Command
tree_of rows = if is_beyond_tree rows then None else option_map Tree (tree_settings_of rows)

abbrev pub edit_settings_of : List Row → Option EditSettings
edit_settings_of rows =
    option_and_then (λ pieces.
    option_map (λ pivots. edit_settings pieces pivots)
    (number_or USUAL_PIVOTS MOST (first_of (codes "pivots") rows)))
    (number_or USUAL_PIECES MOST (first_of (codes "pieces") rows))

abbrev pub edit_of : List Row → Option Command
edit_of rows = if is_beyond_edit rows then None else option_map Edit (edit_settings_of rows)

abbrev pub draft_of : Bool → List Text → Option Draft
draft_of solve (s ∷ c ∷ r ∷ p ∷ []) =
    option_and_then (λ seed.
    option_and_then (λ columns.
    option_and_then (λ lines.
    option_map (λ pairs. draft solve seed columns lines pairs)
    (number_in 0 MOST p))
    (number_in 0 MOST r))
    (number_in 0 MOST c))
    (number_in 0 MOST s)
draft_of solve [] = None
draft_of solve (s ∷ []) = None
draft_of solve (s ∷ c ∷ []) = None
draft_of solve (s ∷ c ∷ r ∷ []) = None
draft_of solve (s ∷ c ∷ r ∷ p ∷ w ∷ ws) = None

abbrev pub gen_of : List Row → Option Command
gen_of rows = if is_beyond_gen rows then None else option_map Generate (draft_of (stands (codes "solve") rows) (numbers_of rows))

abbrev pub lcp_of : List Row → Option Command
lcp_of rows = if is_beyond_front rows then None else Some (Lcp (stands (codes "solve") rows))

abbrev pub bilevel_of : List Row → Option Command
bilevel_of rows = if is_beyond_front rows then None else Some (Bilevel (stands (codes "solve") rows))

abbrev pub command_named : Text → List Row → Option Command
command_named w rows =
    if bytes_eq w (codes "check") then check_of rows
    else if bytes_eq w (codes "migrate") then migrate_of rows
    else if bytes_eq w (codes "relax") then relax_of rows
    else if bytes_eq w (codes "gen") then gen_of rows
    else if bytes_eq w (codes "solve") then solve_of rows
    else if bytes_eq w (codes "tree") then tree_of rows
    else if bytes_eq w (codes "edit") then edit_of rows
    else if bytes_eq w (codes "lcp") then lcp_of rows
    else if bytes_eq w (codes "bilevel") then bilevel_of rows
    else None

abbrev pub command_in : List Row → Option Command
command_in rows = command_named (unwrap_or (first_of (codes "command") rows) []) rows

-- no kind of error
abbrev pub if_none : {A : Type 0} → Kinds → Option A → Option A
if_none [] found = found
if_none (kind ∷ kinds) found = None

-- the words, those behind the program's name, are a command where the rules of `lpcc_command` take them and what they give
-- is one
abbrev pub command_of : List Text → Option Command
command_of words = if_none (fault_of lpcc_command words) (command_in (matches_of lpcc_command words))
