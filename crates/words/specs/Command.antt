-- The simple command by whose rules words are read: a word for the command, up to four numbers, options with one value each
-- and flags.
use Rattle.std.specs.Prelude.{Some, codes, true}
use Rattle.clap.specs.Words.{App, Rule, Text, new_app, new_rule, with_rule}
use Rattle.clap.specs.Simple.{on_top}
use Rattle.clap.specs.declared.builder.ArgAction.TheVariants.{SetTrue}

-- the command's word
abbrev pub name_rule : Rule
name_rule = record (new_rule (codes "command")) { required = true }

-- up to four numbers
abbrev pub numbers_rule : Rule
numbers_rule = record (new_rule (codes "numbers")) { range = Some (record { start_inclusive = 0; end_inclusive = 4 }) }

-- -j
abbrev pub workers_rule : Rule
workers_rule = record (new_rule (codes "workers")) { short = Some 106 }

-- an option with one value
abbrev pub option_rule : Text → Rule
option_rule name = record (new_rule name) { long = Some name }

abbrev pub flag_rule : Text → Rule
flag_rule name = record (new_rule name) { long = Some name; action = Some SetTrue }

-- the first of these words is not the program's name
unfoldable pub bare : App
bare = on_top (λ s. record s { no_binary_name = true }) (new_app (codes "lpcc"))

unfoldable pub options : App
options = with_rule (with_rule (with_rule (with_rule bare name_rule) numbers_rule) workers_rule) (option_rule (codes "pieces"))

unfoldable pub tuned : App
tuned = with_rule (with_rule (with_rule options (option_rule (codes "pivots"))) (option_rule (codes "nodes"))) (option_rule (codes "shrink"))

unfoldable pub lpcc_command : App
lpcc_command = with_rule (with_rule (with_rule tuned (option_rule (codes "form"))) (flag_rule (codes "brief"))) (flag_rule (codes "solve"))
