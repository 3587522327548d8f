use Rattle.std.proofs.Common.{rules, ◌≡◌, List}
use Rattle.std.specs.Prelude.{OnOk}
use Rattle.mps_lex.specs.Kinds.{Name}
use Rattle.decks.specs.Faults.{column_words_fault}
use Rattle.decks.specs.Spelling.{field}
use Rattle.mps_tables.specs.Known.{rows_here, with_column}
use Rattle.mps_tables.specs.Answers.{Judges}
use Rattle.mps_tables.proofs.Shapes.{three, five, other_column}
use Rattle.mps_tables.proofs.columns.ColumnTable.parse_words.Goals as goal

pub returns-in-len3-clause-ok : goal.returns-in-len3-clause-ok
returns-in-len3-clause-ok c = three (λ (x : List Name). OnOk c.parse_one.result (c.parse_one.new.self ≡ with_column c.args.rows.now c.args.self.now x)) c.args.fields.now _ c.in-len3.len_at_least c.in-len3.len_below c.parse_one.ensures.ok

pub returns-in-len5-clause-fault : goal.returns-in-len5-clause-fault
returns-in-len5-clause-fault c =
    five (λ (x : List Name). Judges c.parse_two.result (column_words_fault c.args.rows.now c.args.self.now.names (rows_here c.args.self.now (field 0 x)) c.args.self.now.count x)) c.args.fields.now _ c.in-len5.len_at_least c.in-len5.len_below c.parse_two.ensures.fault

pub returns-in-len5-clause-ok : goal.returns-in-len5-clause-ok
returns-in-len5-clause-ok c = five (λ (x : List Name). OnOk c.parse_two.result (c.parse_two.new.self ≡ with_column c.args.rows.now c.args.self.now x)) c.args.fields.now _ c.in-len5.len_at_least c.in-len5.len_below c.parse_two.ensures.ok

pub returns-in_default-clause-fault : goal.returns-in_default-clause-fault
returns-in_default-clause-fault c = other_column c.args.rows.now c.args.self.now.names _ c.args.self.now.count c.args.fields.now (search rules) (search rules)

pub returns-in_default-2-clause-fault : goal.returns-in_default-2-clause-fault
returns-in_default-2-clause-fault c = other_column c.args.rows.now c.args.self.now.names _ c.args.self.now.count c.args.fields.now (search rules) (search rules)

pub returns-in_default-3-clause-fault : goal.returns-in_default-3-clause-fault
returns-in_default-3-clause-fault c = other_column c.args.rows.now c.args.self.now.names _ c.args.self.now.count c.args.fields.now (search rules) (search rules)
