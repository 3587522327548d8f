use Rattle.std.proofs.Common.{ap, ◌∙◌, List, map}
use Rattle.std.specs.List.{position_or_len}
use Rattle.mps_lex.specs.Kinds.{Name}
use Rattle.decks.specs.declared.deck.Row.{Row}
use Rattle.decks.specs.Spelling.{is_n}
use Rattle.mps_tables.specs.Known.{bounds_with}
use Rattle.mps_pairs.specs.Known.{Known}
use Rattle.mps_pairs.proofs.Walking.{deck_taken}
use Rattle.mps_pairs.proofs.tables.Tables.take_deck.Goals as goal

pub returns : goal.returns
returns c =
    let i = c.self.inside in
    let k : Known = record { sense = i.sense; rows = i.rows; columns = i.columns; rights = i.rights; ranges = i.ranges; bounds = i.bounds; pairs = i.pairs; groups = i.groups } in
    let place = c.objective_of.ensures.place ∙ ap (λ (x : List Row). position_or_len (λ r. is_n r.letter) x) c.as_slice.ensures in
    let columns = c.in_ok-columns.ensures ∙ ap (λ (x : List Name). map (bounds_with i.bounds.columns) x) c.names.ensures.names in
    rw (← c.self.view_is) (deck_taken k c.args.end_line c.unwrap_or.result c.in_ok-rows.rows c.objective_of.result c.in_ok-columns.columns c.take_entries.result c.take_pairs.result c.take_groups.result c.unwrap_or.ensures c.in_ok-rows.ensures.rows place columns c.take_entries.ensures.entries c.take_pairs.ensures.pairs c.take_groups.ensures.groups)
