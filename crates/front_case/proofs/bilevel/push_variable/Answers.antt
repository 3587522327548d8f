use Rattle.std.proofs.Common.{◌+◌, ◌++◌, ◌∙◌, List, ap, length, rules}
use Rattle.front_text.specs.declared.problem.Line.{Line}
use Rattle.kkt_front.proofs.Joins.{on_ok}
use Rattle.kkt_front.specs.Decks.{entry}
use Rattle.kkt_front.specs.DeckTexts.{number_at}
use Rattle.front_case.specs.Parts.{line_block}
use Rattle.front_case.proofs.Lists.{element_and_two}
use Rattle.front_case.proofs.bilevel.push_variable.Goals as goal

pub returns : goal.returns
returns c =
    let b = c.args.b.now in
    let j = c.args.j in
    on_ok c.push_line_entries-2.result _ _
    (λ behind. element_and_two c.args.entries.now c.push_entry.new.entries c.push_line_entries.new.entries c.push_line_entries-2.new.entries (entry j 0 (number_at b.cost j)) (line_block 1 b.up j) (line_block (1 + length b.up) b.low j)
    (search rules) (search rules) (behind ∙ ap (λ (ls : List Line). c.push_line_entries.new.entries ++ line_block (1 + c.len.result) ls j) c.as_slice-3.ensures ∙ ap (λ n. c.push_line_entries.new.entries ++ line_block (1 + n) b.low j) c.len.ensures)) c.push_line_entries-2.ensures
