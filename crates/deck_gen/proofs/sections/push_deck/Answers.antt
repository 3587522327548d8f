use Rattle.std.specs.Prelude.{codes}
use Rattle.deck_gen.specs.Generator.{name_line, rows_section, columns_section, right_sides_section, pairs_section}
use Rattle.deck_gen.proofs.Joins.{on_ok, six}
use Rattle.deck_gen.proofs.sections.push_deck.Goals as goal

pub returns : goal.returns
returns c =
    let z = c.args.sizes in
    on_ok c.push_text.result _ _
    (six c.args.out.now.items c.push_name_line.new.out.items c.push_rows.new.out.items c.push_columns.new.out.items c.push_right_sides.new.out.items c.push_pairs.new.out.items c.push_text.new.out.items
    (name_line z) (rows_section z) (columns_section z) (right_sides_section z) (pairs_section z) (codes "ENDATA\n")
    c.in_ok-push_name_line.ensures c.in_ok-push_rows.ensures c.in_ok-state.ensures.text c.in_ok-push_right_sides.ensures c.in_ok-push_pairs.ensures) c.push_text.ensures
