use Rattle.std.specs.Prelude.{codes}
use Rattle.kkt_front.specs.DeckTexts.{bilevel_rows, bilevel_columns, bilevel_rights, bilevel_bounds, bilevel_pairs}
use Rattle.kkt_front.proofs.Joins.{on_ok, seven}
use Rattle.kkt_front.proofs.bilevel.push_deck.Goals as goal

pub returns : goal.returns
returns c =
    let p = c.args.b.now in
    on_ok c.push_text-2.result _ _
    (seven c.args.out.now.items c.push_text.new.out.items c.push_rows.new.out.items c.push_columns.new.out.items c.push_rights.new.out.items c.push_bounds.new.out.items c.push_pairs.new.out.items c.push_text-2.new.out.items
    (codes "NAME bilevel\n") (bilevel_rows p) (bilevel_columns p) (bilevel_rights p) (bilevel_bounds p) (bilevel_pairs p) (codes "ENDATA\n")
    c.in_ok-push_text.ensures c.in_ok-push_rows.ensures c.in_ok-push_columns.ensures c.in_ok-push_rights.ensures c.in_ok-push_bounds.ensures c.in_ok-push_pairs.ensures) c.push_text-2.ensures
