use Rattle.std.specs.Prelude.{codes}
use Rattle.kkt_front.specs.DeckTexts.{lcp_rows, lcp_columns, lcp_rights, lcp_pairs}
use Rattle.kkt_front.proofs.Joins.{on_ok, six}
use Rattle.kkt_front.proofs.lcp.push_deck.Goals as goal

pub returns : goal.returns
returns c =
    let p = c.args.lcp.now in
    on_ok c.push_text-2.result _ _
    (six c.args.out.now.items c.push_text.new.out.items c.push_rows.new.out.items c.push_columns.new.out.items c.push_rights.new.out.items c.push_pairs.new.out.items c.push_text-2.new.out.items
    (codes "NAME lcp\n") (lcp_rows p) (lcp_columns p) (lcp_rights p) (lcp_pairs p) (codes "ENDATA\n")
    c.in_ok-push_text.ensures c.in_ok-push_rows.ensures c.in_ok-push_columns.ensures c.in_ok-push_rights.ensures c.in_ok-push_pairs.ensures) c.push_text-2.ensures
