use Rattle.std.specs.Prelude.{codes}
use Rattle.deck_gen.specs.Generator.{joined}
use Rattle.kkt_front.specs.DeckTexts.{numbered_line}
use Rattle.kkt_front.proofs.Joins.{behind, on_ok}
use Rattle.kkt_front.proofs.lcp.push_rows.Goals as goal

pub returns : goal.returns
returns c =
    on_ok c.push_numbered_lines.result _ _
    (behind c.args.out.now.items c.push_text.new.out.items c.push_numbered_lines.new.out.items (codes "ROWS\n N cost\n") (joined (numbered_line (codes " G w")) c.args.lcp.now.size) c.in_ok-push_text.ensures) c.push_numbered_lines.ensures
