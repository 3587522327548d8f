use Rattle.std.proofs.Common.{ap, ◌++◌, ◌∙◌, length}
use Rattle.std.specs.Prelude.{codes}
use Rattle.deck_gen.specs.Generator.{joined}
use Rattle.kkt_front.specs.DeckTexts.{numbered_line}
use Rattle.kkt_front.proofs.Joins.{four, on_ok}
use Rattle.kkt_front.proofs.bilevel.push_rows.Goals as goal

pub returns : goal.returns
returns c =
    let b = c.args.b.now in
    on_ok c.push_numbered_lines-3.result _ _
    (four c.args.out.now.items c.push_text.new.out.items c.push_numbered_lines.new.out.items c.push_numbered_lines-2.new.out.items c.push_numbered_lines-3.new.out.items
    (codes "ROWS\n N cost\n") (joined (numbered_line (codes " G u")) (length b.up)) (joined (numbered_line (codes " G l")) (length b.low)) (joined (numbered_line (codes " E s")) b.ny)
    c.in_ok-push_text.ensures
    (c.in_ok-push_numbered_lines.ensures ∙ ap (λ n. c.push_text.new.out.items ++ joined (numbered_line (codes " G u")) n) c.len.ensures)
    (c.in_ok-push_numbered_lines-2.ensures ∙ ap (λ n. c.push_numbered_lines.new.out.items ++ joined (numbered_line (codes " G l")) n) c.len-2.ensures)) c.push_numbered_lines-3.ensures
