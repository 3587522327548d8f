use Rattle.std.proofs.Common.{Bool, cond, [], ◌++◌, ◌∙◌, ap}
use Rattle.std.specs.Prelude.{codes}
use Rattle.std.specs.List.{list_all}
use Rattle.deck_gen.specs.Generator.{joined}
use Rattle.kkt_front.specs.DeckTexts.{is_zero, lcp_right}
use Rattle.kkt_front.proofs.Joins.{joined_all}
use Rattle.kkt_front.proofs.lcp.push_rights.Goals as goal

pub returns : goal.returns
returns c =
    let p = c.args.lcp.now in
    joined_all (lcp_right p) c.loop-row.row p.size c.args.out.now.items c.push_text.new.out.items c.loop-row.out.items (codes "RHS\n") c.loop-row-test.false c.loop-row.auto.row-end c.in_ok-push_text.ensures c.loop-row.invariant
    ∙ ap (λ (b : Bool). c.args.out.now.items ++ cond b [] (codes "RHS\n" ++ joined (lcp_right p) p.size)) (c.if-are_zero.ensures ∙ ap (list_all is_zero) c.as_slice.ensures)
