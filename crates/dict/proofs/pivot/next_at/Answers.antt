use Rattle.std.proofs.Common.{sym, subst, ◌∙◌}
use Rattle.dict.specs.Equations.{Equation, IsReduced}
use Rattle.dict.proofs.Pivots.{row_is}
use Rattle.dict.proofs.pivot.next_at.Goals as goal

pub next_row-requires-clause-reduced : goal.next_row-requires-clause-reduced
next_row-requires-clause-reduced c =
    subst (λ (q : Equation). IsReduced q) (sym (c.index-rows-i.is ∙ row_is c.args.rows.now c.args.i c.index-rows-i.result c.requires.within)) (c.requires.rows c.args.i c.requires.within).1
