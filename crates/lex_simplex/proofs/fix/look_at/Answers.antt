use Rattle.std.proofs.Common.{arith, inl, inr}
use Rattle.walks.proofs.Points.{con_stands}
use Rattle.lex_simplex.proofs.fix.look_at.Goals as goal

pub returns-in-None : goal.returns-in-None
returns-in-None c = elim (con_stands c.args.case.now c.args.dict.now c.args.k c.requires.sized.of c.requires.named) [
  | inl n ↦ absurd (c.requires.basic n.0 n.1 n.2)
  | inr b ↦ absurd (c.in-None.ensures.none b.0 (omega (arith, b.1, c.requires.sized.size)) b.2)
]
