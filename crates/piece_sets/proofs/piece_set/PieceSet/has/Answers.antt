use Rattle.std.proofs.Common.{List, subst}
use Rattle.std.specs.Prelude.{Contains, IsTrue, ◌↔◌}
use Rattle.nogoods.specs.declared.choice.Side.{Side}
use Rattle.piece_sets.proofs.PieceOrder.{found_in}
use Rattle.piece_sets.proofs.piece_set.PieceSet.has.Goals as goal

pub returns : goal.returns
returns c =
    let P : List (List Side) → Type 0 = λ l. IsTrue c.is_at.result ↔ Contains l c.args.sides.now in
    subst P c.self.view_is (found_in c.self.inside.held.items c.as_slice-pieces.result.now c.args.sides.now c.place_of.result c.is_at.result c.as_slice-pieces.ensures.value c.self.invariant c.place_of.ensures c.is_at.ensures)
