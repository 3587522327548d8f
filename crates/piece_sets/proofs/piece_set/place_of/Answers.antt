use Rattle.std.proofs.Common.{ℕ, ◌+◌, ◌-◌, ◌/◌, ◌<◌, ◌∙◌, sym, arith}
use Rattle.piece_sets.proofs.PieceOrder.{lower_half, upper_half}
use Rattle.piece_sets.proofs.piece_set.place_of.Goals as goal

pub loop-low-preserved-then-stands_before : goal.loop-low-preserved-then-stands_before
loop-low-preserved-then-stands_before c =
    let m : ℕ = c.loop-low.low + (c.loop-low.high - c.loop-low.low) / 2 in
    let below : m < c.loop-low.high = omega (arith, c.loop-low-test.true) in
    record {
      order = omega (arith, below);
      top = c.loop-low.invariant.top;
      before = λ k low. lower_half c.args.pieces.now c.args.sides.now m k c.requires (omega (arith, below, c.loop-low.invariant.top)) (sym c.stands_before.ensures ∙ c.if-stands_before.true) low;
      rest = c.loop-low.invariant.rest;
    }

pub loop-low-preserved : goal.loop-low-preserved
loop-low-preserved c =
    let m : ℕ = c.loop-low.low + (c.loop-low.high - c.loop-low.low) / 2 in
    let below : m < c.loop-low.high = omega (arith, c.loop-low-test.true) in
    record {
      order = omega arith;
      top = omega (arith, below, c.loop-low.invariant.top);
      before = c.loop-low.invariant.before;
      rest = λ k high inside. upper_half c.args.pieces.now c.args.sides.now m k c.requires (sym c.stands_before.ensures ∙ c.if-stands_before.false) high inside;
    }
