use Rattle.std.proofs.Common.{subst, arith}
use Rattle.nogoods.specs.declared.choice.Side.TheVariants.{A, B}
use Rattle.tree_engine.specs.Closings.{Closes, IsClosing, IsTurn}
use Rattle.tree_engine.specs.Paths.{choice_of}
use Rattle.tree_engine.proofs.Sides.{falls, first_after, half, second_after, was_half}
use Rattle.tree_engine.proofs.closing.+closing.Goals as goal

pub closed-closed_sides-requires : goal.closed-closed_sides-requires
closed-closed_sides-requires t c =
    let h = subst (IsTurn c.args.case.now c.args.options.now c.args.path.now c.args.state.now.run c.args.state.now.best c.turn_at.new.state.run c.turn_at.new.state.best) c.in-Split.is c.in_ok-turn.ensures in
    (omega (arith, c.decreases), (c.args.state.now.run, c.args.state.now.best, h))

pub closed-returns-in-Split : goal.closed-returns-in-Split
closed-returns-in-Split t c =
    let h = subst (IsTurn c.args.case.now c.args.options.now c.args.path.now c.args.state.now.run c.args.state.now.best c.turn_at.new.state.run c.turn_at.new.state.best) c.in-Split.is c.in_ok-turn.ensures in
    c.closed_sides.ensures c.args.state.now.run c.args.state.now.best h

pub closed_sides-closed-requires : goal.closed_sides-closed-requires
closed_sides-closed-requires t c =
    let h = c.requires.2 in
    let e = falls c.args.case.now c.args.path.now c.in_ok-first.first (choice_of c.args.pair A) h.may.ascending h.may.named h.free c.in_ok-first.ensures in
    (omega (arith, c.decreases, e), first_after c.args.case.now c.args.options.now c.args.path.now c.in_ok-first.first c.args.pair c.args.state.now.run c.args.state.now.best c.requires c.in_ok-first.ensures)

pub closed_sides-closed_second-requires : goal.closed_sides-closed_second-requires
closed_sides-closed_second-requires t c =
    let h = subst (IsClosing c.args.case.now c.args.options.now c.in_ok-first.first c.args.state.now.run c.args.state.now.best c.closed.new.state.run c.closed.new.state.best) c.in-Tree.is c.in_ok-closing.ensures in
    (omega (arith, c.decreases), was_half c.args.case.now c.args.options.now c.args.path.now c.in_ok-first.first c.args.pair c.args.state.now.run c.args.state.now.best c.closed.new.state.run c.closed.new.state.best c.in-Tree.a c.requires c.in_ok-first.ensures h)

pub closed_sides-returns-in-Tree : goal.closed_sides-returns-in-Tree
closed_sides-returns-in-Tree t c old best split =
    let h = subst (IsClosing c.args.case.now c.args.options.now c.in_ok-first.first c.args.state.now.run c.args.state.now.best c.closed.new.state.run c.closed.new.state.best) c.in-Tree.is c.in_ok-closing.ensures in
    c.closed_second.ensures old best (half c.args.case.now c.args.options.now c.args.path.now c.in_ok-first.first c.args.pair old best c.args.state.now.run c.args.state.now.best c.closed.new.state.run c.closed.new.state.best c.in-Tree.a split c.in_ok-first.ensures h)

pub closed_second-closed-requires : goal.closed_second-closed-requires
closed_second-closed-requires t c =
    let h = c.requires.2 in
    let e = falls c.args.case.now c.args.path.now c.in_ok-second.second (choice_of c.args.pair B) h.split.may.ascending h.split.may.named h.split.free c.in_ok-second.ensures in
    (omega (arith, c.decreases, e), second_after c.args.case.now c.args.options.now c.args.path.now c.in_ok-second.second c.args.pair c.args.state.now.run c.args.state.now.best c.args.a c.requires c.in_ok-second.ensures)

pub closed_second-returns-in-Tree : goal.closed_second-returns-in-Tree
closed_second-returns-in-Tree t c old best h =
    let second = subst (IsClosing c.args.case.now c.args.options.now c.in_ok-second.second c.args.state.now.run c.args.state.now.best c.closed.new.state.run c.closed.new.state.best) c.in-Tree.is c.in_ok-closing.ensures in
    c.joined.ensures old c.args.state.now.run best c.args.state.now.best c.closed.new.state.run c.closed.new.state.best h
    (subst (λ p. Closes c.args.case.now c.args.options.now p c.args.state.now.run c.args.state.now.best c.closed.new.state.run c.closed.new.state.best c.in-Tree.b) c.in_ok-second.ensures second)
