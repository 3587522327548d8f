use Rattle.engine.proofs.Turns.{ended_here, fewer_left, may_close}
use Rattle.engine.proofs.alone.run.Goals as goal

pub close-requires : goal.close-requires
close-requires c = record {
  over = may_close c.args.case.now c.args.options.now c.turns.desk c.turn.new.desk c.in_ok-turn.field-0 c.if-not-branch.true c.in_ok-turn.ensures.turn;
}

pub turns-smaller : goal.turns-smaller
turns-smaller c =
    fewer_left c.args.case.now c.args.options.now c.turns.desk c.turn.new.desk c.in_ok-turn.field-0 c.if-not-branch.false c.in_ok-turn.ensures.turn

pub returns-then-not-branch : goal.returns-then-not-branch
returns-then-not-branch c =
    ended_here c.args.case.now c.args.options.now c.turns.desk c.turn.new.desk c.in_ok-turn.field-0 c.close.result c.if-not-branch.true c.in_ok-turn.ensures.turn c.close.ensures.ending c.close.ensures.form
