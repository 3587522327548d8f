use Rattle.edit_session.proofs.RunLaws.{played, waits_on}
use Rattle.edit_session.proofs.answering.take_turns.Goals as goal

pub returns-then-not-branch-clause-played : goal.returns-then-not-branch-clause-played
returns-then-not-branch-clause-played c =
    played c.args.case.now c.args.options.now c.args.kept.now c.turns.desk c.turn.new.desk c.in_ok-turn.field-0 c.turn.new.waiting.items c.turn.new.settled.items c.if-not-branch.true c.in_ok-turn.ensures.turn (c.in_ok-turn.ensures.run c.args.kept.now c.turns.invariant.ready)

pub turns-preserved : goal.turns-preserved
turns-preserved c = record {
  waits = waits_on c.args.case.now c.args.options.now c.turns.desk c.turn.new.desk c.in_ok-turn.field-0 c.if-not-branch.false c.in_ok-turn.ensures.turn;
  known = c.in_ok-turn.ensures.known;
  waiting = c.in_ok-turn.ensures.waiting;
  settled = c.in_ok-turn.ensures.settled;
  ready = c.in_ok-turn.ensures.run c.args.kept.now c.turns.invariant.ready;
}
