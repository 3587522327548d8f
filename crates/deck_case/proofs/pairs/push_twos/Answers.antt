use Rattle.deck_case.proofs.GroupSteps.{first_named, twos_next}
use Rattle.deck_case.proofs.pairs.push_twos.Goals as goal

pub loop-first-preserved : goal.loop-first-preserved
loop-first-preserved c =
    let d = c.args.deck.now in
    record {
      made = twos_next d c.loop-first.rest.now c.in-Some.others.now c.in-Some.first c.loop-first.made c.push_with.new.made _ c.in-Some.ensures c.loop-first.invariant.made c.in_ok-push_with.ensures;
      named = (first_named d c.loop-first.rest.now c.in-Some.others.now c.in-Some.first c.in-Some.ensures c.loop-first.invariant.named).1;
    }

pub push_with-requires-clause-first : goal.push_with-requires-clause-first
push_with-requires-clause-first c = (first_named c.args.deck.now c.loop-first.rest.now c.in-Some.others.now c.in-Some.first c.in-Some.ensures c.loop-first.invariant.named).0

pub push_with-requires-clause-others : goal.push_with-requires-clause-others
push_with-requires-clause-others c = (first_named c.args.deck.now c.loop-first.rest.now c.in-Some.others.now c.in-Some.first c.in-Some.ensures c.loop-first.invariant.named).1
