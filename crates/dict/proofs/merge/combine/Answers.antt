use Rattle.std.proofs.Common.{arith}
use Rattle.dict.proofs.Merges.{both_left, both_right, both_same, alone_left, alone_right, merged_weighs, merged_terms}
use Rattle.dict.proofs.merge.combine.Goals as goal

pub both-preserved-then-x-y : goal.both-preserved-then-x-y
both-preserved-then-x-y c =
    both_left c.args.places _ _ c.args.e c.args.xs.now c.args.ys.now c.both.i c.both.j c.term_at-x.result c.term_at-y.result c.both.out.items c.join.new.out.items c.kept.result c.both-test.true c.if-j-ys.true c.term_at-x.ensures c.term_at-y.ensures c.if-x-y.true c.kept.ensures.worth c.kept.ensures.narrow c.in_ok-join.ensures.weighs c.in_ok-join.ensures.terms c.both.invariant

pub both-preserved-then-y-x : goal.both-preserved-then-y-x
both-preserved-then-y-x c =
    both_right c.args.places _ _ c.args.e c.args.xs.now c.args.ys.now c.both.i c.both.j c.term_at-x.result c.term_at-y.result c.both.out.items c.join-then-y-x.new.out.items c.both-test.true c.if-j-ys.true c.term_at-x.ensures c.term_at-y.ensures c.if-y-x.true c.in_ok-join-2.ensures.weighs c.in_ok-join-2.ensures.terms c.both.invariant

pub both-preserved : goal.both-preserved
both-preserved c =
    both_same c.args.places _ _ c.args.e c.args.xs.now c.args.ys.now c.both.i c.both.j c.term_at-x.result c.term_at-y.result c.both.out.items c.join-else-y-x.new.out.items c.kept-else-y-x.result c.both-test.true c.if-j-ys.true c.term_at-x.ensures c.term_at-y.ensures (omega (arith, c.if-x-y.false, c.if-y-x.false)) c.kept-else-y-x.ensures.worth c.kept-else-y-x.ensures.narrow c.in_ok-join-3.ensures.weighs c.in_ok-join-3.ensures.terms c.both.invariant

pub left-preserved : goal.left-preserved
left-preserved c = record {
  merged =
      alone_left c.args.places _ _ c.args.e c.args.xs.now c.args.ys.now c.left.i c.both.j c.term_at-x-in-left.result c.left.out.items c.join-in-left.new.out.items c.kept-in-left.result c.left-test.true (c.left.invariant.past c.left-test.true) c.term_at-x-in-left.ensures c.kept-in-left.ensures.worth c.kept-in-left.ensures.narrow c.in_ok-join-4.ensures.weighs c.in_ok-join-4.ensures.terms c.left.invariant.merged;
  past = λ h. c.left.invariant.past c.left-test.true;
}

pub right-preserved : goal.right-preserved
right-preserved c = record {
  merged =
      alone_right c.args.places _ _ c.args.e c.args.xs.now c.args.ys.now c.left.i c.right.j c.term_at-y-in-right.result c.right.out.items c.join-in-right.new.out.items c.right.invariant.past c.right-test.true c.term_at-y-in-right.ensures c.in_ok-join-5.ensures.weighs c.in_ok-join-5.ensures.terms c.right.invariant.merged;
  past = c.right.invariant.past;
}

pub returns-clause-weighs : goal.returns-clause-weighs
returns-clause-weighs c =
    merged_weighs c.args.places c.args.p c.args.a c.args.e c.args.xs.now c.args.ys.now c.left.i c.right.j c.right.out.items c.requires.p c.requires.a c.right.invariant.past (omega (arith, c.right-test.false)) c.right.invariant.merged

pub returns-clause-terms : goal.returns-clause-terms
returns-clause-terms c =
    merged_terms c.args.places _ _ c.args.e c.args.xs.now c.args.ys.now c.left.i c.right.j c.right.out.items (omega (arith, c.right-test.false)) c.right.invariant.merged
