use Rattle.std.proofs.Common.{◌<◌, ◌≤◌, length, rules}
use Rattle.tree_engine.proofs.LoosePairs.{gap_found, placed_more, whole_found}
use Rattle.tree_engine.proofs.paths.first_free.Goals as goal

pub returns-then-not-is_in_place-clause-free : goal.returns-then-not-is_in_place-clause-free
returns-then-not-is_in_place-clause-free c =
    let inside : c.loop-at.at < length c.args.case.now.pairs = search rules in
    gap_found c.args.case.now c.args.path.now c.choices-choices.result.now c.loop-at.at c.is_in_place.result c.choices-choices.ensures.list c.choices-choices.ensures.ascending inside c.if-not-is_in_place.true c.is_in_place.ensures c.loop-at.invariant

pub loop-at-preserved : goal.loop-at-preserved
loop-at-preserved c = placed_more c.choices-choices.result.now c.loop-at.at c.is_in_place.result c.if-not-is_in_place.false c.is_in_place.ensures c.loop-at.invariant

pub returns-clause-whole : goal.returns-clause-whole
returns-clause-whole c =
    let all : length c.args.case.now.pairs ≤ c.loop-at.at = search rules in
    whole_found c.args.case.now c.args.path.now c.choices-choices.result.now c.loop-at.at c.choices-choices.ensures.list c.choices-choices.ensures.ascending c.requires.named all c.loop-at.invariant
