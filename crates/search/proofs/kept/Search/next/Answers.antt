use Rattle.std.proofs.Common.{false}
use Rattle.derivation.specs.Logs.{no_goods}
use Rattle.search.specs.Walks.{IsWalk}
use Rattle.search.proofs.Endings.{found_before, result_before, if_ok}
use Rattle.search.proofs.GrowthLaws.{grown_more}
use Rattle.search.proofs.WalkLaws.{walk_onwards}
use Rattle.search.proofs.kept.Search.next.Goals as goal

pub returns-in-Some-clause-found : goal.returns-in-Some-clause-found
returns-in-Some-clause-found c =
    let is = rw c.in-Some.is at c.in_ok-found.ensures.found in
    found_before c.args.pairs (no_goods c.args.log.now) (no_goods c.run.new.log) c.args.blocked.now c.in-Some.found c.run.ensures.grown.adds is

pub returns-in-None-clause-found : goal.returns-in-None-clause-found
returns-in-None-clause-found c = result_before c.args.pairs (no_goods c.args.log.now) (no_goods c.run.new.log) c.args.blocked.now c.found_at_end.result c.run.ensures.grown.adds c.found_at_end.ensures.found

pub returns-in-None-clause-grown : goal.returns-in-None-clause-grown
returns-in-None-clause-grown c = grown_more c.args.pairs c.args.log.now c.run.new.log c.found_at_end.new.log c.run.ensures.grown c.found_at_end.ensures.grown

pub returns-in-None-clause-kept : goal.returns-in-None-clause-kept
returns-in-None-clause-kept c =
    if_ok c.found_at_end.result (IsWalk false c.args.pairs (no_goods c.found_at_end.new.log) c.args.blocked.now c.run.new.walk.sides.items c.run.new.walk.reasons.items)
    (walk_onwards false c.args.pairs (no_goods c.run.new.log) (no_goods c.found_at_end.new.log) c.args.blocked.now c.run.new.walk.sides.items c.run.new.walk.reasons.items c.found_at_end.ensures.grown.adds c.in_ok-found.ensures.held)
