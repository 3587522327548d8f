use Rattle.std.proofs.Common.{◌≡◌, true, rules}
use Rattle.play.proofs.Bests.{if_tight, not_met}
use Rattle.play.proofs.points.is_candidate.Goals as goal

pub returns-then-not-meets : goal.returns-then-not-meets
returns-then-not-meets c =
    let none : c.meets.result ≡ true → ⊥ = search rules in
    not_met c.args.case.now c.args.point.now c.meets.result c.meets.ensures none

pub returns : goal.returns
returns c =
    let of : c.is_of.result ≡ true = search rules in
    let met : c.meets.result ≡ true = search rules in
    if_tight c.args.case.now c.args.point.now c.meets.result c.is_complementary.result (c.is_of.ensures.0 of) c.meets.ensures met c.is_complementary.ensures
