use Rattle.std.proofs.lemmas.Int.{to_z-of_z}
use Rattle.std.proofs.lemmas.Option.{MatchOption-at_some}
use mir.Syntax.{w128}
use Rattle.lpcc_case.specs.Points.{IsComplementary}
use Rattle.cert_check.specs.declared.accept.NoWhy.TheVariants.{NotComplementary}
use Rattle.cert_check.proofs.Judged.{line_point, lacks, has, right_cost, wrong_cost}
use Rattle.cert2_check.proofs.Judging2.{point_refused, value_refused, front_passed}
use Rattle.cert2_check.proofs.accept2.judge_front.Goals as goal

pub returns-then-not-is_complementary-clause-refused : goal.returns-then-not-is_complementary-clause-refused
returns-then-not-is_complementary-clause-refused c =
    let a = c.args.case.now in
    let line = c.args.line.now in
    let q = c.in-Some.point in
    let m = line_point a line c.args.z q (to_z-of_z w128 c.args.z c.ranges.z) (MatchOption-at_some _ _ q c.in-Some.is c.in_ok-point.ensures.found) in
    point_refused a line c.args.z NotComplementary (lacks a (IsComplementary a) line c.args.z q c.is_complementary.result m c.is_complementary.ensures c.if-not-is_complementary.true)

pub returns-then-not-has_cost-clause-refused : goal.returns-then-not-has_cost-clause-refused
returns-then-not-has_cost-clause-refused c =
    let a = c.args.case.now in
    let line = c.args.line.now in
    let q = c.in-Some.point in
    let m = line_point a line c.args.z q (to_z-of_z w128 c.args.z c.ranges.z) (MatchOption-at_some _ _ q c.in-Some.is c.in_ok-point.ensures.found) in
    value_refused a line c.args.z (has a (IsComplementary a) line c.args.z q c.is_complementary.result m c.is_complementary.ensures c.if-not-is_complementary.false)
    (wrong_cost a line c.args.z q c.has_cost.result m c.has_cost.ensures c.if-not-has_cost.true)

pub returns-clause-passed : goal.returns-clause-passed
returns-clause-passed c =
    let a = c.args.case.now in
    let line = c.args.line.now in
    let q = c.in-Some.point in
    let m = line_point a line c.args.z q (to_z-of_z w128 c.args.z c.ranges.z) (MatchOption-at_some _ _ q c.in-Some.is c.in_ok-point.ensures.found) in
    front_passed a line c.args.z c.value_of.result q.z q.d (has a (IsComplementary a) line c.args.z q c.is_complementary.result m c.is_complementary.ensures c.if-not-is_complementary.false)
    (right_cost a line c.args.z q m (c.has_cost.ensures.0 c.if-not-has_cost.false)) m.value m.denominator c.value_of.ensures
