use Rattle.std.proofs.lemmas.Int.{to_z-of_z}
use Rattle.std.proofs.lemmas.Option.{MatchOption-at_some}
use mir.Syntax.{w128}
use Rattle.lp_base.proofs.Machine.{narrow_again}
use Rattle.lpcc_case.specs.Points.{IsComplementary}
use Rattle.cert_check.specs.declared.accept.NoWhy.TheVariants.{NotComplementary}
use Rattle.cert_check.proofs.Judged.{line_point, value_again, lacks, has, right_cost, wrong_cost, optimal_point_first, optimal_value_first, optimal_lines_first, optimal_accepted}
use Rattle.cert_check.proofs.accept.judge_optimal.Goals as goal

pub returns-then-not-is_complementary-clause-refused : goal.returns-then-not-is_complementary-clause-refused
returns-then-not-is_complementary-clause-refused c =
    let a = c.args.case.now in
    let line = c.args.line.now in
    let q = c.in-Some.point in
    let m = line_point a line c.args.z q (to_z-of_z w128 c.args.z c.ranges.z) (MatchOption-at_some _ _ q c.in-Some.is c.in_ok-point.ensures.found) in
    optimal_point_first a line c.args.z c.args.lines.now NotComplementary (lacks a (IsComplementary a) line c.args.z q c.is_complementary.result m c.is_complementary.ensures c.if-not-is_complementary.true)

pub returns-then-not-has_cost-clause-refused : goal.returns-then-not-has_cost-clause-refused
returns-then-not-has_cost-clause-refused c =
    let a = c.args.case.now in
    let line = c.args.line.now in
    let q = c.in-Some.point in
    let m = line_point a line c.args.z q (to_z-of_z w128 c.args.z c.ranges.z) (MatchOption-at_some _ _ q c.in-Some.is c.in_ok-point.ensures.found) in
    optimal_value_first a line c.args.z c.args.lines.now
    (has a (IsComplementary a) line c.args.z q c.is_complementary.result m c.is_complementary.ensures c.if-not-is_complementary.false)
    (wrong_cost a line c.args.z q c.has_cost.result m c.has_cost.ensures c.if-not-has_cost.true)

pub returns-in-Ok-clause-accepted : goal.returns-in-Ok-clause-accepted
returns-in-Ok-clause-accepted c =
    let a = c.args.case.now in
    let line = c.args.line.now in
    let q = c.in-Some.point in
    let m = line_point a line c.args.z q (to_z-of_z w128 c.args.z c.ranges.z) (MatchOption-at_some _ _ q c.in-Some.is c.in_ok-point.ensures.found) in
    optimal_accepted a line c.args.z c.args.lines.now c.value_of.result q.z q.d
    (has a (IsComplementary a) line c.args.z q c.is_complementary.result m c.is_complementary.ensures c.if-not-is_complementary.false)
    (right_cost a line c.args.z q m (c.has_cost.ensures.0 c.if-not-has_cost.false))
    (value_again c.args.z line.d (to_z-of_z w128 c.args.z c.ranges.z) (narrow_again line.d c.requires.point.narrow)) c.in-Ok.ensures.passed m.value m.denominator c.value_of.ensures

pub returns-clause-refused : goal.returns-clause-refused
returns-clause-refused c =
    let a = c.args.case.now in
    let line = c.args.line.now in
    let q = c.in-Some.point in
    let m = line_point a line c.args.z q (to_z-of_z w128 c.args.z c.ranges.z) (MatchOption-at_some _ _ q c.in-Some.is c.in_ok-point.ensures.found) in
    optimal_lines_first a line c.args.z c.args.lines.now c.in-Err.fault
    (has a (IsComplementary a) line c.args.z q c.is_complementary.result m c.is_complementary.ensures c.if-not-is_complementary.false)
    (right_cost a line c.args.z q m (c.has_cost.ensures.0 c.if-not-has_cost.false))
    (value_again c.args.z line.d (to_z-of_z w128 c.args.z c.ranges.z) (narrow_again line.d c.requires.point.narrow)) c.in-Err.ensures.refused
