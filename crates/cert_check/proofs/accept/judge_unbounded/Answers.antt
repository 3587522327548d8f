use Rattle.std.proofs.Common.{pos}
use Rattle.std.proofs.lemmas.Bool.{both_ways}
use Rattle.std.proofs.lemmas.Option.{MatchOption-at_some}
use Rattle.lpcc_case.specs.Points.{IsTightAt}
use Rattle.cert_check.specs.declared.accept.NoWhy.TheVariants.{NotComplementary}
use Rattle.cert_check.specs.Results.{IsPointOfLine}
use Rattle.cert_check.proofs.Judged.{lacks, has, whole_names, unbounded_point_first, ray_first, unbounded_accepted}
use Rattle.cert_check.proofs.accept.judge_unbounded.Goals as goal

pub is_tight_at-requires-clause-named : goal.is_tight_at-requires-clause-named
is_tight_at-requires-clause-named c = whole_names c.args.case.now c.args.piece.now (c.is_whole.ensures.0 c.if-not-is_whole.false)

pub returns-then-not-is_tight_at-clause-refused : goal.returns-then-not-is_tight_at-clause-refused
returns-then-not-is_tight_at-clause-refused c =
    let a = c.args.case.now in
    let line = c.args.line.now in
    let piece = c.args.piece.now in
    let q = c.in-Some.point in
    let m : IsPointOfLine a line (pos 0) q = MatchOption-at_some _ _ q c.in-Some.is c.in_ok-point.ensures.found in
    unbounded_point_first a piece line c.args.ray.now NotComplementary (c.is_whole.ensures.0 c.if-not-is_whole.false) (lacks a (λ p. IsTightAt a p piece) line (pos 0) q c.is_tight_at.result m c.is_tight_at.ensures c.if-not-is_tight_at.true)

pub returns-then-not-branch-clause-refused : goal.returns-then-not-branch-clause-refused
returns-then-not-branch-clause-refused c =
    let a = c.args.case.now in
    let line = c.args.line.now in
    let piece = c.args.piece.now in
    let q = c.in-Some.point in
    let m : IsPointOfLine a line (pos 0) q = MatchOption-at_some _ _ q c.in-Some.is c.in_ok-point.ensures.found in
    ray_first a piece line c.args.ray.now (c.is_whole.ensures.0 c.if-not-is_whole.false)
    (has a (λ p. IsTightAt a p piece) line (pos 0) q c.is_tight_at.result m c.is_tight_at.ensures c.if-not-is_tight_at.false)
    (λ goes. both_ways c.in_ok-ray_passes.field-0 c.if-not-branch.true (c.in_ok-ray_passes.ensures.1 goes))

pub returns-clause-accepted : goal.returns-clause-accepted
returns-clause-accepted c =
    let a = c.args.case.now in
    let line = c.args.line.now in
    let piece = c.args.piece.now in
    let q = c.in-Some.point in
    let m : IsPointOfLine a line (pos 0) q = MatchOption-at_some _ _ q c.in-Some.is c.in_ok-point.ensures.found in
    unbounded_accepted a piece line c.args.ray.now (c.is_whole.ensures.0 c.if-not-is_whole.false)
    (has a (λ p. IsTightAt a p piece) line (pos 0) q c.is_tight_at.result m c.is_tight_at.ensures c.if-not-is_tight_at.false)
    (c.in_ok-ray_passes.ensures.0 c.if-not-branch.false)
