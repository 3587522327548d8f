use Rattle.std.proofs.Common.{◌≡◌, true, None, rules}
use Rattle.worker.proofs.LaneLaws.{dry_here, read_end}
use Rattle.crew_tests.proofs.left_tests.is_dry.Goals as goal

pub returns-clause-reading : goal.returns-clause-reading
returns-clause-reading c =
    let none : c.next.result ≡ true → ⊥ = search rules in
    λ yes. read_end c.args.case.now c.args.piece.now None c.args.reach.now c.next.new.self c.args.lane _ _ c.next.result None none c.next.ensures.same c.next.ensures.next c.requires.reading

pub returns-clause-dry : goal.returns-clause-dry
returns-clause-dry c =
    let none : c.next.result ≡ true → ⊥ = search rules in
    λ yes. dry_here c.args.reach.now c.next.new.self c.args.lane c.next.ensures.same c.requires.dry (c.next.ensures.next.dry none)
