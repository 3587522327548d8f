use Rattle.std.proofs.Common.{rules, ◌≡◌, [], ◌∷◌, ◌++◌}
use Rattle.std.specs.Arc.{arc_value}
use Rattle.cut_pool.proofs.FirstPages.{first_lane}
use Rattle.cut_pool.proofs.opening.open_first.Goals as goal

pub returns-clause-lane : goal.returns-clause-lane
returns-clause-lane c =
    let opened = c.in_ok-page.opened in
    let pushed : c.push.new.self ≡ [] ++ opened ∷ [] = search rules in
    first_lane (arc_value c.args.case.now) 16 c.args.workers opened c.push.new.self pushed c.in_ok-page.ensures.ready.0 c.in_ok-page.ensures.ready.1
