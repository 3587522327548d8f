use Rattle.engine.specs.Solved.{alone}
use Rattle.generating.proofs.Sources.{solved}
use Rattle.generating.proofs.generate_and_solve.Goals as goal

pub returns-in-Ok : goal.returns-in-Ok
returns-in-Ok g c =
    let source = c.over-source.result in
    solved (alone c.args.options.now) _ source.place source.bytes.items c.in-Ok.text.items _ _ _ _ _ _ _ c.over-source.ensures.place c.over-source.ensures.bytes c.in-Ok.ensures c.run_solve.ensures.answered
