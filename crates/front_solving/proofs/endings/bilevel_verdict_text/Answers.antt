use Rattle.std.specs.Prelude.{string_bytes}
use Rattle.front_solving.proofs.Optima.{given_of, bilevel_optimum}
use Rattle.front_solving.proofs.endings.bilevel_verdict_text.Goals as goal

pub optimum_text-requires-clause-given : goal.optimum_text-requires-clause-given
optimum_text-requires-clause-given c = given_of c.args.case.now c.args.cert.now c.in-Optimal.point c.in-Optimal.z c.in-Optimal.lines c.in-Optimal.is c.requires.given

pub returns-in-Optimal : goal.returns-in-Optimal
returns-in-Optimal c = bilevel_optimum c.optimum_text.result string_bytes c.args.variables c.args.case.now c.args.cert.now c.in-Optimal.point c.in-Optimal.z c.in-Optimal.lines c.in-Optimal.is c.requires.given c.optimum_text.ensures
