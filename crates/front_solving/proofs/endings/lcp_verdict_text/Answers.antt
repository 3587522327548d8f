use Rattle.std.specs.Prelude.{string_bytes}
use Rattle.front_solving.proofs.Optima.{given_of, lcp_optimum}
use Rattle.front_solving.proofs.endings.lcp_verdict_text.Goals as goal

pub solution_text-requires-clause-given : goal.solution_text-requires-clause-given
solution_text-requires-clause-given c = given_of c.args.case.now c.args.cert.now c.in-Optimal.point c.in-Optimal.z c.in-Optimal.lines c.in-Optimal.is c.requires.given

pub returns-in-Optimal : goal.returns-in-Optimal
returns-in-Optimal c = lcp_optimum c.solution_text.result string_bytes c.args.size c.args.case.now c.args.cert.now c.in-Optimal.point c.in-Optimal.z c.in-Optimal.lines c.in-Optimal.is c.requires.given c.solution_text.ensures
