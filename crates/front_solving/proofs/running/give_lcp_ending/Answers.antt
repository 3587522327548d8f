use Rattle.engine.specs.Solved.{alone}
use Rattle.front_solving.specs.Solving.{SaysOfLcp, lcp_case}
use Rattle.front_solving.specs.Texts.{IsLcpText}
use Rattle.front_solving.proofs.Columns.{lcp_columns}
use Rattle.front_solving.proofs.Shown.{can_be_written, ending_given, written_ending}
use Rattle.front_solving.proofs.running.give_lcp_ending.Goals as goal

pub lcp_text-requires-clause-given : goal.lcp_text-requires-clause-given
lcp_text-requires-clause-given g c = ending_given c.args.case.now (alone c.args.options.now) c.solve_alone-ending.result c.solve_alone-ending.ensures.verdict

pub lcp_text-requires-clause-form : goal.lcp_text-requires-clause-form
lcp_text-requires-clause-form g c = can_be_written c.args.case.now (alone c.args.options.now) c.solve_alone-ending.result c.solve_alone-ending.ensures.verdict

pub lcp_text-requires-clause-size : goal.lcp_text-requires-clause-size
lcp_text-requires-clause-size g c = lcp_columns c.args.case.now c.args.lcp.now c.requires

pub returns-in-Ok : goal.returns-in-Ok
returns-in-Ok g c =
    let e = c.solve_alone-ending.ensures in
    written_ending (SaysOfLcp (alone c.args.options.now)) c.args.lcp.now (IsLcpText c.args.lcp.now.size) c.args.case.now (lcp_case c.args.lcp.now) (alone c.args.options.now) c.solve_alone-ending.result c.in-Ok.text.items _ _ _ _ _ (λ t meant says. says) c.requires
    (record { solved = e.ending; shown = e.verdict; pieces = e.pieces; pivots = e.pivots; text_is = c.in-Ok.ensures }) c.as_slice.result.now c.status_of.result c.as_slice.ensures.value c.status_of.ensures c.give.ensures
