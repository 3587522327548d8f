use Rattle.std.proofs.Common.{◌+◌}
use Rattle.engine.specs.Solved.{alone}
use Rattle.front_solving.specs.Solving.{SaysOfBilevel, bilevel_case}
use Rattle.front_solving.specs.Texts.{IsBilevelText}
use Rattle.front_solving.proofs.Columns.{bilevel_columns}
use Rattle.front_solving.proofs.Shown.{can_be_written, ending_given, written_ending}
use Rattle.front_solving.proofs.running.give_bilevel_ending.Goals as goal

pub bilevel_text-requires-clause-given : goal.bilevel_text-requires-clause-given
bilevel_text-requires-clause-given g c = ending_given c.args.case.now (alone c.args.options.now) c.solve_alone-ending.result c.solve_alone-ending.ensures.verdict

pub bilevel_text-requires-clause-form : goal.bilevel_text-requires-clause-form
bilevel_text-requires-clause-form g c = can_be_written c.args.case.now (alone c.args.options.now) c.solve_alone-ending.result c.solve_alone-ending.ensures.verdict

pub bilevel_text-requires-clause-variables : goal.bilevel_text-requires-clause-variables
bilevel_text-requires-clause-variables g c = bilevel_columns c.args.case.now c.args.bilevel.now c.requires.made

pub returns-in-Ok : goal.returns-in-Ok
returns-in-Ok g c =
    let e = c.solve_alone-ending.ensures in
    written_ending (SaysOfBilevel (alone c.args.options.now)) c.args.bilevel.now (IsBilevelText (c.args.bilevel.now.nx + c.args.bilevel.now.ny)) c.args.case.now (bilevel_case c.args.bilevel.now) (alone c.args.options.now) c.solve_alone-ending.result c.in-Ok.text.items _ _ _ _ _ (λ t meant says. says) c.requires.made
    (record { solved = e.ending; shown = e.verdict; pieces = e.pieces; pivots = e.pivots; text_is = c.in-Ok.ensures }) c.as_slice.result.now c.status_of.result c.as_slice.ensures.value c.status_of.ensures c.give.ensures
