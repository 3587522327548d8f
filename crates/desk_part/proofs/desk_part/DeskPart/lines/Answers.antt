use Rattle.desk_part.proofs.CloseLaws.{empty_at, lines_at, named_at, passing_at, starts_at}
use Rattle.desk_part.specs.contracts.desk_part.DeskPart.{the_view}
use Rattle.desk_part.proofs.desk_part.DeskPart.lines.Goals as goal

pub lines_of-requires-clause-empty : goal.lines_of-requires-clause-empty
lines_of-requires-clause-empty c = empty_at (the_view c.self.inside) c.args.self.now c.requires.empty c.self.view_is

pub lines_of-requires-clause-passing : goal.lines_of-requires-clause-passing
lines_of-requires-clause-passing c = passing_at c.args.case.now c.args.options.now (the_view c.self.inside) c.args.self.now c.as_slice.result.now c.requires.carried c.self.view_is c.as_slice.ensures.value

pub lines_of-requires-clause-starts : goal.lines_of-requires-clause-starts
lines_of-requires-clause-starts c = starts_at c.args.case.now c.args.options.now (the_view c.self.inside) c.args.self.now c.as_slice.result.now c.requires.carried c.self.view_is c.as_slice.ensures.value

pub lines_of-requires-clause-named : goal.lines_of-requires-clause-named
lines_of-requires-clause-named c = named_at c.args.case.now c.args.options.now (the_view c.self.inside) c.args.self.now c.requires.carried c.self.view_is

pub returns-clause-lines : goal.returns-clause-lines
returns-clause-lines c = lines_at c.lines_of.result (the_view c.self.inside) c.args.self.now c.as_slice.result.now c.self.view_is c.as_slice.ensures.value c.lines_of.ensures.lines
