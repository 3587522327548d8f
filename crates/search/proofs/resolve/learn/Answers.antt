use Rattle.std.proofs.Common.{◌∙◌}
use Rattle.derivation.specs.Logs.{no_goods}
use Rattle.search.proofs.ChosenLaws.{chosen_ascends}
use Rattle.search.proofs.Resolving.{closed_by, names_below}
use Rattle.search.proofs.resolve.learn.Goals as goal

pub no_good-requires : goal.no_good-requires
no_good-requires c = chosen_ascends c.as_slice.result.now c.args.sides.now c.as_slice-3.result.now (c.as_slice-3.ensures.value ∙ c.in_ok-list.ensures)

pub add-requires-2-clause-below : goal.add-requires-2-clause-below
add-requires-2-clause-below c = names_below c.args.sides.now c.as_slice.result.now c.in_ok-list.list.items c.in_ok-no_good.field-0 c.args.pairs c.requires.fits c.in_ok-list.ensures (c.in_ok-no_good.ensures ∙ c.as_slice-3.ensures.value)

pub add-requires-2-clause-closed : goal.add-requires-2-clause-closed
add-requires-2-clause-closed c =
    closed_by (no_goods c.args.log.now) c.args.sides.now c.args.resolvent.marks.items c.as_slice.result.now c.args.resolvent.hints.items c.of_vec.result c.in_ok-list.list.items c.in_ok-no_good.field-0 c.requires.resolvent c.as_slice.ensures.value c.in_ok-list.ensures (c.in_ok-no_good.ensures ∙ c.as_slice-3.ensures.value) c.of_vec.ensures
