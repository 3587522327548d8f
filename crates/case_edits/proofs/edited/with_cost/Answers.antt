use Rattle.std.proofs.Common.{◌∙◌}
use Rattle.case_edits.proofs.CaseLaws.{priced_as}
use Rattle.case_edits.proofs.edited.with_cost.Goals as goal

pub of_parts-requires : goal.of_parts-requires
of_parts-requires c =
    priced_as c.args.case.now c.args.cost c.columns.result c.of_vec.result c.of_vec-pairs.result c.columns.ensures (c.of_vec.ensures ∙ c.in_ok-constraints.ensures ∙ c.constraints.ensures.list) (c.of_vec-pairs.ensures ∙ c.in_ok-from_slice.ensures.items ∙ c.pairs.ensures.list) c.constraints.ensures.kept c.requires
