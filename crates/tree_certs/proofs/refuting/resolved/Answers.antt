use Rattle.std.proofs.Common.{◌∙◌, sym}
use Rattle.std.specs.Option.{option_copied}
use Rattle.tree_certs.proofs.RefutingLaws.{first_resolves, second_resolves}
use Rattle.tree_certs.proofs.refuting.resolved.Goals as goal

pub returns-then-not-has_first : goal.returns-then-not-has_first
returns-then-not-has_first c =
    first_resolves c.args.case.now (option_copied c.args.best) c.args.path.now c.args.pair c.args.made.now c.args.first c.args.second c.requires (sym c.step_has-has_first.ensures ∙ c.if-not-has_first.true)

pub returns-then-not-has_second : goal.returns-then-not-has_second
returns-then-not-has_second c =
    second_resolves c.args.case.now (option_copied c.args.best) c.args.path.now c.args.pair c.args.made.now c.args.first c.args.second c.requires
    (sym c.step_has-has_first.ensures ∙ c.if-not-has_first.false) (sym c.step_has-has_second.ensures ∙ c.if-not-has_second.true)
