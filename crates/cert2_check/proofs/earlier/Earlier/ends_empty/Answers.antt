use Rattle.std.proofs.Common.{[], ◌-◌, get_or, ap, ◌∙◌}
use Rattle.cert2_check.proofs.Showing.{ends_by}
use Rattle.cert2_check.proofs.earlier.Earlier.ends_empty.Goals as goal

pub returns : goal.returns
returns c =
    ends_by c.args.self.now.no_goods c.choices.result.now c.is_empty.result (λ e. c.if-count-eq0.false (c.count-count.ensures ∙ e))
    (c.choices.ensures ∙ ap (λ n. get_or c.args.self.now.no_goods (n - 1) []) c.count-count.ensures) c.is_empty.ensures
