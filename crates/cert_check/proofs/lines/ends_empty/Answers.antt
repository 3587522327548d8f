use Rattle.cert_check.proofs.Endings.{ends_at}
use Rattle.cert_check.proofs.lines.ends_empty.Goals as goal

pub returns-in-Some : goal.returns-in-Some
returns-in-Some c =
    ends_at c.args.lines.now c.in-Some.line.now c.choices.result.now c.no_good.result.now c.is_empty.result c.in-Some.ensures.value c.no_good.ensures c.choices.ensures.list c.is_empty.ensures
