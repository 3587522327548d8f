use Rattle.edit_solving.specs.Meanings.{AreOwn}
use Rattle.edit_solving.proofs.Naming.{never_ascends, not_ascending}
use Rattle.edit_solving.proofs.meanings.terms_of.Goals as goal

pub returns : goal.returns
returns c =
    let own : AreOwn c.args.columns c.args.relation c.args.terms.now c.in-Some.named = rw c.in-Some.is at c.in_ok-named.ensures in
    not_ascending c.args.columns c.args.relation c.args.terms.now c.in-Some.named own.names (never_ascends c.args.columns c.is_ascending.result c.as_slice.result.now c.in-Some.named c.is_ascending.ensures c.as_slice.ensures c.if-is_ascending.false)
