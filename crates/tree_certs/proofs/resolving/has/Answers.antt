use Rattle.tree_certs.proofs.Resolutions.{is_assumed_by}
use Rattle.tree_certs.proofs.resolving.has.Goals as goal

pub returns : goal.returns
returns c = is_assumed_by c.stands_among.result c.args.choices.now c.args.choice c.stands_among.ensures
