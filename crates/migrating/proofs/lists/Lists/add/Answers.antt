use Rattle.std.proofs.Common.{map, ap, ◌∙◌}
use Rattle.migrating.proofs.Keys.{added}
use Rattle.migrating.proofs.lists.Lists.add.Goals as goal

pub returns-clause-ok : goal.returns-clause-ok
returns-clause-ok c = rw (← c.self.view_is) (ap (map (λ s. s.now)) c.in_ok-insert.ensures.keys ∙ added c.self.inside.held.keys c.args.mult)
