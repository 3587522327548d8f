use Rattle.std.proofs.Common.{◌∙◌}
use Rattle.migrating.proofs.Keys.{any_shown}
use Rattle.migrating.proofs.lists.Lists.has.Goals as goal

pub returns : goal.returns
returns c = rw (← c.self.view_is) (c.contains.ensures ∙ any_shown c.args.mult.now c.self.inside.held.keys)
