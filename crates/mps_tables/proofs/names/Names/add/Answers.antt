use Rattle.std.proofs.Common.{map, ap, ◌∙◌}
use Rattle.mps_lex.specs.Shown.{shown}
use Rattle.mps_tables.proofs.Keys.{added}
use Rattle.mps_tables.proofs.names.Names.add.Goals as goal

pub returns-clause-ok : goal.returns-clause-ok
returns-clause-ok c = rw (← c.self.view_is) (ap (map shown) c.in_ok-insert.ensures.keys ∙ added c.self.inside.held.keys c.args.name)
