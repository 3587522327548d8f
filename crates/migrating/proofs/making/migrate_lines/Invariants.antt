use Rattle.std.proofs.Common.{◌≡◌, ◌++◌, drop}
use Rattle.migrating.specs.Migration.{migrated_from, migrated_lines}
use Rattle.migrating.proofs.making.migrate_lines.Given as goal

abbrev pub invariant-loop-at : goal.invariant-loop-at
invariant-loop-at l = l.made.lines ++ migrated_from l.lines l.made.lists (drop l.at l.lines) ≡ migrated_lines l.lines
