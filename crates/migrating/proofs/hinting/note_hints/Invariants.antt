use Rattle.std.proofs.Common.{◌≡◌, drop}
use Rattle.migrating.specs.Making.{noted}
use Rattle.migrating.proofs.hinting.note_hints.Given as goal

abbrev pub invariant-loop-hint : goal.invariant-loop-hint
invariant-loop-hint l = noted l.last.items l.number (drop l.hint-index l.hints) ≡ noted l.fn.last.items l.number l.hints
