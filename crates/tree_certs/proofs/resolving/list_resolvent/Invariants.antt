use Rattle.std.proofs.Common.{◌≡◌, take}
use Rattle.tree_certs.specs.Derivations.{resolvent}
use Rattle.tree_certs.proofs.resolving.list_resolvent.Given as goal

abbrev pub invariant-loop-at : goal.invariant-loop-at
invariant-loop-at l = l.made.items ≡ resolvent (take l.at l.path) l.u l.v
