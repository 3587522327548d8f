use Rattle.std.proofs.Common.{◌≡◌, List, drop}
use Rattle.nogoods.specs.declared.choice.Choice.{Choice}
use Rattle.derivation.specs.HintRuns.{closes}
use Rattle.derivation.specs.Flags.{Shows}
use Rattle.derivation.proofs.hint_run.closes.Given as goal

abbrev pub invariant-loop-at : goal.invariant-loop-at
invariant-loop-at g l =
    (list : List Choice) × Shows l.assumed list
    × (closes (g.N.NoGoods.list l.earlier) l.ng l.hints ≡ closes (g.N.NoGoods.list l.earlier) list (drop l.at l.hints))
