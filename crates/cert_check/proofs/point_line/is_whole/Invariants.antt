use Rattle.std.proofs.Common.{ℕ, ◌<◌, ◌≡◌, get_or}
use Rattle.nogoods.specs.declared.choice.Choice.{Choice}
use Rattle.cert_check.proofs.point_line.is_whole.Given as goal

abbrev pub invariant-loop-at : goal.invariant-loop-at
invariant-loop-at l = (k : ℕ) (d : Choice) → k < l.at → (get_or l.choices k d).pair ≡ k
