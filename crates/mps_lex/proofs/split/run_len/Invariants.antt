use Rattle.std.proofs.Common.{length, drop, ◌-◌, ◌+◌, ◌≤◌, ◌≡◌, not}
use Rattle.std.specs.List.{prefix_len}
use Rattle.mps_lex.specs.Kinds.{is_blank}
use Rattle.mps_lex.proofs.split.run_len.Given as goal

abbrev pub invariant-loop-at : goal.invariant-loop-at
invariant-loop-at l = record {
  within : l.at ≤ length l.text;
  so_far : l.at + prefix_len (λ b. not (is_blank b)) (drop l.at l.text) ≡ prefix_len (λ b. not (is_blank b)) l.text;
}

abbrev pub decreases-loop-at : goal.decreases-loop-at
decreases-loop-at l = length l.text - l.at
