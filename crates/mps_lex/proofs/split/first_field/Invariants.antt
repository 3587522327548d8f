use Rattle.std.proofs.Common.{length, ◌≡◌, ◌≤◌}
use Rattle.mps_lex.specs.Kinds.{fields}
use Rattle.mps_lex.proofs.split.first_field.Given as goal

abbrev pub invariant-loop-rest : goal.invariant-loop-rest
invariant-loop-rest l = record {
  fields : fields l.rest ≡ fields l.text;
  within : length l.rest ≤ length l.text;
}

abbrev pub decreases-loop-rest : goal.decreases-loop-rest
decreases-loop-rest l = length l.rest
