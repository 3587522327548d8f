use Rattle.std.proofs.Common.{length, ◌≡◌, ◌≤◌, ◌-◌, ◌++◌, map}
use Rattle.mps_lex.specs.Shown.{shown}
use Rattle.mps_lex.specs.Kinds.{fields}
use Rattle.mps_lex.specs.declared.split.TheConstants.{FIRST_FIELDS}
use Rattle.mps_lex.proofs.split.fields_of.Given as goal

abbrev pub invariant-loop-rest : goal.invariant-loop-rest
invariant-loop-rest l = record {
  so_far : map shown l.found.items ++ fields l.rest ≡ fields l.text;
  few : length l.found.items ≤ FIRST_FIELDS;
}

abbrev pub decreases-loop-rest : goal.decreases-loop-rest
decreases-loop-rest l = FIRST_FIELDS - length l.found.items
