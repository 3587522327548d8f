use Rattle.std.proofs.Common.{◌≡◌, ◌++◌}
use Rattle.front_case.specs.Parts.{follow_block}
use Rattle.front_case.proofs.bilevel.push_follow_entries.Given as goal

abbrev pub invariant-loop-k : goal.invariant-loop-k
invariant-loop-k l = l.entries ≡ l.initial.entries ++ follow_block l.fn.column l.fn.first l.fn.terms l.fn.variable l.k
