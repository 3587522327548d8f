use Rattle.std.proofs.Common.{rules}
use Rattle.mps_lex.proofs.Cutting.{field_first}
use Rattle.mps_lex.proofs.split.first_field.Goals as goal

pub returns-then-not-is_blank-clause-some : goal.returns-then-not-is_blank-clause-some
returns-then-not-is_blank-clause-some c = field_first c.loop-rest.rest.now c.split_at.result.1.now c.split_at.result.0.now _ _ (search rules) (search rules) c.run_len.ensures.len c.split_at.ensures.front c.split_at.ensures.back c.loop-rest.invariant.fields
