use Rattle.std.proofs.Common.{rules}
use Rattle.mps_lex.proofs.Cutting.{field_found}
use Rattle.mps_lex.proofs.First.{held_most}
use Rattle.mps_lex.proofs.split.fields_of.Goals as goal

pub loop-rest-preserved : goal.loop-rest-preserved
loop-rest-preserved c = record {
  so_far = field_found c.loop-rest.found.items c.in-Some.field c.push.new.self.items c.loop-rest.rest.now c.in-Some.after.now _ c.in_ok-push-in-Some.ensures.items c.in-Some.ensures.some c.loop-rest.invariant.so_far;
  few = search rules;
}

pub returns : goal.returns
returns c = held_most c.loop-rest.found.items _ _ c.loop-rest.invariant.so_far (search rules)
