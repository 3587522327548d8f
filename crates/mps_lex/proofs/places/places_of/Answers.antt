use Rattle.std.proofs.Common.{rules, length}
use Rattle.mps_lex.proofs.Placing.{place_found}
use Rattle.mps_lex.proofs.places.places_of.Goals as goal

pub loop-rest-preserved : goal.loop-rest-preserved
loop-rest-preserved c = record {
  so_far = place_found c.loop-rest.found c.push.new.self c.loop-rest.rest.now c.split_at.result.1.now c.loop-rest.from (length c.split_at.result.0.now) c.run_len.result _ c.in_ok-push.ensures.ok (search rules) (search rules) c.run_len.ensures.len c.split_at.ensures.front_len c.split_at.ensures.back c.loop-rest.invariant.so_far;
  room = search rules;
}
