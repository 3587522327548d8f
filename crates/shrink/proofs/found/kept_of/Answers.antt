use Rattle.std.proofs.Common.{◌≡◌, ◌<◌, Some, None, get_or, length, sym, ap, ◌∙◌, arith, subst}
use Rattle.std.specs.Prelude.{IsSome}
use Rattle.std.proofs.lemmas.List.{length-set}
use Rattle.nogoods.specs.declared.choice.Side.TheVariants.{A}
use Rattle.shrink.proofs.Carrying.{kept_more}
use Rattle.shrink.proofs.Places.{rest_after, same_at}
use Rattle.shrink.proofs.found.kept_of.Goals as goal

pub unreachable-requires : goal.unreachable-requires
unreachable-requires c =
    let here = c.index_mut.result.now in
    let place : c.loop-k.k < length c.args.ng.now = rw c.choices-choices.ensures.list at c.loop-k-test.true in
    let none : get_or c.args.found.items c.loop-k.k here ≡ None = sym (same_at c.loop-k.found.items c.args.found.items c.loop-k.k here c.loop-k.invariant.rest) ∙ sym c.index_mut.ensures.value ∙ sym c.take.ensures.value ∙ c.in_default.is in
    let one : IsSome (get_or c.args.found.items c.loop-k.k here) = c.requires.all c.loop-k.k here (omega arith) place in
    let clash = subst IsSome none one in
    cc

pub loop-k-preserved : goal.loop-k-preserved
loop-k-preserved c =
    let here = c.index_mut.result.now in
    let before = c.loop-k.invariant in
    let within : c.loop-k.k < length c.args.found.items = omega (arith, c.loop-k-test.true, ap length c.choices-choices.ensures.list, c.requires.size) in
    let there : get_or c.args.found.items c.loop-k.k here ≡ Some c.in-Some.reason = sym (same_at c.loop-k.found.items c.args.found.items c.loop-k.k here before.rest) ∙ sym c.index_mut.ensures.value ∙ sym c.take.ensures.value ∙ c.in-Some.is in
    record {
      size = length-set c.loop-k.found.items c.loop-k.k c.take.new.self ∙ before.size;
      rest = rest_after c.loop-k.found.items c.args.found.items c.loop-k.k c.take.new.self before.rest;
      so_far = kept_more c.choices-choices.result.now c.args.found.items c.loop-k.kept c.push.new.self c.loop-k.k (record { pair = 0; side = A }) here c.in-Some.reason c.loop-k-test.true within there before.so_far c.in_ok-push.ensures.ok;
    }
