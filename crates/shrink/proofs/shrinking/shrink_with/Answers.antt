use Rattle.std.proofs.Common.{◌<◌, List, length, subst}
use Rattle.std.specs.Prelude.{IfSome}
use Rattle.std.specs.Option.{option_copied}
use Rattle.std.proofs.lemmas.List.Elements.{All-contains_itself}
use Rattle.nogoods.specs.declared.choice.Choice.{Choice}
use Rattle.cuts.specs.Cuts.{no_good_of}
use Rattle.shrink.specs.Trials.{AreFound, AreKept, IsSmaller}
use Rattle.shrink.proofs.Reasoning.{all_found, smaller_fewer, stands_on}
use Rattle.shrink.proofs.shrinking.shrink_with.Goals as goal

pub loop-found-init : goal.loop-found-init
loop-found-init c =
    let a = c.args.case.now in
    let limit = option_copied c.args.limit in
    record {
      passes = c.requires.passes;
      active = c.requires.active;
      choices = All-contains_itself (no_good_of c.args.cut);
      found = subst (λ (ng : List Choice). AreFound a c.args.pivots limit ng c.in_ok-found.found.items) c.no_good.ensures (c.in_ok-found.ensures a c.args.pivots limit);
    }

pub returns-in_default-2 : goal.returns-in_default-2
returns-in_default-2 c =
    let a = c.args.case.now in
    let limit = option_copied c.args.limit in
    let before = c.loop-found.invariant in
    let found = c.try_all.new.found.items in
    record {
      passes = before.passes;
      active = before.active;
      choices = before.choices;
      kept = all_found a c.args.pivots limit (no_good_of c.loop-found.cut) found c.in_ok-kept.kept
          (subst (λ (ng : List Choice). AreFound a c.args.pivots limit ng found) c.no_good-ng.ensures c.try_all.ensures.found)
          (subst (λ (ng : List Choice). AreKept ng found c.in_ok-kept.kept) c.no_good-ng.ensures c.in_ok-kept.ensures);
    }

pub loop-found-smaller : goal.loop-found-smaller
loop-found-smaller c =
    let a = c.args.case.now in
    let limit = option_copied c.args.limit in
    let less = subst (λ o. IfSome o (IsSmaller a limit c.no_good-ng.result.now)) c.in-Some-2.is c.in_ok-smaller.ensures.smaller in
    subst (λ (ng : List Choice). length (no_good_of c.in-Some-2.smaller) < length ng) c.no_good-ng.ensures (smaller_fewer a limit c.no_good-ng.result.now c.in-Some-2.smaller less)

pub loop-found-preserved : goal.loop-found-preserved
loop-found-preserved c =
    let a = c.args.case.now in
    let limit = option_copied c.args.limit in
    let before = c.loop-found.invariant in
    let less = subst (λ o. IfSome o (IsSmaller a limit c.no_good-ng.result.now)) c.in-Some-2.is c.in_ok-smaller.ensures.smaller in
    let on = stands_on a c.args.pivots limit (no_good_of c.args.cut) c.no_good-ng.result.now c.no_good-in-loop-found.result.now c.loop-found.cut c.in-Some-2.smaller c.try_all.new.found.items c.in_ok-found-2.found.items
    c.no_good-ng.ensures c.no_good-in-loop-found.ensures before.choices c.try_all.ensures.found less c.in_ok-found-2.ensures.carried c.in_ok-found-2.ensures.ascending in
    record { passes = on.passes; active = on.active; choices = on.choices; found = on.so_far }
