use Rattle.std.proofs.Common.{◌<◌, length, List, sym, subst}
use Rattle.std.specs.Option.{option_copied}
use Rattle.nogoods.specs.declared.choice.Choice.{Choice}
use Rattle.lpcc_case.specs.Pieces.{NamesPairs}
use Rattle.probe.specs.Answers.{IsAnswer, IsCutWithin}
use Rattle.shrink.proofs.Removing.{All_remove}
use Rattle.shrink.proofs.Within.{within_others}
use Rattle.shrink.proofs.probing.try_without.Goals as goal

pub ask-requires-clause-named : goal.ask-requires-clause-named
ask-requires-clause-named c =
    let a = c.args.case.now in
    let named : NamesPairs a c.no_good-ng.result.now = subst (NamesPairs a) (sym c.no_good-ng.ensures) c.requires.passes.indexed.pairs_named in
    subst (NamesPairs a) (sym c.in_ok-others.ensures) (All_remove (λ x. x.pair < length a.pairs) c.no_good-ng.result.now c.in-Some.k named)

pub returns-in-Cut : goal.returns-in-Cut
returns-in-Cut c =
    let a = c.args.case.now in
    let limit = option_copied c.args.limit in
    let made = subst (IsAnswer a limit c.in_ok-others.others) c.in-Cut.is c.in_ok-smaller.ensures in
    let less : IsCutWithin a limit c.no_good-ng.result.now c.in-Cut.smaller = within_others a limit c.no_good-ng.result.now c.in_ok-others.others c.in-Some.k c.args.choice c.in-Cut.smaller c.in-Some.ensures c.in_ok-others.ensures made in
    subst (λ (ng : List Choice). IsCutWithin a limit ng c.in-Cut.smaller) c.no_good-ng.ensures less
