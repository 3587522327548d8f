use Rattle.std.proofs.Common.{◌+◌, ◌≡◌, ap, arith, subst, sym}
use Rattle.std.specs.Prelude.{IfOk}
use Rattle.std.specs.Option.{option_copied}
use Rattle.nogoods.specs.declared.choice.Side.TheVariants.{A, B}
use Rattle.tree_engine.specs.Paths.{choice_of, first_side, second_side}
use Rattle.tree_engine.specs.Trees.{Holds, size}
use Rattle.tree_certs.specs.Refuting.{IsRefuted}
use Rattle.tree_certs.proofs.RefutingLaws.{both_refuted, side_holds, side_named, sides_of_both, split_result}
use Rattle.tree_certs.proofs.refuting.+refuted.Goals as goal

pub refuted-requires : goal.refuted-requires
refuted-requires t c =
    let h = subst (λ x. Holds c.args.case.now (option_copied c.args.best) c.args.path.now x) c.in-Split.is c.requires.holds in
    let whole : size c.args.tree.now ≡ size c.in-Split.a.value + size c.in-Split.b.value + 1 = ap size c.in-Split.is in
    let part : size c.deref.result.now ≡ size c.in-Split.a.value = ap size c.deref.ensures in (
      omega (arith, c.decreases, whole, part),
      (
        c.requires.sound,
        (
          side_named c.args.case.now (choice_of c.in-Split.pair A) c.args.path.now c.in_ok-first_path-in-Split.first_path c.in_ok-first_path-in-Split.ensures c.requires.named h.0,
          side_holds c.args.case.now (option_copied c.args.best) c.in_ok-first_path-in-Split.first_path (first_side c.in-Split.pair c.args.path.now) c.deref.result.now c.in-Split.a.value c.in_ok-first_path-in-Split.ensures c.deref.ensures h.1,
        ),
      ),
    )

pub refuted-requires-in-Split : goal.refuted-requires-in-Split
refuted-requires-in-Split t c =
    let h = subst (λ x. Holds c.args.case.now (option_copied c.args.best) c.args.path.now x) c.in-Split.is c.requires.holds in
    let one : IsRefuted c.args.case.now (option_copied c.args.best) c.in_ok-first_path-in-Split.first_path c.deref.result.now c.args.made.now c.refuted.new.made c.in_ok-first-in-Split.first = c.in_ok-first-in-Split.ensures in
    let whole : size c.args.tree.now ≡ size c.in-Split.a.value + size c.in-Split.b.value + 1 = ap size c.in-Split.is in
    let part : size c.deref-in-Split.result.now ≡ size c.in-Split.b.value = ap size c.deref-in-Split.ensures in (
      omega (arith, c.decreases, whole, part),
      (
        one.sound,
        (
          side_named c.args.case.now (choice_of c.in-Split.pair B) c.args.path.now c.in_ok-second_path-in-Split.second_path c.in_ok-second_path-in-Split.ensures c.requires.named h.0,
          side_holds c.args.case.now (option_copied c.args.best) c.in_ok-second_path-in-Split.second_path (second_side c.in-Split.pair c.args.path.now) c.deref-in-Split.result.now c.in-Split.b.value c.in_ok-second_path-in-Split.ensures c.deref-in-Split.ensures h.2,
        ),
      ),
    )

pub resolved-requires : goal.resolved-requires
resolved-requires t c =
    let h = subst (λ x. Holds c.args.case.now (option_copied c.args.best) c.args.path.now x) c.in-Split.is c.requires.holds in
    sides_of_both c.args.case.now (option_copied c.args.best) c.args.path.now c.in-Split.pair c.in-Split.a.value c.in-Split.b.value c.args.made.now c.refuted.new.made c.refuted-in-Split.new.made c.in_ok-first-in-Split.first c.in_ok-second-in-Split.second c.requires.named h.0
    (both_refuted c.args.case.now (option_copied c.args.best) c.args.path.now c.in-Split.pair c.in-Split.a.value c.in-Split.b.value c.deref.result.now c.deref-in-Split.result.now c.in_ok-first_path-in-Split.first_path c.in_ok-second_path-in-Split.second_path c.args.made.now c.refuted.new.made c.refuted-in-Split.new.made c.in_ok-first-in-Split.first c.in_ok-second-in-Split.second
    c.in_ok-first_path-in-Split.ensures c.deref.ensures c.in_ok-first-in-Split.ensures c.in_ok-second_path-in-Split.ensures c.deref-in-Split.ensures c.in_ok-second-in-Split.ensures)

pub returns-in_ok-second-in-Split : goal.returns-in_ok-second-in-Split
returns-in_ok-second-in-Split t c =
    let both = both_refuted c.args.case.now (option_copied c.args.best) c.args.path.now c.in-Split.pair c.in-Split.a.value c.in-Split.b.value c.deref.result.now c.deref-in-Split.result.now c.in_ok-first_path-in-Split.first_path c.in_ok-second_path-in-Split.second_path c.args.made.now c.refuted.new.made c.refuted-in-Split.new.made c.in_ok-first-in-Split.first c.in_ok-second-in-Split.second
    c.in_ok-first_path-in-Split.ensures c.deref.ensures c.in_ok-first-in-Split.ensures c.in_ok-second_path-in-Split.ensures c.deref-in-Split.ensures c.in_ok-second-in-Split.ensures in
    subst (λ w. IfOk c.resolved.result (IsRefuted c.args.case.now (option_copied c.args.best) c.args.path.now w c.args.made.now c.resolved.new.made)) (sym c.in-Split.is)
    (split_result c.resolved.result c.args.case.now (option_copied c.args.best) c.args.path.now c.in-Split.pair c.in-Split.a.value c.in-Split.b.value c.args.made.now c.refuted.new.made c.refuted-in-Split.new.made c.resolved.new.made c.in_ok-first-in-Split.first c.in_ok-second-in-Split.second both c.resolved.ensures)
