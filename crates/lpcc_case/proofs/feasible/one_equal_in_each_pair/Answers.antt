use Rattle.std.proofs.Common.{ℕ, ℤ, ◌⊎◌, refl, sym, ◌∙◌, to_z, of_z}
use mir.Syntax.{w64}
use Rattle.std.proofs.lemmas.Bool.{false≢true}
use Rattle.std.proofs.lemmas.List.Elements.{All-more}
use Rattle.lp_base.proofs.Machine.{narrow_again}
use Rattle.lpcc_case.specs.NarrowPoints.{HoldsWithEquality}
use Rattle.lpcc_case.proofs.Members.{all_hold, one_fails, members_within}
use Rattle.lpcc_case.proofs.feasible.one_equal_in_each_pair.Goals as goal

pub one_equal-requires-clause-first : goal.one_equal-requires-clause-first
one_equal-requires-clause-first c =
    rw c.pairs-pair-items.ensures.list (members_within c.args.case.now c.loop-pair.pair-index (0, 0) c.pairs-pair-items.ensures.kept (rw c.pairs-pair-items.ensures.list at c.loop-pair-test.true)).0

pub one_equal-requires-clause-second : goal.one_equal-requires-clause-second
one_equal-requires-clause-second c =
    rw c.pairs-pair-items.ensures.list (members_within c.args.case.now c.loop-pair.pair-index (0, 0) c.pairs-pair-items.ensures.kept (rw c.pairs-pair-items.ensures.list at c.loop-pair-test.true)).1

pub returns-then-not-one_equal : goal.returns-then-not-one_equal
returns-then-not-one_equal c =
    let P : ℤ → ℕ × ℕ → Type 0 = λ z pair. HoldsWithEquality c.args.case.now c.args.numbers.now z pair.0 ⊎ HoldsWithEquality c.args.case.now c.args.numbers.now z pair.1 in
    (λ no. absurd (false≢true no), λ all. absurd (one_fails P (to_z w64 (of_z w64 c.args.d)) c.args.d c.args.case.now.pairs c.pairs-pair-items.result.now c.loop-pair.pair-index (0, 0) (narrow_again c.args.d c.requires.factor) c.pairs-pair-items.ensures.list c.loop-pair-test.true (λ here. false≢true (sym c.if-not-one_equal.true ∙ c.one_equal.ensures.1 here)) all))

pub loop-pair-preserved : goal.loop-pair-preserved
loop-pair-preserved c =
    let P : ℤ → ℕ × ℕ → Type 0 = λ z pair. HoldsWithEquality c.args.case.now c.args.numbers.now z pair.0 ⊎ HoldsWithEquality c.args.case.now c.args.numbers.now z pair.1 in
    All-more (P (to_z w64 (of_z w64 c.args.d))) c.args.case.now.pairs c.loop-pair.pair-index (0, 0) (rw c.pairs-pair-items.ensures.list at c.loop-pair-test.true) c.loop-pair.invariant (rw c.pairs-pair-items.ensures.list at (c.one_equal.ensures.0 c.if-not-one_equal.false))

pub returns : goal.returns
returns c =
    let P : ℤ → ℕ × ℕ → Type 0 = λ z pair. HoldsWithEquality c.args.case.now c.args.numbers.now z pair.0 ⊎ HoldsWithEquality c.args.case.now c.args.numbers.now z pair.1 in
    (λ _. all_hold P _ c.args.d c.args.case.now.pairs c.pairs-pair-items.result.now c.loop-pair.pair-index (narrow_again c.args.d c.requires.factor) c.pairs-pair-items.ensures.list c.loop-pair-test.false c.loop-pair.invariant, λ _. refl)
