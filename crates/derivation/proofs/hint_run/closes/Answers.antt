use Rattle.std.proofs.Common.{◌≡◌, ◌<◌, ℕ, sym, ◌∙◌, List, [], ◌∷◌, length, get_or}
use Rattle.std.specs.Prelude.{All}
use Rattle.std.proofs.lemmas.List.Elements.{All-get_or}
use Rattle.nogoods.specs.declared.choice.Choice.{Choice}
use Rattle.nogoods.specs.Choices.{other}
use Rattle.derivation.specs.HintRuns.{NamesBelow, closes, unassumed}
use Rattle.derivation.proofs.Unassumed.{implied_named}
use Rattle.derivation.proofs.RunSteps.{held_ends, one_goes_on, one_shows}
use Rattle.derivation.proofs.hint_run.closes.Goals as goal

pub loop-at-init : goal.loop-at-init
loop-at-init g c =
    let earlier = g.N.NoGoods.list c.args.earlier.now in
    (c.args.ng.now, rw c.choices.ensures.list at c.of-assumed.ensures, λ i. closes earlier c.args.ng.now c.args.hints.now)

-- the choice that becomes assumed names one of the pairs
named : (earlier : List (List Choice)) (cs list : List Choice) (h count : ℕ) (choice implied : Choice) → All (NamesBelow 512) earlier → count ≡ length earlier → h < count → cs ≡ get_or earlier h [] → unassumed list cs ≡ choice ∷ [] → implied ≡ other choice → implied.pair < 512
named earlier cs list h count choice implied few counted inside read left is =
    let at : h < length earlier = rw counted at inside in
    let here : NamesBelow 512 cs = rw read (All-get_or (NamesBelow 512) earlier h [] at few) in
    implied_named list cs choice implied here left is

pub has-requires : goal.has-requires
has-requires g c =
    let inv = c.loop-at.invariant in
    named _ _ inv.0 _ _ _ _ c.requires.few_earlier_pairs c.count.ensures c.if-hint-count.false c.choices-in-loop-at.ensures (c.in-One.ensures inv.0 inv.1) c.other_choice-implied.ensures

pub returns-then-has : goal.returns-then-has
returns-then-has g c =
    let inv = c.loop-at.invariant in
    let is_named = named _ _ inv.0 _ _ _ _ c.requires.few_earlier_pairs c.count.ensures c.if-hint-count.false c.choices-in-loop-at.ensures (c.in-One.ensures inv.0 inv.1) c.other_choice-implied.ensures in
    let flag = sym (inv.1 c.other_choice-implied.result is_named) ∙ sym c.has.ensures ∙ c.if-has.true in
    sym (held_ends _ _ inv.0 _ _ _ _ _ _ c.loop-at-test.true inv.2 c.count.ensures c.if-hint-count.false c.choices-in-loop-at.ensures (c.in-One.ensures inv.0 inv.1) c.other_choice-implied.ensures flag)

pub add-requires : goal.add-requires
add-requires g c =
    let inv = c.loop-at.invariant in
    named _ _ inv.0 _ _ _ _ c.requires.few_earlier_pairs c.count.ensures c.if-hint-count.false c.choices-in-loop-at.ensures (c.in-One.ensures inv.0 inv.1) c.other_choice-implied.ensures

pub loop-at-preserved : goal.loop-at-preserved
loop-at-preserved g c =
    let inv = c.loop-at.invariant in
    let is_named = named _ _ inv.0 _ _ _ _ c.requires.few_earlier_pairs c.count.ensures c.if-hint-count.false c.choices-in-loop-at.ensures (c.in-One.ensures inv.0 inv.1) c.other_choice-implied.ensures in
    let flag = sym (inv.1 c.other_choice-implied.result is_named) ∙ sym c.has.ensures ∙ c.if-has.false in (
      other c.in-One.choice ∷ inv.0,
      one_shows _ _ inv.0 _ _ inv.1 c.add.ensures c.other_choice-implied.ensures,
      one_goes_on _ _ inv.0 _ _ _ _ _ _ c.loop-at-test.true inv.2 c.count.ensures c.if-hint-count.false c.choices-in-loop-at.ensures (c.in-One.ensures inv.0 inv.1) c.other_choice-implied.ensures flag,
    )
