use Rattle.std.proofs.Common.{refl}
use Rattle.std.proofs.lemmas.Bool.{false≢true}
use Rattle.cert_check.proofs.Judged.{wrong_size, wrong_pair, right_pairs}
use Rattle.cert_check.proofs.point_line.is_whole.Goals as goal

pub returns-then-choices-pairs : goal.returns-then-choices-pairs
returns-then-choices-pairs c =
    (λ f. absurd (false≢true f), λ whole. absurd (wrong_size c.args.case.now c.args.piece.now c.choices-choices.result.now c.pairs.result.now c.choices-choices.ensures.list c.pairs.ensures.list c.if-choices-pairs.true whole))

pub returns-then-choice-at : goal.returns-then-choice-at
returns-then-choice-at c =
    (λ f. absurd (false≢true f), λ whole. absurd (wrong_pair c.args.case.now c.args.piece.now c.choices-choices.result.now c.pairs.result.now c.loop-at.at _ c.choices-choices.ensures.list c.pairs.ensures.list c.if-choices-pairs.false c.loop-at-test.true c.if-choice-at.true whole))

pub returns : goal.returns
returns c =
    (λ t. right_pairs c.args.case.now c.args.piece.now c.choices-choices.result.now c.pairs.result.now c.loop-at.at c.choices-choices.ensures.list c.pairs.ensures.list c.if-choices-pairs.false c.loop-at-test.false c.loop-at.invariant, λ whole. refl)
