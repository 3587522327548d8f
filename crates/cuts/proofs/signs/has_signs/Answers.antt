use Rattle.std.proofs.Common.{pos, false, refl, sym, ◌∙◌, get_or}
use Rattle.std.proofs.lemmas.Bool.{false≢true}
use Rattle.std.proofs.lemmas.List.{take_all}
use Rattle.std.proofs.lemmas.List.Elements.{All-more}
use Rattle.cuts.specs.Cuts.{HasSign}
use Rattle.cuts.proofs.Steps.{get_or-same}
use Rattle.cuts.proofs.signs.has_signs.Goals as goal
use Rattle.cuts.proofs.signs.has_signs.Goals.{else-needs_choice-via-then-needs_choice+else-not-marks-multiplier, else-needs_choice-via-else-needs_choice}

pub mark_chosen-requires-clause-unmarked : goal.mark_chosen-requires-clause-unmarked
mark_chosen-requires-clause-unmarked c = λ k. get_or-same 2000 k false

pub loop-multiplier-preserved : goal.loop-multiplier-preserved
loop-multiplier-preserved c =
    All-more (HasSign c.args.case.now c.args.choices.now) c.args.mult.now c.loop-multiplier.multiplier-index (0, pos 0) c.loop-multiplier-test.true c.loop-multiplier.invariant (λ negative inequality. elim c.else-needs_choice.branch [
      | else-needs_choice-via-then-needs_choice+else-not-marks-multiplier w ↦
          (c.mark_chosen.ensures (get_or c.args.mult.now c.loop-multiplier.multiplier-index (0, pos 0)).0).0 w.if-not-marks-multiplier.false
      | else-needs_choice-via-else-needs_choice w ↦ absurd (false≢true (sym w.if-needs_choice.false ∙ c.needs_choice.ensures.1 (negative, rw c.constraints-constraints.ensures.list inequality)))
    ])

pub returns : goal.returns
returns c = (λ _. rw (take_all c.loop-multiplier.multiplier-index c.args.mult.now c.loop-multiplier-test.false) at c.loop-multiplier.invariant, λ _. refl)
