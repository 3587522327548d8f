use Rattle.std.proofs.Common.{ap, sym, ◌∙◌}
use Rattle.std.proofs.lemmas.Bool.{false≢true}
use Rattle.play.specs.Parts.{Part}
use Rattle.play.proofs.StateLaws.{taken_aside, taken_flying}
use Rattle.play.proofs.desk_state.DeskState.is_taken.Goals as goal

pub returns-then-is_flying : goal.returns-then-is_flying
returns-then-is_flying c = taken_flying c.as_slice.result.now c.args.self.now c.args.piece.now c.is_flying.result (c.as_slice.ensures.value ∙ ap (λ (d : Part). d.flight) c.self.view_is) c.is_flying.ensures c.if-is_flying.true

pub returns : goal.returns
returns c = taken_aside c.as_slice.result.now c.as_slice-2.result.now c.args.self.now c.args.piece.now c.is_flying.result c.is_aside.result
    (c.as_slice.ensures.value ∙ ap (λ (d : Part). d.flight) c.self.view_is) (c.as_slice-2.ensures.value ∙ ap (λ (d : Part). d.aside) c.self.view_is)
    c.is_flying.ensures (λ e. false≢true (sym c.if-is_flying.false ∙ e)) c.is_aside.ensures
