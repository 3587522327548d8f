use Rattle.std.proofs.Common.{ap, ◌∙◌}
use Rattle.play.specs.Parts.{Part}
use Rattle.play.proofs.StateLaws.{barred_exactly}
use Rattle.play.proofs.desk_state.DeskState.is_barred.Goals as goal

pub returns : goal.returns
returns c = barred_exactly c.as_slice.result.now c.args.self.now c.args.piece.now c.bar.result (c.as_slice.ensures.value ∙ ap (λ (d : Part). d.absorbed) c.self.view_is) c.bar.ensures
