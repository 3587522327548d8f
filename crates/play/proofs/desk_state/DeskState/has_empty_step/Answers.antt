use Rattle.std.proofs.Common.{ap, ◌∙◌}
use Rattle.play.specs.Parts.{Part}
use Rattle.play.proofs.StateLaws.{empty_exactly}
use Rattle.play.proofs.desk_state.DeskState.has_empty_step.Goals as goal

pub returns : goal.returns
returns c = empty_exactly c.steps.result.now c.args.self.now.log c.has_empty.result (c.steps.ensures.list ∙ ap (λ (d : Part). d.log) c.self.view_is) c.has_empty.ensures
