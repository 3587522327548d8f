use Rattle.command.specs.declared.extent.Extent.TheVariants.{Prefix}
use Rattle.verifier.proofs.laws.accepted_inputs_are_true.Goals as goal

pub returns : goal.returns
returns c = λ bytes v h.
    c.verdicts_are_true_of_the_bytes.ensures Prefix bytes h.1 h.3.rest v h.3.deck (c.accepted_verdicts_are_true.ensures h.1 h.2 v h.4)
