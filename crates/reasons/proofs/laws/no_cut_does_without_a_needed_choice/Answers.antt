use Rattle.reasons.proofs.Needed.{needed}
use Rattle.reasons.proofs.laws.no_cut_does_without_a_needed_choice.Goals as goal

pub returns : goal.returns
returns c a budget limit others q cut of reason true_cut active within = needed a limit others q cut of reason.0 reason.1 true_cut active within
