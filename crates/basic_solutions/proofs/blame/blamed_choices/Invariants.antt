use Rattle.basic_solutions.proofs.BlameSteps.{Blaming}
use Rattle.basic_solutions.proofs.blame.blamed_choices.Given as goal

abbrev pub invariant-loop-choice : goal.invariant-loop-choice
invariant-loop-choice l = Blaming l.case l.mult l.choices l.choice-index l.marks.items l.out.items
