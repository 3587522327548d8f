use Rattle.deck_case.proofs.Feasibility.{feasible_law}
use Rattle.kkt_front.specs.Decks.{lcp_deck}
use Rattle.kkt_front.proofs.LcpMeaning.{met_is_solution, solution_is_met}
use Rattle.kkt_front.proofs.laws.a_deck_is_met_by_the_solutions.Goals as goal

pub returns-clause-deck : goal.returns-clause-deck
returns-clause-deck c = λ p end z h. (met_is_solution p end z h, solution_is_met p end z h)

pub returns-clause-case : goal.returns-clause-case
returns-clause-case c = λ p end z h d.
    let law = feasible_law (lcp_deck p end) z d in
    (λ f. met_is_solution p end z h (law.0 f), λ s. law.1 (solution_is_met p end z h s))
