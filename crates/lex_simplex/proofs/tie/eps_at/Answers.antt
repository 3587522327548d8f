use Rattle.std.proofs.Common.{◌∙◌, sym, ap}
use Rattle.std.specs.Prelude.{not}
use Rattle.dict.specs.Exchanges.{turn}
use Rattle.basic_solutions.proofs.Machine.{number_again}
use Rattle.lex_simplex.proofs.Ties.{distance_of_place}
use Rattle.lex_simplex.proofs.tie.eps_at.Goals as goal

pub returns-clause-value : goal.returns-clause-value
returns-clause-value c =
    number_again c.turned.result _ c.turned.ensures.narrow
    (c.turned.ensures.value ∙ ap (λ z. turn (not c.args.c.rises) z) (number_again c.entry.result _ c.entry.ensures.narrow c.entry.ensures.value)
    ∙ sym (distance_of_place c.args.case.now c.args.tight.now c.args.stage c.args.dict.now c.args.goal_row c.args.col c.args.down c.args.c c.args.place c.args.k c.requires.sized c.requires.c c.requires.place c.requires.form c.requires.free))
