use Rattle.std.proofs.Common.{sym, subst}
use Rattle.lpcc_case.specs.Pieces.{NamesPairs}
use Rattle.settling.proofs.Outcomes.{choices_named}
use Rattle.settling.proofs.outcome.solve_piece.Goals as goal

pub solve-requires : goal.solve-requires
solve-requires c = record {
  named = subst (NamesPairs c.args.case.now) (sym c.in_ok-tight.ensures) (choices_named c.args.case.now c.args.piece.now c.requires);
}
