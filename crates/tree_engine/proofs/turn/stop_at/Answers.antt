use Rattle.std.proofs.Common.{subst}
use Rattle.lex_simplex.specs.Answers.{IsAnswer}
use Rattle.tree_engine.proofs.Pieces.{direction}
use Rattle.tree_engine.proofs.turn.stop_at.Goals as goal

pub returns-in-Unbounded : goal.returns-in-Unbounded
returns-in-Unbounded c run is_run further =
    let h = subst (IsAnswer c.args.case.now c.args.path.now c.args.options.now.pivots) c.in-Unbounded.is c.requires.answer in
    direction c.args.case.now c.in_ok-piece.piece c.args.path.now c.in-Unbounded.point c.in-Unbounded.ray c.requires.whole c.in_ok-piece.ensures h.0 h.1
