use Rattle.std.proofs.Common.{sym, subst}
use Rattle.dict.specs.Dictionaries.{Dictionary}
use Rattle.walks.specs.Duals.{IsPlaced}
use Rattle.walks.specs.Steps.{IsSized}
use Rattle.lex_simplex.proofs.Steps.{walk_sized}
use Rattle.lex_simplex.proofs.Nexts.{walk_placed}
use Rattle.lex_simplex.proofs.simplex.infeasible.Goals as goal

pub stuck_stage_cut-requires-clause-sized : goal.stuck_stage_cut-requires-clause-sized
stuck_stage_cut-requires-clause-sized c = subst (λ (d : Dictionary). IsSized c.args.case.now d) (sym c.dict.ensures) (walk_sized c.args.case.now c.args.tight.now c.args.walk.now c.constraints-constraints.ensures.kept c.requires.on)

pub stuck_stage_cut-requires-clause-placed : goal.stuck_stage_cut-requires-clause-placed
stuck_stage_cut-requires-clause-placed c = subst (λ (d : Dictionary). IsPlaced c.args.case.now d) (sym c.dict.ensures) (walk_placed c.args.case.now c.args.tight.now c.args.walk.now c.constraints-constraints.ensures.kept c.requires.on)
