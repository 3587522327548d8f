use Rattle.std.proofs.Common.{sym, ◌∙◌}
use Rattle.std.proofs.lemmas.Bool.{false≢true}
use Rattle.play.proofs.DirectionLaws.{not_met, not_tight}
use Rattle.play.proofs.settlement.is_directed.Goals as goal

pub returns-then-not-meets : goal.returns-then-not-meets
returns-then-not-meets c = not_met c.args.case.now c.args.piece.now c.args.point.now c.args.ray.now c.meets.result c.meets.ensures (λ e. false≢true (sym c.if-not-meets.true ∙ e))

pub returns-then-not-is_tight_at : goal.returns-then-not-is_tight_at
returns-then-not-is_tight_at c = not_tight c.args.case.now c.args.piece.now c.args.point.now c.args.ray.now c.args.tight.now c.is_tight_at.result c.requires.tight c.is_tight_at.ensures (λ e. false≢true (sym c.if-not-is_tight_at.true ∙ e))
