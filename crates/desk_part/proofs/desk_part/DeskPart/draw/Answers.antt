use Rattle.std.proofs.Common.{inl, refl}
use Rattle.play.proofs.Verdicts.{not_none}
use Rattle.desk_part.specs.declared.answer.Draw.TheVariants as draw
use Rattle.desk_part.proofs.DrawLaws.{stays, learns_carried, then_result}
use Rattle.desk_part.proofs.desk_part.DeskPart.draw.Goals as goal

pub returns-then-has_verdict-clause-ok : goal.returns-then-has_verdict-clause-ok
returns-then-has_verdict-clause-ok c =
    stays c.args.case.now c.args.options.now c.args.self.now c.args.worker draw.Done (inl refl) (inl (not_none c.args.self.now.verdict (c.has_verdict.ensures.some c.if-has_verdict.true)))

pub answer-requires-clause-carried : goal.answer-requires-clause-carried
answer-requires-clause-carried c = learns_carried c.args.case.now c.args.options.now c.args.self.now c.search.new.self c.search.ensures.learns c.requires.carried

pub returns-clause-ok : goal.returns-clause-ok
returns-clause-ok c = then_result c.args.case.now c.args.options.now c.args.worker c.args.self.now c.search.new.self c.answer.new.self c.answer.result c.search.ensures.learns c.answer.ensures.ok
