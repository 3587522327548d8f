use Rattle.nogoods.specs.declared.choice.Side.TheVariants.{A}
use Rattle.tree_engine.specs.Paths.{choice_of}
use Rattle.tree_engine.proofs.Pieces.{side_more}
use Rattle.tree_engine.proofs.paths.add_side.Goals as goal

pub returns : goal.returns
returns c =
    side_more c.args.choices.now c.args.at c.side_at-side.result c.args.sides.now c.push.new.self (choice_of 0 A) c.requires.within (c.side_at-side.ensures (choice_of 0 A)) c.requires.sides c.in_ok-push.ensures.ok
