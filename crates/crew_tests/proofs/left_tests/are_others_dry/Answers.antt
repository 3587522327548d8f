use Rattle.std.proofs.Common.{◌∙◌}
use Rattle.crew_tests.proofs.LeftLaws.{all_read}
use Rattle.crew_tests.proofs.left_tests.are_others_dry.Goals as goal

pub returns : goal.returns
returns c = λ dry. all_read c.args.case.now c.args.piece.now c.is_dry-2.new.reach (c.is_dry-2.ensures.same.count ∙ c.is_dry.ensures.same.count ∙ c.requires.three) (c.is_dry-2.ensures.reading dry) (c.is_dry-2.ensures.dry dry)
