use Rattle.mps_lex.proofs.Slicing.{words_are, within}
use Rattle.mps_lex.proofs.laws.fields_are_slices.Goals as goal

pub returns : goal.returns
returns c = record { words = words_are; within = within }
