use Rattle.cut_words.proofs.Readings.{one_cut}
use Rattle.cut_words.proofs.laws.words_are_of_one_cut.Goals as goal

pub returns : goal.returns
returns c = one_cut
