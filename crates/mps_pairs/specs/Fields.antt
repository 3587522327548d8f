-- What the code's fields of a line of PAIRS show.
use Rattle.std.specs.Prelude.{List, [], ◌∷◌}
use Rattle.mps_lex.specs.Kinds.{Name}
use Rattle.mps_pairs.specs.declared.pairs.PairFields.{PairFields}

abbrev pub pair_words : PairFields → List Name
pair_words f = f.name.now ∷ f.kind.now ∷ f.first.now ∷ f.other.now ∷ f.second.now ∷ []
