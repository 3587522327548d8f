-- A solver makes a number least. The objective is that number, or its negative where it is to be greatest.
use Rattle.std.specs.Prelude.{ℤ, neg_ℤ}
use Rattle.sense.specs.declared.objective.Sense.{Sense}
use Rattle.sense.specs.declared.objective.Sense.TheVariants.{Min, Max}

abbrev pub signed : Sense → ℤ → ℤ
signed Min z = z
signed Max z = neg_ℤ z
