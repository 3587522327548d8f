use Rattle.std.proofs.lemmas.Int.{to_z-of_z}
use mir.Syntax.{w128}
use Rattle.dict.proofs.numbers.narrow.Goals as goal

pub divided-quotient-requires-clause-divides : goal.divided-quotient-requires-clause-divides
divided-quotient-requires-clause-divides c =
    rw (c.unsigned_abs.ensures.value, c.unsigned_abs-2.ensures.value, to_z-of_z w128 c.args.z c.ranges.z, to_z-of_z w128 c.args.g c.ranges.g) c.requires.divides
