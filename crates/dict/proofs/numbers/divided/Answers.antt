use Rattle.std.proofs.Common.{◌*◌, ◌∙◌, ap}
use Rattle.std.proofs.Math.Nat.{div-mul_cancel}
use Rattle.dict.proofs.numbers.divided.Goals as goal

pub returns-then-g-le-LARGEST_WORD : goal.returns-then-g-le-LARGEST_WORD
returns-then-g-le-LARGEST_WORD c = ap (λ n. n * c.args.g) c.from.ensures ∙ div-mul_cancel c.args.g c.requires.divides

pub returns : goal.returns
returns c = div-mul_cancel c.args.g c.requires.divides
