use Rattle.std.proofs.Common.{arith}
use Rattle.std.proofs.lemmas.Nat.Bits.{bit_at-trailing_zeros}
use Rattle.std.specs.Int.{trailing_zeros, w64}
use Rattle.lp_nums.proofs.GcdLaws.{shifted_back}
use Rattle.lp_nums.proofs.divisors.odd_part.Goals as goal

pub returns-clause-odd : goal.returns-clause-odd
returns-clause-odd c = (bit_at-trailing_zeros w64 c.args.n c.requires (omega arith)).1

pub returns-clause-value : goal.returns-clause-value
returns-clause-value c = shifted_back (trailing_zeros w64 c.args.n) c.args.n (bit_at-trailing_zeros w64 c.args.n c.requires (omega arith)).2
