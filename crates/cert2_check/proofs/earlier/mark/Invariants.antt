use Rattle.std.proofs.Common.{◌≡◌, length, drop}
use Rattle.cert2_check.specs.Results2.{marked}
use Rattle.cert2_check.proofs.earlier.mark.Given as goal

abbrev pub invariant-loop-number : goal.invariant-loop-number
invariant-loop-number l =
    (marked l.flags.items (drop l.number-index l.numbers) ≡ marked l.fn.flags.items l.numbers) × (length l.flags.items ≡ length l.fn.flags.items)
