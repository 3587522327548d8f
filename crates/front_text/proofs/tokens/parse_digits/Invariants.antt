use Rattle.std.proofs.Common.{◌≡◌, ◌≤◌, drop}
use Rattle.cert_text.specs.Capped.{most, digits_from}
use Rattle.front_text.proofs.tokens.parse_digits.Given as goal

abbrev pub invariant-loop-byte : goal.invariant-loop-byte
invariant-loop-byte l = (digits_from l.value (drop l.byte-index l.word) ≡ digits_from 0 l.word) × (l.value ≤ most)
