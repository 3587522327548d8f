use Rattle.std.proofs.Common.{◌+◌, ◌≤◌, take}
use Rattle.std.specs.Prelude.{filter}
use Rattle.std.specs.Char.{is_ascii_digit}
use Rattle.lp_nums.specs.Significands.{IsSignificand}
use Rattle.lp_nums.proofs.scan.Significand.of_text.Given as goal

abbrev pub invariant-loop-byte : goal.invariant-loop-byte
invariant-loop-byte l = record {
  so_far : IsSignificand (filter is_ascii_digit (take l.byte-index l.text)) l.all;
  room : l.all.width + l.all.zeros ≤ l.byte-index;
}
