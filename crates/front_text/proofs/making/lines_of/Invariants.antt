use Rattle.std.proofs.Common.{◌≡◌, take, map}
use Rattle.front_text.specs.Steps.{line_of}
use Rattle.front_text.proofs.making.lines_of.Given as goal

abbrev pub invariant-loop-line : goal.invariant-loop-line
invariant-loop-line l = l.made ≡ map line_of (take l.line-index l.fn.lines)
