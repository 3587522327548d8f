use Rattle.std.proofs.Common.{◌≡◌, take}
use Rattle.front_text.specs.Steps.{terms_in}
use Rattle.front_text.proofs.making.rows_of.Given as goal

abbrev pub invariant-loop-line : goal.invariant-loop-line
invariant-loop-line l = l.made ≡ terms_in (take l.line-index l.fn.lines)
