-- Scripts, and the rules that their numbers keep.
use Rattle.std.specs.Prelude.{◌≢◌, ℤ, pos, List, All}
use Rattle.lp_base.specs.Numbers.{IsNarrow}
use Rattle.edit_text.specs.declared.script.Command.{Command}
use Rattle.edit_text.specs.declared.script.Command.TheVariants.{Add, Tighten, Cost, Solve}

-- numbers that may name columns, each with its coefficient
abbrev pub Terms : Type 0
Terms = List (ℤ × ℤ)

-- both numbers are narrow, and the coefficient is not 0
abbrev pub IsTerm : ℤ × ℤ → Type 0
IsTerm t = IsNarrow t.0 × IsNarrow t.1 × (t.1 ≢ pos 0)

abbrev pub IsCommand : Command → Type 0
IsCommand (Add relation rhs terms) = IsNarrow rhs × All IsTerm terms
IsCommand (Tighten con rhs) = IsNarrow con × IsNarrow rhs
IsCommand (Cost terms) = All IsTerm terms
IsCommand Solve = Unit {0}
