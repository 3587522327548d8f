-- Under `yes`: what the rows of a deck ask for: from a lower to an upper end.
use Rattle.std.specs.Prelude.{pos, Bool, true, false, Option, None, Some, int_lt, if◌then◌else◌}
use Rattle.lp_nums.specs.Fractions.{Fraction}
use Rattle.decks.specs.declared.deck.Letter.{Letter}
use Rattle.decks.specs.declared.deck.Letter.TheVariants.{N, E, L, G}
use Rattle.deck_case.specs.Rationals.{plus, minus, size}

-- the two ends, none where there is no end
pub record Sides : Type 0 where
  pub lower : Option Fraction
  pub upper : Option Fraction

abbrev pub between : Option Fraction → Option Fraction → Sides
between lower upper = record { lower = lower; upper = upper }

-- whether a range reaches downward from the right-hand side: that of an L row, and a negative one of an E row
abbrev pub reaches_down : Letter → Fraction → Bool
reaches_down E range = int_lt range.num (pos 0)
reaches_down L range = true
reaches_down letter range = false

-- the sides of a row with right-hand side b
abbrev pub sides : Letter → Fraction → Option Fraction → Sides
sides N b range = between None None
sides E b None = between (Some b) (Some b)
sides L b None = between None (Some b)
sides G b None = between (Some b) None
sides letter b (Some r) = if reaches_down letter r then between (Some (minus b (size r))) (Some b) else between (Some b) (Some (plus b (size r)))
