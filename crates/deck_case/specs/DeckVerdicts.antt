-- Under `yes`: the verdicts on a deck, and when each is true, in the deck's own words: rows with their sides, bounds, pairs, groups, and
-- the objective with its constant and its sense, all in fractions. They know nothing of multipliers and of lists of constraints.
use Rattle.std.specs.Prelude.{ℤ, pos, ◌≤ℤ◌, [], length}
use Rattle.lp_nums.specs.Fractions.{Fraction, SameValue}
use Rattle.sense.specs.declared.objective.Sense.{Sense}
use Rattle.sense.specs.declared.objective.Sense.TheVariants.{Min, Max}
use Rattle.lpcc_case.specs.Instance.{Instance}
use Rattle.lpcc_case.specs.Points.{Point}
use Rattle.lpcc_case.specs.declared.verdict.Verdict.{Verdict}
use Rattle.lpcc_case.specs.declared.verdict.Verdict.TheVariants.{Optimal, Infeasible, Unbounded}
use Rattle.decks.specs.declared.deck.Deck.{Deck}
use Rattle.deck_case.specs.DeckPoints.{MeetsDeck, objective_value, row_at}
use Rattle.deck_case.specs.Rationals.{IsAtMost, IsBelow}

-- the deck's objective at a point
abbrev pub value_at : (d : Deck) → Point (length d.columns) → Fraction
value_at d p = objective_value d (row_at d d.objective) p

abbrev pub whole : ℤ → Fraction
whole z = record { num = z; den = pos 1 }

-- a value is not better than another: not lower where the objective is to be least, and not higher where it is to be greatest
abbrev pub IsNotBetter : Sense → Fraction → Fraction → Type 0
IsNotBetter Min value best = IsAtMost best value
IsNotBetter Max value best = IsAtMost value best

-- a value is better than another
abbrev pub IsBetter : Sense → Fraction → Fraction → Type 0
IsBetter Min value other = IsBelow value other
IsBetter Max value other = IsBelow other value

-- a point that meets the deck has this value, and no point that meets it has a better one
pub record IsBestValue (d : Deck) (value : Fraction) : Type 0 where
  pub positive : pos 1 ≤ℤ value.den
  pub point : Point (length d.columns)
  pub met : MeetsDeck d point
  pub same : SameValue (value_at d point) value
  pub best : (q : Point (length d.columns)) → MeetsDeck d q → IsNotBetter d.sense (value_at d q) value

abbrev pub IsTrueOfDeck : Deck → Verdict → Type 0
IsTrueOfDeck d (Optimal value) = IsBestValue d value
IsTrueOfDeck d Infeasible = (p : Point (length d.columns)) → MeetsDeck d p → ⊥
-- better than each whole number is the value of a point that meets the deck
IsTrueOfDeck d Unbounded = (bound : ℤ) → (p : Point (length d.columns)) × MeetsDeck d p × IsBetter d.sense (value_at d p) (whole bound)

-- ---- the relaxation: the pairs and the groups are left out

abbrev pub relaxed_deck : Deck → Deck
relaxed_deck d = record d { pairs = []; groups = [] }

abbrev pub relaxed : Instance → Instance
relaxed a = record a { pairs = [] }
