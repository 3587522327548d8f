-- What a text has to be as the printed deck of a problem.
use Rattle.std.specs.Prelude.{◌≡◌, ◌↔◌, ◌+◌, ◌*ℤ◌, ℕ, ℤ, pos, List, length}
use Rattle.std.specs.List.{range_with_len}
use Rattle.deck_case.specs.DeckCases.{HasCase, case_of_deck}
use Rattle.decks.specs.Texts.{Spells}
use Rattle.decks.specs.declared.deck.Deck.{Deck}
use Rattle.front_text.specs.declared.problem.Bilevel.{Bilevel}
use Rattle.front_text.specs.declared.problem.Lcp.{Lcp}
use Rattle.kkt_front.specs.DeckTexts.{number_at}
use Rattle.kkt_front.specs.Solutions.{IsLeastFollower, IsSolution, IsWithMultipliers}
use Rattle.lp_base.specs.Sums.{sum_over}
use Rattle.lpcc_case.specs.Points.{IsFeasible, Point}
use Rattle.lpcc_case.specs.Verdicts.{HasValue}

-- The whole text spells a deck, which has a column for each variable, and a case. The points that are feasible for the case are the solutions, and
-- every point has the value 0.
pub record IsDeckOfLcp (text : List ℕ) (p : Lcp) : Type 0 where
  pub deck : Deck
  pub spelled : Spells text deck (length text)
  pub columns : length deck.columns ≡ p.size
  pub has_case : HasCase deck (case_of_deck deck)
  pub points : (z : Point (length deck.columns)) → IsFeasible (case_of_deck deck) z ↔ IsSolution p z
  pub value : (z : Point (length deck.columns)) → HasValue (case_of_deck deck) z (pos 0) 1

-- what x and y cost, times d
abbrev pub spent : {n : ℕ} → Bilevel → Point n → ℤ
spent b p = sum_over (λ j. number_at b.cost j *ℤ number_at p.x j) (range_with_len 0 (b.nx + b.ny))

-- The whole text spells a deck, which has a column for each variable and behind them one for each line of `low`, and a case. The points that are
-- feasible for the case are those that meet all lines, with multipliers of y behind the variables. At each of them y is least in `follow` for its x.
-- The value of a point is what x and y cost.
pub record IsDeckOfBilevel (text : List ℕ) (b : Bilevel) : Type 0 where
  pub deck : Deck
  pub spelled : Spells text deck (length text)
  pub columns : length deck.columns ≡ b.nx + b.ny + length b.low
  pub has_case : HasCase deck (case_of_deck deck)
  pub points : (p : Point (length deck.columns)) → IsFeasible (case_of_deck deck) p ↔ IsWithMultipliers b p
  pub least : (p : Point (length deck.columns)) → IsFeasible (case_of_deck deck) p → IsLeastFollower b p
  pub value : (p : Point (length deck.columns)) → HasValue (case_of_deck deck) p (spent b p) p.d
