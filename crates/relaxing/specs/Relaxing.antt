-- What solving a relaxation ends with, and what a run of the command says.
use Rattle.std.specs.Prelude.{◌≡◌, ◌≤◌, ◌+◌, ⊤, ℕ, List, [], Option, length}
use Rattle.std.specs.Io.KnownBytes.{Appends}
use Rattle.lp_nums.specs.Fractions.{IsReduced}
use Rattle.lpcc_case.specs.Instance.{Instance}
use Rattle.lpcc_case.specs.Verdicts.{IsTrueOf}
use Rattle.lpcc_case.specs.declared.verdict.Verdict.{Verdict}
use Rattle.lpcc_case.specs.declared.verdict.Verdict.TheVariants.{Optimal, Infeasible, Unbounded}
use Rattle.decks.specs.declared.deck.Deck.{Deck}
use Rattle.decks.specs.Texts.{Spells}
use Rattle.deck_case.specs.DeckVerdicts.{IsTrueOfDeck, relaxed, relaxed_deck}
use Rattle.orders.specs.Counts.{choose}
use Rattle.walks.specs.Ends.{IsSpentAt, IsWideAt}
use Rattle.report.specs.Relaxations.{status_of, text_of}
use Rattle.report.specs.declared.relaxation.Relaxation.{Relaxation}
use Rattle.report.specs.declared.relaxation.Relaxation.TheVariants.{Solved, Wide, Spent}

-- the value of an optimum is in lowest terms
abbrev pub IsInLowestTerms : Verdict → Type 0
IsInLowestTerms (Optimal value) = IsReduced value
IsInLowestTerms Infeasible = ⊤
IsInLowestTerms Unbounded = ⊤

-- A verdict is true of the instance without its pairs; else the walk of the instance with no tight choice has this end, with
-- so many pivots for a stage.
abbrev pub IsEndOf : Instance → ℕ → Relaxation → Type 0
IsEndOf a pivots (Solved verdict) = IsTrueOf (relaxed a) verdict × IsInLowestTerms verdict
IsEndOf a pivots (Wide place) = IsWideAt a [] place
IsEndOf a pivots (Spent place) = IsSpentAt a [] pivots place

-- as many pivots as there are choices of the columns among columns and constraints
abbrev pub AreEnough : Instance → ℕ → Type 0
AreEnough a pivots = choose (a.columns + length a.constraints) a.columns ≤ pivots

abbrev pub IsNotSpent : Relaxation → Type 0
IsNotSpent (Solved verdict) = ⊤
IsNotSpent (Wide place) = ⊤
IsNotSpent (Spent place) = ⊥

-- the text and the status of such an end
pub record Says (pivots : ℕ) (a : Instance) (text : List ℕ) (status : ℕ) : Type 0 where
  pub end : Relaxation
  pub is_end : IsEndOf a pivots end
  pub enough : AreEnough a pivots → IsNotSpent end
  pub text_is : text ≡ text_of end
  pub status_is : status ≡ status_of end

-- what status 0 says: the verdict is true of the deck without its pairs, and its text is what was written
pub record SaysVerdict (bytes : List ℕ) (taken_before taken_now : Option (List ℕ)) : Type 0 where
  pub verdict : Verdict
  pub deck : Deck
  pub place : ℕ
  pub spelled : Spells bytes deck place
  pub is_true : IsTrueOfDeck (relaxed_deck deck) verdict
  pub written : Appends taken_before taken_now (text_of (Solved verdict))
