-- What a settlement asks of the worker's reach, and what it does to the desk.
use Rattle.std.specs.Prelude.{◌≡◌, ◌≢◌, ◌<◌, ℕ, ℤ, All, List, drop, length, slice_get, Some}
use Rattle.nogoods.specs.declared.choice.Choice.{Choice}
use Rattle.nogoods.specs.declared.choice.Side.{Side}
use Rattle.nogoods.specs.Pieces.{Bars}
use Rattle.lpcc_case.specs.Instance.{Instance}
use Rattle.cuts.specs.declared.cut.Cut.{Cut}
use Rattle.cuts.specs.declared.cut.Cut.TheVariants as cut
use Rattle.cut_words.specs.Words.{AreWordsOf, IsInPlace}
use Rattle.cut_pool.specs.Lanes.{LaneView, given}
use Rattle.cut_pool.specs.Reaches.{HasCaughtUp, ReachView, lane_at}
use Rattle.play.specs.declared.event.Ticket.{Ticket}
use Rattle.play.specs.declared.outcome.Outcome.{Outcome}
use Rattle.play.specs.declared.outcome.Outcome.TheVariants as outcome
use Rattle.desk_part.specs.DeskParts.{SettlesOn}
use Rattle.desk.specs.Desks.{DeskView}

-- the words are those of a ray cut that bars the piece
abbrev pub IsRayCutAgainst : Instance → List Side → List ℕ → Type 0
IsRayCutAgainst a piece words = (ng : List Choice) × (mult : List (ℕ × ℤ)) × IsInPlace a (cut.Ray ng mult) × AreWordsOf a (cut.Ray ng mult) words × Bars ng piece

-- what was given on a lane since the last `ready`
abbrev pub given_since_ready : LaneView → List (List ℕ)
given_since_ready l = drop l.at_ready (given l)

-- no ray cut that was given on another worker's lane since the last `ready` bars the piece
abbrev pub NoRayCutBars : ReachView → List Side → Type 0
NoRayCutBars r piece = (k : ℕ) → k < length r.lanes → k ≢ r.worker → All (λ words. ¬ (IsRayCutAgainst r.case piece words)) (given_since_ready (lane_at r k))

-- the reach was given the words of this cut, as the item at this place of the lane
abbrev pub IsGivenAt : ReachView → ℕ → ℕ → Cut → Type 0
IsGivenAt r lane place c = (words : List ℕ) × (slice_get (given (lane_at r lane)) place ≡ Some words) × AreWordsOf r.case c words

-- every cut that was there is known, and none of them serves
abbrev pub HasReadAll : ReachView → List Side → Type 0
HasReadAll r piece = HasCaughtUp r × NoRayCutBars r piece

-- a piece is barred by a cut that was read on another worker's lane; every other outcome comes only where all lanes were read, and no ray cut bars the piece
abbrev pub IsFromReach : ReachView → List Side → Outcome → Type 0
IsFromReach r piece (outcome.Cut c kept best) = HasReadAll r piece
IsFromReach r piece (outcome.Barred lane place c best) = (lane ≢ r.worker) × IsGivenAt r lane place c
IsFromReach r piece (outcome.Unbounded point ray) = HasReadAll r piece
IsFromReach r piece (outcome.Wide at) = HasReadAll r piece
IsFromReach r piece (outcome.Spent at) = HasReadAll r piece

-- a settlement that was made
pub record Settles (t : Ticket) (what : Outcome) (old new : DeskView) : Type 0 where
  pub run : SettlesOn t what old.run new.run
  pub shelf : new.shelf ≡ old.shelf
  pub abandoned : new.abandoned ≡ old.abandoned
  pub refuted : new.refuted ≡ old.refuted
