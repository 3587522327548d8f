-- What a worker has read of the lanes of others, and what that says of its piece.
use Rattle.std.specs.Prelude.{◌≡◌, ◌≢◌, ◌<◌, ◌≤◌, true, ℕ, List, length, Option, Some, None, MatchOption}
use Rattle.nogoods.specs.declared.choice.Side.{Side}
use Rattle.lpcc_case.specs.Instance.{Instance}
use Rattle.lpcc_case.specs.declared.point.Point.{Point}
use Rattle.cuts.specs.declared.cut.Cut.{Cut}
use Rattle.cut_words.specs.Words.{AreWordsOf}
use Rattle.cut_pool.specs.Lanes.{given}
use Rattle.cut_pool.specs.Reaches.{ReachView, lane_at}
use Rattle.play.specs.Lawful.{MayCut}
use Rattle.desk.specs.Settling.{IsGivenAt, IsRayCutAgainst, NoRayCutBars}
use Rattle.worker.specs.declared.noting.Barring.{Barring}

-- another worker's cut, as it was read: it bars the piece, and is active against the best point
pub record IsBarring (a : Instance) (piece : List Side) (best : Option Point) (r : ReachView) (b : Barring) : Type 0 where
  pub other : b.lane ≢ r.worker
  pub known : b.lane < length r.lanes
  pub given : IsGivenAt r b.lane b.place b.cut
  pub may : MayCut a piece b.cut best

-- a cut that bars the piece was found, or none of the ray cuts that were read bars it
abbrev pub Finds : Instance → List Side → Option Point → ReachView → Option Barring → Type 0
Finds a piece best r found = MatchOption found (NoRayCutBars r piece) (IsBarring a piece best r)

-- What is noted of an item: a cut that was found before stays; else this one is found, or no ray cut with these words bars the piece.
abbrev pub Notes : Instance → List Side → Option Point → List ℕ → ℕ → ℕ → Option Barring → Option Barring → Type 0
Notes a piece best words lane place (Some b) new = new ≡ Some b
Notes a piece best words lane place None None = IsRayCutAgainst a piece words → ⊥
Notes a piece best words lane place None (Some b) = (b.lane ≡ lane) × (b.place ≡ place) × AreWordsOf a b.cut words × MayCut a piece b.cut best

-- the marks of `ready` are within what was given
abbrev pub AreWithin : ReachView → Type 0
AreWithin r = (k : ℕ) → k < length r.lanes → (lane_at r k).at_ready ≤ length (given (lane_at r k))

pub record IsReading (a : Instance) (piece : List Side) (best : Option Point) (r : ReachView) (found : Option Barring) : Type 0 where
  pub case : r.case ≡ a
  pub marks : AreWithin r
  pub finds : Finds a piece best r found

-- the lanes of others below this number were read to their end
abbrev pub AreDry : ReachView → ℕ → Type 0
AreDry r n = (k : ℕ) → k < n → k ≢ r.worker → (lane_at r k).dry ≡ true

-- the reach is that of the same worker, with as many lanes and as much room
pub record IsSameWay (before after : ReachView) : Type 0 where
  pub worker : after.worker ≡ before.worker
  pub case : after.case ≡ before.case
  pub spare : after.spare ≡ before.spare
  pub count : length after.lanes ≡ length before.lanes
