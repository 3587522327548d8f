-- What contracts see of a reach.
use Rattle.std.specs.Prelude.{◌≡◌, ◌≢◌, ◌<◌, ◌≤◌, ◌+◌, ◌++◌, ◌⊎◌, false, true, ℕ, List, [], All, length, replicate, slice_index, slice_index_or}
use Rattle.cut_pool.specs.declared.rooms.TheConstants.{FIRST_ROOM}
use Rattle.lpcc_case.specs.Instance.{Instance}
use Rattle.cut_pool.specs.Pages.{PageView}
use Rattle.cut_pool.specs.Lanes.{LaneView, given, ArePagesOf, marked}

-- a worker's number, the case, for how many publications there is room, what its write pass has published, and its lanes
pub record ReachView : Type 0 where
  pub worker : ℕ
  pub case : Instance
  pub spare : ℕ
  pub published : List (List ℕ)
  pub lanes : List LaneView

-- a lane without pages, which stands past the last one
abbrev pub no_lane : LaneView
no_lane = record { pages = []; at_ready = 0; dry = false }

abbrev pub lane_at : ReachView → ℕ → LaneView
lane_at r k = slice_index_or r.lanes k no_lane

-- all pages of all lanes are of this case
abbrev pub AreLanesOf : Instance → List LaneView → Type 0
AreLanesOf a lanes = All (λ l. ArePagesOf a l.pages) lanes

-- nothing but the lane of this number has changed
pub record SameButLane (before after : ReachView) (lane : ℕ) : Type 0 where
  pub worker : after.worker ≡ before.worker
  pub case : after.case ≡ before.case
  pub spare : after.spare ≡ before.spare
  pub published : after.published ≡ before.published
  pub count : length after.lanes ≡ length before.lanes
  pub others : (k : ℕ) → k ≢ lane → lane_at after k ≡ lane_at before k

-- each lane has the marks of `ready`
abbrev pub AreMarked : List LaneView → List LaneView → Type 0
AreMarked before after = (length after ≡ length before) × ((k : ℕ) (d : LaneView) → k < length before → slice_index_or after k d ≡ marked (slice_index_or before k d))

-- the reach has answered false on every other worker's lane since its last `ready`
abbrev pub HasCaughtUp : ReachView → Type 0
HasCaughtUp r = (k : ℕ) → k < length r.lanes → k ≢ r.worker → (lane_at r k).dry ≡ true

-- the reach took so many fresh pages of one lane, and nothing else has changed
pub record TookPages (before after : ReachView) (lane from to : ℕ) : Type 0 where
  pub new : List PageView
  pub count : from + length new ≡ to
  pub pages : (lane_at after lane).pages ≡ (lane_at before lane).pages ++ new
  pub same_given : given (lane_at after lane) ≡ given (lane_at before lane)
  pub marks : ((lane_at after lane).at_ready ≡ (lane_at before lane).at_ready) × ((lane_at after lane).dry ≡ (lane_at before lane).dry)
  pub rest : SameButLane before after lane

-- so many fresh pages stand behind those of the lane, and nothing else has changed
pub record LaneTook (before after : LaneView) (from to : ℕ) : Type 0 where
  pub new : List PageView
  pub count : from + length new ≡ to
  pub pages : after.pages ≡ before.pages ++ new
  pub same_given : given after ≡ given before
  pub at_ready : after.at_ready ≡ before.at_ready
  pub dry : after.dry ≡ before.dry

-- the reach took fresh pages of each lane, from these counts of pages to those
pub record TookAll (before after : ReachView) (from to : List ℕ) : Type 0 where
  pub worker : after.worker ≡ before.worker
  pub case : after.case ≡ before.case
  pub spare : after.spare ≡ before.spare
  pub published : after.published ≡ before.published
  pub count : length after.lanes ≡ length before.lanes
  pub lanes : (l : ℕ) → l < length before.lanes → LaneTook (lane_at before l) (lane_at after l) (slice_index from l) (slice_index to l)

-- a reach that has published nothing and has no page of any lane
abbrev pub bare_reach : Instance → ℕ → ℕ → ReachView
bare_reach a workers worker = record { worker = worker; case = a; spare = FIRST_ROOM; published = []; lanes = replicate workers no_lane }

-- the reach turned to a new page of its lane, for as many publications as this
abbrev pub TurnedPage : ReachView → ReachView → Type 0
TurnedPage before after = (1 ≤ after.spare) × (after ≡ record before { spare = after.spare; published = [] })

-- the reach as it was, or turned to a new page where it had no room
abbrev pub Turned : ReachView → ReachView → Type 0
Turned before after = (after ≡ before) ⊎ ((before.spare ≡ 0) × TurnedPage before after)
