-- What contracts see of a shelf, and what `create` and `ready` promise.
use Rattle.std.specs.Prelude.{◌≡◌, ◌≢◌, ◌<◌, ◌≤◌, ◌++◌, ◌⊎◌, false, ℕ, List, [], All, length, map, slice_index_or}
use Rattle.cut_pool.specs.declared.rooms.TheConstants.{FIRST_ROOM}
use Rattle.lpcc_case.specs.Instance.{Instance}
use Rattle.cut_pool.specs.Pages.{PageView}
use Rattle.cut_pool.specs.Lanes.{LaneView, given}
use Rattle.cut_pool.specs.Reaches.{ReachView, lane_at}

-- the case, the number of pages of each lane, and for each worker how many pages of each lane were handed to it
pub record ShelfView : Type 0 where
  pub case : Instance
  pub pages : List ℕ
  pub handed : List (List ℕ)

abbrev pub page_count : LaneView → ℕ
page_count l = length l.pages

-- the worker is one of the shelf's, and the reach has its number, the shelf's case and the pages that were handed to it
pub record Fits (s : ShelfView) (worker : ℕ) (r : ReachView) : Type 0 where
  pub known : worker < length s.pages
  pub number : r.worker ≡ worker
  pub case : r.case ≡ s.case
  pub lanes : length r.lanes ≡ length s.pages
  pub pages : map page_count r.lanes ≡ slice_index_or s.handed worker []

-- nothing but the pages of a lane and what was handed to this worker has changed
pub record SameButRow (before after : ShelfView) (worker : ℕ) : Type 0 where
  pub case : after.case ≡ before.case
  pub count : length after.pages ≡ length before.pages
  pub others : (w : ℕ) → w ≢ worker → slice_index_or after.handed w [] ≡ slice_index_or before.handed w []

-- the reach has a pass to each page on the shelf
abbrev pub HasAll : ShelfView → ReachView → Type 0
HasAll s r = map page_count r.lanes ≡ s.pages

-- pages from which nothing was given may stand behind the others, and the marks are set
pub record IsReadied (before after : LaneView) : Type 0 where
  pub new : List PageView
  pub pages : after.pages ≡ before.pages ++ new
  pub same : given after ≡ given before
  pub at_ready : after.at_ready ≡ length (given before)
  pub dry : after.dry ≡ false

-- what `ready` does to a reach, whichever it answers
pub record Readied (before after : ReachView) : Type 0 where
  pub worker : after.worker ≡ before.worker
  pub case : after.case ≡ before.case
  pub spare : before.spare ≤ after.spare
  pub published : (after.published ≡ before.published) ⊎ ((before.spare ≡ 0) × (after.published ≡ []))
  pub count : length after.lanes ≡ length before.lanes
  pub lanes : (k : ℕ) → k < length before.lanes → IsReadied (lane_at before k) (lane_at after k)

-- a reach from which nothing was published or given, with one page of each lane
pub record IsNewReach (s : ShelfView) (worker : ℕ) (r : ReachView) : Type 0 where
  pub fits : Fits s worker r
  pub all : HasAll s r
  pub spare : r.spare ≡ FIRST_ROOM
  pub published : r.published ≡ []
  pub lanes : All (λ l. (given l ≡ []) × (l.at_ready ≡ 0) × (l.dry ≡ false) × (page_count l ≡ 1)) r.lanes
