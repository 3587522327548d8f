-- A page on the shelf, with a pass for each worker until it is taken.
use Rattle.std.specs.Prelude.{◌≡◌, ◌<◌, ◌≤◌, ◌^◌, ℕ, List, [], All, Option, Some, None, length, slice_get, slice_index, slice_index_or}
use Rattle.cut_pool.specs.declared.rooms.TheConstants.{MOST_ROOM}
use Rattle.lpcc_case.specs.Instance.{Instance}
use Rattle.cut_pool.specs.Pages.{PageView, IsSized}

-- a page of this case of which nothing was seen
pub record IsReadyPage (a : Instance) (room : ℕ) (p : PageView) : Type 0 where
  pub case : p.case ≡ a
  pub sized : IsSized p
  pub has_room : p.room ≡ room
  pub seen : p.seen ≡ []

-- a pass that was not taken yet
abbrev pub IsReady : Instance → ℕ → Option PageView → Type 0
IsReady a room None = ⊥
IsReady a room (Some p) = IsReadyPage a room p

-- a page of this case of which nothing was seen, of any room
abbrev pub IsFreshPage : Instance → PageView → Type 0
IsFreshPage a p = (p.case ≡ a) × IsSized p × (p.seen ≡ [])

-- a pass to the page of this number waits for this worker
abbrev pub Waits : Instance → List (List (Option PageView)) → ℕ → ℕ → Type 0
Waits a pages worker j = (passes : List (Option PageView)) × (p : PageView) × (slice_get pages j ≡ Some passes) × (slice_get passes worker ≡ Some (Some p)) × IsFreshPage a p

-- of each lane the worker was handed no more pages than there are, and a pass to every other page waits for it
pub record RowWaits (a : Instance) (lanes : List (List (List (Option PageView)))) (row : List ℕ) (worker : ℕ) : Type 0 where
  pub count : length row ≡ length lanes
  pub within : (l : ℕ) → l < length lanes → slice_index row l ≤ length (slice_index_or lanes l [])
  pub waits : (l j : ℕ) → l < length lanes → slice_index row l ≤ j → j < length (slice_index_or lanes l []) → Waits a (slice_index_or lanes l []) worker j

-- a lane with its first page only, whose passes wait for these workers
abbrev pub IsFirstLane : Instance → ℕ → List (List (Option PageView)) → Type 0
IsFirstLane a workers lane = (length lane ≡ 1) × ((w : ℕ) → w < workers → Waits a lane w 0)

abbrev pub IsRoom : ℕ → Type 0
IsRoom n = (0 < n) × (n ≤ MOST_ROOM)

-- what a shelf keeps: for how many items the newest page of each lane has room, and what was handed to each worker
pub record IsShelf (a : Instance) (lanes : List (List (List (Option PageView)))) (rooms : List ℕ) (handed : List (List ℕ)) : Type 0 where
  pub few : length lanes < 2 ^ 32
  pub rooms_count : length rooms ≡ length lanes
  pub sized : All IsRoom rooms
  pub rows : length handed ≡ length lanes
  pub waits : (w : ℕ) → w < length lanes → RowWaits a lanes (slice_index_or handed w []) w
