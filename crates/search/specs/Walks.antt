-- The walk over the pieces in their order: a list of sides for the first pairs, and why each side A that a B replaces is exhausted.
use Rattle.std.specs.Prelude.{◌≡◌, ◌<◌, ◌≤◌, ◌⊎◌, ℕ, zero, suc, ◌+◌, ◌-◌, Bool, true, false, Contains, IsTrue, List, [], ◌∷◌, ◌++◌, length, take, Some, slice_get, slice_index_or}
use Rattle.nogoods.specs.declared.choice.Choice.{Choice}
use Rattle.nogoods.specs.declared.choice.Side.{Side}
use Rattle.nogoods.specs.declared.choice.Side.TheVariants.{A, B}
use Rattle.nogoods.specs.Choices.{pairs_ascend}
use Rattle.nogoods.specs.Pieces.{Bars}
use Rattle.derivation.specs.HintRuns.{closes, is_assumed}
use Rattle.search.specs.FirstPieces.{IsBarred, Witness}
use Rattle.search.specs.declared.walk.Reason.{Reason}
use Rattle.search.specs.declared.walk.Reason.TheVariants.{By, BlockedPieces}
use Rattle.search.specs.declared.walk.Phase.{Phase}
use Rattle.search.specs.declared.walk.Phase.TheVariants.{Open, Turn, Exhausted, Resolved}

-- each piece that begins so is barred or blocked
abbrev pub IsExhausted : ℕ → List (List Choice) → List (List Side) → List Side → Type 0
IsExhausted pairs ngs blocked w = (v : List Side) → length (w ++ v) ≡ pairs → IsBarred ngs (w ++ v) ⊎ Contains blocked (w ++ v)

-- the no-good is the choice of this side behind these sides, with choices of theirs
pub record BarsNext (w : List Side) (s : Side) (choices : List Choice) : Type 0 where
  pub front : List Choice
  pub ends : choices ≡ front ++ (record { pair = length w; side = s }) ∷ []
  pub held : Bars front w

-- the choice is the last of those, whose pairs ascend
pub record EndsIn (c : Choice) (choices : List Choice) : Type 0 where
  pub front : List Choice
  pub ends : choices ≡ front ++ c ∷ []
  pub ascends : IsTrue (pairs_ascend choices)

-- a blocked piece that no no-good bars, where the walk began afresh with this log
abbrev pub Witnessed : Bool → ℕ → List (List Choice) → List (List Side) → Type 0
Witnessed true pairs ngs blocked = Witness pairs ngs blocked
Witnessed false pairs ngs blocked = Unit {0}

-- each piece is barred or blocked
abbrev pub AllExhausted : ℕ → List (List Choice) → List (List Side) → Type 0
AllExhausted pairs ngs blocked = (p : List Side) → length p ≡ pairs → IsBarred ngs p ⊎ Contains blocked p

-- why side A is exhausted behind these sides
abbrev pub ExhaustsA : Bool → ℕ → List (List Choice) → List (List Side) → List Side → Reason → Type 0
ExhaustsA fresh pairs ngs blocked w (By k) = (k < length ngs) × BarsNext w A (slice_index_or ngs k [])
ExhaustsA fresh pairs ngs blocked w BlockedPieces = IsExhausted pairs ngs blocked (w ++ A ∷ []) × Witnessed fresh pairs ngs blocked

-- why these sides are exhausted
abbrev pub Exhausts : Bool → ℕ → List (List Choice) → List (List Side) → List Side → Reason → Type 0
Exhausts fresh pairs ngs blocked w (By k) = (k < length ngs) × Bars (slice_index_or ngs k []) w
Exhausts fresh pairs ngs blocked w BlockedPieces = IsExhausted pairs ngs blocked w × Witnessed fresh pairs ngs blocked

-- the choice of each marked pair is assumed
abbrev pub Assumes : List Choice → List Bool → List Side → Type 0
Assumes list marks w = (p : ℕ) (s : Side) → slice_index_or marks p false ≡ true → slice_get w p ≡ Some s → is_assumed list (record { pair = p; side = s }) ≡ true

-- the run of the hints closes over any choices of these sides that have those of the marked pairs among them
pub record IsResolvent (ngs : List (List Choice)) (w : List Side) (marks : List Bool) (hints : List ℕ) : Type 0 where
  pub size : length marks ≡ length w
  pub follows : (list : List Choice) → Bars list w → Assumes list marks w → closes ngs list hints ≡ true

-- a side B has a reason
abbrev pub IsJustified : Bool → ℕ → List (List Choice) → List (List Side) → List Side → Side → Reason → Type 0
IsJustified fresh pairs ngs blocked w A reason = Unit {0}
IsJustified fresh pairs ngs blocked w B reason = ExhaustsA fresh pairs ngs blocked w reason

pub record IsWalk (fresh : Bool) (pairs : ℕ) (ngs : List (List Choice)) (blocked : List (List Side)) (w : List Side) (reasons : List Reason) : Type 0 where
  pub sizes : length reasons ≡ length w
  pub fits : length w ≤ pairs
  pub justified : (i : ℕ) → i < length w → IsJustified fresh pairs ngs blocked (take i w) (slice_index_or w i A) (slice_index_or reasons i BlockedPieces)

abbrev pub InPhase : Bool → ℕ → List (List Choice) → List (List Side) → List Side → Phase → Type 0
InPhase fresh pairs ngs blocked w Open = Unit {0}
InPhase fresh pairs ngs blocked w (Turn reason) = (length w < pairs) × ExhaustsA fresh pairs ngs blocked w reason
InPhase fresh pairs ngs blocked w (Exhausted reason) = Exhausts fresh pairs ngs blocked w reason
InPhase fresh pairs ngs blocked w (Resolved r) = IsResolvent ngs w r.marks.items r.hints.items

-- the moments of a walk over n pairs: open, those behind side A, turn, those behind side B, exhausted, resolved
abbrev pub moments : ℕ → ℕ
moments zero = 3
moments (suc n) = moments n + moments n + 4

-- the moments of the walk over n pairs that come behind those of these sides
abbrev pub moments_behind : List Side → ℕ → ℕ
moments_behind [] n = 0
moments_behind (s ∷ w) zero = 0
moments_behind (A ∷ w) (suc n) = moments_behind w n + moments n + 3
moments_behind (B ∷ w) (suc n) = moments_behind w n + 2

-- the moments that are still to come
abbrev pub moments_left : ℕ → List Side → Phase → ℕ
moments_left n w Open = moments_behind w n + moments (n - length w)
moments_left n w (Turn reason) = moments_behind w n + moments (n - length w - 1) + 3
moments_left n w (Exhausted reason) = moments_behind w n + 2
moments_left n w (Resolved r) = moments_behind w n + 1

-- the sides are exhausted in this phase
abbrev pub Closes : Bool → ℕ → List (List Choice) → List (List Side) → List Side → Phase → Type 0
Closes fresh pairs ngs blocked w next = InPhase fresh pairs ngs blocked w next × (moments_left pairs w next ≤ moments_behind w pairs + 2)

-- the walk goes on in this phase, with fewer moments to come
pub record GoesOn (fresh : Bool) (pairs : ℕ) (ngs : List (List Choice)) (blocked : List (List Side)) (w : List Side) (reasons : List Reason) (next : Phase) (before : ℕ) : Type 0 where
  pub kept : IsWalk fresh pairs ngs blocked w reasons
  pub here : InPhase fresh pairs ngs blocked w next
  pub less : moments_left pairs w next < before
