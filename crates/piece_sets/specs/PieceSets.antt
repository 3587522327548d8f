-- Pieces in their order.
use Rattle.std.specs.Prelude.{◌≡◌, ◌<◌, ◌≤◌, ℕ, true, false, List, [], length, slice_index_or}
use Rattle.nogoods.specs.declared.choice.Side.{Side}
use Rattle.nogoods.specs.Pieces.{precedes}

-- each piece stands before the later ones
abbrev pub IsAscending : List (List Side) → Type 0
IsAscending pieces = (i j : ℕ) → i < j → j < length pieces → precedes (slice_index_or pieces i []) (slice_index_or pieces j []) ≡ true

-- so many of the pieces stand before this one, and they come first
pub record IsPlace (pieces : List (List Side)) (piece : List Side) (at : ℕ) : Type 0 where
  pub within : at ≤ length pieces
  pub before : (k : ℕ) → k < at → precedes (slice_index_or pieces k []) piece ≡ true
  pub rest : (k : ℕ) → at ≤ k → k < length pieces → precedes (slice_index_or pieces k []) piece ≡ false
