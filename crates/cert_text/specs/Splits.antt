-- Texts that are cut at each separator: lines between LFs, words between spaces.
use Rattle.std.specs.Prelude.{◌==◌, ℕ, List, [], Option, Some, None}
use Rattle.std.specs.Borrow.{Bor}
use Rattle.std.specs.List.{slice_split}

-- between two separators that meet lies an empty part
abbrev pub split : ℕ → List ℕ → List (List ℕ)
split separator text = slice_split (λ b. b == separator) text

-- the parts of what is left, where anything is left
abbrev pub split_left : ℕ → Option (Bor (List ℕ)) → List (List ℕ)
split_left separator None = []
split_left separator (Some text) = split separator text.now
