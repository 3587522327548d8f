-- Bytes that go out in pieces.
use Rattle.std.specs.Prelude.{◌≤◌, ℕ, List, Option, length, take}
use Rattle.std.specs.Io.KnownBytes.{Appends}

-- known bytes grow by a front of the text
abbrev pub AppendsFront : Option (List ℕ) → Option (List ℕ) → List ℕ → Type 0
AppendsFront before now text = (count : ℕ) × (count ≤ length text) × Appends before now (take count text)
