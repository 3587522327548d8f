use Rattle.std.proofs.Common.{ℕ, ◌≡◌, ◌<◌, get_or, length, take}
use Rattle.migrating.specs.Making.{last_hint}
use Rattle.migrating.proofs.hinting.last_hints.Given as goal

abbrev pub invariant-loop-at : goal.invariant-loop-at
invariant-loop-at l =
    (length l.last.items ≡ length l.lines) × ((h : ℕ) → h < length l.lines → get_or l.last.items h 0 ≡ last_hint 0 (take l.at l.lines) h)
