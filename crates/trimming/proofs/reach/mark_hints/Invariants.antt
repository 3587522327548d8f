use Rattle.std.proofs.Common.{ℕ, ◌≡◌, ◌≤◌, length, take, get_or, false, true}
use Rattle.std.specs.Prelude.{◌⊎◌, Contains}
use Rattle.trimming.specs.Marks.{HintsMarked}
use Rattle.trimming.proofs.ReachLaws.{Stay}
use Rattle.trimming.proofs.reach.mark_hints.Given as goal

abbrev pub invariant-loop-hint : goal.invariant-loop-hint
invariant-loop-hint l =
    (length l.marks.items ≡ length l.initial.marks.items) × HintsMarked l.marks.items l.below (take l.hint-index l.hints)
    × Stay l.initial.marks.items l.marks.items × ((j : ℕ) → l.below ≤ j → get_or l.marks.items j false ≡ get_or l.initial.marks.items j false)
    × ((j : ℕ) → get_or l.marks.items j false ≡ true → (get_or l.initial.marks.items j false ≡ true) ⊎ Contains (take l.hint-index l.hints) j)
