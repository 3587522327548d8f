use Rattle.std.proofs.Common.{◌≡◌, ◌<◌, ◌||◌, ℕ, length, take, get_or, false}
use Rattle.walks.specs.Values.{is_chosen}
use Rattle.lex_simplex.proofs.marks.mark_chosen.Given as goal

abbrev pub invariant-loop-choice : goal.invariant-loop-choice
invariant-loop-choice l = record {
  size : length l.marks ≡ length l.fn.marks;
  chosen : (k : ℕ) → k < length l.fn.marks → get_or l.marks k false ≡ (get_or l.fn.marks k false || is_chosen l.case (take l.choice-index l.choices) k);
}
