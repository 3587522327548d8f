-- The feasible set is the union of the pieces.
use Rattle.std.proofs.Common.{ℕ, zero, suc, ◌≡◌, refl, arith, List, [], ◌∷◌, length, get_or, ◌⊎◌, inl, inr}
use Rattle.std.specs.Prelude.{Some, slice_get}
use Rattle.std.specs.List.{AllByRecursion}
use Rattle.std.proofs.lemmas.List.Elements.{recursion_from_All, All-from_recursion}
use Rattle.nogoods.specs.declared.choice.Choice.{Choice}
use Rattle.nogoods.specs.declared.choice.Side.{Side}
use Rattle.nogoods.specs.declared.choice.Side.TheVariants.{A, B}
use Rattle.lpcc_case.specs.Instance.{Instance, constraint_at, member}
use Rattle.lpcc_case.specs.Points.{Point, IsTight, IsFeasible}
use Rattle.lpcc_case.specs.Pieces.{IsPiece, LiesIn}

-- sides, one for each pair, each with the fact that T says of its member; `none` stands past the last pair
pub record Sides (T : ℕ → Type 0) (none : ℕ × ℕ) (pairs : List (ℕ × ℕ)) : Type 0 where
  pub sides : List Side
  pub one_each : length sides ≡ length pairs
  pub hold : (k : ℕ) (s : Side) → slice_get sides k ≡ Some s → T (member (get_or pairs k none) s)

with_side : (T : ℕ → Type 0) (none : ℕ × ℕ) (q : ℕ × ℕ) (pairs : List (ℕ × ℕ)) (s : Side) → T (member q s) → Sides T none pairs → Sides T none (q ∷ pairs)
with_side T none q pairs s here rest = record {
  sides = s ∷ rest.sides;
  one_each = omega (arith, rest.one_each);
  hold = holds_at T none q pairs s here rest;
}
  where
    holds_at : (T : ℕ → Type 0) (none : ℕ × ℕ) (q : ℕ × ℕ) (pairs : List (ℕ × ℕ)) (s : Side) → T (member q s) → (rest : Sides T none pairs) → (k : ℕ) (t : Side) → slice_get (s ∷ rest.sides) k ≡ Some t → T (member (get_or (q ∷ pairs) k none) t)
    holds_at T none q pairs s here rest zero t e = let same : s ≡ t = cc in rw (← same) here
    holds_at T none q pairs s here rest (suc k) t e = rest.hold k t e

pub choose_sides : (T : ℕ → Type 0) (none : ℕ × ℕ) (pairs : List (ℕ × ℕ)) → AllByRecursion (λ q. T q.0 ⊎ T q.1) pairs → Sides T none pairs
choose_sides T none [] all = record { sides = []; one_each = refl; hold = λ k s e. absurd (cc) }
choose_sides T none (q ∷ pairs) all = elim all.0 [
  | inl a ↦ with_side T none q pairs A a (choose_sides T none pairs all.1)
  | inr b ↦ with_side T none q pairs B b (choose_sides T none pairs all.1)
]

by_side : (T : ℕ → Type 0) (q : ℕ × ℕ) (s : Side) → T (member q s) → T q.0 ⊎ T q.1
by_side T q A h = inl h
by_side T q B h = inr h

pub from_sides : (T : ℕ → Type 0) (none : ℕ × ℕ) (pairs : List (ℕ × ℕ)) (sides : List Side) → length sides ≡ length pairs → ((k : ℕ) (s : Side) → slice_get sides k ≡ Some s → T (member (get_or pairs k none) s)) → AllByRecursion (λ q. T q.0 ⊎ T q.1) pairs
from_sides T none [] sides e hold = tt
from_sides T none (q ∷ pairs) [] e hold = absurd (omega arith)
from_sides T none (q ∷ pairs) (s ∷ sides) e hold =
    (by_side T q s (hold 0 s refl), from_sides T none pairs sides (omega arith) (λ k t f. hold (suc k) t f))

-- what stands past the last pair
abbrev past : Instance → ℕ × ℕ
past a = (length a.constraints, length a.constraints)

pub feasible-in_piece : (a : Instance) (p : Point a.columns) → IsFeasible a p → (sides : List Side) × IsPiece a sides × LiesIn a sides p
feasible-in_piece a p f =
    let T = λ (k : ℕ). IsTight p (constraint_at a k) in
    let found = choose_sides T (past a) a.pairs (recursion_from_All _ a.pairs f.complementary) in
    (found.sides, found.one_each, record { met = f.met; tight = λ c e. found.hold c.pair c.side e })

pub in_piece-feasible : (a : Instance) (p : Point a.columns) → ((sides : List Side) × IsPiece a sides × LiesIn a sides p) → IsFeasible a p
in_piece-feasible a p h =
    let T = λ (k : ℕ). IsTight p (constraint_at a k) in
    let choice : ℕ → Side → Choice = λ k s. record { pair = k; side = s } in
    record {
      met = h.2.met;
      complementary = All-from_recursion _ a.pairs (from_sides T (past a) a.pairs h.0 h.1 (λ k s e. h.2.tight (choice k s) e));
    }
