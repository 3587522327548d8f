-- The choices of a piece.
use Rattle.std.proofs.Common.{ℕ, ◌+◌, ◌<◌, ◌≡◌, refl, subst, arith, zero, suc, List, [], ◌∷◌, length, Some}
use Rattle.std.specs.Prelude.{All, Contains, IsTrue, nat_lt, slice_get}
use Rattle.std.proofs.lemmas.Bool.{and_from, lt-ltb}
use Rattle.std.proofs.lemmas.List.Elements.{All-contains, All-weaker}
use Rattle.std.proofs.lemmas.Option.{slice_get_within}
use Rattle.lp_base.specs.Ascending.{ascends_by}
use Rattle.nogoods.specs.declared.choice.Choice.{Choice}
use Rattle.nogoods.specs.declared.choice.Side.{Side}
use Rattle.nogoods.specs.Choices.{pairs_ascend, pair_of}
use Rattle.nogoods.specs.Pieces.{Bars, IsChoiceOf}
use Rattle.lpcc_case.specs.Instance.{Instance, chosen}
use Rattle.lpcc_case.specs.Points as points
use Rattle.lpcc_case.specs.Points.{IsTight, IsTightAt, MeetsAll}
use Rattle.lpcc_case.specs.Pieces.{IsPiece, LiesIn, NamesPairs}
use Rattle.play.specs.Points.{choices_from, choices_of}
use Rattle.play.proofs.ListLaws.{here, there}
use Rattle.play.proofs.Verdicts.{choices_bar}

-- choices among those of a piece bar it
pub bars_among : (sides : List Side) (ng : List Choice) → All (Contains (choices_of sides)) ng → Bars ng sides
bars_among sides ng among = All-weaker (Contains (choices_of sides)) (IsChoiceOf sides) (λ c has. All-contains (IsChoiceOf sides) (choices_of sides) c (choices_bar sides) has) ng among

-- they name pairs
pub choices_named : (a : Instance) (sides : List Side) → IsPiece a sides → NamesPairs a (choices_of sides)
choices_named a sides size = All-weaker (IsChoiceOf sides) (λ c. c.pair < length a.pairs) (λ c is. omega (arith, size, slice_get_within sides c.pair c.side is)) (choices_of sides) (choices_bar sides)

ascend_from : (k : ℕ) (sides : List Side) → IsTrue (pairs_ascend (choices_from k sides))
ascend_from k [] = refl
ascend_from k (s ∷ []) = refl
ascend_from k (s ∷ t ∷ sides) = and_from (nat_lt k (k + 1)) (ascends_by pair_of (choices_from (k + 1) (t ∷ sides))) (lt-ltb k (k + 1) (omega arith)) (ascend_from (k + 1) (t ∷ sides))

-- their pairs ascend
pub choices_ascend : (sides : List Side) → IsTrue (pairs_ascend (choices_of sides))
choices_ascend sides = ascend_from 0 sides

among_from : (k j : ℕ) (s : Side) (sides : List Side) → slice_get sides j ≡ Some s → Contains (choices_from k sides) (record { pair = k + j; side = s })
among_from k j s [] e = absurd (omega (arith, slice_get_within [] j s e))
among_from k zero s (t ∷ sides) e =
    let same : t ≡ s = cc in
    let P : Side → Type 0 = λ u. Contains (choices_from k (t ∷ sides)) (record { pair = k; side = u }) in
    let Q : ℕ → Type 0 = λ i. Contains (choices_from k (t ∷ sides)) (record { pair = i; side = s }) in
    let none : k ≡ k + zero = omega arith in
    subst Q none (subst P same (here (record { pair = k; side = t }) (choices_from (k + 1) sides)))
among_from k (suc j) s (t ∷ sides) e =
    let P : ℕ → Type 0 = λ i. Contains (choices_from k (t ∷ sides)) (record { pair = i; side = s }) in
    let same : k + 1 + j ≡ k + suc j = omega arith in
    subst P same (there (record { pair = k; side = t }) (choices_from (k + 1) sides) (record { pair = k + 1 + j; side = s }) (among_from (k + 1) j s sides e))

-- each choice of a piece is among its choices
pub is_among : (sides : List Side) (c : Choice) → IsChoiceOf sides c → Contains (choices_of sides) c
is_among sides c is =
    let P : ℕ → Type 0 = λ i. Contains (choices_of sides) (record { pair = i; side = c.side }) in
    let same : 0 + c.pair ≡ c.pair = omega arith in
    subst P same (among_from 0 c.pair c.side sides is)

-- a point of the system of these choices lies in the piece
pub lies_in_piece : (a : Instance) (sides : List Side) (p : points.Point a.columns) → MeetsAll a p → IsTightAt a p (choices_of sides) → LiesIn a sides p
lies_in_piece a sides p met tight = record { met = met; tight = λ c is. All-contains (λ d. IsTight p (chosen a d)) (choices_of sides) c tight (is_among sides c is) }
