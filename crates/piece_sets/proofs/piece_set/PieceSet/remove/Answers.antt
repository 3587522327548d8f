use Rattle.std.proofs.Common.{List, subst, sym, ◌∙◌, ◌≡◌}
use Rattle.std.specs.Prelude.{Contains, ◌↔◌}
use Rattle.std.proofs.lemmas.Bool.{false≢true}
use Rattle.nogoods.specs.declared.choice.Side.{Side}
use Rattle.piece_sets.specs.PieceSets.{IsPlace}
use Rattle.piece_sets.proofs.PieceOrder.{found_in, taken_out, not_there}
use Rattle.piece_sets.proofs.piece_set.PieceSet.remove.Goals as goal

pub returns-then-is_at : goal.returns-then-is_at
returns-then-is_at c =
    let P : List (List Side) → Type 0 = λ l. (q : List Side) → Contains c.take_at.new.held.items q ↔ (Contains l q × ¬ (q ≡ c.args.sides.now)) in
    subst P c.self.view_is (taken_out c.self.inside.held.items c.as_slice-2.result.now c.take_at.new.held.items c.args.sides.now c.place_of-at.result c.is_at.result c.as_slice-2.ensures.value c.if-is_at.true c.is_at.ensures c.take_at.ensures.rest)

pub returns-else-is_at : goal.returns-else-is_at
returns-else-is_at c =
    let P : List (List Side) → Type 0 = λ l. (q : List Side) → Contains l q ↔ (Contains l q × ¬ (q ≡ c.args.sides.now)) in
    let Q : List (List Side) → Type 0 = λ l. IsPlace l c.args.sides.now c.place_of-at.result in
    let place : Q c.as_slice-2.result.now = subst Q (c.as_slice.ensures.value ∙ sym c.as_slice-2.ensures.value) c.place_of-at.ensures in
    let there = found_in c.self.inside.held.items c.as_slice-2.result.now c.args.sides.now c.place_of-at.result c.is_at.result c.as_slice-2.ensures.value c.self.invariant place c.is_at.ensures in
    subst P c.self.view_is (not_there c.self.inside.held.items c.args.sides.now (λ inside. false≢true (sym c.if-is_at.false ∙ there.1 inside)))
