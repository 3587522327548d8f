use Rattle.std.proofs.Common.{List, subst, ◌≡◌}
use Rattle.std.specs.Prelude.{Contains, OnOk, ◌⊎◌, ◌↔◌}
use Rattle.nogoods.specs.declared.choice.Side.{Side}
use Rattle.piece_sets.proofs.piece_set.PieceSet.insert.Goals as goal

pub returns-clause-ok : goal.returns-clause-ok
returns-clause-ok c =
    let P : List (List Side) → Type 0 = λ l. OnOk c.put_at.result ((p : List Side) → Contains c.put_at.new.held.items p ↔ ((p ≡ c.args.piece) ⊎ Contains l p)) in
    subst P c.self.view_is c.put_at.ensures.ok
