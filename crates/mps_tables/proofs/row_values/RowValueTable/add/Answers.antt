use Rattle.std.proofs.Common.{subst, sym, ◌≡◌, is_some, false}
use Rattle.decks.specs.Names.{named}
use Rattle.mps_tables.specs.Known.{KnownRowValues}
use Rattle.mps_tables.proofs.Placed.{value_put}
use Rattle.mps_tables.proofs.row_values.RowValueTable.add.Goals as goal

pub returns-clause-ok : goal.returns-clause-ok
returns-clause-ok c =
    let fresh = subst (λ (k : KnownRowValues). is_some (named k.values c.args.row.now) ≡ false) (sym c.self.view_is) c.requires in
    rw (← c.self.view_is) (value_put _ c.self.inside.values c.put.new.self c.args.row.now c.args.value c.in_ok-put.ensures.ok fresh)
