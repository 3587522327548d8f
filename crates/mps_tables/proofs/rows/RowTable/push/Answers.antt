use Rattle.std.proofs.Common.{sym, ◌∙◌}
use Rattle.mps_tables.proofs.Counted.{objective_put, other_put, rows_put}
use Rattle.mps_tables.proofs.rows.RowTable.push.Goals as goal

pub invariant_of-self-then-is_n : goal.invariant_of-self-then-is_n
invariant_of-self-then-is_n c =
    objective_put c.self.inside.held c.put.new.self c.args.name.now c.args.row c.self.inside.others c.self.inside.objective c.in_ok-put.ensures.ok (rw c.self.view_is c.requires.fresh) (rw c.self.view_is c.requires.number) (sym c.if-is_n.true ∙ c.is_n.ensures) c.self.invariant

pub invariant_of-self-else-is_n : goal.invariant_of-self-else-is_n
invariant_of-self-else-is_n c =
    other_put c.self.inside.held c.put.new.self c.args.name.now c.args.row c.self.inside.others c.self.inside.objective c.in_ok-put.ensures.ok (rw c.self.view_is c.requires.fresh) (rw c.self.view_is c.requires.number) (sym c.if-is_n.false ∙ c.is_n.ensures) (rw c.self.view_is c.requires.room) c.self.invariant

pub returns-then-is_n : goal.returns-then-is_n
returns-then-is_n c = rw (← c.self.view_is) (rows_put c.self.inside.held c.put.new.self c.args.name.now c.args.row c.in_ok-put.ensures.ok (rw c.self.view_is c.requires.fresh))

pub returns-else-is_n : goal.returns-else-is_n
returns-else-is_n c = rw (← c.self.view_is) (rows_put c.self.inside.held c.put.new.self c.args.name.now c.args.row c.in_ok-put.ensures.ok (rw c.self.view_is c.requires.fresh))
