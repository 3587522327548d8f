use Rattle.std.proofs.Common.{◌<◌, sym, subst, rules, length}
use Rattle.std.specs.Arc.{arc_value}
use Rattle.cut_pool.specs.Lanes.{LaneView, ArePagesOf}
use Rattle.cut_pool.proofs.OneCase.{same_cases, lanes_set}
use Rattle.cut_pool.proofs.reach.Reach.next.Goals as goal

pub invariant_of-self : goal.invariant_of-self
invariant_of-self c =
    let i = c.self.inside in
    let v = c.self.invariant in
    let a = arc_value i.case in
    let l : LaneView = c.index_mut.result.now in
    let within : c.args.lane < length i.lanes.items = search rules in
    let was : ArePagesOf a l.pages = subst (λ (t : LaneView). ArePagesOf a t.pages) (sym c.index_mut.ensures.value) (v.4 c.args.lane l within) in
    (v.0, v.1, v.2, v.3, lanes_set a i.lanes.items c.args.lane c.next.new.self v.4 (same_cases a l.pages c.next.new.self.pages c.next.ensures.next.cases was))
