use Rattle.std.proofs.Common.{◌≡◌, IfOk}
use Rattle.dict.specs.Exchanges.{IsNext}
use Rattle.dict.specs.Dictionaries.{row_at}
use Rattle.dict.specs.Pivots.{next_or}
use Rattle.dict.proofs.Pivots.{fresh_more}
use Rattle.dict.proofs.pivot.fresh_rows.Goals as goal

pub loop-i-preserved : goal.loop-i-preserved
loop-i-preserved c =
    let made : IfOk c.in_ok-next.field-0 (λ fresh. (c.loop-i.i ≡ c.args.row → ⊥) → IsNext c.args.places c.args.e (row_at c.args.rows.now c.loop-i.i) c.args.entering.now (next_or fresh (row_at c.args.rows.now c.loop-i.i))) = c.in_ok-next.ensures.next in
    let now : (c.loop-i.i ≡ c.args.row → ⊥) → IsNext c.args.places c.args.e (row_at c.args.rows.now c.loop-i.i) c.args.entering.now (next_or c.in-Ok.next (row_at c.args.rows.now c.loop-i.i)) = rw c.in-Ok.is at made in
    fresh_more c.args.places c.args.e c.args.row c.args.rows.now c.args.entering.now c.loop-i.fresh.items c.put_next.new.fresh.items c.loop-i.i c.in-Ok.next c.in_ok-put_next-in-Ok.ensures c.loop-i-test.true now c.loop-i.invariant
