use Rattle.migrating.proofs.Counting.{count_short, seen_ok, new_ok}
use Rattle.migrating.proofs.sharing.count_mult.Goals as goal

pub returns-then-mult-lt-LEAST_SHARED : goal.returns-then-mult-lt-LEAST_SHARED
returns-then-mult-lt-LEAST_SHARED c mults h = count_short mults c.args.once.now c.args.again.now c.args.mult.now c.if-mult-lt-LEAST_SHARED.true h

pub returns-then-has : goal.returns-then-has
returns-then-has c = seen_ok c.args.once.now c.args.again.now c.add.new.self c.args.mult.now c.has.result c.add.result c.if-mult-lt-LEAST_SHARED.false c.has.ensures c.if-has.true c.add.ensures.ok

pub returns-else-has : goal.returns-else-has
returns-else-has c =
    new_ok c.args.once.now c.args.again.now c.add-else-has.new.self c.args.mult.now c.has.result c.add-else-has.result c.if-mult-lt-LEAST_SHARED.false c.has.ensures c.if-has.false c.add-else-has.ensures.ok
