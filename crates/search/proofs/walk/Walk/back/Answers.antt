use Rattle.std.proofs.Common.{ℕ, ◌+◌, ◌-◌, ◌<◌, ◌≡◌, arith, length}
use Rattle.derivation.specs.Logs.{no_goods}
use Rattle.nogoods.specs.declared.choice.Side.TheVariants.{A, B}
use Rattle.search.proofs.Steps.{read_side, blocked_turns, blocked_exhausts, blocked_ends}
use Rattle.search.proofs.walk.Walk.back.Goals as goal

pub returns-then-count-eq0-clause-end : goal.returns-then-count-eq0-clause-end
returns-then-count-eq0-clause-end c =
    let none : length c.args.self.now.sides.items ≡ 0 = omega (arith, c.len-count.ensures, c.args.self.now.sides.ok) in
    blocked_ends c.args.pairs (no_goods c.args.log.now) c.args.blocked.now c.args.self.now.sides.items none c.requires.exhausted

pub returns-in-A-clause-next : goal.returns-in-A-clause-next
returns-in-A-clause-next c =
    let q : ℕ = c.len-count.result - 1 in
    let size : q + 1 ≡ length c.args.self.now.sides.items = omega (arith, c.len-count.ensures, c.args.self.now.sides.ok, c.if-count-eq0.false) in
    let inside : q < length c.args.self.now.sides.items = omega (arith, size) in
    let side = read_side c.args.self.now.sides.items q c.index-side.result.now A inside c.index-side.ensures c.in-A.is in
    blocked_turns c.args.fresh c.args.pairs (no_goods c.args.log.now) c.args.blocked.now c.args.self.now.sides.items c.cut.new.self.sides.items c.args.self.now.reasons.items c.cut.new.self.reasons.items q c.requires.kept c.requires.exhausted c.requires.witnessed size side c.cut.ensures.sides c.cut.ensures.reasons

pub returns-in-B-clause-next : goal.returns-in-B-clause-next
returns-in-B-clause-next c =
    let q : ℕ = c.len-count.result - 1 in
    let size : q + 1 ≡ length c.args.self.now.sides.items = omega (arith, c.len-count.ensures, c.args.self.now.sides.ok, c.if-count-eq0.false) in
    let inside : q < length c.args.self.now.sides.items = omega (arith, size) in
    let side = read_side c.args.self.now.sides.items q c.index-side.result.now B inside c.index-side.ensures c.in-B.is in
    blocked_exhausts c.args.fresh c.args.pairs (no_goods c.args.log.now) c.args.blocked.now c.args.self.now.sides.items c.cut.new.self.sides.items c.args.self.now.reasons.items c.cut.new.self.reasons.items q c.requires.kept c.requires.exhausted c.requires.witnessed size side c.cut.ensures.sides c.cut.ensures.reasons
