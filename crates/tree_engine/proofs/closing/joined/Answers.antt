use Rattle.std.proofs.Common.{refl, subst, sym}
use Rattle.tree_engine.specs.Closings.{Closes, IsHalfClosed}
use Rattle.tree_engine.specs.Paths.{second_side}
use Rattle.tree_engine.specs.declared.tree.Tree.TheViews as views
use Rattle.tree_engine.proofs.Sides.{both_close, both_hold}
use Rattle.tree_engine.proofs.closing.joined.Goals as goal

pub returns : goal.returns
returns c old half best behind run now h second =
    let a = c.args.case.now in
    let o = c.args.options.now in
    let path = c.args.path.now in
    let x = c.in_ok-a.a.value in
    let y = c.in_ok-b.b.value in
    let first_is = subst (λ t. IsHalfClosed a o path c.args.pair old best half behind t) (sym c.in_ok-a.ensures.ok) h in
    let second_is = subst (λ t. Closes a o (second_side c.args.pair path) half behind run now t) (sym c.in_ok-b.ensures.ok) second in
    both_close a o path c.args.pair old best half behind run now x y (views.Split c.args.pair c.in_ok-a.a c.in_ok-b.b) first_is second_is (both_hold a o path c.args.pair old best half behind run now x y first_is second_is) refl
