use Rattle.std.proofs.Common.{arith, ap, ◌∙◌, ℕ}
use Rattle.page.specs.Places.{place}
use Rattle.page.proofs.Kept.{look_allowed, place_within}
use Rattle.page.proofs.steps.look.Goals as goal

pub load-requires : goal.load-requires
load-requires g c =
    let pass = c.args.seat.now in
    let page = c.args.page.now in
    let table = page.table.shared in
    let at = c.requires.at ∙ ap (λ (n : ℕ). place n c.args.i 0) page.stride_is in (
      c.requires.ours,
      omega (arith, c.requires.at, page.words_is, place_within page.stride page.items c.args.i 0 c.requires.room (omega arith)),
      look_allowed g.K.Keeps.fact table.key table.table_id.slots pass.id pass.me c.args.at c.args.i c.requires.reads c.requires.same at c.requires.seen (omega (arith, c.requires.room, page.items_is)),
    )
