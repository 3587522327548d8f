use Rattle.std.proofs.Common.{arith, ap, ◌∙◌, length, ℕ, suc}
use Rattle.page.specs.Places.{place}
use Rattle.page.proofs.Kept.{store_allowed, place_within}
use Rattle.page.proofs.steps.store_word.Goals as goal

pub store-requires : goal.store-requires
store-requires g c =
    let pass = c.args.seat.now in
    let page = c.args.page.now in
    let table = page.table.shared in
    let at = c.requires.at ∙ ap (λ (n : ℕ). place n (length pass.me.0.seen) (suc (length pass.me.0.draft))) page.stride_is in (
      c.requires.ours,
      omega (arith, c.requires.at, page.words_is, place_within page.stride page.items (length pass.me.0.seen) (suc (length pass.me.0.draft)) c.requires.room (omega (arith, c.requires.within))),
      store_allowed table.key.stride (g.K.Keeps.fact table.key.keeps) table.key table.table_id.slots pass.id pass.me c.args.word _ c.requires.writes at (omega (arith, c.requires.room, page.items_is)) (omega (arith, c.requires.within, page.stride_is)),
    )
