use Rattle.std.proofs.Common.{arith, suc}
use Rattle.page.proofs.Kept.{read_allowed, place_within}
use Rattle.page.proofs.steps.read_word.Goals as goal

pub load-requires : goal.load-requires
load-requires g c =
    let pass = c.args.seat.now in
    let page = c.args.page.now in
    let table = page.table.shared in (
      c.requires.ours,
      omega (arith, c.requires.at, page.words_is, place_within page.stride page.items c.args.i (suc c.args.k) c.requires.room (omega (arith, c.requires.within))),
      read_allowed (g.K.Keeps.fact table.key.keeps) table.key table.table_id.slots pass.id pass.me c.args.at c.requires.reads c.requires.same,
    )
