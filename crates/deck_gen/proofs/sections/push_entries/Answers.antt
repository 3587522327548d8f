use Rattle.deck_gen.specs.Generator.{draws_before, entry_of}
use Rattle.std.proofs.Common.{◌+◌}
use Rattle.deck_gen.proofs.Joins.{joined_more, draw_more, entry_is}
use Rattle.deck_gen.proofs.sections.push_entries.Goals as goal

pub loop-row-preserved : goal.loop-row-preserved
loop-row-preserved c =
    let z = c.args.sizes in
    let drawn = draw_more z.seed (draws_before z c.args.column + 1) c.loop-row.row c.loop-row.drawn c.next_draw-drawn.result c.loop-row.invariant.1 c.next_draw-drawn.ensures.value in (
      joined_more (entry_of z c.args.column) c.loop-row.row c.args.out.now.items c.loop-row.out.items c.push_entry_line.new.out.items c.loop-row.invariant.0
          (entry_is z c.args.column c.loop-row.row c.next_draw-drawn.result c.loop-row.out.items c.push_entry_line.new.out.items drawn c.in_ok-push_entry_line.ensures),
      drawn,
      c.next_draw-drawn.ensures.small,
    )
