use Rattle.deck_gen.specs.Generator.{draws_before, right_side_of}
use Rattle.deck_gen.proofs.Joins.{joined_more, draw_more, right_side_is}
use Rattle.deck_gen.proofs.sections.push_right_sides.Goals as goal

pub loop-row-preserved : goal.loop-row-preserved
loop-row-preserved c =
    let z = c.args.sizes in
    let drawn = draw_more z.seed (draws_before z z.columns) c.loop-row.row c.loop-row.drawn c.next_draw-drawn.result c.loop-row.invariant.1 c.next_draw-drawn.ensures.value in (
      joined_more (right_side_of z) c.loop-row.row c.push_text.new.out.items c.loop-row.out.items c.push_right_side_line.new.out.items c.loop-row.invariant.0
          (right_side_is z c.loop-row.row c.next_draw-drawn.result c.loop-row.out.items c.push_right_side_line.new.out.items drawn c.in_ok-push_right_side_line.ensures),
      drawn,
      c.next_draw-drawn.ensures.small,
    )
