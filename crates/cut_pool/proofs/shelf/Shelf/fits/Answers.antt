use Rattle.std.proofs.Common.{rules, ◌≡◌, ◌<◌, ◌∙◌, sym, ap, arith, length, []}
use Rattle.cut_pool.proofs.Taking.{read_here}
use Rattle.cut_pool.proofs.shelf.Shelf.fits.Goals as goal

pub has_counts-requires : goal.has_counts-requires
has_counts-requires c =
    let i = c.self.inside in
    let v = c.self.invariant in
    let inside : c.args.worker < length i.lanes.items = search rules in
    let same : length i.lanes.items ≡ length c.args.reach.now.lanes = search rules in
    let known : c.args.worker < length i.handed.items = omega (arith, inside, v.rows) in
    ap length c.as_slice.ensures ∙ ap length (sym (read_here i.handed.items c.args.worker c.index.result.now [] known c.index.ensures)) ∙ (v.waits c.args.worker inside).count ∙ same
