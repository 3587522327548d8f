use Rattle.std.proofs.Common.{arith, ap, ◌∙◌}
use Rattle.page.proofs.Kept.{splits}
use Rattle.page.proofs.calls.new_reader.Goals as goal

pub split_seat-requires : goal.split_seat-requires
split_seat-requires g c =
    let page = c.args.page.now in
    let key = page.table.shared.key in
    let pass = c.args.pass.now.seat in
    (c.requires.ours.ours, omega (arith, page.words_is), splits (g.K.Keeps.fact key.keeps) key pass.id pass.me.0 c.requires.ours.same)

pub returns-clause-new : goal.returns-clause-new
returns-clause-new g c =
    let e = c.split_seat.ensures in
    let m = ap (λ t. t.0) e.4 in (
      record {
        ours = e.3 ∙ c.requires.ours.ours;
        reads = ap (λ v. v.writes) m;
        same = ap (λ v. v.key) m ∙ c.requires.ours.same;
      },
      ap (λ v. v.seen) m,
      ap (λ v. v.look.loads) m,
    )
