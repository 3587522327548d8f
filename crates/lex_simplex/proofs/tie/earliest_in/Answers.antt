use Rattle.std.proofs.Common.{ℕ, ℤ, ◌≡◌, arith, ap, length, List}
use Rattle.dict.specs.Dictionaries.{row_at}
use Rattle.lex_simplex.proofs.Ties.{seen_more, seen_step}
use Rattle.lex_simplex.proofs.tie.earliest_in.Goals as goal

pub loop-i-preserved : goal.loop-i-preserved
loop-i-preserved c =
    let a = c.args.case.now in
    let t = c.args.tight.now in
    let d = c.args.dict.now in
    record {
      kept = c.earlier-best.ensures.kept;
      lower = omega (arith, c.earlier-best.ensures.lower, c.loop-i.invariant.lower);
      seen = seen_more a t d c.args.col c.args.down c.args.c.row c.args.b.row c.loop-i.best c.earlier-best.result c.args.row c.loop-i.i c.earlier-best.ensures.lower c.loop-i.invariant.seen
          (seen_step a t d c.args.col c.args.down c.args.c.row c.args.b.row c.earlier-best.result c.args.row c.loop-i.i c.entries-entries.result.now c.term_of-term.result c.entries-entries.ensures.list c.term_of-term.ensures.term c.earlier-best.ensures.seen);
    }

pub returns-clause-seen : goal.returns-clause-seen
returns-clause-seen c = λ x lt.
    let size : length c.entries-entries.result.now ≡ length (row_at c.args.dict.now.rows c.args.row).entries = ap (λ (us : List (ℕ × ℤ)). length us) c.entries-entries.ensures.list in
    c.loop-i.invariant.seen x (omega (arith, lt, size, c.loop-i-test.false))
