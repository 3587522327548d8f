use Rattle.std.proofs.Common.{length}
use Rattle.dict.specs.Dictionaries.{row_at}
use Rattle.lex_simplex.proofs.Ties.{decided, seen_later}
use Rattle.lex_simplex.proofs.tie.sooner_by_eps.Goals as goal

pub returns : goal.returns
returns c =
    let a = c.args.case.now in
    let t = c.args.tight.now in
    let d = c.args.dict.now in
    decided a t d c.args.col c.args.down c.args.c.row c.args.b.row c.earliest_in-both.result c.requires.sized c.requires.c.within c.requires.b.within c.earliest_in-both.ensures.kept
    (seen_later a t d c.args.col c.args.down c.args.c.row c.args.b.row c.earliest_in-left.result c.earliest_in-both.result c.args.c.row (length (row_at d.rows c.args.c.row).entries) c.earliest_in-both.ensures.lower c.earliest_in-left.ensures.seen)
    c.earliest_in-both.ensures.seen c.requires.tie
