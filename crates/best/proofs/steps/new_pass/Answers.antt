use Rattle.std.proofs.Common.{arith}
use Rattle.best.proofs.Kept.{splits}
use Rattle.best.proofs.steps.new_pass.Goals as goal

pub split_seat-requires : goal.split_seat-requires
split_seat-requires g c =
    let seat = c.args.seat.now in
    (c.requires.ours, omega (arith, c.args.best.now.words_are), splits g.T.Entry.is_lower seat.id seat.me.0 c.requires.some_left)
