use Rattle.std.proofs.Common.{rules, ◌≡◌}
use Rattle.std.specs.Prelude.{replicate}
use Rattle.page.specs.Places.{word_count}
use Rattle.page.proofs.Kept.{opens}
use Rattle.page.proofs.calls.open_table.Goals as goal

pub of_words-requires : goal.of_words-requires
of_words-requires g c =
    let key = c.args.key.now in
    let zeros : c.deref.result.now ≡ replicate (word_count key.stride key.items) 0 = search rules in
    opens (g.K.Keeps.fact key.keeps) key c.deref.result.now zeros
