use Rattle.std.proofs.Common.{◌∙◌, ap, arith, []}
use Rattle.std.proofs.lemmas.List.{take_all}
use Rattle.std.proofs.lemmas.List.FromFn.{fill_by_all}
use Rattle.decks.specs.Decks.{entries_of}
use Rattle.deck_case.proofs.entries.entries_by_row.Goals as goal

pub returns : goal.returns
returns c =
    let es = c.args.entries.now in
    let inv = c.loop-entry.invariant in
    fill_by_all (entries_of es) c.loop-entry.lists.items c.args.rows [] inv.long
    (λ k h. inv.each k (omega arith) ∙ ap (λ l. entries_of l k) (take_all c.loop-entry.entry-index es c.loop-entry-test.false))
