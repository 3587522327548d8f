use Rattle.std.proofs.Common.{sym, ap, ◌∙◌, ◌++◌, ◌∷◌, [], rules}
use Rattle.decks.specs.declared.deck.Column.{Column}
use Rattle.mps_lex.specs.Shown.{shown}
use Rattle.mps_tables.specs.Known.{bounds_with}
use Rattle.mps_tables.proofs.Walking.{untold}
use Rattle.mps_pairs.proofs.Walking.{column_more}
use Rattle.mps_pairs.proofs.tables.deck_columns.Goals as goal
use Rattle.mps_pairs.proofs.tables.deck_columns.Goals.{in-Some+in_ok-push, in_default}

pub loop-index-preserved : goal.loop-index-preserved
loop-index-preserved c = elim c.match-at.branch [
  | in-Some+in_ok-push w ↦
      column_more (bounds_with c.args.bounds.now.columns) c.args.names.now c.loop-index.index w.in-Some.name.now c.loop-index.found c.match-at.found
      (sym w.in-Some.ensures) c.loop-index.invariant (w.found-is ∙ w.in_ok-push.ensures.ok ∙ ap (λ (x : Column). c.loop-index.found ++ x ∷ []) w.bounds-column.ensures)
  | in_default w ↦ untold shown c.args.names.now c.loop-index.index c.at.result c.at.ensures w.in_default.is (search rules)
]
