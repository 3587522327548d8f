-- What a text spells keeps the facts of a deck.
use Rattle.std.proofs.Common.{ℕ, ◌<◌, ◌≡◌, ◌≢◌, true, false, List, Result, Ok, Err, length, map, refl, sym, ap, subst, ◌∙◌, arith}
use Rattle.std.proofs.lemmas.Bool.{true≢false}
use Rattle.std.proofs.lemmas.List.{length-append, length-map}
use Rattle.std.proofs.lemmas.List.Elements.{All-from_recursion}
use Rattle.std.specs.Prelude.{IfOk}
use Rattle.mps_lex.specs.Lines.{Line}
use Rattle.mps_lex.specs.declared.line.Section.TheVariants.{Rows, Columns, Rhs, Ranges, Bounds, Pairs, Groups}
use Rattle.decks.specs.declared.deck.Deck.{Deck}
use Rattle.decks.specs.declared.deck.Entry.{Entry}
use Rattle.decks.specs.declared.deck.Row as made
use Rattle.decks.specs.declared.deck.Letter.{Letter}
use Rattle.decks.specs.declared.deck.Letter.TheVariants.{N}
use Rattle.decks.specs.declared.fault.DeckFault.{DeckFault}
use Rattle.decks.specs.Decks.{IsDeck, IsDeckNumber, IsRow, IsColumn, group_pairs}
use Rattle.decks.specs.Bounds.{settings_in, column_bounds}
use Rattle.decks.specs.Sections.{slice}
use Rattle.decks.specs.Spelling.{is_n, has_objective, rows_of, kept, column_names, entries_in, row_values_in, deck_row, deck_entries, field, pair_of, deck_pairs, deck_groups, deck_of}
use Rattle.decks.specs.Texts.{Spells}
use Rattle.decks.proofs.KeptParts.{all_weaker, every_map, get_map, get_mapped}
use Rattle.decks.proofs.KeptNames.{get_first}
use Rattle.decks.proofs.KeptSlices.{LinesRight, lines_right, some_objective}
use Rattle.decks.proofs.KeptRows.{rows_kept, names_objective, other_row, letter_n}
use Rattle.decks.proofs.KeptRowValues.{row_values_kept, row_is}
use Rattle.decks.proofs.KeptBounds.{settings_kept, column_is}
use Rattle.decks.proofs.KeptColumns.{columns_kept, IsEntry, entries_are, no_more_entries}
use Rattle.decks.proofs.KeptPairs.{IsPair, few_pairs, pairs_are}
use Rattle.decks.proofs.KeptGroups.{HasNamedItems, few_made, groups_are}

not_n : (x r : Letter) → x ≡ r → is_n x ≡ false → r ≢ N
not_n x r same other e = true≢false (ap is_n (sym e) ∙ ap is_n (sym same) ∙ other)

deck_is : (ls : List Line) (number : ℕ) → LinesRight ls → has_objective (rows_of (slice Rows ls)) ≡ true → IsDeck (deck_of ls number)
deck_is ls number right some =
    let rs = rows_of (slice Rows ls) in
    let ks = kept rs in
    let cs = column_names (slice Columns ls) in
    let es = entries_in (slice Columns ls) in
    let rights = row_values_in (slice Rhs ls) in
    let ranges = row_values_in (slice Ranges ls) in
    let ss = settings_in (slice Bounds ls) in
    let rows = rows_kept (slice Rows ls) right.rows in
    let columns = columns_kept (slice Rows ls) (slice Columns ls) rows right.columns in
    let settings = settings_kept (slice Columns ls) (slice Bounds ls) right.bounds in
    let valued = row_values_kept (slice Rows ls) (slice Rhs ls) right.rights in
    let ranged = row_values_kept (slice Rows ls) (slice Ranges ls) right.ranges in
    let objective = get_first names_objective ks (rows.numbered.objective some) in
    let entries = entries_are rs cs es rows columns.entries in
    let names = length-map (slice Pairs ls) (λ (l : Line). field 0 l.fields) in
    let few = few_pairs (slice Rows ls) (slice Columns ls) (slice Bounds ls) (slice Pairs ls) right.pairs in
    let all = few_made (slice Rows ls) (slice Columns ls) (slice Bounds ls) (slice Pairs ls) (slice Groups ls) (omega (arith, names, few)) right.groups in
    let row_count = length-map ks (deck_row rights ranges) in
    let column_count = length-map cs (column_bounds ss) in
    record {
      few_rows = omega (arith, row_count, rows.numbered.few, rows.few);
      few_columns = omega (arith, column_count, columns.few_columns);
      few_entries = omega (arith, no_more_entries rs cs es, columns.few_entries);
      few_pairs = omega (arith, length-append (deck_pairs rs cs (slice Pairs ls)) (group_pairs (deck_groups rs cs (slice Groups ls))), length-map (slice Pairs ls) (λ (l : Line). pair_of rs cs l.fields), names, all);
      objective = (deck_row rights ranges objective.0, get_map (deck_row rights ranges) ks _ objective.0 objective.1, letter_n objective.0.letter objective.2);
      others = λ k r e n. let x = get_mapped (deck_row rights ranges) ks k r e in not_n x.0.letter r.letter (ap (λ (y : made.Row). y.letter) x.2) (other_row ks k x.0 rows.numbered.one x.1 n);
      rows = All-from_recursion IsRow (map (deck_row rights ranges) ks) (every_map IsRow (deck_row rights ranges) (row_is rights ranges valued ranged) ks);
      columns = All-from_recursion IsColumn (map (column_bounds ss) cs) (every_map IsColumn (column_bounds ss) (column_is ss settings) cs);
      entries_named = All-from_recursion _ (deck_entries rs cs es) (all_weaker (IsEntry (length ks) (length cs)) (λ (e : Entry). (e.column < length (map (column_bounds ss) cs)) × (e.row < length (map (deck_row rights ranges) ks)))
          (λ e h. (omega (arith, h.column, column_count), omega (arith, h.row, row_count))) (deck_entries rs cs es) entries);
      entry_values = All-from_recursion (λ (e : Entry). IsDeckNumber e.value) (deck_entries rs cs es) (all_weaker (IsEntry (length ks) (length cs)) (λ (e : Entry). IsDeckNumber e.value) (λ e h. h.value) (deck_entries rs cs es) entries);
      ascending = λ row. columns.entries.ascending row;
      pairs_named = All-from_recursion (IsPair (deck_of ls number)) _ (pairs_are (deck_of ls number) (slice Rows ls) (slice Columns ls) (slice Bounds ls) (slice Pairs ls) rights ranges (record { rows_are = refl; columns_are = refl }) rows settings right.pairs);
      groups_named = All-from_recursion (HasNamedItems (deck_of ls number)) _ (groups_are (deck_of ls number) (slice Rows ls) (slice Columns ls) (slice Bounds ls) (slice Pairs ls) (slice Groups ls) rights ranges (record { rows_are = refl; columns_are = refl }) rows settings right.groups);
    }

pub spelled_keeps : (text : List ℕ) (d : Deck) (p : ℕ) → Spells text d p → IsDeck d
spelled_keeps text d p w =
    let right = lines_right w.front w.clean in
    subst IsDeck (sym w.deck_is) (deck_is w.front w.last.number right (some_objective w.front w.last right w.right w.ends))

pub given_kept : (r : Result (Deck × ℕ) DeckFault) (text : List ℕ) → IfOk r (λ x. Spells text x.0 x.1) → IfOk r (λ x. IsDeck x.0)
given_kept (Ok read) text h = spelled_keeps text read.0 read.1 h
given_kept (Err f) text h = tt
