-- The deck that the tables make.
use Rattle.std.proofs.Common.{ℕ, ◌+◌, ◌≡◌, Bool, true, false, not, cond, ltb, List, [], ◌∷◌, ◌++◌, length, map, take, Option, Some, None, refl, ap, sym, ◌∙◌, arith}
use Rattle.std.proofs.lemmas.Bool.{ltb-false}
use Rattle.std.proofs.lemmas.List.{map_push, map-append}
use Rattle.std.proofs.lemmas.List.Elements.{filter-append}
use Rattle.std.proofs.lemmas.List.Sums.{prefix_len-le-length}
use Rattle.std.specs.Prelude.{position, unwrap_or, slice_get, is_some}
use Rattle.std.specs.List.{position_or_len}
use Rattle.sense.specs.declared.objective.Sense.{Sense}
use Rattle.sense.specs.declared.objective.Sense.TheVariants.{Min}
use Rattle.mps_lex.specs.Kinds.{Name}
use Rattle.decks.specs.declared.deck.Column.{Column}
use Rattle.decks.specs.declared.deck.Row as rows
use Rattle.decks.specs.declared.deck.Entry.{Entry}
use Rattle.decks.specs.declared.deck.PairLine.{PairLine}
use Rattle.decks.specs.declared.deck.GroupLine.{GroupLine}
use Rattle.decks.specs.declared.deck.Deck.{Deck}
use Rattle.decks.specs.Spelling.{RowLine, RowValue, is_n, kept, deck_row}
use Rattle.mps_tables.specs.Known.{bounds_with}
use Rattle.mps_tables.proofs.Walking.{more}
use Rattle.mps_pairs.specs.Known.{Known, deck_from}

pub place_or : {X : Type 0} (p : X → Bool) (xs : List X) (o : Option ℕ) (r : ℕ) → o ≡ position p xs → r ≡ unwrap_or o (length xs) → r ≡ position_or_len p xs
place_or p xs o r eo er = er ∙ ap (λ (x : Option ℕ). unwrap_or x (length xs)) eo ∙ by (ltb (position_or_len p xs) (length xs)) refl
  where
    by : (b : Bool) → ltb (position_or_len p xs) (length xs) ≡ b → unwrap_or (cond b (Some (position_or_len p xs)) None) (length xs) ≡ position_or_len p xs
    by true e = refl
    by false e = let past = ltb-false (position_or_len p xs) (length xs) e in omega (arith, past, prefix_len-le-length (λ x. not (p x)) xs)

pub column_more : (f : Name → Column) (ns : List Name) (i : ℕ) (n : Name) (found new : List Column) → slice_get ns i ≡ Some n → found ≡ map f (take i ns) → new ≡ found ++ f n ∷ [] → new ≡ map f (take (i + 1) ns)
column_more f ns i n found new e h hn =
    hn ∙ ap (λ (t : List Column). t ++ f n ∷ []) h ∙ sym (map_push f (take i ns) n) ∙ ap (map f) (sym (more ns i n e))

pub row_more : (f : RowLine → rows.Row) (rs : List RowLine) (i : ℕ) (r : RowLine) (found new : List rows.Row) → slice_get rs i ≡ Some r → found ≡ map f (kept (take i rs)) → new ≡ found ++ map f (kept (r ∷ [])) → new ≡ map f (kept (take (i + 1) rs))
row_more f rs i r found new e h hn =
    hn ∙ ap (λ (t : List rows.Row). t ++ map f (kept (r ∷ []))) h ∙ sym (map-append f (kept (take i rs)) (kept (r ∷ [])))
    ∙ ap (map f) (sym (filter-append (λ x. is_some x.number) (take i rs) (r ∷ []))) ∙ ap (λ (t : List RowLine). map f (kept t)) (sym (more rs i r e))

by_test : (b : Bool) (m n : ℕ) → m ≡ n → cond (not b) (1 + m) 0 ≡ cond (not b) (1 + n) 0
by_test true m n e = refl
by_test false m n e = ap (λ (x : ℕ). 1 + x) e

-- the objective has the place of its row
objective_same : (rights ranges : List RowValue) (rs : List RowLine) → position_or_len (λ r. is_n r.letter) (map (deck_row rights ranges) rs) ≡ position_or_len (λ r. is_n r.letter) rs
objective_same rights ranges [] = refl
objective_same rights ranges (r ∷ rs) = by_test (is_n r.letter) _ _ (objective_same rights ranges rs)

abbrev pub made_deck : Sense → List rows.Row → ℕ → List Column → List Entry → List PairLine → List GroupLine → ℕ → Deck
made_deck sense rs objective columns entries pairs groups end_line = record { sense = sense; rows = rs; objective = objective; columns = columns; entries = entries; pairs = pairs; groups = groups; end_line = end_line }

-- the deck that the tables make
pub deck_taken : (k : Known) (end_line : ℕ) (sense : Sense) (rs : List rows.Row) (objective : ℕ) (columns : List Column) (entries : List Entry) (pairs : List PairLine) (groups : List GroupLine) → sense ≡ unwrap_or k.sense Min
    → rs ≡ map (deck_row k.rights.values k.ranges.values) (kept k.rows) → objective ≡ position_or_len (λ r. is_n r.letter) rs → columns ≡ map (bounds_with k.bounds.columns) k.columns.names → entries ≡ k.columns.entries → pairs ≡ k.pairs.pairs
    → groups ≡ k.groups.groups → made_deck sense rs objective columns entries pairs groups end_line ≡ deck_from k end_line
deck_taken k end_line sense rs objective columns entries pairs groups es er eo ec ee ep eg =
    let place = eo ∙ ap (λ (x : List rows.Row). position_or_len (λ r. is_n r.letter) x) er ∙ objective_same k.rights.values k.ranges.values (kept k.rows) in
    λ i. made_deck (es i) (er i) (place i) (ec i) (ee i) (ep i) (eg i) end_line
