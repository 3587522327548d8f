-- Right-hand sides and ranges are numbers of a deck.
use Rattle.std.proofs.Common.{◌≡◌, Bool, true, false, cond, List, [], ◌∷◌, ◌++◌, Option, Some, None}
use Rattle.std.specs.Prelude.{IfSome, unwrap_or, is_some, is_none}
use Rattle.std.specs.List.{AllByRecursion}
use Rattle.std.specs.Str.{bytes_eq}
use Rattle.lp_nums.specs.Fractions.{Fraction}
use Rattle.mps_lex.specs.Kinds.{Name}
use Rattle.mps_lex.specs.Lines.{Line}
use Rattle.decks.specs.declared.fault.DeckWhy.TheVariants.{UnknownName, EntryTwice}
use Rattle.decks.specs.Decks.{IsDeckNumber, IsRow, zero}
use Rattle.decks.specs.Names.{named}
use Rattle.decks.specs.Numbers.{text_fault}
use Rattle.decks.specs.Spelling.{is_n, RowLine, row_named, RowValue, row_value, row_values_on, row_values_in, deck_row}
use Rattle.decks.specs.Faults.{◌or◌, fault_if, entry_fault, set_fault, one_row_value_fault, two_row_values_fault, row_values_fault}
use Rattle.decks.proofs.KeptParts.{first_none, second_none, all_flat}
use Rattle.decks.proofs.KeptNumbers.{number_kept, nought_kept}
use Rattle.decks.proofs.KeptSlices.{IsRightBy, rights_fault, each_line}

pub entry_text : (rows : List RowLine) (twice : Bool) (r v : Name) → entry_fault rows twice r v ≡ None → text_fault v ≡ None
entry_text rows twice r v e = second_none (fault_if twice EntryTwice) (text_fault v) (second_none (fault_if (is_none (row_named rows r)) UnknownName) (fault_if twice EntryTwice or text_fault v) e)

abbrev HasNumber : RowValue → Type 0
HasNumber g = IsDeckNumber g.1

abbrev HaveNumbers : List Name → Type 0
HaveNumbers fs = AllByRecursion HasNumber (row_values_on fs)

one_number : (rows : List RowLine) (gs : List RowValue) (r v : Name) → one_row_value_fault rows gs r v ≡ None → HasNumber (row_value r v)
one_number rows gs r v e = number_kept v (entry_text rows (is_some (named gs r)) r v e)

two_numbers : (rows : List RowLine) (gs : List RowValue) (r v s w : Name) → two_row_values_fault rows gs r v s w ≡ None → AllByRecursion HasNumber (row_value r v ∷ row_value s w ∷ [])
two_numbers rows gs r v s w e =
    let one = one_row_value_fault rows gs r v in
    let two = one_row_value_fault rows (gs ++ row_value r v ∷ []) s w in
    (one_number rows gs r v (first_none one two e), (one_number rows (gs ++ row_value r v ∷ []) s w (second_none one two e), tt))

numbers : (rows : List RowLine) (set : Option Name) (gs : List RowValue) (fs : List Name) → row_values_fault rows set gs fs ≡ None → HaveNumbers fs
numbers rows set gs [] e = absurd cc
numbers rows set gs (t ∷ []) e = absurd cc
numbers rows set gs (r ∷ v ∷ []) e = (one_number rows gs r v (second_none (set_fault set []) (one_row_value_fault rows gs r v) e), tt)
numbers rows set gs (t ∷ r ∷ v ∷ []) e = (one_number rows gs r v (second_none (set_fault set t) (one_row_value_fault rows gs r v) e), tt)
numbers rows set gs (r ∷ v ∷ s ∷ w ∷ []) e = two_numbers rows gs r v s w (second_none (set_fault set []) (two_row_values_fault rows gs r v s w) e)
numbers rows set gs (t ∷ r ∷ v ∷ s ∷ w ∷ []) e = two_numbers rows gs r v s w (second_none (set_fault set t) (two_row_values_fault rows gs r v s w) e)
numbers rows set gs (t ∷ r ∷ v ∷ s ∷ w ∷ x ∷ fs) e = absurd cc

abbrev pub RowValuesKept : List RowValue → Type 0
RowValuesKept gs = AllByRecursion HasNumber gs

pub row_values_kept : (rows ls : List Line) → IsRightBy (rights_fault rows) [] ls → RowValuesKept (row_values_in ls)
row_values_kept rows ls h = all_flat (λ (l : Line). HaveNumbers l.fields) HasNumber (λ (l : Line). row_values_on l.fields) (λ l q. q) ls (each_line (rights_fault rows) HaveNumbers (λ before fs e. numbers _ _ _ fs e) [] ls h)

value_kept : (gs : List RowValue) (n : Name) → RowValuesKept gs → IfSome (named gs n) IsDeckNumber
value_kept [] n h = tt
value_kept (g ∷ gs) n h = by (bytes_eq n g.0) (value_kept gs n h.1)
  where
    by : (b : Bool) → IfSome (named gs n) IsDeckNumber → IfSome (cond b (Some g.1) (named gs n)) IsDeckNumber
    by true next = h.0
    by false next = next

or_nought : (o : Option Fraction) → IfSome o IsDeckNumber → IsDeckNumber (unwrap_or o zero)
or_nought None h = nought_kept
or_nought (Some f) h = h

unless_n : (b : Bool) (o : Option Fraction) → IfSome o IsDeckNumber → IfSome (cond b None o) IsDeckNumber
unless_n true o h = tt
unless_n false o h = h

pub row_is : (rights ranges : List RowValue) → RowValuesKept rights → RowValuesKept ranges → (r : RowLine) → IsRow (deck_row rights ranges r)
row_is rights ranges h g r = record {
  right_side = or_nought (named rights r.name) (value_kept rights r.name h);
  range = unless_n (is_n r.letter) (named ranges r.name) (value_kept ranges r.name g);
}
