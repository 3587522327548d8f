-- The shape of a line's fields.
use Rattle.std.proofs.Common.{ℕ, ◌≡◌, ◌≤◌, ◌<◌, List, [], ◌∷◌, length, map, get_or, Option, Some, refl, arith}
use Rattle.std.specs.Borrow.{Bor}
use Rattle.mps_lex.specs.Shown.{shown}
use Rattle.mps_lex.specs.Kinds.{Name}
use Rattle.decks.specs.declared.fault.DeckWhy.TheVariants.{FieldCount}
use Rattle.decks.specs.Spelling.{RowLine, RowValue}
use Rattle.decks.specs.Faults.{column_words_fault, row_values_fault}

abbrev pub Slice : Type 0
Slice = Bor (List ℕ)

pub three : (P : List Name → Type 0) (fs : List Slice) (d : Slice) → 3 ≤ length fs → length fs < 4 → P ((get_or fs 0 d).now ∷ (get_or fs 1 d).now ∷ (get_or fs 2 d).now ∷ []) → P (map shown fs)
three P [] d h l p = absurd (omega (arith, h))
three P (a ∷ []) d h l p = absurd (omega (arith, h))
three P (a ∷ b ∷ []) d h l p = absurd (omega (arith, h))
three P (a ∷ b ∷ c ∷ []) d h l p = p
three P (a ∷ b ∷ c ∷ e ∷ fs) d h l p = absurd (omega (arith, l))

pub five : (P : List Name → Type 0) (fs : List Slice) (d : Slice) → 5 ≤ length fs → length fs < 6 → P ((get_or fs 0 d).now ∷ (get_or fs 1 d).now ∷ (get_or fs 2 d).now ∷ (get_or fs 3 d).now ∷ (get_or fs 4 d).now ∷ []) → P (map shown fs)
five P [] d h l p = absurd (omega (arith, h))
five P (a ∷ []) d h l p = absurd (omega (arith, h))
five P (a ∷ b ∷ []) d h l p = absurd (omega (arith, h))
five P (a ∷ b ∷ c ∷ []) d h l p = absurd (omega (arith, h))
five P (a ∷ b ∷ c ∷ e ∷ []) d h l p = absurd (omega (arith, h))
five P (a ∷ b ∷ c ∷ e ∷ f ∷ []) d h l p = p
five P (a ∷ b ∷ c ∷ e ∷ f ∷ g ∷ fs) d h l p = absurd (omega (arith, l))

pub other_column : (rows : List RowLine) (columns here : List Name) (n : ℕ) (fs : List Slice) → (length fs ≡ 3 → ⊥) → (length fs ≡ 5 → ⊥) → column_words_fault rows columns here n (map shown fs) ≡ Some FieldCount
other_column rows columns here n [] h l = refl
other_column rows columns here n (a ∷ []) h l = refl
other_column rows columns here n (a ∷ b ∷ []) h l = refl
other_column rows columns here n (a ∷ b ∷ c ∷ []) h l = absurd (h (omega arith))
other_column rows columns here n (a ∷ b ∷ c ∷ e ∷ []) h l = refl
other_column rows columns here n (a ∷ b ∷ c ∷ e ∷ f ∷ []) h l = absurd (l (omega arith))
other_column rows columns here n (a ∷ b ∷ c ∷ e ∷ f ∷ g ∷ fs) h l = refl

pub short_row_values : (rows : List RowLine) (set : Option Name) (gs : List RowValue) (fs : List Slice) → length fs < 2 → row_values_fault rows set gs (map shown fs) ≡ Some FieldCount
short_row_values rows set gs [] h = refl
short_row_values rows set gs (a ∷ []) h = refl
short_row_values rows set gs (a ∷ b ∷ fs) h = absurd (omega (arith, h))

pub long_row_values : (rows : List RowLine) (set : Option Name) (gs : List RowValue) (fs : List Slice) → 6 ≤ length fs → row_values_fault rows set gs (map shown fs) ≡ Some FieldCount
long_row_values rows set gs [] h = absurd (omega (arith, h))
long_row_values rows set gs (a ∷ []) h = absurd (omega (arith, h))
long_row_values rows set gs (a ∷ b ∷ []) h = absurd (omega (arith, h))
long_row_values rows set gs (a ∷ b ∷ c ∷ []) h = absurd (omega (arith, h))
long_row_values rows set gs (a ∷ b ∷ c ∷ e ∷ []) h = absurd (omega (arith, h))
long_row_values rows set gs (a ∷ b ∷ c ∷ e ∷ f ∷ []) h = absurd (omega (arith, h))
long_row_values rows set gs (a ∷ b ∷ c ∷ e ∷ f ∷ g ∷ fs) h = refl
