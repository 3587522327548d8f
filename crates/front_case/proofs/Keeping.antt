-- Entries, rows and columns that keep the facts of a deck.
use Rattle.std.proofs.Common.{◌≡◌, ℕ, ◌+◌, ◌<◌, ◌≤◌, Bool, true, false, cond, leb, List, [], ◌∷◌, refl, arith, ℤ, pos, ◌&&◌, None, Some}
use Rattle.std.specs.Prelude.{All}
use Rattle.std.proofs.lemmas.Bool.{and_parts, leb-true}
use Rattle.std.proofs.lemmas.List.Elements.{All-cons, All-nil}
use Rattle.lp_base.specs.declared.limits.TheConstants.{MOST_COLUMNS, MOST_CONSTRAINTS, MOST_ENTRIES, MOST_PAIRS, MOST_ROWS}
use Rattle.decks.specs.Bounds.{default_column}
use Rattle.decks.specs.Decks.{IsColumn, IsDeckNumber, IsRow}
use Rattle.decks.specs.declared.deck.Entry.{Entry}
use Rattle.decks.specs.declared.deck.Letter.{Letter}
use Rattle.front_text.specs.Problems.{Counts, Fits, are_few}
use Rattle.kkt_front.specs.Decks.{block, entry, entry_if, free_column, row}
use Rattle.kkt_front.specs.DeckTexts.{is_zero}
use Rattle.front_case.proofs.Lists.{all_flat}
use Rattle.front_case.proofs.Numbers.{deck_number}

-- ---- limits

pub record AreFew (c : Counts) : Type 0 where
  pub columns : c.columns ≤ MOST_COLUMNS
  pub rows : c.rows ≤ MOST_ROWS
  pub entries : c.entries ≤ MOST_ENTRIES
  pub pairs : c.pairs ≤ MOST_PAIRS
  pub constraints : c.constraints ≤ MOST_CONSTRAINTS

pub few : (c : Counts) → are_few c ≡ true → AreFew c
few c e =
    let columns = leb c.columns MOST_COLUMNS in
    let rows = leb c.rows MOST_ROWS in
    let entries = leb c.entries MOST_ENTRIES in
    let pairs = leb c.pairs MOST_PAIRS in
    let four = and_parts (columns && rows && entries && pairs) (leb c.constraints MOST_CONSTRAINTS) e in
    let three = and_parts (columns && rows && entries) pairs four.0 in
    let two = and_parts (columns && rows) entries three.0 in
    let one = and_parts columns rows two.0 in
    record {
      columns = leb-true c.columns MOST_COLUMNS one.0;
      rows = leb-true c.rows MOST_ROWS one.1;
      entries = leb-true c.entries MOST_ENTRIES two.1;
      pairs = leb-true c.pairs MOST_PAIRS three.1;
      constraints = leb-true c.constraints MOST_CONSTRAINTS four.1;
    }

-- ---- entries

-- the column and the row are there, and the number is one of a deck
pub record IsGood (columns rows : ℕ) (e : Entry) : Type 0 where
  pub column : e.column < columns
  pub row : e.row < rows
  pub number : IsDeckNumber e.value
  pub is_whole : e.value.den ≡ pos 1
  pub fits : Fits e.value.num

pub good : (columns rows column r : ℕ) (v : ℤ) → column < columns → r < rows → Fits v → IsGood columns rows (entry column r v)
good columns rows column r v hc hr f = record { column = hc; row = hr; number = deck_number v f; is_whole = refl; fits = f }

all_if : (P : Entry → Type 0) (b : Bool) (e : Entry) → P e → All P (cond b [] (e ∷ []))
all_if P true e h = All-nil P
all_if P false e h = All-cons P e [] h (All-nil P)

pub all_block : (P : Entry → Type 0) (column first : ℕ) (c : ℕ → ℤ) (n : ℕ) → ((i : ℕ) → i < n → P (entry column (first + i) (c i))) → All P (block column first c n)
all_block P column first c n h = all_flat P (λ i. entry_if column (first + i) (c i)) 0 n (λ i low high. all_if P (is_zero (c i)) (entry column (first + i) (c i)) (h i (omega (arith, high))))

-- ---- rows and columns

pub row_kept : (letter : Letter) (line : ℕ) (right : ℤ) → Fits right → IsRow (row letter line right)
row_kept letter line right f = record { right_side = deck_number right f; range = tt }

pub default_kept : IsColumn default_column
default_kept = record { lower = deck_number (pos 0) refl; upper = tt; fixed = λ e. absurd (cc e) }

pub free_kept : (line : ℕ) → IsColumn (free_column line)
free_kept line = record { lower = tt; upper = tt; fixed = λ e. absurd (cc e) }
