-- Parts of decks, by the lists that they come from.
use Rattle.std.specs.Prelude.{◌+◌, ℕ, ℤ, List, length}
use Rattle.decks.specs.declared.deck.Entry.{Entry}
use Rattle.decks.specs.declared.deck.Letter.TheVariants.{E, G}
use Rattle.decks.specs.declared.deck.Row as rows
use Rattle.front_text.specs.declared.problem.Line.{Line}
use Rattle.front_text.specs.Problems.{Terms, coefficient_at}
use Rattle.kkt_front.specs.DeckTexts.{line_at, number_at}
use Rattle.kkt_front.specs.Decks.{block, row}

-- the rows of lines and of numbers, of which the first stands on this line of the deck
abbrev pub line_row : ℕ → List Line → ℕ → rows.Row
line_row first lines i = row G (first + i) (line_at lines i).rhs

abbrev pub numbered_row : ℕ → List ℤ → ℕ → rows.Row
numbered_row first numbers k = row E (first + k) (number_at numbers k)

-- the entries of a variable in lines, of which the first has the row of this number
abbrev pub line_block : ℕ → List Line → ℕ → List Entry
line_block first lines j = block j first (λ i. coefficient_at (line_at lines i).terms j) (length lines)

-- the coefficients of n variables, from this one on, in rows of which the first has this number
abbrev pub follow_block : ℕ → ℕ → Terms → ℕ → ℕ → List Entry
follow_block column first terms variable n = block column first (λ k. coefficient_at terms (variable + k)) n
