-- A deck has a case or a fault of its case.
use Rattle.std.proofs.Common.{ℕ, ◌≡◌, refl, sym, ap, ◌∙◌, inl, inr, List, [], ◌∷◌, Some, length, slice_get}
use Rattle.std.specs.List.{enumerate_from, flat_map}
use Rattle.std.specs.Prelude.{◌⊎◌}
use Rattle.std.proofs.lemmas.Bool.{cases_lt}
use Rattle.std.proofs.lemmas.Option.{same_Some}
use Rattle.lpcc_case.specs.Instance.{Instance}
use Rattle.decks.specs.declared.deck.Deck.{Deck}
use Rattle.deck_case.specs.declared.fault.CaseFault.{CaseFault}
use Rattle.deck_case.specs.declared.fault.CaseFault.TheVariants.{RowWide, TooMany, NoMemory}
use Rattle.deck_case.specs.CaseParts.{constraints_of}
use Rattle.deck_case.specs.DeckCases.{HasCase, case_of_deck}
use Rattle.deck_case.specs.Faults.{HasCaseFault, IsNoMemory}
use Rattle.deck_case.specs.Steps.{IsFirstOf}
use Rattle.deck_case.specs.Wide.{wide_column, wide_lines, wide_rows}
use Rattle.deck_case.proofs.Places.{get_front}

by_lines : (d : Deck) (lines : List ℕ) → wide_lines d ≡ lines → ((a : Instance) × HasCase d a) ⊎ ((f : CaseFault) × HasCaseFault d f)
by_lines d [] none =
    elim (cases_lt 2000 (length (constraints_of d))) [
      | inl many ↦ inr (TooMany d.end_line, ((none, many), refl))
      | inr few ↦ inl (case_of_deck d, record { narrow = none; few = few; made = refl })
    ]
by_lines d (line ∷ lines) first = inr (RowWide line, ap (λ l. slice_get l 0) first)

pub one_law : (d : Deck) → ((a : Instance) × HasCase d a) ⊎ ((f : CaseFault) × HasCaseFault d f)
one_law d = by_lines d (wide_lines d) refl

no_line : (lines : List ℕ) (line : ℕ) → lines ≡ [] → slice_get lines 0 ≡ Some line → ⊥
no_line [] line none e = absurd cc
no_line (l ∷ lines) line none e = absurd cc

-- the first line of a row with a number that is too wide is the fault of the deck
first_of_rows : (d : Deck) (line : ℕ) (f : CaseFault) → slice_get (wide_lines d) 0 ≡ Some line → HasCaseFault d f → RowWide line ≡ f
first_of_rows d line (RowWide other) e has = ap RowWide (same_Some line other (sym e ∙ has))
first_of_rows d line (TooMany other) e has = absurd (no_line (wide_lines d) line has.0.0 e)
first_of_rows d line (NoMemory error) e has = absurd has

pub body_fault : (d : Deck) (g f : CaseFault) → IsFirstOf (wide_rows d.entries (enumerate_from 0 d.rows)) g → HasCaseFault d f → IsNoMemory g ⊎ (g ≡ f)
body_fault d (RowWide line) f first has = inr (first_of_rows d line f (get_front (wide_rows d.entries (enumerate_from 0 d.rows)) (flat_map wide_column d.columns) 0 line first) has)
body_fault d (TooMany line) f first has = absurd first
body_fault d (NoMemory error) f first has = inl tt
