-- One more row of a deck.
use Rattle.std.proofs.Common.{ℕ, ◌+◌, ◌<◌, ◌≤◌, ◌≡◌, ◌≢◌, sym, ap, subst, ◌∙◌, inl, inr, arith, List, [], ◌++◌, length, get_or, take, Some, slice_get}
use Rattle.std.specs.List.{enumerate_from}
use Rattle.std.proofs.lemmas.Bool.{cases_eq}
use Rattle.std.proofs.lemmas.List.FromFn.{get_or-enumerate_from, length-enumerate_from}
use Rattle.std.proofs.lemmas.Option.{slice_get-get_or, get_or_from_slice_get, same_Some}
use Rattle.lpcc_case.specs.declared.constraint.Constraint.{Constraint}
use Rattle.decks.specs.Decks.{IsDeck, entries_of}
use Rattle.decks.specs.declared.deck.Deck.{Deck}
use Rattle.decks.specs.declared.deck.Entry.{Entry}
use Rattle.decks.specs.declared.deck.Letter.{Letter}
use Rattle.decks.specs.declared.deck.Letter.TheVariants.{N}
use Rattle.decks.specs.declared.deck.Row.{Row}
use Rattle.deck_case.specs.declared.fault.CaseFault.{CaseFault}
use Rattle.deck_case.specs.CaseParts.{constraints_of_row, constraints_of_rows, row_constraints}
use Rattle.deck_case.specs.DeckPoints.{row_at, no_row}
use Rattle.deck_case.specs.Steps.{IsFirstOf}
use Rattle.deck_case.specs.Wide.{wide_row, wide_rows}
use Rattle.deck_case.proofs.Numbered.{first_here, none_all, none_more, numbered_all, numbered_more}

abbrev row_made : List Entry → ℕ × Row → List Constraint
row_made entries r = constraints_of_row (entries_of entries r.0) r.1

abbrev row_lines : List Entry → ℕ × Row → List ℕ
row_lines entries r = wide_row (entries_of entries r.0) r.1

-- ---- the constraints

pub rows_more : (d : Deck) (rows : List Row) (k : ℕ) (r e : Row) (es : List Entry) (made new : List Constraint) → rows ≡ d.rows → k < length rows → r ≡ get_or rows k e → es ≡ entries_of d.entries k → made ≡ constraints_of_rows d.entries (take k (enumerate_from 0 d.rows)) → new ≡ made ++ constraints_of_row es r → new ≡ constraints_of_rows d.entries (take (k + 1) (enumerate_from 0 d.rows))
rows_more d rows k r e es made new same h read listed so_far pushed =
    let row : r ≡ get_or d.rows k e = read ∙ ap (λ l. get_or l k e) same in
    pushed
    ∙ ap (λ l. l ++ constraints_of_row es r) so_far
    ∙ ap (λ l. constraints_of_rows d.entries (take k (enumerate_from 0 d.rows)) ++ constraints_of_row l r) listed
    ∙ ap (λ (x : Row). constraints_of_rows d.entries (take k (enumerate_from 0 d.rows)) ++ constraints_of_row (entries_of d.entries k) x) row
    ∙ sym (numbered_more (row_made d.entries) d.rows k e (omega (arith, ap length same)))

pub rows_done : (d : Deck) (rows : List Row) (k : ℕ) (made : List Constraint) → rows ≡ d.rows → length rows ≤ k → made ≡ constraints_of_rows d.entries (take k (enumerate_from 0 d.rows)) → made ≡ row_constraints d
rows_done d rows k made same h e = e ∙ numbered_all (row_made d.entries) d.rows k (omega (arith, ap length same))

-- ---- the lines

numbered_row : (rows : List Row) (k : ℕ) (d : Row) → k < length rows → get_or (enumerate_from 0 rows) k (0, d) ≡ (k, get_or rows k d)
numbered_row rows k d h = get_or-enumerate_from 0 rows k (0, d) h ∙ ap (λ n. (n, get_or rows k d)) (omega arith)

-- the lines of the row at k
lines_here : (d : Deck) (rows : List Row) (k : ℕ) (r e : Row) (es : List Entry) → rows ≡ d.rows → k < length rows → r ≡ get_or rows k e → es ≡ entries_of d.entries k → row_lines d.entries (get_or (enumerate_from 0 d.rows) k (0, e)) ≡ wide_row es r
lines_here d rows k r e es same h read listed =
    ap (row_lines d.entries) (numbered_row d.rows k e (omega (arith, ap length same)))
    ∙ ap (λ (x : Row). wide_row (entries_of d.entries k) x) (sym (read ∙ ap (λ l. get_or l k e) same))
    ∙ ap (λ l. wide_row l r) (sym listed)

pub lines_more : (d : Deck) (rows : List Row) (k : ℕ) (r e : Row) (es : List Entry) → rows ≡ d.rows → k < length rows → r ≡ get_or rows k e → es ≡ entries_of d.entries k → wide_rows d.entries (take k (enumerate_from 0 d.rows)) ≡ [] → wide_row es r ≡ [] → wide_rows d.entries (take (k + 1) (enumerate_from 0 d.rows)) ≡ []
lines_more d rows k r e es same h read listed none here =
    none_more (row_lines d.entries) (enumerate_from 0 d.rows) k (0, e) (omega (arith, ap length same, length-enumerate_from 0 d.rows)) none (lines_here d rows k r e es same h read listed ∙ here)

pub lines_done : (d : Deck) (rows : List Row) (k : ℕ) → rows ≡ d.rows → length rows ≤ k → wide_rows d.entries (take k (enumerate_from 0 d.rows)) ≡ [] → wide_rows d.entries (enumerate_from 0 d.rows) ≡ []
lines_done d rows k same h none = none_all (row_lines d.entries) (enumerate_from 0 d.rows) k (omega (arith, ap length same, length-enumerate_from 0 d.rows)) none

pub lines_first : (d : Deck) (rows : List Row) (k : ℕ) (r e : Row) (es : List Entry) (fault : CaseFault) → rows ≡ d.rows → k < length rows → r ≡ get_or rows k e → es ≡ entries_of d.entries k → wide_rows d.entries (take k (enumerate_from 0 d.rows)) ≡ [] → IsFirstOf (wide_row es r) fault → IsFirstOf (wide_rows d.entries (enumerate_from 0 d.rows)) fault
lines_first d rows k r e es fault same h read listed none first =
    first_here (row_lines d.entries) (enumerate_from 0 d.rows) k (0, e) fault (omega (arith, ap length same, length-enumerate_from 0 d.rows)) none (subst (λ l. IsFirstOf l fault) (sym (lines_here d rows k r e es same h read listed)) first)

-- ---- the objective

pub row_there : (d : Deck) (rows : List Row) (k : ℕ) (r e : Row) → rows ≡ d.rows → k < length rows → r ≡ get_or rows k e → slice_get d.rows k ≡ Some r
row_there d rows k r e same h read = slice_get-get_or d.rows k e (omega (arith, ap length same)) ∙ ap Some (sym (read ∙ ap (λ l. get_or l k e) same))

pub letter_of_objective : (d : Deck) (k : ℕ) (r : Row) → IsDeck d → slice_get d.rows k ≡ Some r → k ≡ d.objective → r.letter ≡ N
letter_of_objective d k r h e same =
    let row : r ≡ h.objective.0 = same_Some r h.objective.0 (sym e ∙ ap (slice_get d.rows) same ∙ h.objective.1) in
    ap (λ (x : Row). x.letter) row ∙ h.objective.2

pub row_at_is : (d : Deck) (k : ℕ) (r : Row) → slice_get d.rows k ≡ Some r → row_at d k ≡ r
row_at_is d k r e = get_or_from_slice_get d.rows k r no_row e

-- what the objective gives, made at its place and kept behind it
pub objective_step : {T : Type 0} (target made old new : T) (k place : ℕ) (letter : Letter) → (k ≡ place → letter ≡ N) → (k ≢ place → letter ≢ N) → (place < k → old ≡ target) → (letter ≢ N → new ≡ old) → (letter ≡ N → new ≡ made) → (k ≡ place → made ≡ target) → place < k + 1 → new ≡ target
objective_step target made old new k place letter here other kept passed set is h =
    elim (cases_eq k place) [
      | inl same ↦ set (here same) ∙ is same
      | inr apart ↦ passed (other apart) ∙ kept (omega arith)
    ]

-- what the row and the entries at the objective's place give
pub target_same : {T : Type 0} (f : ℕ → List Entry → Row → T) (d : Deck) (n k : ℕ) (r : Row) (es : List Entry) → n ≡ length d.columns → es ≡ entries_of d.entries k → slice_get d.rows k ≡ Some r → k ≡ d.objective → f n es r ≡ f (length d.columns) (entries_of d.entries d.objective) (row_at d d.objective)
target_same f d n k r es en listed there same =
    ap (λ m. f m es r) en
    ∙ ap (λ l. f (length d.columns) l r) (listed ∙ ap (entries_of d.entries) same)
    ∙ ap (f (length d.columns) (entries_of d.entries d.objective)) (sym (row_at_is d k r there) ∙ ap (row_at d) same)
