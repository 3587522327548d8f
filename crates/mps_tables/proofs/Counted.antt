-- The counts of rows, when a row is added.
use Rattle.std.proofs.Common.{ℕ, ◌+◌, ◌≡◌, ◌≤◌, Bool, true, false, not, ◌||◌, ◌&&◌, cond, List, [], ◌∷◌, ◌++◌, leb, length, map, Some, None, is_some, refl, ap, sym, subst, ◌∙◌, arith}
use Rattle.std.proofs.lemmas.List.{length-append}
use Rattle.std.proofs.lemmas.List.Elements.{filter-append}
use Rattle.std.proofs.lemmas.List.Folds.{list_any-append}
use Rattle.std.proofs.lemmas.List.Sums.{sum_by-append}
use Rattle.std.proofs.lemmas.Bool.{leb-false}
use Rattle.std.specs.Prelude.{count_by}
use Rattle.std.specs.List.{sum_by}
use Rattle.decks.specs.declared.deck.Letter.{Letter}
use Rattle.decks.specs.declared.fault.DeckWhy.TheVariants.{TooMany}
use Rattle.decks.specs.Faults.{many_rows_fault}
use Rattle.decks.proofs.KeptParts.{if_none}
use Rattle.mps_lex.specs.Kinds.{Name}
use Rattle.mps_tables.specs.declared.rows.RowState.{RowState}
use Rattle.decks.specs.Names.{put}
use Rattle.mps_tables.specs.Seen.{seen_row}
use Rattle.decks.specs.Spelling.{RowLine, is_n, has_objective, kept, number_behind, other_rows, row_named, letter_of}
use Rattle.mps_tables.proofs.Placed.{row_put}

-- the counts of rows: those other than N rows, whether there is an N row, and those that the deck has
pub record Counts (rs : List RowLine) (others : ℕ) (objective : Bool) : Type 0 where
  pub others_is : others ≡ other_rows rs
  pub objective_is : objective ≡ has_objective rs
  pub kept_is : length (kept rs) ≡ others + cond objective 1 0

count_push : {X : Type 0} (p : X → Bool) (xs : List X) (y : X) → count_by p (xs ++ y ∷ []) ≡ count_by p xs + cond (p y) 1 0
count_push p xs y = omega (arith, sum_by-append (λ x. cond (p x) 1 0) xs (y ∷ []), last (λ x. cond (p x) 1 0) y)
  where
    last : {X : Type 0} (f : X → ℕ) (y : X) → sum_by f (y ∷ []) ≡ f y
    last f y = omega arith

kept_push : (rs : List RowLine) (r : RowLine) → length (kept (rs ++ r ∷ [])) ≡ length (kept rs) + cond (is_some r.number) 1 0
kept_push rs r = ap length (filter-append (λ x. is_some x.number) rs (r ∷ [])) ∙ by (is_some r.number)
  where
    by : (b : Bool) → length (kept rs ++ cond b (r ∷ []) []) ≡ length (kept rs) + cond b 1 0
    by true = length-append (kept rs) (r ∷ [])
    by false = omega (arith, length-append (kept rs) [])

objective_push : (rs : List RowLine) (r : RowLine) → has_objective (rs ++ r ∷ []) ≡ (has_objective rs || is_n r.letter)
objective_push rs r = list_any-append (λ x. is_n x.letter) rs (r ∷ []) ∙ ap (λ (b : Bool). has_objective rs || b) (by (is_n r.letter))
  where
    by : (b : Bool) → (b || false) ≡ b
    by true = refl
    by false = refl

-- an N row is kept where it is the first
n_kept : (rs : List RowLine) (r : RowLine) (n has : Bool) → n ≡ true → is_some (cond (n && has) None (Some (length (kept rs)))) ≡ not has
n_kept rs r true true e = refl
n_kept rs r true false e = refl
n_kept rs r false has e = absurd cc

other_kept : (rs : List RowLine) (n has : Bool) → n ≡ false → is_some (cond (n && has) None (Some (length (kept rs)))) ≡ true
other_kept rs true has e = absurd cc
other_kept rs false has e = refl

or_true : (a b : Bool) → b ≡ true → true ≡ (a || b)
or_true true b e = refl
or_true false b e = sym e

or_false : (a b : Bool) → b ≡ false → a ≡ (a || b)
or_false true b e = refl
or_false false b e = sym e

flip_count : (b : Bool) (n : ℕ) → (n + cond b 1 0) + cond (not b) 1 0 ≡ n + 1
flip_count true n = omega arith
flip_count false n = omega arith

-- a test counts as 1 or 0
abbrev count : Bool → ℕ
count b = cond b 1 0

count_of : (a b : Bool) → a ≡ b → count a ≡ count b
count_of a b e = ap count e

pub objective_added : (rs : List RowLine) (others : ℕ) (objective : Bool) (r : RowLine) → Counts rs others objective → is_n r.letter ≡ true → r.number ≡ number_behind rs r.letter → Counts (rs ++ r ∷ []) others true
objective_added rs others objective r h e number =
    let some : is_some r.number ≡ not (has_objective rs) = ap is_some number ∙ n_kept rs r (is_n r.letter) (has_objective rs) e in
    let flip = flip_count (has_objective rs) others in
    let kept_is : length (kept rs) ≡ others + cond (has_objective rs) 1 0 = h.kept_is ∙ ap (λ (b : Bool). others + cond b 1 0) h.objective_is in
    let none = count_of (not (is_n r.letter)) false (ap not e) in
    record {
      others_is = omega (arith, h.others_is, count_push (λ x. not (is_n x.letter)) rs r, none);
      objective_is = or_true (has_objective rs) (is_n r.letter) e ∙ sym (objective_push rs r);
      kept_is = kept_push rs r ∙ ap (λ (b : Bool). length (kept rs) + cond b 1 0) some ∙ ap (λ (n : ℕ). n + cond (not (has_objective rs)) 1 0) kept_is ∙ flip;
    }

pub other_added : (rs : List RowLine) (others : ℕ) (objective : Bool) (r : RowLine) → Counts rs others objective → is_n r.letter ≡ false → r.number ≡ number_behind rs r.letter → Counts (rs ++ r ∷ []) (others + 1) objective
other_added rs others objective r h e number =
    let some : is_some r.number ≡ true = ap is_some number ∙ other_kept rs (is_n r.letter) (has_objective rs) e in
    let one = count_of (not (is_n r.letter)) true (ap not e) in
    let more : length (kept (rs ++ r ∷ [])) ≡ length (kept rs) + 1 = kept_push rs r ∙ ap (λ (b : Bool). length (kept rs) + cond b 1 0) some in
    record {
      others_is = omega (arith, h.others_is, count_push (λ x. not (is_n x.letter)) rs r, one);
      objective_is = h.objective_is ∙ or_false (has_objective rs) (is_n r.letter) e ∙ sym (objective_push rs r);
      kept_is = omega (arith, more, h.kept_is);
    }

-- ---- the table of rows

abbrev AreCounted : List RowLine → ℕ → Bool → Type 0
AreCounted rs others objective = (others ≡ other_rows rs) × (objective ≡ has_objective rs) × (others ≤ 2000) × (length (kept rs) ≡ others + cond objective 1 0)

counted : (rs : List RowLine) (others : ℕ) (objective : Bool) → AreCounted rs others objective → Counts rs others objective
counted rs others objective h = record { others_is = h.0; objective_is = h.1; kept_is = h.3 }

pub objective_put : (es new : List (Name × RowState)) (n : Name) (x : RowState) (others : ℕ) (objective : Bool) → new ≡ put es n x → row_named (map seen_row es) n ≡ None → x.number ≡ number_behind (map seen_row es) x.letter → true ≡ is_n x.letter
    → AreCounted (map seen_row es) others objective → AreCounted (map seen_row new) others true
objective_put es new n x others objective e fresh number here h =
    let rs = map seen_row es in
    let is : map seen_row new ≡ rs ++ seen_row (n, x) ∷ [] = ap (map seen_row) e ∙ row_put es n x fresh in
    let c = objective_added rs others objective (seen_row (n, x)) (counted rs others objective h) (sym here) number in
    subst (λ (r : List RowLine). AreCounted r others true) (sym is) (c.others_is, c.objective_is, h.2, c.kept_is)

pub other_put : (es new : List (Name × RowState)) (n : Name) (x : RowState) (others : ℕ) (objective : Bool) → new ≡ put es n x → row_named (map seen_row es) n ≡ None → x.number ≡ number_behind (map seen_row es) x.letter → false ≡ is_n x.letter
    → other_rows (map seen_row es ++ seen_row (n, x) ∷ []) ≤ 2000 → AreCounted (map seen_row es) others objective → AreCounted (map seen_row new) (others + 1) objective
other_put es new n x others objective e fresh number here room h =
    let rs = map seen_row es in
    let is : map seen_row new ≡ rs ++ seen_row (n, x) ∷ [] = ap (map seen_row) e ∙ row_put es n x fresh in
    let c = other_added rs others objective (seen_row (n, x)) (counted rs others objective h) (sym here) number in
    let few : others + 1 ≤ 2000 = subst (λ (k : ℕ). k ≤ 2000) (sym c.others_is) room in
    subst (λ (r : List RowLine). AreCounted r (others + 1) objective) (sym is) (c.others_is, c.objective_is, few, c.kept_is)

pub rows_put : (es new : List (Name × RowState)) (n : Name) (x : RowState) → new ≡ put es n x → row_named (map seen_row es) n ≡ None → map seen_row new ≡ map seen_row es ++ seen_row (n, x) ∷ []
rows_put es new n x e fresh = ap (map seen_row) e ∙ row_put es n x fresh

-- there is room for a row that is not one too many
pub rows_room : (rs : List RowLine) (r : RowLine) (l : Name) → other_rows rs ≤ 2000 → r.letter ≡ letter_of l → many_rows_fault rs l ≡ None → other_rows (rs ++ r ∷ []) ≤ 2000
rows_room rs r l few e h =
    let full = if_none (not (is_n (letter_of l)) && leb 2000 (other_rows rs)) TooMany h in
    let more : other_rows (rs ++ r ∷ []) ≡ other_rows rs + count (not (is_n (letter_of l))) = count_push (λ x. not (is_n x.letter)) rs r ∙ ap (λ (x : Letter). other_rows rs + count (not (is_n x))) e in
    by (not (is_n (letter_of l))) full more
  where
    by : (b : Bool) → (b && leb 2000 (other_rows rs)) ≡ false → other_rows (rs ++ r ∷ []) ≡ other_rows rs + count b → other_rows (rs ++ r ∷ []) ≤ 2000
    by true q m = omega (arith, m, leb-false 2000 (other_rows rs) q)
    by false q m = omega (arith, m, few)
