-- Names at their places, and what is known of names.
use Rattle.std.proofs.Common.{ℕ, suc, ◌+◌, ◌≡◌, ◌≤◌, Bool, true, false, not, ◌||◌, ◌&&◌, cond, eqb, leb, List, [], ◌∷◌, ◌++◌, length, map, Option, Some, None, is_some, refl, ap, ◌∙◌, arith}
use Rattle.std.proofs.lemmas.Bool.{eq-eqb, ne_eqb, leb-false}
use Rattle.std.proofs.lemmas.List.{length-append, map_push}
use Rattle.std.specs.Prelude.{option_map}
use Rattle.std.specs.List.{list_any, position_or_len}
use Rattle.std.specs.Str.{bytes_eq}
use Rattle.mps_lex.specs.Kinds.{Name}
use Rattle.mps_tables.specs.declared.rows.RowState.{RowState}
use Rattle.decks.specs.declared.fault.DeckWhy.TheVariants.{TooMany}
use Rattle.decks.specs.Names.{has, place, add_name, named, put}
use Rattle.mps_tables.specs.Seen.{seen_row, state_of}
use Rattle.decks.specs.Spelling.{RowValue, row_named}
use Rattle.lp_nums.specs.Fractions.{Fraction}
use Rattle.mps_tables.specs.Known.{KnownRowValues}
use Rattle.decks.specs.Faults.{full_fault}
use Rattle.decks.proofs.KeptNames.{place_has}
use Rattle.decks.proofs.KeptParts.{if_none}

-- ---- places

step_behind : (b : Bool) (any : Bool) (m n : ℕ) → (any ≡ false → m ≡ n) → (b || any) ≡ false → cond (not b) (1 + m) 0 ≡ 1 + n
step_behind true any m n f h = absurd cc
step_behind false any m n f h = ap (λ (x : ℕ). 1 + x) (f h)

one : (n : ℕ) → 1 + n ≡ suc n
one n = omega arith

none_behind : (p : Name → Bool) (ns : List Name) → list_any p ns ≡ false → position_or_len p ns ≡ length ns
none_behind p [] h = refl
none_behind p (n ∷ ns) h = step_behind (p n) (list_any p ns) (position_or_len p ns) (length ns) (λ e. none_behind p ns e) h ∙ one (length ns)

-- a name stands behind all others where it is not there
pub behind_is : (ns : List Name) (n : Name) → eqb (place ns n) (length ns) ≡ not (has ns n)
behind_is ns n = by (has ns n) refl
  where
    by : (b : Bool) → has ns n ≡ b → eqb (place ns n) (length ns) ≡ not b
    by true h = let below = place_has ns n h in ne_eqb (place ns n) (length ns) (λ e. absurd (omega (arith, below, e)))
    by false h = eq-eqb _ _ (none_behind (bytes_eq n) ns h)

pub is_new : (ns : List Name) (n : Name) (i len : ℕ) → i ≡ place ns n → len ≡ length ns → eqb i len ≡ not (has ns n)
is_new ns n i len ei el = ap (λ (x : ℕ). eqb x len) ei ∙ ap (λ (x : ℕ). eqb (place ns n) x) el ∙ behind_is ns n

pub place_within : (ns : List Name) (n : Name) → place ns n ≤ length ns
place_within ns n = by (has ns n) refl
  where
    by : (b : Bool) → has ns n ≡ b → place ns n ≤ length ns
    by true h = let below = place_has ns n h in omega (arith, below)
    by false h = omega (arith, none_behind (bytes_eq n) ns h)

first_false : (a b : Bool) → (a || b) ≡ false → a ≡ false
first_false true b e = absurd cc
first_false false b e = refl

second_false : (a b : Bool) → (a || b) ≡ false → b ≡ false
second_false true b e = absurd cc
second_false false b e = e

-- where a column is not one too many
pub has_room : (ns : List Name) (count more : ℕ) (n : Name) → length ns ≤ 1000 → full_fault ns count n more ≡ None → length (add_name ns n) ≤ 1000
has_room ns count more n few e = by (has ns n) (first_false (not (has ns n) && leb 1000 (length ns)) _ (if_none _ TooMany e))
  where
    by : (b : Bool) → (not b && leb 1000 (length ns)) ≡ false → length (cond b ns (ns ++ n ∷ [])) ≤ 1000
    by true h = few
    by false h = omega (arith, leb-false 1000 (length ns) h, length-append ns (n ∷ []))

-- ---- what is known of names

pub put_new : {T : Type 0} (es : List (Name × T)) (n : Name) (x : T) → is_some (named es n) ≡ false → put es n x ≡ es ++ (n, x) ∷ []
put_new [] n x h = refl
put_new (e ∷ es) n x h = by (bytes_eq n e.0) h (λ q. put_new es n x q)
  where
    by : (b : Bool) → is_some (cond b (Some e.1) (named es n)) ≡ false → (is_some (named es n) ≡ false → put es n x ≡ es ++ (n, x) ∷ []) → cond b ((e.0, x) ∷ es) (e ∷ put es n x) ≡ e ∷ es ++ (n, x) ∷ []
    by true q next = absurd cc
    by false q next = ap (λ t. e ∷ t) (next q)

-- a row's state is told by its name
pub found_state : (es : List (Name × RowState)) (n : Name) → named es n ≡ option_map state_of (row_named (map seen_row es) n)
found_state [] n = refl
found_state (e ∷ es) n = by (bytes_eq n e.0) (found_state es n)
  where
    by : (b : Bool) → named es n ≡ option_map state_of (row_named (map seen_row es) n) → cond b (Some e.1) (named es n) ≡ option_map state_of (cond b (Some (seen_row e)) (row_named (map seen_row es) n))
    by true h = refl
    by false h = h

none_same : {X Y : Type 0} (f : X → Y) (o : Option X) → o ≡ None → is_some (option_map f o) ≡ false
none_same f None e = refl
none_same f (Some x) e = absurd cc

-- a new row stands behind the others
pub row_put : (es : List (Name × RowState)) (n : Name) (x : RowState) → row_named (map seen_row es) n ≡ None → map seen_row (put es n x) ≡ map seen_row es ++ seen_row (n, x) ∷ []
row_put es n x h = ap (map seen_row) (put_new es n x (ap is_some (found_state es n) ∙ none_same state_of (row_named (map seen_row es) n) h)) ∙ map_push seen_row es (n, x)

abbrev pub givens_made : Option Name → List RowValue → KnownRowValues
givens_made set gs = record { set = set; values = gs }

pub value_put : (set : Option Name) (es new : List RowValue) (n : Name) (x : Fraction) → new ≡ put es n x → is_some (named es n) ≡ false → givens_made set new ≡ givens_made set (es ++ (n, x) ∷ [])
value_put set es new n x e fresh = ap (givens_made set) (e ∙ put_new es n x fresh)

-- a place is a small number
pub place_small : (ns : List Name) (n : Name) → length (add_name ns n) ≤ 1000 → place ns n ≤ 1000
place_small ns n few = by (has ns n) few
  where
    by : (b : Bool) → length (cond b ns (ns ++ n ∷ [])) ≤ 1000 → place ns n ≤ 1000
    by true h = omega (arith, h, place_within ns n)
    by false h = omega (arith, h, place_within ns n, length-append ns (n ∷ []))
