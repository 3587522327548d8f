-- A text's lines, section by section.
use Rattle.std.proofs.Common.{ℕ, ◌+◌, ◌≤◌, ◌≡◌, Bool, true, false, not, ◌&&◌, cond, List, [], ◌∷◌, ◌++◌, length, Option, Some, None, refl, sym, ap, subst, ◌∙◌, append_assoc, arith}
use Rattle.std.specs.Prelude.{nat_le}
use Rattle.std.specs.List.{AllByRecursion}
use Rattle.std.proofs.lemmas.Bool.{and_from, le-leb, not_from_false}
use Rattle.mps_lex.specs.Kinds.{Name as Word}
use Rattle.mps_lex.specs.Lines.{Line, lines_from, lines_of, pieces}
use Rattle.mps_lex.specs.declared.line.Section.{Section}
use Rattle.mps_lex.specs.declared.line.Section.TheVariants.{ObjSense, Rows, Rhs, Bounds, Pairs, Endata}
use Rattle.decks.specs.declared.fault.DeckWhy.TheVariants.{NoObjective}
use Rattle.decks.specs.Bounds.{settings_in, upper_below_zero}
use Rattle.decks.specs.Sections.{Open, is_open, open_rank, rank, same_section}
use Rattle.decks.specs.Senses.{sense_on_head}
use Rattle.decks.specs.Spelling.{RowLine, has_objective, rows_of}
use Rattle.decks.specs.Faults.{◌or◌, Found, below_zero_at, end_fault, fault_if, head_words_fault, named_at}
use Rattle.decks.proofs.KeptSlices.{IsRightBy, Slices}
use Rattle.deck_print.specs.Printed.{data_text, lines_of_section}
use Rattle.deck_print.proofs.Lined.{AreWords, all_said, head, lines_behind}
use Rattle.deck_print.proofs.Steps.{Begun, MayBegin, Reached, after, are_data, by_slices, entries_step, head_step, with_part}

-- lines are behind, and the rest of the text has the others
pub record Stage (text more : List ℕ) (n : ℕ) (ls : List Line) (s : Open) (k : Slices) (b : Begun) : Type 0 where
  pub lines : lines_of text ≡ ls ++ lines_from n (pieces more)
  pub reached : Reached ls s k b

abbrev pub IsHead : ℕ → Section → Word → ℕ → List ℕ → Type 0
IsHead n t w size front = (m : List ℕ) → lines_from n (pieces (front ++ m)) ≡ head n t w size ∷ lines_from (n + 1) (pieces m)

-- a head of a section with data lines, other than OBJSENSE
pub record IsPlainHead (t : Section) (w : Word) : Type 0 where
  pub words : head_words_fault t (w ∷ []) ≡ None
  pub sense : sense_on_head t (w ∷ []) ≡ None
  pub ends : same_section Endata t ≡ false
  pub other : same_section ObjSense t ≡ false

-- the lines of a section, of which the head has this number
pub record IsSection (t : Section) (k : Slices) (n : ℕ) (wss : List (List Word)) : Type 0 where
  pub empty : with_part t [] k ≡ k
  pub words : AllByRecursion AreWords wss
  pub right : IsRightBy (λ before fs. by_slices t (with_part t before k) fs) [] (all_said (n + 1) wss)

abbrev pub with_section : List Line → ℕ → Section → Word → ℕ → List (List Word) → List Line
with_section ls n t w size wss = (ls ++ head n t w size ∷ []) ++ all_said (n + 1) wss

pub section_stage : (text front more : List ℕ) (wss : List (List Word)) (t : Section) (w : Word) (size n : ℕ) (ls : List Line) (s : Open) (k : Slices) (b : Begun) → Stage text ((front ++ data_text wss) ++ more) n ls s k b
    → IsHead n t w size front → IsPlainHead t w → MayBegin s k b t → IsSection t k n wss → Stage text more (n + 1 + length wss) (with_section ls n t w size wss) (Some t) (with_part t (all_said (n + 1) wss) k) (after t b)
section_stage text front more wss t w size n ls s k b st is plain may h =
    let l = head n t w size in
    let said = all_said (n + 1) wss in
    let rest = lines_from (n + 1 + length wss) (pieces more) in
    record {
      lines =
          st.lines
          ∙ ap (λ x. ls ++ lines_from n (pieces x)) (append_assoc front (data_text wss) more)
          ∙ ap (λ x. ls ++ x) (is (data_text wss ++ more))
          ∙ ap (λ x. ls ++ l ∷ x) (lines_behind (n + 1) wss more h.words)
          ∙ sym (append_assoc ls (l ∷ []) (said ++ rest))
          ∙ sym (append_assoc (ls ++ l ∷ []) said rest);
      reached =
          entries_step t [] said (ls ++ l ∷ []) k (after t b) plain.other
          (subst (λ x. Reached (ls ++ l ∷ []) (Some t) x (after t b)) (sym h.empty) (head_step ls s k b l t st.reached refl plain.words may plain.ends plain.sense))
          (are_data (n + 1) wss) h.right;
    }

-- ---- sections that may be left out

-- behind COLUMNS or a later section, up to this rank, with this known of what is begun
pub record Stood (text more : List ℕ) (n : ℕ) (k : Slices) (high : ℕ) (Known : Begun → Type 0) : Type 0 where
  pub ls : List Line
  pub s : Open
  pub b : Begun
  pub stage : Stage text more n ls s k b
  pub late : 4 ≤ open_rank s
  pub early : open_rank s ≤ high
  pub no_rows : is_open Rows s ≡ false
  pub known : Known b

-- a section that goes on from there
pub record IsLater (t : Section) (w : Word) (high next : ℕ) (Known Still : Begun → Type 0) : Type 0 where
  pub plain : IsPlainHead t w
  pub late : 4 ≤ rank t
  pub early : rank t ≤ next
  pub goes_on : high ≤ next
  pub no_rows : same_section Rows t ≡ false
  pub with_it : (b : Begun) → Known b → Still (after t b)
  pub without_it : (b : Begun) → Known b → Still b

pub optional : (here : Bool) (text front more : List ℕ) (wss : List (List Word)) (t : Section) (w : Word) (size n : ℕ) (k : Slices) (high next : ℕ) (Known Still : Begun → Type 0) → Stood text (cond here (front ++ data_text wss) [] ++ more) n k high Known
    → (here ≡ false → wss ≡ []) → IsHead n t w size front → IsLater t w high next Known Still → ((s : Open) (b : Begun) → 4 ≤ open_rank s → open_rank s ≤ high → is_open Rows s ≡ false → Known b → MayBegin s k b t) → IsSection t k n wss
    → Stood text more (n + lines_of_section here wss) (with_part t (all_said (n + 1) wss) k) next Still
optional true text front more wss t w size n k high next Known Still st none is later may h =
    let stage = section_stage text front more wss t w size n st.ls st.s k st.b st.stage is later.plain (may st.s st.b st.late st.early st.no_rows st.known) h in
    let number : n + 1 + length wss ≡ n + (1 + length wss) = omega arith in
    record {
      ls = with_section st.ls n t w size wss;
      s = Some t;
      b = after t st.b;
      stage = subst (λ m. Stage text more m (with_section st.ls n t w size wss) (Some t) (with_part t (all_said (n + 1) wss) k) (after t st.b)) number stage;
      late = later.late;
      early = later.early;
      no_rows = later.no_rows;
      known = later.with_it st.b st.known;
    }
optional false text front more wss t w size n k high next Known Still st none is later may h =
    let number : n ≡ n + 0 = omega arith in
    let same : k ≡ with_part t (all_said (n + 1) wss) k = sym h.empty ∙ ap (λ x. with_part t (all_said (n + 1) x) k) (sym (none refl)) in
    record {
      ls = st.ls;
      s = st.s;
      b = st.b;
      stage = subst (λ m. Stage text more m st.ls st.s (with_part t (all_said (n + 1) wss) k) st.b) number (subst (λ x. Stage text more n st.ls st.s x st.b) same st.stage);
      late = st.late;
      early = omega (arith, st.early, later.goes_on);
      no_rows = st.no_rows;
      known = later.without_it st.b st.known;
    }

-- ---- which section may begin

abbrev no_fault : Option Found
no_fault = None

either_none : (t : Bool) → cond t (below_zero_at None) None ≡ no_fault
either_none true = refl
either_none false = refl

pub ended_late : (s : Open) (rows : List RowLine) (below : Option ℕ) (number : ℕ) → is_open Rows s ≡ false → below ≡ None → end_fault s rows below number ≡ None
ended_late s rows below number e none =
    ap (λ t. named_at number (fault_if (t && not (has_objective rows)) NoObjective) or cond (is_open Bounds s) (below_zero_at below) None) e
    ∙ ap (λ o. cond (is_open Bounds s) (below_zero_at o) None) none ∙ either_none (is_open Bounds s)

pub rights_may : (s : Open) (k : Slices) (b : Begun) → upper_below_zero (settings_in k.bounds) ≡ None → 4 ≤ open_rank s → open_rank s ≤ 5 → is_open Rows s ≡ false → b Rhs ≡ false → MayBegin s k b Rhs
rights_may s k b none late early no_rows fresh = record {
  ended = λ number. ended_late s (rows_of k.rows) (upper_below_zero (settings_in k.bounds)) number no_rows none;
  order = and_from (nat_le 4 (open_rank s) && nat_le (open_rank s) 5) (not (b Rhs)) (and_from (nat_le 4 (open_rank s)) (nat_le (open_rank s) 5) (le-leb 4 (open_rank s) late) (le-leb (open_rank s) 5 early)) (not_from_false (b Rhs) fresh);
}

pub bounds_may : (s : Open) (k : Slices) (b : Begun) → upper_below_zero (settings_in k.bounds) ≡ None → 4 ≤ open_rank s → open_rank s ≤ 5 → is_open Rows s ≡ false → b Bounds ≡ false → MayBegin s k b Bounds
bounds_may s k b none late early no_rows fresh = record {
  ended = λ number. ended_late s (rows_of k.rows) (upper_below_zero (settings_in k.bounds)) number no_rows none;
  order = and_from (nat_le 4 (open_rank s) && nat_le (open_rank s) 5) (not (b Bounds)) (and_from (nat_le 4 (open_rank s)) (nat_le (open_rank s) 5) (le-leb 4 (open_rank s) late) (le-leb (open_rank s) 5 early)) (not_from_false (b Bounds) fresh);
}

pub pairs_may : (s : Open) (k : Slices) (b : Begun) → upper_below_zero (settings_in k.bounds) ≡ None → 4 ≤ open_rank s → open_rank s ≤ 5 → is_open Rows s ≡ false → MayBegin s k b Pairs
pairs_may s k b none late early no_rows = record {
  ended = λ number. ended_late s (rows_of k.rows) (upper_below_zero (settings_in k.bounds)) number no_rows none;
  order = and_from (nat_le 4 (open_rank s)) (nat_le (open_rank s) 5) (le-leb 4 (open_rank s) late) (le-leb (open_rank s) 5 early);
}

pub end_may : (s : Open) (k : Slices) (b : Begun) → upper_below_zero (settings_in k.bounds) ≡ None → 4 ≤ open_rank s → open_rank s ≤ 6 → is_open Rows s ≡ false → MayBegin s k b Endata
end_may s k b none late early no_rows = record {
  ended = λ number. ended_late s (rows_of k.rows) (upper_below_zero (settings_in k.bounds)) number no_rows none;
  order = and_from (nat_le 4 (open_rank s)) (nat_le (open_rank s) 7) (le-leb 4 (open_rank s) late) (le-leb (open_rank s) 7 (omega (arith, early)));
}
