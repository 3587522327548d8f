-- Lines that follow a deck's order, head by head and section by section.
use Rattle.std.proofs.Common.{ℕ, ◌+◌, ◌≡◌, Bool, true, false, not, ◌||◌, List, [], ◌∷◌, ◌++◌, length, Option, Some, None, refl, sym, ap, subst, ◌∙◌, append_assoc}
use Rattle.std.specs.Prelude.{unwrap_or}
use Rattle.std.specs.List.{AllByRecursion}
use Rattle.std.proofs.lemmas.List.{append-nil}
use Rattle.std.proofs.lemmas.List.Folds.{list_any-append}
use Rattle.sense.specs.declared.objective.Sense.{Sense}
use Rattle.sense.specs.declared.objective.Sense.TheVariants.{Min}
use Rattle.mps_lex.specs.Kinds.{Name as Word}
use Rattle.mps_lex.specs.Lines.{Line, lines_of}
use Rattle.mps_lex.specs.declared.line.Section.{Section}
use Rattle.mps_lex.specs.declared.line.Section.TheVariants.{Name, ObjSense, Rows, Columns, Rhs, Ranges, Bounds, Pairs, Groups, Endata}
use Rattle.mps_lex.specs.declared.line.LineKind.TheVariants.{Head, Entry}
use Rattle.decks.specs.declared.fault.DeckWhy.{DeckWhy}
use Rattle.decks.specs.declared.fault.DeckWhy.TheVariants.{SectionOrder}
use Rattle.decks.specs.Bounds.{settings_in, upper_below_zero}
use Rattle.decks.specs.Sections.{Open, behind, open_from, open_behind, same_section, is_head, is_begun, open_rank, may_follow}
use Rattle.decks.specs.Senses.{earlier, sense_from, sense_named, sense_on, sense_on_head}
use Rattle.decks.specs.Spelling.{deck_of, rows_of, size_of}
use Rattle.decks.specs.Faults.{◌or◌, fault_if, fault_of, kind_fault, data_fault, end_fault, ended_fault, order_fault, named_at, head_words_fault}
use Rattle.decks.specs.Texts.{IsClean, Spells, ends_deck}
use Rattle.decks.proofs.KeptSlices.{IsRightBy, Slices, next_slices, open_push, slices_grown, slices_of, rows_fault, columns_fault, rights_fault, bounds_fault, pairs_fault}
use Rattle.deck_print.proofs.Decks.{deck_by}
use Rattle.deck_print.proofs.Lined.{all_said, size_is}

-- ---- one line more

clean_push : (before ls : List Line) (l : Line) → IsClean before ls → fault_of (before ++ ls) l ≡ None → ends_deck l.kind ≡ false → IsClean before (ls ++ l ∷ [])
clean_push before [] l c f e = (subst (λ x. fault_of x l ≡ None) (append-nil before) f, e, tt)
clean_push before (m ∷ ls) l c f e = (c.0, c.1, clean_push (before ++ m ∷ []) ls l c.2 (subst (λ x. fault_of x l ≡ None) (sym (append_assoc before (m ∷ []) ls)) f) e)

neither : (a b : Option Sense) → earlier a b ≡ None → (a ≡ None) × (b ≡ None)
neither None b e = (refl, e)
neither (Some s) b e = absurd cc

sense_push : (s : Open) (ls : List Line) (l : Line) → sense_from s ls ≡ None → sense_on (open_from s ls) l.kind l.fields ≡ None → sense_from s (ls ++ l ∷ []) ≡ None
sense_push s [] l h e = ap (λ x. earlier x None) e
sense_push s (m ∷ ls) l h e =
    let p = neither (sense_on s m.kind m.fields) (sense_from (behind s m.kind) ls) h in
    ap (λ x. earlier x (sense_from (behind s m.kind) (ls ++ l ∷ []))) p.0 ∙ sense_push (behind s m.kind) ls l p.1 e

-- which sections are begun
abbrev pub Begun : Type 0
Begun = Section → Bool

abbrev pub none_begun : Begun
none_begun t = false

abbrev pub after : Section → Begun → Begun
after t b u = b u || (same_section u t || false)

-- what stands behind lines without a fault
pub record Reached (ls : List Line) (s : Open) (k : Slices) (b : Begun) : Type 0 where
  pub clean : IsClean [] ls
  pub stands : open_behind ls ≡ s
  pub slices : slices_of ls ≡ k
  pub unnamed : sense_named ls ≡ None
  pub begun : (t : Section) → is_begun t ls ≡ b t

abbrev pub no_slices : Slices
no_slices = record { rows = []; columns = []; rights = []; ranges = []; bounds = []; pairs = []; groups = [] }

pub nothing_reached : Reached [] None no_slices none_begun
nothing_reached = record { clean = tt; stands = refl; slices = refl; unnamed = refl; begun = λ t. refl }

-- ---- heads

-- the section may begin here
pub record MayBegin (s : Open) (k : Slices) (b : Begun) (t : Section) : Type 0 where
  pub ended : (number : ℕ) → end_fault s (rows_of k.rows) (upper_below_zero (settings_in k.bounds)) number ≡ None
  pub order : may_follow (open_rank s) (b t) t ≡ true

both_none : {X : Type 0} (a b : Option X) → a ≡ None → b ≡ None → (a or b) ≡ None
both_none a b e f = ap (λ x. x or b) e ∙ f

head_fine : (ls : List Line) (s : Open) (k : Slices) (b : Begun) (l : Line) (t : Section) → Reached ls s k b → l.kind ≡ Head t → head_words_fault t l.fields ≡ None → MayBegin s k b t → fault_of ls l ≡ None
head_fine ls s k b l t r lk words m =
    let n = l.number in
    let ended : ended_fault ls n ≡ None = (λ i. end_fault (r.stands i) (rows_of (r.slices i).rows) (upper_below_zero (settings_in (r.slices i).bounds)) n) ∙ m.ended n in
    let order : order_fault ls t ≡ None = (λ i. fault_if (not (may_follow (open_rank (r.stands i)) (r.begun t i) t)) SectionOrder) ∙ ap (λ x. fault_if (not x) SectionOrder) m.order in
    ap (λ kind. kind_fault ls n kind l.fields) lk
    ∙ both_none (ended_fault ls n) (named_at n (order_fault ls t or head_words_fault t l.fields)) ended (ap (named_at n) (both_none (order_fault ls t) (head_words_fault t l.fields) order words))

pub head_step : (ls : List Line) (s : Open) (k : Slices) (b : Begun) (l : Line) (t : Section) → Reached ls s k b → l.kind ≡ Head t → head_words_fault t l.fields ≡ None → MayBegin s k b t → same_section Endata t ≡ false → sense_on_head t l.fields ≡ None
    → Reached (ls ++ l ∷ []) (Some t) k (after t b)
head_step ls s k b l t r lk words m ends sense = record {
  clean = clean_push [] ls l r.clean (head_fine ls s k b l t r lk words m) (ap ends_deck lk ∙ ends);
  stands = open_push None ls l ∙ ap (behind (open_behind ls)) lk;
  slices = slices_grown ls l ∙ ap (λ kind. next_slices (open_behind ls) kind l (slices_of ls)) lk ∙ r.slices;
  unnamed = sense_push None ls l r.unnamed (ap (λ kind. sense_on (open_behind ls) kind l.fields) lk ∙ sense);
  begun = λ u. list_any-append (λ x. is_head u x.kind) ls (l ∷ []) ∙ (λ i. r.begun u i || (is_head u (lk i) || false));
}

-- ---- data lines

-- the fault of a data line, by slices
abbrev pub by_slices : Section → Slices → List Word → Option DeckWhy
by_slices Rows k fs = rows_fault k.rows fs
by_slices Columns k fs = columns_fault k.rows k.columns fs
by_slices Rhs k fs = rights_fault k.rows k.rights fs
by_slices Bounds k fs = bounds_fault k.columns k.bounds fs
by_slices Pairs k fs = pairs_fault k.rows k.columns k.bounds k.pairs fs
by_slices t k fs = Some SectionOrder

data_by : (t : Section) (before : List Line) (fs : List Word) → by_slices t (slices_of before) fs ≡ None → data_fault (Some t) before fs ≡ None
data_by Rows before fs h = h
data_by Columns before fs h = h
data_by Rhs before fs h = h
data_by Bounds before fs h = h
data_by Pairs before fs h = h
data_by Name before fs h = absurd cc
data_by ObjSense before fs h = absurd cc
data_by Ranges before fs h = absurd cc
data_by Groups before fs h = absurd cc
data_by Endata before fs h = absurd cc

-- slices with other lines in one section
abbrev pub with_part : Section → List Line → Slices → Slices
with_part Rows ls k = record k { rows = ls }
with_part Columns ls k = record k { columns = ls }
with_part Rhs ls k = record k { rights = ls }
with_part Ranges ls k = record k { ranges = ls }
with_part Bounds ls k = record k { bounds = ls }
with_part Pairs ls k = record k { pairs = ls }
with_part Groups ls k = record k { groups = ls }
with_part t ls k = k

part_grown : (t : Section) (ls : List Line) (l : Line) (k : Slices) → next_slices (Some t) Entry l (with_part t ls k) ≡ with_part t (ls ++ l ∷ []) k
part_grown Name ls l k = refl
part_grown ObjSense ls l k = refl
part_grown Rows ls l k = refl
part_grown Columns ls l k = refl
part_grown Rhs ls l k = refl
part_grown Ranges ls l k = refl
part_grown Bounds ls l k = refl
part_grown Pairs ls l k = refl
part_grown Groups ls l k = refl
part_grown Endata ls l k = refl

or_nothing : (b : Bool) → (b || (false || false)) ≡ b
or_nothing true = refl
or_nothing false = refl

entry_step : (t : Section) (done ls : List Line) (l : Line) (k : Slices) (b : Begun) → same_section ObjSense t ≡ false → Reached ls (Some t) (with_part t done k) b → l.kind ≡ Entry → by_slices t (with_part t done k) l.fields ≡ None
    → Reached (ls ++ l ∷ []) (Some t) (with_part t (done ++ l ∷ []) k) b
entry_step t done ls l k b no_sense r lk h =
    let fine : data_fault (open_behind ls) ls l.fields ≡ None = ap (λ s. data_fault s ls l.fields) r.stands ∙ data_by t ls l.fields (ap (λ x. by_slices t x l.fields) r.slices ∙ h) in
    record {
      clean = clean_push [] ls l r.clean (ap (λ kind. kind_fault ls l.number kind l.fields) lk ∙ ap (named_at l.number) fine) (ap ends_deck lk);
      stands = open_push None ls l ∙ ap (behind (open_behind ls)) lk ∙ r.stands;
      slices = slices_grown ls l ∙ (λ i. next_slices (r.stands i) (lk i) l (r.slices i)) ∙ part_grown t done l k;
      unnamed = sense_push None ls l r.unnamed (ap (λ kind. sense_on (open_behind ls) kind l.fields) lk ∙ ap (λ s. sense_on s Entry l.fields) r.stands ∙ by l.fields no_sense);
      begun = λ u. list_any-append (λ x. is_head u x.kind) ls (l ∷ []) ∙ (λ i. r.begun u i || (is_head u (lk i) || false)) ∙ or_nothing (b u);
    }
  where
    by : (fs : List Word) → same_section ObjSense t ≡ false → sense_on (Some t) Entry fs ≡ None
    by fs e = rw e refl

abbrev pub IsData : Line → Type 0
IsData l = l.kind ≡ Entry

pub entries_step : (t : Section) (done more ls : List Line) (k : Slices) (b : Begun) → same_section ObjSense t ≡ false → Reached ls (Some t) (with_part t done k) b → AllByRecursion IsData more
    → IsRightBy (λ before fs. by_slices t (with_part t before k) fs) done more → Reached (ls ++ more) (Some t) (with_part t (done ++ more) k) b
entries_step t done [] ls k b no_sense r each right =
    subst (λ x. Reached x (Some t) (with_part t (done ++ []) k) b) (sym (append-nil ls)) (subst (λ x. Reached ls (Some t) (with_part t x k) b) (sym (append-nil done)) r)
entries_step t done (l ∷ more) ls k b no_sense r each right =
    let next = entries_step t (done ++ l ∷ []) more (ls ++ l ∷ []) k b no_sense (entry_step t done ls l k b no_sense r each.0 right.0) each.1 right.1 in
    subst (λ x. Reached x (Some t) (with_part t (done ++ l ∷ more) k) b) (append_assoc ls (l ∷ []) more) (subst (λ x. Reached ((ls ++ l ∷ []) ++ more) (Some t) (with_part t x k) b) (append_assoc done (l ∷ []) more) next)

pub are_data : (n : ℕ) (wss : List (List Word)) → AllByRecursion IsData (all_said n wss)
are_data n [] = tt
are_data n (ws ∷ wss) = (refl, are_data (n + 1) wss)

-- ---- the end

deck_is : (ls : List Line) (number : ℕ) (k : Slices) → sense_named ls ≡ None → slices_of ls ≡ k → deck_of ls number ≡ deck_by k number
deck_is ls number k e slices = (λ i. record (deck_by (slices_of ls) number) { sense = unwrap_or (e i) Min }) ∙ ap (λ x. deck_by x number) slices

pub ended : (text : List ℕ) (front : List Line) (last : Line) (s : Open) (k : Slices) (b : Begun) → lines_of text ≡ front ++ last ∷ [] → Reached front s k b → last.kind ≡ Head Endata → MayBegin s k b Endata → Spells text (deck_by k last.number) (length text)
ended text front last s k b lines r lk m = record {
  front = front;
  last = last;
  rest = [];
  lines = lines;
  clean = r.clean;
  right = head_fine front s k b last Endata r lk refl m;
  ends = ap ends_deck lk;
  deck_is = sym (deck_is front last.number k r.unnamed r.slices);
  place_is = sym (size_is 1 text) ∙ ap size_of lines;
}
