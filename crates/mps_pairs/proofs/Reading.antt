-- What the reader's loop keeps.
use Rattle.std.proofs.Common.{ℕ, ◌≡◌, ◌+◌, ◌-◌, ◌≤◌, ◌<◌, Bool, true, false, List, [], ◌∷◌, ◌++◌, length, Option, Some, None, Ok, Err, refl, sym, ap, subst, ◌∙◌, append_assoc, arith}
use Rattle.std.proofs.lemmas.List.{append-nil, length-append}
use Rattle.mps_lex.specs.Kinds.{Name}
use Rattle.mps_lex.specs.Lines.{Line, pieces, line_of, lines_from}
use Rattle.mps_lex.specs.declared.line.LineKind.{LineKind}
use Rattle.mps_lex.specs.declared.line.LineKind.TheVariants.{Blank, Comment, Head, LeftOut, Unknown, Entry}
use Rattle.decks.specs.declared.deck.Deck.{Deck}
use Rattle.decks.specs.declared.fault.DeckWhy.TheVariants.{NotClosed}
use Rattle.decks.specs.declared.fault.DeckFault.{DeckFault}
use Rattle.decks.specs.declared.fault.DeckFault.TheVariants.{NoMemory, At}
use Rattle.mps_pairs.specs.declared.sections.SectionState.{SectionState}
use Rattle.sense.specs.declared.objective.Sense.{Sense}
use Rattle.mps_lex.specs.declared.line.Section.{Section}
use Rattle.mps_lex.specs.declared.line.Section.TheVariants.{Name as NameSection, ObjSense, Rows, Columns, Rhs, Ranges, Bounds, Pairs, Groups, Endata}
use Rattle.decks.specs.Senses.{earlier}
use Rattle.decks.specs.Sections.{Open}
use Rattle.decks.specs.Spelling.{size_of, deck_of}
use Rattle.decks.specs.Faults.{Found, fault_of}
use Rattle.decks.specs.Texts.{IsClean, Spells, Fails, FailsAs, ends_deck}
use Rattle.decks.proofs.Relations.{Read, Answer, answer, answer_from, judged, read_of, given_spelled, given_fails}
use Rattle.mps_pairs.specs.Known.{section_state, next_section_state, Known, known, with_head, next_kind, next_known, deck_from, line_fault}
use Rattle.mps_pairs.specs.Answers.{TellsAt}
use Rattle.decks.proofs.KeptSlices.{lines_right}
use Rattle.mps_pairs.proofs.Steps.{section_state_push, fault_same, known_push, deck_same}

-- the lines before the rest are clean, the state and the tables are those of these lines, and what they answer with the
-- rest is what the text answers
pub record Reads (text rest : List ℕ) (c : SectionState) (k : Known) (number : ℕ) : Type 0 where
  pub before : List Line
  pub clean : IsClean [] before
  pub state_is : c ≡ section_state before
  pub known_is : k ≡ known before
  pub number_is : number ≡ length before + 1
  pub answer_is : answer_from before (lines_from number (pieces rest)) ≡ answer text
  pub size_is : size_of before + length rest ≡ length text
  pub room : number + length rest ≤ length text + 1

starts : (text : List ℕ) → Reads text text (section_state []) (known []) 1
starts text = record {
  before = [];
  clean = tt;
  state_is = refl;
  known_is = refl;
  number_is = refl;
  answer_is = refl;
  size_is = omega arith;
  room = omega arith;
}

pub starts_at : (text : List ℕ) (c : SectionState) (k : Known) → c ≡ section_state [] → k ≡ known [] → Reads text text c k 1
starts_at text c k ec ek = subst (λ (x : SectionState). Reads text text x k 1) (sym ec) (subst (λ (x : Known). Reads text text (section_state []) x 1) (sym ek) (starts text))

-- ---- one line more

clean_push : (before ls : List Line) (l : Line) → IsClean before ls → fault_of (before ++ ls) l ≡ None → ends_deck l.kind ≡ false → IsClean before (ls ++ l ∷ [])
clean_push before [] l c e ends = (subst (λ (x : List Line). fault_of x l ≡ None) (append-nil before) e, ends, tt)
clean_push before (m ∷ ls) l c e ends =
    (c.0, c.1, clean_push (before ++ m ∷ []) ls l c.2 (subst (λ (x : List Line). fault_of x l ≡ None) (sym (append_assoc before (m ∷ []) ls)) e) ends)

size_push : (ls : List Line) (l : Line) → size_of (ls ++ l ∷ []) ≡ size_of ls + l.size
size_push [] l = omega arith
size_push (x ∷ ls) l = omega (arith, size_push ls l)

line_here : (text rest : List ℕ) (c : SectionState) (k : Known) (number : ℕ) (r : Reads text rest c k number) (l : Line) (o : Option Found) → line_fault c k l ≡ o → fault_of r.before l ≡ o
line_here text rest c k number r l o h = sym (fault_same r.before l (lines_right r.before r.clean)) ∙ sym (λ i. line_fault (r.state_is i) (r.known_is i) l) ∙ h

one_more : (before : List Line) (n : ℕ) (piece after rest : List ℕ) → pieces rest ≡ piece ∷ pieces after → answer_from before (lines_from n (pieces rest)) ≡ answer_from before (line_of n piece ∷ lines_from (n + 1) (pieces after))
one_more before n piece after rest e = ap (λ (ps : List (List ℕ)). answer_from before (lines_from n ps)) e

judge : (o p : Option Found) (a b : Bool) (d : Read) (later : Answer) → o ≡ p → a ≡ b → judged o a d later ≡ judged p b d later
judge o p a b d later e f = λ i. judged (e i) (f i) d later

-- ---- the exits

none_later : (o : Option Sense) → earlier o None ≡ o
none_later None = refl
none_later (Some s) = refl

-- ENDATA leaves the tables
endata_same : (t : Section) (k : Known) (fs : List Name) → ends_deck (Head t) ≡ true → with_head k t fs ≡ k
endata_same NameSection k fs e = absurd cc
endata_same ObjSense k fs e = absurd cc
endata_same Rows k fs e = absurd cc
endata_same Columns k fs e = absurd cc
endata_same Rhs k fs e = absurd cc
endata_same Ranges k fs e = absurd cc
endata_same Bounds k fs e = absurd cc
endata_same Pairs k fs e = absurd cc
endata_same Groups k fs e = absurd cc
endata_same Endata k fs e = λ i. record k { sense = none_later k.sense i }

ends_same : (s : Open) (k : Known) (n : ℕ) (kind : LineKind) (fs : List Name) → ends_deck kind ≡ true → next_kind s k n kind fs ≡ k
ends_same s k n Blank fs e = refl
ends_same s k n Comment fs e = refl
ends_same s k n (Head t) fs e = endata_same t k fs e
ends_same s k n LeftOut fs e = refl
ends_same s k n Unknown fs e = refl
ends_same s k n Entry fs e = absurd cc

abbrev done : Deck → ℕ → Answer
done d place = Ok (d, place)

pub at_end : (text rest piece after : List ℕ) (c : SectionState) (k k2 : Known) (number : ℕ) → Reads text rest c k number → pieces rest ≡ piece ∷ pieces after → length piece + length after ≡ length rest
    → line_fault c k (line_of number piece) ≡ None → k2 ≡ next_known c.current k (line_of number piece) → true ≡ ends_deck (line_of number piece).kind → Spells text (deck_from k2 number) (length text - length after)
at_end text rest piece after c k k2 number r e parts h ek ends =
    let l = line_of number piece in
    let before = r.before in
    let f = line_here text rest c k number r l None h in
    let place : size_of (before ++ l ∷ []) ≡ length text - length after = omega (arith, size_push before l, r.size_is, parts) in
    let same : known before ≡ k2 = sym r.known_is ∙ sym (ek ∙ ends_same c.current k number l.kind l.fields (sym ends)) in
    let deck : deck_of before number ≡ deck_from k2 number = sym (deck_same before number) ∙ ap (λ (x : Known). deck_from x number) same in
    given_spelled text (deck_from k2 number, length text - length after) (sym r.answer_is ∙ one_more before number piece after rest e
    ∙ judge (fault_of before l) None (ends_deck l.kind) true (read_of before l) (answer_from (before ++ l ∷ []) (lines_from (number + 1) (pieces after))) f (sym ends)
    ∙ (λ i. done (deck i) (place i)))

pub goes_on : (text rest piece after : List ℕ) (c c2 : SectionState) (k k2 : Known) (number : ℕ) → Reads text rest c k number → pieces rest ≡ piece ∷ pieces after → length piece + length after ≡ length rest → 0 < length piece
    → line_fault c k (line_of number piece) ≡ None → c2 ≡ next_section_state c (line_of number piece).kind → k2 ≡ next_known c.current k (line_of number piece)
    → false ≡ ends_deck (line_of number piece).kind → Reads text after c2 k2 (number + 1)
goes_on text rest piece after c c2 k k2 number r e parts some h ec ek ends =
    let l = line_of number piece in
    let before = r.before in
    let f = line_here text rest c k number r l None h in
    let state : c2 ≡ section_state (before ++ l ∷ []) = ec ∙ ap (λ (x : SectionState). next_section_state x l.kind) r.state_is ∙ sym (section_state_push before l) in
    let tables : k2 ≡ known (before ++ l ∷ []) = ek ∙ (λ i. next_known (r.state_is i).current (r.known_is i) l) ∙ sym (known_push before l (lines_right before r.clean) f) in
    let answered : answer_from (before ++ l ∷ []) (lines_from (number + 1) (pieces after)) ≡ answer text =
    sym (judge (fault_of before l) None (ends_deck l.kind) false (read_of before l) (answer_from (before ++ l ∷ []) (lines_from (number + 1) (pieces after))) f (sym ends))
    ∙ sym (one_more before number piece after rest e) ∙ r.answer_is in
    record {
      before = before ++ l ∷ [];
      clean = clean_push [] before l r.clean f (sym ends);
      state_is = state;
      known_is = tables;
      number_is = omega (arith, r.number_is, length-append before (l ∷ []));
      answer_is = answered;
      size_is = omega (arith, size_push before l, r.size_is, parts);
      room = omega (arith, r.room, parts, some);
    }

pub not_closed : (text rest : List ℕ) (c : SectionState) (k : Known) (number : ℕ) → Reads text rest c k number → length rest ≡ 0 → Fails text number NotClosed
not_closed text [] c k number r h = given_fails text number NotClosed (sym r.answer_is ∙ ap (λ (n : ℕ). Err (n, NotClosed)) (sym r.number_is))
not_closed text (b ∷ bs) c k number r h = absurd (omega (arith, h))

at_fault : (text rest piece after : List ℕ) (c : SectionState) (k : Known) (number : ℕ) (f : Found) → Reads text rest c k number → pieces rest ≡ piece ∷ pieces after
    → line_fault c k (line_of number piece) ≡ Some f → answer text ≡ Err f
at_fault text rest piece after c k number f r e h =
    let l = line_of number piece in
    sym r.answer_is ∙ one_more r.before number piece after rest e
    ∙ judge (fault_of r.before l) (Some f) (ends_deck l.kind) (ends_deck l.kind) (read_of r.before l) (answer_from (r.before ++ l ∷ []) (lines_from (number + 1) (pieces after))) (line_here text rest c k number r l (Some f) h) refl

-- a line's fault is the text's
pub refuses : (f : DeckFault) (text rest piece after : List ℕ) (c : SectionState) (k : Known) (number : ℕ) → Reads text rest c k number → pieces rest ≡ piece ∷ pieces after
    → TellsAt f (line_fault c k (line_of number piece)) → FailsAs f text
refuses (NoMemory m) text rest piece after c k number r e h = tt
refuses (At line w) text rest piece after c k number r e h = given_fails text line w (at_fault text rest piece after c k number (line, w) r e h)
