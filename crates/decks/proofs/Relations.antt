-- What a text spells, and its first fault, as one function, which says the same as the relations.
use Rattle.std.proofs.Common.{ℕ, ◌≡◌, ◌+◌, Bool, true, false, cond, List, [], ◌∷◌, ◌++◌, length, Option, Some, None, Result, Ok, Err, refl, sym, ap, subst, ◌∙◌, append_assoc, ◌⊎◌, inl, inr}
use Rattle.std.proofs.lemmas.List.{append-nil}
use Rattle.std.specs.Prelude.{IfOk, IfErr}
use Rattle.lp_base.specs.Answers.{Gives, Refuses}
use Rattle.mps_lex.specs.Lines.{Line, lines_of}
use Rattle.decks.specs.declared.deck.Deck.{Deck}
use Rattle.decks.specs.declared.fault.DeckWhy.{DeckWhy}
use Rattle.decks.specs.declared.fault.DeckWhy.TheVariants.{NotClosed}
use Rattle.decks.specs.declared.fault.DeckFault.{DeckFault}
use Rattle.decks.specs.declared.fault.DeckFault.TheVariants as faults
use Rattle.decks.specs.Spelling.{deck_of, size_of}
use Rattle.decks.specs.Faults.{Found, fault_of}
use Rattle.decks.specs.Texts.{IsClean, SpellsBehind, FailsBehind, Spells, Fails, FailsAs, found_by, ends_deck}

-- a deck with the place behind it
abbrev pub Read : Type 0
Read = Deck × ℕ

-- a deck with its place, or the number of a line with its fault
abbrev pub Answer : Type 0
Answer = Result Read Found

abbrev pub judged : Option Found → Bool → Read → Answer → Answer
judged (Some found) ends read later = Err found
judged None ends read later = cond ends (Ok read) later

-- what the lines up to ENDATA give
abbrev pub read_of : List Line → Line → Read
read_of before l = (deck_of before l.number, size_of (before ++ l ∷ []))

abbrev pub answer_from : List Line → List Line → Answer
answer_from before [] = Err (length before + 1, NotClosed)
answer_from before (l ∷ ls) = judged (fault_of before l) (ends_deck l.kind) (read_of before l) (answer_from (before ++ l ∷ []) ls)

abbrev pub answer : List ℕ → Answer
answer text = answer_from [] (lines_of text)

abbrev is_read : Read → Answer
is_read d = Ok d

abbrev is_fault : Found → Answer
is_fault f = Err f

abbrev found_as : ℕ → DeckWhy → Found
found_as n w = (n, w)

read_same : (a b : Read) → is_read a ≡ is_read b → b ≡ a
read_same a b e = cc

abbrev read_with : Deck → ℕ → Read
read_with d p = (d, p)

both : (d e : Deck) (p q : ℕ) → d ≡ e → p ≡ q → read_with d p ≡ read_with e q
both d e p q ed ep = ap (λ (x : Deck). read_with x p) ed ∙ ap (λ (x : ℕ). read_with e x) ep

judge : (o p : Option Found) (a b : Bool) (d : Read) (later : Answer) → o ≡ p → a ≡ b → judged o a d later ≡ judged p b d later
judge o p a b d later e f = ap (λ (x : Option Found). judged x a d later) e ∙ ap (λ (x : Bool). judged p x d later) f

moved : (before front : List Line) (l : Line) → (before ++ l ∷ []) ++ front ≡ before ++ l ∷ front
moved before front l = append_assoc before (l ∷ []) front

-- what is spelled is answered
spelled : (before front : List Line) (last : Line) (rest : List Line) (read : Read) → IsClean before front → fault_of (before ++ front) last ≡ None → ends_deck last.kind ≡ true → read ≡ read_of (before ++ front) last
    → answer_from before (front ++ last ∷ rest) ≡ is_read read
spelled before [] last rest read clean right ends read_is =
    judge (fault_of before last) None (ends_deck last.kind) true (read_of before last) _ (subst (λ (b : List Line). fault_of b last ≡ None) (append-nil before) right) ends
    ∙ ap is_read (sym (read_is ∙ ap (λ (b : List Line). read_of b last) (append-nil before)))
spelled before (l ∷ front) last rest read clean right ends read_is =
    judge (fault_of before l) None (ends_deck l.kind) false (read_of before l) _ clean.0 clean.1
    ∙ spelled (before ++ l ∷ []) front last rest read clean.2
    (subst (λ (b : List Line). fault_of b last ≡ None) (sym (moved before front l)) right) ends (read_is ∙ ap (λ (b : List Line). read_of b last) (sym (moved before front l)))

pub only_spelled : (text : List ℕ) (deck : Deck) (place : ℕ) → Spells text deck place → answer text ≡ Ok (deck, place)
only_spelled text deck place s = subst (λ (x : List Line). answer_from [] x ≡ is_read (deck, place)) (sym s.lines) (spelled [] s.front s.last s.rest (deck, place) s.clean s.right s.ends (both deck _ place _ s.deck_is s.place_is))

abbrev SpellsRead : List Line → List Line → Read → Type 0
SpellsRead before ls read = SpellsBehind before ls read.0 read.1

spelled_step : (before ls : List Line) (l : Line) (read : Read) (o : Option Found) (b : Bool) → (answer_from (before ++ l ∷ []) ls ≡ is_read read → SpellsRead (before ++ l ∷ []) ls read)
    → fault_of before l ≡ o → ends_deck l.kind ≡ b → judged o b (read_of before l) (answer_from (before ++ l ∷ []) ls) ≡ is_read read → SpellsRead before (l ∷ ls) read
spelled_step before ls l read (Some w) b next eo eb h = absurd cc
spelled_step before ls l read None true next eo eb h =
    let same = read_same (read_of before l) read h in
    record {
      front = [];
      last = l;
      rest = ls;
      lines = refl;
      clean = tt;
      right = subst (λ (x : List Line). fault_of x l ≡ None) (sym (append-nil before)) eo;
      ends = eb;
      deck_is = ap (λ (x : Read). x.0) same ∙ ap (λ (x : List Line). deck_of x l.number) (sym (append-nil before));
      place_is = ap (λ (x : Read). x.1) same ∙ ap (λ (x : List Line). size_of (x ++ l ∷ [])) (sym (append-nil before));
    }
spelled_step before ls l read None false next eo eb h =
    let s = next h in
    record {
      front = l ∷ s.front;
      last = s.last;
      rest = s.rest;
      lines = ap (λ (x : List Line). l ∷ x) s.lines;
      clean = (eo, eb, s.clean);
      right = subst (λ (x : List Line). fault_of x s.last ≡ None) (moved before s.front l) s.right;
      ends = s.ends;
      deck_is = s.deck_is ∙ ap (λ (x : List Line). deck_of x s.last.number) (moved before s.front l);
      place_is = s.place_is ∙ ap (λ (x : List Line). size_of (x ++ s.last ∷ [])) (moved before s.front l);
    }

-- what is answered is spelled
answered : (before ls : List Line) (read : Read) → answer_from before ls ≡ is_read read → SpellsRead before ls read
answered before [] read e = absurd cc
answered before (l ∷ ls) read e = spelled_step before ls l read (fault_of before l) (ends_deck l.kind) (λ h. answered (before ++ l ∷ []) ls read h) refl refl e

-- a first fault is answered
failed : (before front : List Line) (line : Line) (rest : List Line) (f : Found) → IsClean before front → fault_of (before ++ front) line ≡ Some f → answer_from before (front ++ line ∷ rest) ≡ is_fault f
failed before [] line rest f clean fault =
    judge (fault_of before line) (Some f) (ends_deck line.kind) (ends_deck line.kind) (read_of before line) _ (subst (λ (b : List Line). fault_of b line ≡ Some f) (append-nil before) fault) refl
failed before (l ∷ front) line rest f clean fault =
    judge (fault_of before l) None (ends_deck l.kind) false (read_of before l) _ clean.0 clean.1
    ∙ failed (before ++ l ∷ []) front line rest f clean.2 (subst (λ (b : List Line). fault_of b line ≡ Some f) (sym (moved before front l)) fault)

not_closed : (before ls : List Line) → IsClean before ls → answer_from before ls ≡ is_fault (length (before ++ ls) + 1, NotClosed)
not_closed before [] clean = ap (λ (b : List Line). is_fault (length b + 1, NotClosed)) (sym (append-nil before))
not_closed before (l ∷ ls) clean =
    judge (fault_of before l) None (ends_deck l.kind) false (read_of before l) _ clean.0 clean.1
    ∙ not_closed (before ++ l ∷ []) ls clean.2 ∙ ap (λ (b : List Line). is_fault (length b + 1, NotClosed)) (moved before ls l)

pub only_failed : (text : List ℕ) (n : ℕ) (w : DeckWhy) → Fails text n w → answer text ≡ Err (n, w)
only_failed text n w (inl f) = subst (λ (x : List Line). answer_from [] x ≡ is_fault (n, w)) (sym f.lines) (failed [] f.front f.line f.rest (n, w) f.clean f.fault)
only_failed text n w (inr f) = not_closed [] (lines_of text) f.0 ∙ ap (λ (m : ℕ). is_fault (found_as m NotClosed)) (sym f.1) ∙ ap (λ (v : DeckWhy). is_fault (found_as n v)) (sym f.2)

abbrev FailsFrom : List Line → List Line → ℕ → DeckWhy → Type 0
FailsFrom before ls n w = FailsBehind before ls (n, w) ⊎ (IsClean before ls × (n ≡ length (before ++ ls) + 1) × (w ≡ NotClosed))

found_same : (x y : Found) → is_fault x ≡ is_fault y → x ≡ y
found_same x y e = cc

fault_same : (m n : ℕ) (v w : DeckWhy) → is_fault (found_as m v) ≡ is_fault (found_as n w) → (m ≡ n) × (v ≡ w)
fault_same m n v w e = let p = found_same (m, v) (n, w) e in (ap (λ (x : Found). x.0) p, ap (λ (x : Found). x.1) p)

more : (before ls : List Line) (l : Line) (n : ℕ) (w : DeckWhy) → fault_of before l ≡ None → ends_deck l.kind ≡ false → FailsFrom (before ++ l ∷ []) ls n w → FailsFrom before (l ∷ ls) n w
more before ls l n w eo eb (inl f) = inl (record {
  front = l ∷ f.front;
  line = f.line;
  rest = f.rest;
  lines = ap (λ (x : List Line). l ∷ x) f.lines;
  clean = (eo, eb, f.clean);
  fault = subst (λ (x : List Line). fault_of x f.line ≡ Some (found_as n w)) (moved before f.front l) f.fault;
})
more before ls l n w eo eb (inr f) = inr ((eo, eb, f.0), f.1 ∙ ap (λ (x : List Line). length x + 1) (moved before ls l), f.2)

abbrev some_found : Found → Option Found
some_found f = Some f

failed_step : (before ls : List Line) (l : Line) (n : ℕ) (w : DeckWhy) (o : Option Found) (b : Bool) → (answer_from (before ++ l ∷ []) ls ≡ is_fault (found_as n w) → FailsFrom (before ++ l ∷ []) ls n w)
    → fault_of before l ≡ o → ends_deck l.kind ≡ b → judged o b (read_of before l) (answer_from (before ++ l ∷ []) ls) ≡ is_fault (found_as n w) → FailsFrom before (l ∷ ls) n w
failed_step before ls l n w (Some f) b next eo eb h =
    inl (record {
      front = [];
      line = l;
      rest = ls;
      lines = refl;
      clean = tt;
      fault = subst (λ (x : List Line). fault_of x l ≡ Some (found_as n w)) (sym (append-nil before)) (eo ∙ ap some_found (found_same f (n, w) h));
    })
failed_step before ls l n w None true next eo eb h = absurd cc
failed_step before ls l n w None false next eo eb h = more before ls l n w eo eb (next h)

-- what is refused fails
refused : (before ls : List Line) (n : ℕ) (w : DeckWhy) → answer_from before ls ≡ is_fault (found_as n w) → FailsFrom before ls n w
refused before [] n w e =
    let same = fault_same (length before + 1) n NotClosed w e in
    inr (tt, sym same.0 ∙ ap (λ (x : List Line). length x + 1) (sym (append-nil before)), sym same.1)
refused before (l ∷ ls) n w e = failed_step before ls l n w (fault_of before l) (ends_deck l.kind) (λ h. refused (before ++ l ∷ []) ls n w h) refl refl e

pub given_spelled : (text : List ℕ) (read : Read) → answer text ≡ Ok read → Spells text read.0 read.1
given_spelled text read h = answered [] (lines_of text) read h

pub given_fails : (text : List ℕ) (n : ℕ) (w : DeckWhy) → answer text ≡ Err (n, w) → Fails text n w
given_fails text n w h = refused [] (lines_of text) n w h

-- ---- laws

pub one_deck : (text : List ℕ) (d e : Deck) (p q : ℕ) → Spells text d p → Spells text e q → (d ≡ e) × (p ≡ q)
one_deck text d e p q a b =
    let same = read_same (e, q) (d, p) (sym (only_spelled text e q b) ∙ only_spelled text d p a) in
    (ap (λ (x : Read). x.0) same, ap (λ (x : Read). x.1) same)

pub one_fault : (text : List ℕ) (m n : ℕ) (v w : DeckWhy) → Fails text m v → Fails text n w → (m ≡ n) × (v ≡ w)
one_fault text m n v w a b = fault_same m n v w (sym (only_failed text m v a) ∙ only_failed text n w b)

apart : (read : Read) (f : Found) → is_read read ≡ is_fault f → ⊥
apart read f e = absurd cc

pub not_both : (text : List ℕ) (d : Deck) (p n : ℕ) (w : DeckWhy) → Spells text d p → Fails text n w → ⊥
not_both text d p n w a b = apart (d, p) (n, w) (sym (only_spelled text d p a) ∙ only_failed text n w b)

pub some : (text : List ℕ) → ((d : Deck) × (p : ℕ) × Spells text d p) ⊎ ((n : ℕ) × (w : DeckWhy) × Fails text n w)
some text = by (answer text) refl
  where
    by : (a : Answer) → answer text ≡ a → ((d : Deck) × (p : ℕ) × Spells text d p) ⊎ ((n : ℕ) × (w : DeckWhy) × Fails text n w)
    by (Ok read) e = inl (read.0, read.1, answered [] (lines_of text) read e)
    by (Err f) e = inr (f.0, f.1, refused [] (lines_of text) f.0 f.1 e)

-- ---- what a call gives

abbrev IsSpelled : List ℕ → Result Read DeckFault → Type 0
IsSpelled text r = IfOk r (λ x. Spells text x.0 x.1)

abbrev HasFailed : List ℕ → Result Read DeckFault → Type 0
HasFailed text r = IfErr r (λ f. FailsAs f text)

pub given_only : (r : Result Read DeckFault) (text : List ℕ) → IsSpelled text r → HasFailed text r → (d : Deck) (place : ℕ) → Spells text d place → Gives found_by (d, place) r
given_only (Ok read) text h f d place s = let same = one_deck text read.0 d read.1 place h s in both read.0 d read.1 place same.0 same.1
given_only (Err (faults.NoMemory e)) text h f d place s = tt
given_only (Err (faults.At n w)) text h f d place s = not_both text d place n w s f

pub given_only_fails : (r : Result Read DeckFault) (text : List ℕ) → IsSpelled text r → HasFailed text r → (n : ℕ) (w : DeckWhy) → Fails text n w → Refuses found_by (n, w) r
given_only_fails (Ok read) text h f n w s = not_both text read.0 read.1 n w h s
given_only_fails (Err (faults.NoMemory e)) text h f n w s = tt
given_only_fails (Err (faults.At m v)) text h f n w s = let same = one_fault text m n v w f s in (λ i. (same.0 i, same.1 i))
