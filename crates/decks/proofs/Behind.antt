-- What stands behind ENDATA does not matter, and the place behind it is in the text.
use Rattle.std.proofs.Common.{ℕ, ◌+◌, ◌≡◌, ◌<◌, ◌≤◌, Bool, true, false, cond, eqb, List, [], ◌∷◌, ◌++◌, length, take, drop, get_or, refl, sym, ap, subst, ◌∙◌, append_assoc, arith}
use Rattle.std.proofs.lemmas.List.{append-nil, length-append, take-append-le, take_all}
use Rattle.std.specs.List.{AllByRecursion}
use Rattle.mps_lex.specs.Lines.{Line, onto_first, pieces, ends_with, line_of, lines_from, lines_of}
use Rattle.decks.specs.declared.deck.Deck.{Deck}
use Rattle.decks.specs.Spelling.{size_of}
use Rattle.decks.specs.Texts.{Spells}

-- ---- pieces, joined again

abbrev joined : List (List ℕ) → List ℕ
joined [] = []
joined (p ∷ ps) = p ++ joined ps

joined_onto : (b : ℕ) (ps : List (List ℕ)) → joined (onto_first b ps) ≡ b ∷ joined ps
joined_onto b [] = refl
joined_onto b (p ∷ ps) = refl

joined_here : (t : Bool) (b : ℕ) (bs : List ℕ) (ps : List (List ℕ)) → joined ps ≡ bs → joined (cond t ((b ∷ []) ∷ ps) (onto_first b ps)) ≡ b ∷ bs
joined_here true b bs ps h = ap (λ (x : List ℕ). b ∷ x) h
joined_here false b bs ps h = joined_onto b ps ∙ ap (λ (x : List ℕ). b ∷ x) h

joined_pieces : (bs : List ℕ) → joined (pieces bs) ≡ bs
joined_pieces [] = refl
joined_pieces (b ∷ bs) = joined_here (eqb b 10) b bs (pieces bs) (joined_pieces bs)

joined_append : (ps qs : List (List ℕ)) → joined (ps ++ qs) ≡ joined ps ++ joined qs
joined_append [] qs = refl
joined_append (p ∷ ps) qs = ap (λ (x : List ℕ). p ++ x) (joined_append ps qs) ∙ sym (append_assoc p (joined ps) (joined qs))

abbrev HasBytes : List ℕ → Type 0
HasBytes p = 0 < length p

onto_has : (b : ℕ) (ps : List (List ℕ)) → AllByRecursion HasBytes ps → AllByRecursion HasBytes (onto_first b ps)
onto_has b [] a = (omega arith, tt)
onto_has b (p ∷ ps) a = (omega arith, a.1)

here_has : (t : Bool) (b : ℕ) (ps : List (List ℕ)) → AllByRecursion HasBytes ps → AllByRecursion HasBytes (cond t ((b ∷ []) ∷ ps) (onto_first b ps))
here_has true b ps a = (omega arith, a)
here_has false b ps a = onto_has b ps a

pieces_have : (bs : List ℕ) → AllByRecursion HasBytes (pieces bs)
pieces_have [] = tt
pieces_have (b ∷ bs) = here_has (eqb b 10) b (pieces bs) (pieces_have bs)

front_has : (ps qs : List (List ℕ)) → AllByRecursion HasBytes (ps ++ qs) → AllByRecursion HasBytes ps
front_has [] qs a = tt
front_has (p ∷ ps) qs a = (a.0, front_has ps qs a.1)

-- ---- a text cut behind an LF

onto_front : (b c : ℕ) (bs : List ℕ) (t : Bool) (ps qs : List (List ℕ)) → onto_first b (cond t ((c ∷ []) ∷ ps) (onto_first c ps) ++ qs) ≡ onto_first b (cond t ((c ∷ []) ∷ ps) (onto_first c ps)) ++ qs
onto_front b c bs true ps qs = refl
onto_front b c bs false [] qs = refl
onto_front b c bs false (p ∷ ps) qs = refl

either : (t : Bool) (b : ℕ) (ps qs rs : List (List ℕ)) → rs ≡ ps ++ qs → onto_first b (ps ++ qs) ≡ onto_first b ps ++ qs → cond t ((b ∷ []) ∷ rs) (onto_first b rs) ≡ cond t ((b ∷ []) ∷ ps) (onto_first b ps) ++ qs
either true b ps qs rs e f = ap (λ (x : List (List ℕ)). (b ∷ []) ∷ x) e
either false b ps qs rs e f = ap (onto_first b) e ∙ f

last_one : (t : Bool) (b : ℕ) (qs : List (List ℕ)) → t ≡ true → cond t ((b ∷ []) ∷ qs) (onto_first b qs) ≡ cond t ((b ∷ []) ∷ []) (onto_first b []) ++ qs
last_one true b qs e = refl
last_one false b qs e = absurd cc

pieces_append : (x more : List ℕ) → ends_with 10 x ≡ true → pieces (x ++ more) ≡ pieces x ++ pieces more
pieces_append [] more h = absurd cc
pieces_append (b ∷ []) more h = last_one (eqb b 10) b (pieces more) h
pieces_append (b ∷ c ∷ bs) more h = either (eqb b 10) b (pieces (c ∷ bs)) (pieces more) (pieces (c ∷ bs ++ more)) (pieces_append (c ∷ bs) more h) (onto_front b c bs (eqb c 10) (pieces bs) (pieces more))

abbrev first_of : List (List ℕ) → List ℕ
first_of ps = get_or ps 0 []

-- of pieces with bytes, the first ones are told by their length
same_front : (us bs cs ds : List (List ℕ)) → us ++ bs ≡ cs ++ ds → length (joined us) ≡ length (joined cs) → AllByRecursion HasBytes us → AllByRecursion HasBytes cs → us ≡ cs
same_front [] bs [] ds e l a c = refl
same_front [] bs (p ∷ cs) ds e l a c = absurd (omega (arith, l, length-append p (joined cs), c.0))
same_front (p ∷ us) bs [] ds e l a c = absurd (omega (arith, l, length-append p (joined us), a.0))
same_front (p ∷ us) bs (q ∷ cs) ds e l a c =
    let head : p ≡ q = ap first_of e in
    let tail : us ++ bs ≡ cs ++ ds = ap (drop 1) e in
    let len : length (joined us) ≡ length (joined cs) = omega (arith, l, length-append p (joined us), length-append q (joined cs), ap length head) in
    ap (λ (x : List ℕ). x ∷ us) head ∙ ap (λ (x : List (List ℕ)). q ∷ x) (same_front us bs cs ds tail len a.1 c.1)

-- ---- lines of pieces

lines_append : (n : ℕ) (ps qs : List (List ℕ)) → (m : ℕ) × (lines_from n (ps ++ qs) ≡ lines_from n ps ++ lines_from m qs)
lines_append n [] qs = (n, refl)
lines_append n (p ∷ ps) qs = let r = lines_append (n + 1) ps qs in (r.0, ap (λ (x : List Line). line_of n p ∷ x) r.1)

size_lines : (n : ℕ) (ps : List (List ℕ)) → size_of (lines_from n ps) ≡ length (joined ps)
size_lines n [] = refl
size_lines n (p ∷ ps) = omega (arith, size_lines (n + 1) ps, length-append p (joined ps))

size_front : (xs : List Line) (l : Line) (ys : List Line) → size_of (xs ++ l ∷ []) ≤ size_of (xs ++ l ∷ ys)
size_front [] l ys = omega arith
size_front (x ∷ xs) l ys = omega (arith, size_front xs l ys)

-- the place behind the spelled lines is in the text
pub within : (text : List ℕ) (d : Deck) (p : ℕ) → Spells text d p → p ≤ length text
within text d p w =
    let all : size_of (lines_of text) ≡ length text = size_lines 1 (pieces text) ∙ ap length (joined_pieces text) in
    omega (arith, w.place_is, size_front w.front w.last w.rest, ap size_of w.lines, all)

-- the pieces of the first lines
record Parts (n : ℕ) (ps : List (List ℕ)) (front : List Line) (last : Line) : Type 0 where
  pub first : List (List ℕ)
  pub after : List (List ℕ)
  pub some : 0 < length first
  pub parts : ps ≡ first ++ after
  pub lines : lines_from n first ≡ front ++ last ∷ []

abbrev first_line : Line → List Line → Line
first_line d ls = get_or ls 0 d

parts_of : (n : ℕ) (ps : List (List ℕ)) (front : List Line) (last : Line) (rest : List Line) → lines_from n ps ≡ front ++ last ∷ rest → Parts n ps front last
parts_of n [] [] last rest e = absurd cc
parts_of n [] (l ∷ front) last rest e = absurd cc
parts_of n (p ∷ ps) [] last rest e =
    record {
      first = p ∷ [];
      after = ps;
      some = omega arith;
      parts = refl;
      lines = ap (λ (x : Line). x ∷ []) (ap (first_line last) e);
    }
parts_of n (p ∷ ps) (l ∷ front) last rest e =
    let head : line_of n p ≡ l = ap (first_line l) e in
    let r = parts_of (n + 1) ps front last rest (ap (drop 1) e) in
    record {
      first = p ∷ r.first;
      after = r.after;
      some = omega arith;
      parts = ap (λ (x : List (List ℕ)). p ∷ x) r.parts;
      lines = ap (λ (x : Line). x ∷ lines_from (n + 1) r.first) head ∙ ap (λ (x : List Line). l ∷ x) r.lines;
    }

-- ---- a piece that another one follows ends by an LF

with_byte : (b : ℕ) (xs : List ℕ) → ends_with 10 xs ≡ true → ends_with 10 (b ∷ xs) ≡ true
with_byte b [] h = absurd cc
with_byte b (x ∷ xs) h = h

abbrev Ends : List (List ℕ) → Type 0
Ends ps = ends_with 10 (joined ps) ≡ true

lf_here : (b : ℕ) (ps rs qs : List (List ℕ)) (q : List ℕ) → eqb b 10 ≡ true → (b ∷ []) ∷ rs ≡ ps ++ q ∷ qs → 0 < length ps → ((us : List (List ℕ)) → rs ≡ us ++ q ∷ qs → 0 < length us → Ends us) → Ends ps
lf_here b [] rs qs q t e some next = absurd (omega (arith, some))
lf_here b (p ∷ []) rs qs q t e some next =
    let same : b ∷ [] ≡ p = ap first_of e in
    subst (λ (x : List ℕ). ends_with 10 (x ++ []) ≡ true) same t
lf_here b (p ∷ u ∷ us) rs qs q t e some next =
    let same : b ∷ [] ≡ p = ap first_of e in
    let rest : rs ≡ (u ∷ us) ++ q ∷ qs = ap (drop 1) e in
    subst (λ (x : List ℕ). ends_with 10 (x ++ joined (u ∷ us)) ≡ true) same (with_byte b (joined (u ∷ us)) (next (u ∷ us) rest (omega arith)))

no_lf_here : (b : ℕ) (ps rs qs : List (List ℕ)) (q : List ℕ) → onto_first b rs ≡ ps ++ q ∷ qs → 0 < length ps → ((us : List (List ℕ)) → rs ≡ us ++ q ∷ qs → 0 < length us → Ends us) → Ends ps
no_lf_here b [] rs qs q e some next = absurd (omega (arith, some))
no_lf_here b (p ∷ ps) [] qs q e some next =
    let long : length ((b ∷ []) ∷ []) ≡ length (p ∷ ps ++ q ∷ qs) = ap length e in
    absurd (omega (arith, long, length-append ps (q ∷ qs)))
no_lf_here b (p ∷ ps) (r ∷ rs) qs q e some next =
    let same : b ∷ r ≡ p = ap first_of e in
    let rest : rs ≡ ps ++ q ∷ qs = ap (drop 1) e in
    let ends : Ends (r ∷ ps) = next (r ∷ ps) (ap (λ (x : List (List ℕ)). r ∷ x) rest) (omega arith) in
    subst (λ (x : List ℕ). ends_with 10 (x ++ joined ps) ≡ true) same (with_byte b (r ++ joined ps) ends)

either_here : (t : Bool) (b : ℕ) (ps rs qs : List (List ℕ)) (q : List ℕ) → eqb b 10 ≡ t → cond t ((b ∷ []) ∷ rs) (onto_first b rs) ≡ ps ++ q ∷ qs → 0 < length ps → ((us : List (List ℕ)) → rs ≡ us ++ q ∷ qs → 0 < length us → Ends us) → Ends ps
either_here true b ps rs qs q t e some next = lf_here b ps rs qs q t e some next
either_here false b ps rs qs q t e some next = no_lf_here b ps rs qs q e some next

none_here : (ps qs : List (List ℕ)) (q : List ℕ) → [] ≡ ps ++ q ∷ qs → ⊥
none_here [] qs q e = absurd cc
none_here (p ∷ ps) qs q e = absurd cc

followed : (bs : List ℕ) (ps qs : List (List ℕ)) (q : List ℕ) → pieces bs ≡ ps ++ q ∷ qs → 0 < length ps → Ends ps
followed [] ps qs q e some = absurd (none_here ps qs q e)
followed (b ∷ bs) ps qs q e some = either_here (eqb b 10) b ps (pieces bs) qs q refl e some (λ us f h. followed bs us qs q f h)

-- where an LF ends the first pieces, they are the pieces of their bytes
cut_at_lf : (text : List ℕ) (ps after : List (List ℕ)) → pieces text ≡ ps ++ after → Ends ps → pieces (joined ps) ≡ ps
cut_at_lf text ps after e ends =
    let x = joined ps in
    let y = joined after in
    let whole : text ≡ x ++ y = sym (joined_pieces text) ∙ ap joined e ∙ joined_append ps after in
    let split : pieces x ++ pieces y ≡ ps ++ after = sym (pieces_append x y ends) ∙ ap pieces (sym whole) ∙ e in
    same_front (pieces x) (pieces y) ps after split (ap length (joined_pieces x)) (pieces_have x) (front_has ps after (subst (λ (t : List (List ℕ)). AllByRecursion HasBytes t) e (pieces_have text)))

first_pieces : (text : List ℕ) (ps after : List (List ℕ)) → pieces text ≡ ps ++ after → 0 < length ps → pieces (joined ps) ≡ ps
first_pieces text ps [] e some =
    let same : pieces text ≡ ps = e ∙ append-nil ps in
    ap pieces (ap joined (sym same) ∙ joined_pieces text) ∙ same
first_pieces text ps (q ∷ qs) e some = cut_at_lf text ps (q ∷ qs) e (followed text ps qs q e some)

-- ---- the laws

-- the first bytes are those of the first pieces
cut : (text : List ℕ) (d : Deck) (p : ℕ) (w : Spells text d p) (r : Parts 1 (pieces text) w.front w.last) → (p ≡ length (joined r.first)) × (take p text ≡ joined r.first) × (text ≡ joined r.first ++ joined r.after)
cut text d p w r =
    let x = joined r.first in
    let y = joined r.after in
    let whole : text ≡ x ++ y = sym (joined_pieces text) ∙ ap joined r.parts ∙ joined_append r.first r.after in
    let long : p ≡ length x = w.place_is ∙ ap size_of (sym r.lines) ∙ size_lines 1 r.first in
    let taken : take p text ≡ x = ap (λ (n : ℕ). take n text) long ∙ ap (take (length x)) whole ∙ take-append-le (length x) x y (omega arith) ∙ take_all (length x) x (omega arith) in
    (long, taken, whole)

-- a text with the same first lines spells the same deck
again : (text new : List ℕ) (d : Deck) (p : ℕ) (w : Spells text d p) (rest : List Line) → lines_of new ≡ w.front ++ w.last ∷ rest → Spells new d p
again text new d p w rest e = record {
  front = w.front;
  last = w.last;
  rest = rest;
  lines = e;
  clean = w.clean;
  right = w.right;
  ends = w.ends;
  deck_is = w.deck_is;
  place_is = w.place_is;
}

pub alone : (text : List ℕ) (d : Deck) (p : ℕ) → Spells text d p → Spells (take p text) d p
alone text d p w =
    let r = parts_of 1 (pieces text) w.front w.last w.rest w.lines in
    let c = cut text d p w r in
    again text (take p text) d p w [] (ap lines_of c.1 ∙ ap (lines_from 1) (first_pieces text r.first r.after r.parts r.some) ∙ r.lines)

more_bytes : (text : List ℕ) (ps after : List (List ℕ)) (n : ℕ) → pieces text ≡ ps ++ after → 0 < length ps → n ≡ length (joined after) → 0 < n → Ends ps
more_bytes text ps [] n e some len h = absurd (omega (arith, len, h))
more_bytes text ps (q ∷ qs) n e some len h = followed text ps qs q e some

pub ended : (text : List ℕ) (d : Deck) (p : ℕ) → Spells text d p → p < length text → ends_with 10 (take p text) ≡ true
ended text d p w h =
    let r = parts_of 1 (pieces text) w.front w.last w.rest w.lines in
    let c = cut text d p w r in
    let left : 0 < length (joined r.after) = omega (arith, h, c.0, ap length c.2, length-append (joined r.first) (joined r.after)) in
    ap (ends_with 10) c.1 ∙ more_bytes text r.first r.after (length (joined r.after)) r.parts r.some refl left

pub whatever_follows : (text more : List ℕ) (d : Deck) (p : ℕ) → Spells text d p → ends_with 10 (take p text) ≡ true → Spells (take p text ++ more) d p
whatever_follows text more d p w h =
    let r = parts_of 1 (pieces text) w.front w.last w.rest w.lines in
    let c = cut text d p w r in
    let ends : Ends r.first = ap (ends_with 10) (sym c.1) ∙ h in
    let x = joined r.first in
    let tail = lines_append 1 r.first (pieces more) in
    let now : lines_of (take p text ++ more) ≡ w.front ++ w.last ∷ lines_from tail.0 (pieces more) =
    ap (λ (t : List ℕ). lines_of (t ++ more)) c.1 ∙ ap (lines_from 1) (pieces_append x more ends ∙ ap (λ (t : List (List ℕ)). t ++ pieces more) (first_pieces text r.first r.after r.parts r.some)) ∙ tail.1
    ∙ ap (λ (t : List Line). t ++ lines_from tail.0 (pieces more)) r.lines ∙ append_assoc w.front (w.last ∷ []) (lines_from tail.0 (pieces more)) in
    again text (take p text ++ more) d p w (lines_from tail.0 (pieces more)) now
