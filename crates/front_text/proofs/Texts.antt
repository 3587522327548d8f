-- Whole texts: what is read is spelled so, and keeps the rules.
use Rattle.std.proofs.Common.{◌≡◌, ℕ, zero, suc, ◌+◌, ◌^◌, ◌<◌, ◌≤◌, Bool, true, false, cond, ltb, eqb, List, [], ◌∷◌, ◌++◌, length, get_or, map, Ok, Err, refl, sym, ap, subst, ◌∙◌, append_assoc, inl, inr, arith, ℤ, pos, negsuc}
use Rattle.std.specs.Prelude.{All, IsTrue, bytes_eq, codes, unsigned_abs}
use Rattle.std.specs.Fmt.{decimal, signed_decimal}
use Rattle.std.specs.List.{join_with_byte, range_with_len}
use Rattle.std.proofs.lemmas.Bool.{ltb-false, cases_eq, eq-eqb, ne_eqb}
use Rattle.std.proofs.lemmas.List.Elements.{All-nil, All-cons, All-map}
use Rattle.std.proofs.lemmas.List.FromFn.{length-map-range_with_len}
use Rattle.std.proofs.lemmas.List.Splits.{join_with_byte-slice_split, length-slice_split}
use Rattle.std.proofs.lemmas.Slice.Eq.{bytes_eq-Decides}
use Rattle.lp_base.specs.Ascending.{ascends_by, number_of}
use Rattle.cert_text.specs.Lines.{tail_among}
use Rattle.cert_text.specs.Spelling.{Word, line_bytes, text_of}
use Rattle.cert_text.specs.Splits.{split}
use Rattle.cert_text.proofs.Ascents.{Ascend, ascend_parts}
use Rattle.cert_text.proofs.Joined.{joined_is_text}
use Rattle.cert_text.proofs.Results.{same_ok, bind_ok, by_test, unless_test, either}
use Rattle.front_text.specs.declared.fault.FrontWhy.TheVariants.{BadHead, AfterEnd}
use Rattle.front_text.specs.declared.problem.Bilevel.{Bilevel}
use Rattle.front_text.specs.declared.problem.Lcp.{Lcp}
use Rattle.front_text.specs.Lines.{is_cut, lines_in, whole_among}
use Rattle.front_text.specs.Problems.{AreTerms, Fits, IsLine, Terms, are_few, bilevel_counts, coefficient_at, coefficients, fits, terms_of}
use Rattle.front_text.specs.Spelling.{bilevel_words, bounded_words, combination_words, end_words, lcp_words, line_words, rows_words, sparse}
use Rattle.front_text.specs.Reading.{◌>>=◌, Bounded, Reading, combination_at, end_at, lcp_end_at, row_at, size_at, sizes_at}
use Rattle.front_text.specs.Steps.{Left, all_lines, at, begins, behind, behind_end, bilevel_at, bilevel_costs, bilevel_lines, bilevel_of, bilevel_rest, bounded_in, first_of, head_of, head_step, lcp_at, lcp_of, line_as, line_of, over_of, section_from, section_step, terms_in, whole_line, words}
use Rattle.front_text.specs.Texts.{SpellsBilevel, SpellsLcp}
use Rattle.front_text.proofs.Forms.{bounded_takes, combination_takes, end_takes, lcp_end_takes, row_takes, size_takes, sizes_take}

-- ---- coefficients and terms

pub coefficient_below : (ts : Terms) (a j : ℕ) → Ascend number_of a ts → j < a → coefficient_at ts j ≡ pos 0
coefficient_below [] a j h l = refl
coefficient_below (t ∷ ts) a j h l =
    ap (λ (b : Bool). cond b t.1 (coefficient_at ts j)) (ne_eqb t.0 j (λ e. omega (arith, e, l, h.0))) ∙ coefficient_below ts (t.0 + 1) j (ascend_parts number_of t ts h.1) (omega (arith, l, h.0))

abbrev AreWithin : ℕ → Terms → Type 0
AreWithin b ts = All (λ t. (t.0 < b) × (IsTrue (fits t.1) × (t.1 ≡ pos 0 → ⊥))) ts

abbrev kept : ℕ → ℤ → Terms → Terms
kept first v ts = cond (eqb (unsigned_abs v) 0) ts ((first, v) ∷ ts)

no_size : (z : ℤ) → unsigned_abs z ≡ 0 → z ≡ pos 0
no_size (pos zero) e = refl
no_size (pos (suc n)) e = absurd (omega (arith, e))
no_size (negsuc n) e = absurd (omega (arith, e))

same_coefficients : (t : ℕ × ℤ) (ts : Terms) (a n : ℕ) → t.0 < a → map (coefficient_at (t ∷ ts)) (range_with_len a n) ≡ map (coefficient_at ts) (range_with_len a n)
same_coefficients t ts a zero h = refl
same_coefficients t ts a (suc n) h =
    ap (λ (z : ℤ). z ∷ map (coefficient_at (t ∷ ts)) (range_with_len (a + 1) n)) (ap (λ (b : Bool). cond b t.1 (coefficient_at ts a)) (ne_eqb t.0 a (λ e. omega (arith, e, h))))
    ∙ ap (λ (zs : List ℤ). coefficient_at ts a ∷ zs) (same_coefficients t ts (a + 1) n (omega (arith, h)))

-- terms are what their coefficients leave
sparse_again : (ts : Terms) (a n : ℕ) → Ascend number_of a ts → AreWithin (a + n) ts → sparse a (coefficients a n ts) ≡ ts
sparse_again [] a zero h w = refl
sparse_again [] a (suc n) h w = sparse_again [] (a + 1) n (tt, refl) (All-nil (λ t. (t.0 < a + 1 + n) × (IsTrue (fits t.1) × (t.1 ≡ pos 0 → ⊥))))
sparse_again (t ∷ ts) a zero h w = absurd (omega (arith, h.0, (w 0 t (omega arith)).0))
sparse_again (t ∷ ts) a (suc n) h w = elim (cases_eq t.0 a) [
  | inl here ↦
      let rest = ascend_parts number_of t ts h.1 in
      let v : coefficient_at (t ∷ ts) a ≡ t.1 = ap (λ (b : Bool). cond b t.1 (coefficient_at ts a)) (eq-eqb t.0 a here) in
      ap (λ (z : ℤ). kept a z (sparse (a + 1) (coefficients (a + 1) n (t ∷ ts)))) v
      ∙ ap (λ (b : Bool). cond b (sparse (a + 1) (coefficients (a + 1) n (t ∷ ts))) ((a, t.1) ∷ sparse (a + 1) (coefficients (a + 1) n (t ∷ ts)))) (ne_eqb (unsigned_abs t.1) 0 (λ e. (w 0 t (omega arith)).1.1 (no_size t.1 e)))
      ∙ ap (λ (us : List ℤ). (a, t.1) ∷ sparse (a + 1) us) (same_coefficients t ts (a + 1) n (omega (arith, here)))
      ∙ ap (λ (us : Terms). (a, t.1) ∷ us) (sparse_again ts (a + 1) n (subst (λ m. Ascend number_of m ts) (let z : t.0 + 1 ≡ a + 1 = omega (arith, here) in z) rest) (λ i d l. (omega (arith, (w (suc i) d (omega (arith, l))).0), (w (suc i) d (omega (arith, l))).1)))
      ∙ ap (λ (k : ℕ). (k, t.1) ∷ ts) (sym here)
  | inr other ↦
      let high : a + 1 ≤ t.0 = later other h.0 in
      ap (λ (z : ℤ). kept a z (sparse (a + 1) (coefficients (a + 1) n (t ∷ ts)))) (coefficient_below (t ∷ ts) (a + 1) a (high, h.1) (omega arith))
      ∙ sparse_again (t ∷ ts) (a + 1) n (high, h.1) (λ i d l. (omega (arith, (w i d l).0), (w i d l).1))
]
  where
    later : (t.0 ≡ a → ⊥) → a ≤ t.0 → a + 1 ≤ t.0
    later ne low = elim (cases_eq t.0 a) [ inl e ↦ absurd (ne e) | inr differs ↦ omega (arith, low, differs) ]

pub begin_at : (least : ℕ) (ts : Terms) → IsTrue (ascends_by number_of ts) → All (λ t. least ≤ t.0) ts → Ascend number_of least ts
begin_at least [] e h = (tt, refl)
begin_at least (t ∷ ts) e h = (h 0 t (omega arith), e)

pub sparse_terms : (least n : ℕ) (ts : Terms) → AreTerms least (least + n) ts → sparse least (coefficients least n ts) ≡ ts
sparse_terms least n ts h = sparse_again ts least n (begin_at least ts h.ascending (λ i d l. (h.named i d l).0)) (λ i d l. ((h.named i d l).1, h.numbers i d l))

fits_zero : Fits (pos 0)
fits_zero = refl

either_fits : (b : Bool) (y z : ℤ) → Fits y → Fits z → Fits (cond b y z)
either_fits true y z h k = h
either_fits false y z h k = k

coefficient_fits : (ts : Terms) (j : ℕ) → All (λ t. Fits t.1) ts → Fits (coefficient_at ts j)
coefficient_fits [] j h = fits_zero
coefficient_fits (t ∷ ts) j h = either_fits (eqb t.0 j) t.1 (coefficient_at ts j) (h 0 t (omega arith)) (coefficient_fits ts j (λ i d l. h (suc i) d (omega (arith, l))))

pub coefficients_fit : (first n : ℕ) (ts : Terms) (least count : ℕ) → AreTerms least count ts → All Fits (coefficients first n ts)
coefficients_fit first n ts least count h = All-map Fits (coefficient_at ts) (range_with_len first n) (λ i d l. coefficient_fits ts (get_or (range_with_len first n) i d) (λ k e m. (h.numbers k e m).0))

-- ---- lines

at_ok : {X : Type 0} (n : ℕ) (r : Reading X) (x : X) → at n r ≡ Ok x → r ≡ Ok x
at_ok n (Ok y) x e = ap (λ z. Ok z) (same_ok y x e)
at_ok n (Err why) x e = absurd cc

-- a line is its words, one space between them
line_of_words : (l : List ℕ) (ws : List Word) → words l ≡ ws → l ≡ line_bytes ws
line_of_words l ws e = sym (join_with_byte-slice_split 32 l) ∙ ap line_bytes e

abbrev SteppedBy : {X : Type 0} → (List Word → Reading X) → Left → List (List ℕ) → X × Left → Type 0
SteppedBy f left ls y = (l : List ℕ) × (ls ≡ l ∷ y.1.lines) × (y.1.cut ≡ left.cut) × (f (words l) ≡ Ok y.0)

stepped_by : {X : Type 0} (f : List Word → Reading X) (left : Left) (ls : List (List ℕ)) (y : X × Left)
    → (first_of left ls >>= λ line. at line.1.taken (f (words line.0)) >>= λ x. Ok (x, line.1)) ≡ Ok y → SteppedBy f left ls y
stepped_by f left [] y e = absurd cc
stepped_by f left (l ∷ ls) y e =
    let a = bind_ok (at (left.taken + 1) (f (words l))) (λ x. Ok (x, behind left ls)) y e in
    subst (SteppedBy f left (l ∷ ls)) {x = (a.0, behind left ls)} (same_ok (a.0, behind left ls) y a.2) (l, refl, refl, at_ok (left.taken + 1) (f (words l)) a.0 a.1)

stepped : {X : Type 0} (f : List Word → Reading X) (left : Left) (y : X × Left) → line_as f left ≡ Ok y → SteppedBy f left left.lines y
unfolding line_as whole_line
stepped f left y e = stepped_by f left left.lines y e

-- the line of these words was taken
taken_line : {X : Type 0} (f : List Word → Reading X) (left : Left) (y : X × Left) (ws : List Word) → (s : SteppedBy f left left.lines y) → words s.0 ≡ ws → left.lines ≡ line_bytes ws ∷ y.1.lines
taken_line f left y ws s e = s.1 ∙ ap (λ (l : List ℕ). l ∷ y.1.lines) (line_of_words s.0 ws e)

abbrev HeadBy : List ℕ → Left → List (List ℕ) → Left → Type 0
HeadBy head left ls next = (ls ≡ head ∷ next.lines) × (next.cut ≡ left.cut)

head_by : (head : List ℕ) (left : Left) (ls : List (List ℕ)) (next : Left) → head_of head left ls ≡ Ok next → HeadBy head left ls next
head_by head left [] next e = absurd cc
head_by head left (l ∷ ls) next e =
    let g = by_test (bytes_eq l head) (behind left ls) (left.taken + 1, BadHead) next e in
    subst (HeadBy head left (l ∷ ls)) {x = behind left ls} g.1 (ap (λ (x : List ℕ). x ∷ ls) ((bytes_eq-Decides l head).0 g.0), refl)

head_takes : (head : List ℕ) (left next : Left) → head_step head left ≡ Ok next → HeadBy head left left.lines next
unfolding head_step
head_takes head left next e = head_by head left left.lines next e

over_by : (left : Left) (ls : List (List ℕ)) (next : Left) → over_of left ls ≡ Ok next → (ls ≡ []) × (left.cut ≡ false)
over_by left [] next e = (refl, (unless_test left.cut (Ok left) (left.taken + 1, AfterEnd) next e).0)
over_by left (l ∷ ls) next e = absurd cc

over_takes : (left next : Left) → behind_end left ≡ Ok next → (left.lines ≡ []) × (left.cut ≡ false)
unfolding behind_end
over_takes left next e = over_by left left.lines next e

-- ---- lines that begin with one word

abbrev spelled_from : {X : Type 0} → (ℕ → X → List Word) → ℕ → List X → List (List ℕ)
spelled_from spell k [] = []
spelled_from spell k (x ∷ xs) = line_bytes (spell k x) ∷ spelled_from spell (k + 1) xs

record SectionIs {X : Type 0} (spell : ℕ → X → List Word) (Good : X → Type 0) (k : ℕ) (cut : Bool) (ls : List (List ℕ)) (y : List X × Left) : Type 0 where
  lines : ls ≡ spelled_from spell k y.0 ++ y.1.lines
  good : All Good y.0
  cut_is : y.1.cut ≡ cut

section_by : {X : Type 0} (kind : Word) (read : ℕ → List Word → Reading X) (spell : ℕ → X → List Word) (Good : X → Type 0) → ((k : ℕ) (ws : List Word) (x : X) → read k ws ≡ Ok x → (ws ≡ spell k x) × Good x)
    → (k : ℕ) (left : Left) (ls : List (List ℕ)) (y : List X × Left) → left.lines ≡ ls → section_from kind read k left ls ≡ Ok y → SectionIs spell Good k left.cut ls y
unfolding section_from
section_by kind read spell Good takes k left [] y at_lines e =
    subst (SectionIs spell Good k left.cut []) {x = ([], left)} (same_ok ([], left) y e) (record { lines = sym at_lines; good = All-nil Good; cut_is = refl })
section_by kind read spell Good takes k left (l ∷ ls) y at_lines e =
    elim (either (begins kind l) (at (left.taken + 1) (read k (words l)) >>= λ x. section_from kind read (k + 1) (behind left ls) ls >>= λ found. Ok (x ∷ found.0, found.1)) (Ok ([], left)) (Ok y) e) [
      | inl more ↦
          let a = bind_ok (at (left.taken + 1) (read k (words l))) (λ x. section_from kind read (k + 1) (behind left ls) ls >>= λ found. Ok (x ∷ found.0, found.1)) y more.1 in
          let f = bind_ok (section_from kind read (k + 1) (behind left ls) ls) (λ found. Ok (a.0 ∷ found.0, found.1)) y a.2 in
          let made : List _ × Left = (a.0 ∷ f.0.0, f.0.1) in
          let t = takes k (words l) a.0 (at_ok (left.taken + 1) (read k (words l)) a.0 a.1) in
          let rest = section_by kind read spell Good takes (k + 1) (behind left ls) ls f.0 refl f.1 in
          subst (SectionIs spell Good k left.cut (l ∷ ls)) {x = made} (same_ok made y f.2) (record {
            lines = ap (λ (x : List ℕ). x ∷ ls) (line_of_words l (spell k a.0) t.0) ∙ ap (λ (xs : List (List ℕ)). line_bytes (spell k a.0) ∷ xs) rest.lines;
            good = All-cons Good a.0 f.0.0 t.1 rest.good;
            cut_is = rest.cut_is;
          })
      | inr none ↦
          subst (SectionIs spell Good k left.cut (l ∷ ls)) {x = ([], left)} (same_ok ([], left) y none.1) (record { lines = sym at_lines; good = All-nil Good; cut_is = refl })
    ]

section_takes : {X : Type 0} (kind : Word) (read : ℕ → List Word → Reading X) (spell : ℕ → X → List Word) (Good : X → Type 0) → ((k : ℕ) (ws : List Word) (x : X) → read k ws ≡ Ok x → (ws ≡ spell k x) × Good x)
    → (left : Left) (y : List X × Left) → section_step kind read 0 left ≡ Ok y → SectionIs spell Good 0 left.cut left.lines y
unfolding section_step
section_takes kind read spell Good takes left y e = section_by kind read spell Good takes 0 left left.lines y refl e

-- ---- texts of lines

all_parts : (ps : List (List ℕ)) → 0 < length ps → ps ≡ whole_among ps ++ tail_among ps ∷ []
all_parts [] h = absurd (omega (arith, h))
all_parts (p ∷ []) h = refl
all_parts (p ∷ q ∷ ps) h = ap (λ (x : List (List ℕ)). p ∷ x) (all_parts (q ∷ ps) (omega arith))

nothing : (bytes : List ℕ) → ltb 0 (length bytes) ≡ false → bytes ≡ []
nothing [] e = refl
nothing (b ∷ bs) e = absurd (omega (arith, ltb-false 0 (length (b ∷ bs)) e))

pub text_is : (text : List ℕ) (ls : List (List ℕ)) → lines_in text ≡ ls → is_cut text ≡ false → text ≡ text_of ls
text_is text ls e cut =
    let parts = all_parts (split 10 text) (omega (arith, length-slice_split (λ b. eqb b 10) text)) in
    sym (join_with_byte-slice_split 10 text) ∙ ap (join_with_byte 10) (parts ∙ ap (λ (t : List ℕ). lines_in text ++ t ∷ []) (nothing (tail_among (split 10 text)) cut) ∙ ap (λ (x : List (List ℕ)). x ++ [] ∷ []) e) ∙ joined_is_text ls

-- ---- a complementarity problem

row_spell : ℕ → Bounded → List Word
row_spell k x = bounded_words (codes "row") (decimal (k + 1)) x.1

abbrev GoodRow : ℕ → Bounded → Type 0
GoodRow n x = AreTerms 0 n x.1

rows_spelled : (k : ℕ) (xs : List Bounded) → spelled_from (λ i x. bounded_words (codes "row") (decimal (i + 1)) x.1) k xs ≡ map line_bytes (rows_words k (terms_in xs))
rows_spelled k [] = refl
rows_spelled k (x ∷ xs) = ap (λ (ls : List (List ℕ)). line_bytes (bounded_words (codes "row") (decimal (k + 1)) x.1) ∷ ls) (rows_spelled (k + 1) xs)

map_append : (xs ys : List (List Word)) → map line_bytes (xs ++ ys) ≡ map line_bytes xs ++ map line_bytes ys
map_append [] ys = refl
map_append (x ∷ xs) ys = ap (λ (ls : List (List ℕ)). line_bytes x ∷ ls) (map_append xs ys)

abbrev ReadLcp : List ℕ → Lcp → Type 0
ReadLcp text p = SpellsLcp text p

pub lcp_read_is_spelled : (text : List ℕ) (p : Lcp) → lcp_at (all_lines text) ≡ Ok p → SpellsLcp text p
unfolding lcp_at
lcp_read_is_spelled text p e =
    let left = all_lines text in
    let h = bind_ok (head_step (codes "lpcc-lcp 1") left) (λ head. line_as size_at head >>= λ size. line_as (combination_at (codes "q") 0 size.0) size.1 >>= λ q. section_step (codes "row") (row_at size.0) 0 q.1 >>= λ rows. line_as (lcp_end_at size.0 (terms_in rows.0)) rows.1 >>= λ end. behind_end end.1 >>= λ _. Ok (lcp_of size.0 q.0 rows.0)) p e in
    let s = bind_ok (line_as size_at h.0) (λ size. line_as (combination_at (codes "q") 0 size.0) size.1 >>= λ q. section_step (codes "row") (row_at size.0) 0 q.1 >>= λ rows. line_as (lcp_end_at size.0 (terms_in rows.0)) rows.1 >>= λ end. behind_end end.1 >>= λ _. Ok (lcp_of size.0 q.0 rows.0)) p h.2 in
    let n = s.0.0 in
    let q = bind_ok (line_as (combination_at (codes "q") 0 n) s.0.1) (λ q. section_step (codes "row") (row_at n) 0 q.1 >>= λ rows. line_as (lcp_end_at n (terms_in rows.0)) rows.1 >>= λ end. behind_end end.1 >>= λ _. Ok (lcp_of n q.0 rows.0)) p s.2 in
    let r = bind_ok (section_step (codes "row") (row_at n) 0 q.0.1) (λ rows. line_as (lcp_end_at n (terms_in rows.0)) rows.1 >>= λ end. behind_end end.1 >>= λ _. Ok (lcp_of n q.0.0 rows.0)) p q.2 in
    let d = bind_ok (line_as (lcp_end_at n (terms_in r.0.0)) r.0.1) (λ end. behind_end end.1 >>= λ _. Ok (lcp_of n q.0.0 r.0.0)) p r.2 in
    let o = bind_ok (behind_end d.0.1) (λ _. Ok (lcp_of n q.0.0 r.0.0)) p d.2 in
    let head = head_takes (codes "lpcc-lcp 1") left h.0 h.1 in
    let size_step = stepped size_at h.0 s.0 s.1 in
    let size = size_takes (words size_step.0) n size_step.3 in
    let few : n ≤ 2 ^ 60 = omega (arith, size.few) in
    let q_step = stepped (combination_at (codes "q") 0 n) s.0.1 q.0 q.1 in
    let quantities = combination_takes (codes "q") 0 n (words q_step.0) q.0.0 few q_step.3 in
    let rows = section_takes (codes "row") (row_at n) (λ i x. bounded_words (codes "row") (decimal (i + 1)) x.1) (GoodRow n) (λ k ws x g. (let t = row_takes n k ws x few g in (t.words, t.terms))) q.0.1 r.0 r.1 in
    let end_step = stepped (lcp_end_at n (terms_in r.0.0)) r.0.1 d.0 d.1 in
    let end = lcp_end_takes n (terms_in r.0.0) (words end_step.0) d.0.0 end_step.3 in
    let over = over_takes d.0.1 o.0 o.1 in
    let q_terms : AreTerms 0 (0 + n) q.0.0 = subst (λ m. AreTerms 0 m q.0.0) (let z : n ≡ 0 + n = omega arith in z) quantities.1 in
    let lines : left.lines ≡ map line_bytes (lcp_words (lcp_of n q.0.0 r.0.0)) =
    head.0
    ∙ ap (λ (ls : List (List ℕ)). codes "lpcc-lcp 1" ∷ ls) (taken_line size_at h.0 s.0 (codes "size" ∷ decimal n ∷ []) size_step size.words
    ∙ ap (λ (ls : List (List ℕ)). line_bytes (codes "size" ∷ decimal n ∷ []) ∷ ls) (taken_line (combination_at (codes "q") 0 n) s.0.1 q.0 (combination_words (codes "q") q.0.0) q_step quantities.0
    ∙ ap (λ (ts : Terms). line_bytes (combination_words (codes "q") ts) ∷ q.0.1.lines) (sym (sparse_terms 0 n q.0.0 q_terms))
    ∙ ap (λ (ls : List (List ℕ)). line_bytes (combination_words (codes "q") (sparse 0 (coefficients 0 n q.0.0))) ∷ ls)
    (rows.lines ∙ ap (λ (ls : List (List ℕ)). ls ++ r.0.1.lines) (rows_spelled 0 r.0.0)
    ∙ ap (λ (ls : List (List ℕ)). map line_bytes (rows_words 0 (terms_in r.0.0)) ++ ls) (taken_line (lcp_end_at n (terms_in r.0.0)) r.0.1 d.0 end_words end_step end.0 ∙ ap (λ (ls : List (List ℕ)). line_bytes end_words ∷ ls) over.0)
    ∙ sym (map_append (rows_words 0 (terms_in r.0.0)) (end_words ∷ []))))) in
    let cut : left.cut ≡ false = sym head.1 ∙ sym size_step.2 ∙ sym q_step.2 ∙ sym rows.cut_is ∙ sym end_step.2 ∙ over.1 in
    subst (λ (x : Lcp). SpellsLcp text x) {x = lcp_of n q.0.0 r.0.0} (same_ok (lcp_of n q.0.0 r.0.0) p o.2) (record {
      rules = record {
        some = size.some;
        numbers = length-map-range_with_len (coefficient_at q.0.0) 0 n;
        fitting = coefficients_fit 0 n q.0.0 0 n quantities.1;
        size = end.1;
        rows = All-map (AreTerms 0 n) (λ (x : Bounded). x.1) r.0.0 rows.good;
        few = end.2;
      };
      text_is = text_is text (map line_bytes (lcp_words (lcp_of n q.0.0 r.0.0))) lines cut;
    })

-- ---- a bilevel problem

abbrev GoodLine : ℕ → Bounded → Type 0
GoodLine count x = Fits x.0 × AreTerms 0 count x.1

abbrev line_spell : Word → ℕ → Bounded → List Word
line_spell kind k x = bounded_words kind (signed_decimal x.0) x.1

lines_spelled : (kind : Word) (k : ℕ) (xs : List Bounded) → spelled_from (line_spell kind) k xs ≡ map line_bytes (map (line_words kind) (map line_of xs))
lines_spelled kind k [] = refl
lines_spelled kind k (x ∷ xs) = ap (λ (ls : List (List ℕ)). line_bytes (bounded_words kind (signed_decimal x.0) x.1) ∷ ls) (lines_spelled kind (k + 1) xs)

terms_same : (xs : List Bounded) → map terms_of (map line_of xs) ≡ terms_in xs
terms_same [] = refl
terms_same (x ∷ xs) = ap (λ (ts : List Terms). x.1 ∷ ts) (terms_same xs)

-- the lines behind the sizes
record CostsAre (n : ℕ × ℕ) (left : Left) (p : Bilevel) : Type 0 where
  lines : left.lines ≡ map line_bytes (combination_words (codes "cost") (sparse 0 p.cost) ∷ combination_words (codes "follow") (sparse p.nx p.follow) ∷ map (line_words (codes "up")) p.up ++ map (line_words (codes "low")) p.low ++ end_words ∷ [])
  cut : left.cut ≡ false
  is_x : p.nx ≡ n.0
  is_y : p.ny ≡ n.1
  costs : length p.cost ≡ p.nx + p.ny
  fitting : All Fits p.cost
  followed : length p.follow ≡ p.ny
  follow_fitting : All Fits p.follow
  up : All (IsLine (p.nx + p.ny)) p.up
  low : All (IsLine (p.nx + p.ny)) p.low
  few : are_few (bilevel_counts p.nx p.ny (map terms_of p.up) (map terms_of p.low)) ≡ true

good_lines : (count : ℕ) (xs : List Bounded) → All (GoodLine count) xs → All (IsLine count) (map line_of xs)
good_lines count xs h = All-map (IsLine count) line_of xs h

costs_take : (n : ℕ × ℕ) (left : Left) (p : Bilevel) → n.0 ≤ 2 ^ 52 → n.1 ≤ 2 ^ 52 → bilevel_costs n left ≡ Ok p → CostsAre n left p
unfolding bilevel_costs bilevel_lines bilevel_rest
costs_take n left p few_x few_y e =
    let count = n.0 + n.1 in
    let few : count ≤ 2 ^ 60 = omega (arith, few_x, few_y) in
    let c = bind_ok (line_as (combination_at (codes "cost") 0 count) left) (λ cost. line_as (combination_at (codes "follow") n.0 count) cost.1 >>= λ follow. bilevel_lines n cost.0 follow.0 follow.1) p e in
    let f = bind_ok (line_as (combination_at (codes "follow") n.0 count) c.0.1) (λ follow. bilevel_lines n c.0.0 follow.0 follow.1) p c.2 in
    let u = bind_ok (section_step (codes "up") (bounded_in (codes "up") count) 0 f.0.1) (λ up. section_step (codes "low") (bounded_in (codes "low") count) 0 up.1 >>= λ low. bilevel_rest n c.0.0 f.0.0 up.0 low.0 low.1) p f.2 in
    let l = bind_ok (section_step (codes "low") (bounded_in (codes "low") count) 0 u.0.1) (λ low. bilevel_rest n c.0.0 f.0.0 u.0.0 low.0 low.1) p u.2 in
    let counts = bilevel_counts n.0 n.1 (terms_in u.0.0) (terms_in l.0.0) in
    let d = bind_ok (line_as (end_at counts) l.0.1) (λ end. behind_end end.1 >>= λ _. Ok (bilevel_of n.0 n.1 c.0.0 f.0.0 u.0.0 l.0.0)) p l.2 in
    let o = bind_ok (behind_end d.0.1) (λ _. Ok (bilevel_of n.0 n.1 c.0.0 f.0.0 u.0.0 l.0.0)) p d.2 in
    let c_step = stepped (combination_at (codes "cost") 0 count) left c.0 c.1 in
    let cost = combination_takes (codes "cost") 0 count (words c_step.0) c.0.0 few c_step.3 in
    let f_step = stepped (combination_at (codes "follow") n.0 count) c.0.1 f.0 f.1 in
    let follow = combination_takes (codes "follow") n.0 count (words f_step.0) f.0.0 few f_step.3 in
    let up = section_takes (codes "up") (bounded_in (codes "up") count) (line_spell (codes "up")) (GoodLine count) (λ k ws x g. (let t = bounded_takes (codes "up") count ws x few g in (t.words, (t.bound, t.terms)))) f.0.1 u.0 u.1 in
    let low = section_takes (codes "low") (bounded_in (codes "low") count) (line_spell (codes "low")) (GoodLine count) (λ k ws x g. (let t = bounded_takes (codes "low") count ws x few g in (t.words, (t.bound, t.terms)))) u.0.1 l.0 l.1 in
    let end_step = stepped (end_at counts) l.0.1 d.0 d.1 in
    let end = end_takes counts (words end_step.0) d.0.0 end_step.3 in
    let over = over_takes d.0.1 o.0 o.1 in
    let cost_terms : AreTerms 0 (0 + count) c.0.0 = subst (λ m. AreTerms 0 m c.0.0) (let z : count ≡ 0 + count = omega arith in z) cost.1 in
    let ups = map (line_words (codes "up")) (map line_of u.0.0) in
    let lows = map (line_words (codes "low")) (map line_of l.0.0) in
    let made = bilevel_of n.0 n.1 c.0.0 f.0.0 u.0.0 l.0.0 in
    subst (CostsAre n left) {x = made} (same_ok made p o.2) (record {
      lines = taken_line (combination_at (codes "cost") 0 count) left c.0 (combination_words (codes "cost") c.0.0) c_step cost.0
          ∙ ap (λ (ts : Terms). line_bytes (combination_words (codes "cost") ts) ∷ c.0.1.lines) (sym (sparse_terms 0 count c.0.0 cost_terms))
          ∙ ap (λ (ls : List (List ℕ)). line_bytes (combination_words (codes "cost") (sparse 0 (coefficients 0 count c.0.0))) ∷ ls)
          (taken_line (combination_at (codes "follow") n.0 count) c.0.1 f.0 (combination_words (codes "follow") f.0.0) f_step follow.0
          ∙ ap (λ (ts : Terms). line_bytes (combination_words (codes "follow") ts) ∷ f.0.1.lines) (sym (sparse_terms n.0 n.1 f.0.0 follow.1))
          ∙ ap (λ (ls : List (List ℕ)). line_bytes (combination_words (codes "follow") (sparse n.0 (coefficients n.0 n.1 f.0.0))) ∷ ls)
          (up.lines ∙ ap (λ (ls : List (List ℕ)). ls ++ u.0.1.lines) (lines_spelled (codes "up") 0 u.0.0)
          ∙ ap (λ (ls : List (List ℕ)). map line_bytes ups ++ ls)
          (low.lines ∙ ap (λ (ls : List (List ℕ)). ls ++ l.0.1.lines) (lines_spelled (codes "low") 0 l.0.0)
          ∙ ap (λ (ls : List (List ℕ)). map line_bytes lows ++ ls) (taken_line (end_at counts) l.0.1 d.0 end_words end_step end.0 ∙ ap (λ (ls : List (List ℕ)). line_bytes end_words ∷ ls) over.0))
          ∙ sym (append_assoc (map line_bytes ups) (map line_bytes lows) (line_bytes end_words ∷ []))
          ∙ ap (λ (ls : List (List ℕ)). ls ++ line_bytes end_words ∷ []) (sym (map_append ups lows))
          ∙ sym (map_append (ups ++ lows) (end_words ∷ []))));
      cut = sym c_step.2 ∙ sym f_step.2 ∙ sym up.cut_is ∙ sym low.cut_is ∙ sym end_step.2 ∙ over.1;
      is_x = refl;
      is_y = refl;
      costs = length-map-range_with_len (coefficient_at c.0.0) 0 count;
      fitting = coefficients_fit 0 count c.0.0 0 count cost.1;
      followed = length-map-range_with_len (coefficient_at f.0.0) n.0 n.1;
      follow_fitting = coefficients_fit n.0 n.1 f.0.0 n.0 count follow.1;
      up = good_lines count u.0.0 up.good;
      low = good_lines count l.0.0 low.good;
      few = ap (λ (ts : List Terms). are_few (bilevel_counts n.0 n.1 ts (map terms_of (map line_of l.0.0)))) (terms_same u.0.0) ∙ ap (λ (ts : List Terms). are_few (bilevel_counts n.0 n.1 (terms_in u.0.0) ts)) (terms_same l.0.0) ∙ end.1;
    })

pub bilevel_read_is_spelled : (text : List ℕ) (p : Bilevel) → bilevel_at (all_lines text) ≡ Ok p → SpellsBilevel text p
unfolding bilevel_at
bilevel_read_is_spelled text p e =
    let left = all_lines text in
    let h = bind_ok (head_step (codes "lpcc-bilevel 1") left) (λ head. line_as sizes_at head >>= λ sizes. bilevel_costs sizes.0 sizes.1) p e in
    let s = bind_ok (line_as sizes_at h.0) (λ sizes. bilevel_costs sizes.0 sizes.1) p h.2 in
    let n = s.0.0 in
    let head = head_takes (codes "lpcc-bilevel 1") left h.0 h.1 in
    let step = stepped sizes_at h.0 s.0 s.1 in
    let sizes = sizes_take (words step.0) n step.3 in
    let c = costs_take n s.0.1 p sizes.few_x sizes.few_y s.2 in
    let lines : left.lines ≡ map line_bytes (bilevel_words p) =
    head.0
    ∙ ap (λ (ls : List (List ℕ)). codes "lpcc-bilevel 1" ∷ ls) (taken_line sizes_at h.0 s.0 (codes "sizes" ∷ decimal n.0 ∷ decimal n.1 ∷ []) step sizes.words
    ∙ ap (λ (x : ℕ). line_bytes (codes "sizes" ∷ decimal x ∷ decimal n.1 ∷ []) ∷ s.0.1.lines) (sym c.is_x)
    ∙ ap (λ (y : ℕ). line_bytes (codes "sizes" ∷ decimal p.nx ∷ decimal y ∷ []) ∷ s.0.1.lines) (sym c.is_y)
    ∙ ap (λ (ls : List (List ℕ)). line_bytes (codes "sizes" ∷ decimal p.nx ∷ decimal p.ny ∷ []) ∷ ls) c.lines) in
    record {
      rules = record {
        some_x = omega (arith, sizes.some_x, c.is_x);
        some_y = omega (arith, sizes.some_y, c.is_y);
        costs = c.costs;
        fitting = c.fitting;
        followed = c.followed;
        follow_fitting = c.follow_fitting;
        up = c.up;
        low = c.low;
        few = c.few;
      };
      text_is = text_is text (map line_bytes (bilevel_words p)) lines (sym head.1 ∙ sym step.2 ∙ c.cut);
    }
