-- The forms of lines: what is read is spelled so, and keeps the rules.
use Rattle.std.proofs.Common.{◌≡◌, ◌≢◌, ℕ, ◌+◌, ◌^◌, ◌<◌, ◌≤◌, true, ◌&&◌, cond, ltb, leb, eqb, List, [], ◌∷◌, length, get_or, Ok, Err, refl, sym, ap, subst, ◌∙◌, arith, ℤ, pos}
use Rattle.std.specs.Prelude.{All, bytes_eq, codes, flat_map, unsigned_abs}
use Rattle.std.specs.Fmt.{decimal, signed_decimal}
use Rattle.std.proofs.lemmas.Bool.{ltb-true, leb-true, eqb-true, and_parts}
use Rattle.std.proofs.lemmas.List.Elements.{All-nil, All-cons, All-head, All-tail}
use Rattle.std.proofs.lemmas.Slice.Eq.{bytes_eq-Decides}
use Rattle.lp_base.specs.Ascending.{number_of}
use Rattle.cert_text.specs.Capped.{most}
use Rattle.cert_text.specs.Spelling.{Word, colon, term_words}
use Rattle.cert_text.proofs.Ascents.{Ascend, ascend_more, ascend_parts}
use Rattle.cert_text.proofs.Results.{same_ok, bind_ok, by_test, if_test}
use Rattle.front_text.specs.declared.fault.FrontWhy.TheVariants.{BadLine, NoSuch, Wide, TooMany}
use Rattle.front_text.specs.Problems.{AreTerms, Counts, Terms, are_few, fits, lcp_counts}
use Rattle.front_text.specs.Spelling.{bounded_words, combination_words, end_words}
use Rattle.front_text.specs.Reading.{◌>>=◌, Bounded, Reading, after, both_sized, bounded_at, combination_at, end_at, ended, factor_in, first_in, fit_all, has_fitting, is_below, judged, lcp_end_at, names_all, natural_in, number_in, positive_in, row_at, row_number, size_at, sized, sizes_at, terms_from, whole_in}
use Rattle.front_text.proofs.Digits.{factor_read, natural_read, number_read, positive_read, whole_read}
use Rattle.front_text.proofs.Walks.{passes}

-- ---- words

pub after_takes : (wanted : Word) (ws rest : List Word) → after wanted ws ≡ Ok rest → ws ≡ wanted ∷ rest
unfolding after
after_takes wanted [] rest e = absurd cc
after_takes wanted (w ∷ ws) rest e =
    let g = by_test (bytes_eq w wanted) ws BadLine rest e in
    ap (λ (x : Word). x ∷ ws) ((bytes_eq-Decides w wanted).0 g.0) ∙ ap (λ (x : List Word). wanted ∷ x) g.1

pub first_takes : (ws : List Word) (x : Word × List Word) → first_in ws ≡ Ok x → ws ≡ x.0 ∷ x.1
unfolding first_in
first_takes [] x e = absurd cc
first_takes (w ∷ ws) x e = ap (λ (y : Word × List Word). y.0 ∷ y.1) (same_ok (w, ws) x e)

pub ended_takes : (ws rest : List Word) → ended ws ≡ Ok rest → ws ≡ []
unfolding ended
ended_takes [] rest e = refl
ended_takes (w ∷ ws) rest e = absurd cc

-- ---- terms

abbrev pub IsSmall : ℕ × ℤ → Type 0
IsSmall t = (t.0 + 1 < most) × (unsigned_abs t.1 < most)

abbrev IsNonzero : ℕ × ℤ → Type 0
IsNonzero t = t.1 ≢ pos 0

record TermsAre (least : ℕ) (ws : List Word) (ts : Terms) : Type 0 where
  words : ws ≡ flat_map term_words ts
  nonzero : All IsNonzero ts
  ascend : Ascend number_of least ts

terms_take : (least : ℕ) (ws : List Word) (ts : Terms) → terms_from least ws ≡ Ok ts → All IsSmall ts → TermsAre least ws ts
unfolding terms_from
terms_take least [] ts e h = subst (λ (y : Terms). TermsAre least [] y) {x = []} (same_ok [] ts e) (record { words = refl; nonzero = All-nil IsNonzero; ascend = (tt, refl) })
terms_take least (number ∷ []) ts e h = absurd (apart_bound (number_in least number) ts e)
  where
    apart_bound : (r : Reading ℕ) (ts : Terms) → (r >>= λ n. Err BadLine) ≡ Ok ts → ⊥
    apart_bound (Ok n) ts e = absurd cc
    apart_bound (Err why) ts e = absurd cc
terms_take least (number ∷ word ∷ ws) ts e h =
    let n = bind_ok (number_in least number) (λ n. factor_in word >>= λ z. terms_from (n + 1) ws >>= λ terms. Ok ((n, z) ∷ terms)) ts e in
    let z = bind_ok (factor_in word) (λ z. terms_from (n.0 + 1) ws >>= λ terms. Ok ((n.0, z) ∷ terms)) ts n.2 in
    let us = bind_ok (terms_from (n.0 + 1) ws) (λ terms. Ok ((n.0, z.0) ∷ terms)) ts z.2 in
    let t : ℕ × ℤ = (n.0, z.0) in
    let same = same_ok (t ∷ us.0) ts us.2 in
    let small = subst (λ (y : Terms). All IsSmall y) (sym same) h in
    let here = All-head IsSmall t us.0 small in
    let k = number_read least number n.0 n.1 here.0 in
    let y = factor_read word z.0 z.1 here.1 in
    let more = terms_take (n.0 + 1) ws us.0 us.1 (All-tail IsSmall t us.0 small) in
    subst (TermsAre least (number ∷ word ∷ ws)) {x = t ∷ us.0} same (record {
      words = ap (λ (v : Word). v ∷ word ∷ ws) (sym k.0) ∙ ap (λ (v : Word). decimal (n.0 + 1) ∷ v ∷ ws) (sym y.0) ∙ ap (λ (vs : List Word). decimal (n.0 + 1) ∷ signed_decimal z.0 ∷ vs) more.words;
      nonzero = All-cons IsNonzero t us.0 y.1 more.nonzero;
      ascend = ascend_more number_of least t us.0 k.1 more.ascend;
    })

-- ---- what is judged

record JudgedIs (count : ℕ) (b : ℤ) (ts : Terms) (x : Bounded) : Type 0 where
  is : (b, ts) ≡ x
  named : names_all count ts ≡ true
  bound : fits b ≡ true
  fitting : fit_all ts ≡ true

judged_is : (count : ℕ) (b : ℤ) (ts : Terms) (x : Bounded) → judged count b ts ≡ Ok x → JudgedIs count b ts x
unfolding judged
judged_is count b ts x e =
    let made : Bounded = (b, ts) in
    let f = if_test (names_all count ts) (cond (fits b && fit_all ts) (Ok made) (Err Wide)) NoSuch x e in
    let g = by_test (fits b && fit_all ts) made Wide x f.1 in
    let p = and_parts (fits b) (fit_all ts) g.0 in
    record { is = g.1; named = f.0; bound = p.0; fitting = p.1 }

fits_small : (z : ℤ) → fits z ≡ true → unsigned_abs z < most
fits_small z e = omega (arith, leb-true (unsigned_abs z) (2 ^ 52) e)

all_small : (count : ℕ) (ts : Terms) → count ≤ 2 ^ 60 → names_all count ts ≡ true → fit_all ts ≡ true → All IsSmall ts
all_small count ts few named fitting i d l =
    (omega (arith, few, ltb-true (get_or ts i d).0 count (passes (is_below count) ts i d l named)), fits_small (get_or ts i d).1 (passes has_fitting ts i d l fitting))

least_of : (least : ℕ) (ts : Terms) → Ascend number_of least ts → All (λ t. least ≤ t.0) ts
least_of least [] h = All-nil (λ t. least ≤ t.0)
least_of least (t ∷ ts) h = All-cons (λ u. least ≤ u.0) t ts h.0 (weaker (t.0 + 1) ts (least_of (t.0 + 1) ts (ascend_parts number_of t ts h.1)))
  where
    weaker : (more : ℕ) (us : Terms) → All (λ u. t.0 + 1 ≤ u.0) us → All (λ u. least ≤ u.0) us
    weaker more us k i d l = omega (arith, k i d l, h.0)

record Taken (least count : ℕ) (ws : List Word) (ts : Terms) : Type 0 where
  pub words : ws ≡ flat_map term_words ts
  pub terms : AreTerms least count ts

taken : (least count : ℕ) (ws : List Word) (ts : Terms) → count ≤ 2 ^ 60 → terms_from least ws ≡ Ok ts → names_all count ts ≡ true → fit_all ts ≡ true → Taken least count ws ts
taken least count ws ts few e named fitting =
    let t = terms_take least ws ts e (all_small count ts few named fitting) in
    record {
      words = t.words;
      terms = record {
        ascending = t.ascend.1;
        named = λ i d l. (least_of least ts t.ascend i d l, ltb-true (get_or ts i d).0 count (passes (is_below count) ts i d l named));
        numbers = λ i d l. (passes has_fitting ts i d l fitting, t.nonzero i d l);
      };
    }

-- ---- lines

pub combination_takes : (kind : Word) (least count : ℕ) (ws : List Word) (ts : Terms) → count ≤ 2 ^ 60 → combination_at kind least count ws ≡ Ok ts → (ws ≡ combination_words kind ts) × AreTerms least count ts
unfolding combination_at
combination_takes kind least count ws ts few e =
    let a = bind_ok (after kind ws) (λ rest. after colon rest >>= λ terms. terms_from least terms >>= λ us. judged count (pos 0) us >>= λ found. Ok found.1) ts e in
    let b = bind_ok (after colon a.0) (λ terms. terms_from least terms >>= λ us. judged count (pos 0) us >>= λ found. Ok found.1) ts a.2 in
    let c = bind_ok (terms_from least b.0) (λ us. judged count (pos 0) us >>= λ found. Ok found.1) ts b.2 in
    let d = bind_ok (judged count (pos 0) c.0) (λ found. Ok found.1) ts c.2 in
    let j = judged_is count (pos 0) c.0 d.0 d.1 in
    let same : c.0 ≡ ts = ap (λ (x : Bounded). x.1) j.is ∙ same_ok d.0.1 ts d.2 in
    let t = taken least count b.0 c.0 few c.1 j.named j.fitting in
    subst (λ (us : Terms). (ws ≡ combination_words kind us) × AreTerms least count us) same
    (after_takes kind ws a.0 a.1 ∙ ap (λ (v : List Word). kind ∷ v) (after_takes colon a.0 b.0 b.1 ∙ ap (λ (v : List Word). colon ∷ v) t.words), t.terms)

pub record BoundedIs (kind : Word) (count : ℕ) (ws : List Word) (x : Bounded) : Type 0 where
  pub words : ws ≡ bounded_words kind (signed_decimal x.0) x.1
  pub bound : fits x.0 ≡ true
  pub terms : AreTerms 0 count x.1

pub bounded_takes : (kind : Word) (count : ℕ) (ws : List Word) (x : Bounded) → count ≤ 2 ^ 60 → bounded_at kind count ws ≡ Ok x → BoundedIs kind count ws x
unfolding bounded_at
bounded_takes kind count ws x few e =
    let a = bind_ok (after kind ws) (λ rest. first_in rest >>= λ first. whole_in first.0 >>= λ b. after colon first.1 >>= λ terms. terms_from 0 terms >>= λ us. judged count b us) x e in
    let f = bind_ok (first_in a.0) (λ first. whole_in first.0 >>= λ b. after colon first.1 >>= λ terms. terms_from 0 terms >>= λ us. judged count b us) x a.2 in
    let z = bind_ok (whole_in f.0.0) (λ b. after colon f.0.1 >>= λ terms. terms_from 0 terms >>= λ us. judged count b us) x f.2 in
    let b = bind_ok (after colon f.0.1) (λ terms. terms_from 0 terms >>= λ us. judged count z.0 us) x z.2 in
    let c = bind_ok (terms_from 0 b.0) (λ us. judged count z.0 us) x b.2 in
    let j = judged_is count z.0 c.0 x c.2 in
    let t = taken 0 count b.0 c.0 few c.1 j.named j.fitting in
    subst (BoundedIs kind count ws) {x = (z.0, c.0)} j.is (record {
      words = after_takes kind ws a.0 a.1 ∙ ap (λ (v : List Word). kind ∷ v)
          (first_takes a.0 f.0 f.1 ∙ ap (λ (v : Word). v ∷ f.0.1) (sym (whole_read f.0.0 z.0 z.1 (fits_small z.0 j.bound)))
          ∙ ap (λ (v : List Word). signed_decimal z.0 ∷ v) (after_takes colon f.0.1 b.0 b.1 ∙ ap (λ (v : List Word). colon ∷ v) t.words));
      bound = j.bound;
      terms = t.terms;
    })

pub record RowIs (n k : ℕ) (ws : List Word) (x : Bounded) : Type 0 where
  pub words : ws ≡ bounded_words (codes "row") (decimal (k + 1)) x.1
  pub terms : AreTerms 0 n x.1

row_number_is : (n k i j : ℕ) → row_number n k i ≡ Ok j → (i ≡ k + 1) × (k < n)
row_number_is n k i j e =
    let g = by_test (eqb i (k + 1) && ltb k n) i BadLine j e in
    let p = and_parts (eqb i (k + 1)) (ltb k n) g.0 in
    (eqb-true i (k + 1) p.0, ltb-true k n p.1)

pub row_takes : (n k : ℕ) (ws : List Word) (x : Bounded) → n ≤ 2 ^ 60 → row_at n k ws ≡ Ok x → RowIs n k ws x
unfolding row_at
row_takes n k ws x few e =
    let a = bind_ok (after (codes "row") ws) (λ rest. first_in rest >>= λ first. natural_in first.0 >>= λ i. row_number n k i >>= λ _. after colon first.1 >>= λ terms. terms_from 0 terms >>= λ us. judged n (pos 0) us) x e in
    let f = bind_ok (first_in a.0) (λ first. natural_in first.0 >>= λ i. row_number n k i >>= λ _. after colon first.1 >>= λ terms. terms_from 0 terms >>= λ us. judged n (pos 0) us) x a.2 in
    let i = bind_ok (natural_in f.0.0) (λ i. row_number n k i >>= λ _. after colon f.0.1 >>= λ terms. terms_from 0 terms >>= λ us. judged n (pos 0) us) x f.2 in
    let r = bind_ok (row_number n k i.0) (λ _. after colon f.0.1 >>= λ terms. terms_from 0 terms >>= λ us. judged n (pos 0) us) x i.2 in
    let b = bind_ok (after colon f.0.1) (λ terms. terms_from 0 terms >>= λ us. judged n (pos 0) us) x r.2 in
    let c = bind_ok (terms_from 0 b.0) (λ us. judged n (pos 0) us) x b.2 in
    let j = judged_is n (pos 0) c.0 x c.2 in
    let t = taken 0 n b.0 c.0 few c.1 j.named j.fitting in
    let at = row_number_is n k i.0 r.0 r.1 in
    let small : i.0 < most = omega (arith, at.0, at.1, few) in
    subst (RowIs n k ws) {x = (pos 0, c.0)} j.is (record {
      words = after_takes (codes "row") ws a.0 a.1 ∙ ap (λ (v : List Word). codes "row" ∷ v)
          (first_takes a.0 f.0 f.1 ∙ ap (λ (v : Word). v ∷ f.0.1) (sym (natural_read f.0.0 i.0 i.1 small) ∙ ap decimal at.0)
          ∙ ap (λ (v : List Word). decimal (k + 1) ∷ v) (after_takes colon f.0.1 b.0 b.1 ∙ ap (λ (v : List Word). colon ∷ v) t.words));
      terms = t.terms;
    })

pub record SizeIs (ws : List Word) (n : ℕ) : Type 0 where
  pub words : ws ≡ codes "size" ∷ decimal n ∷ []
  pub some : 1 ≤ n
  pub few : n ≤ 2 ^ 52

sized_is : (n m : ℕ) → sized n ≡ Ok m → (n ≡ m) × (n ≤ 2 ^ 52)
sized_is n m e = let g = by_test (leb n (2 ^ 52)) n Wide m e in (g.1, leb-true n (2 ^ 52) g.0)

pub size_takes : (ws : List Word) (n : ℕ) → size_at ws ≡ Ok n → SizeIs ws n
unfolding size_at
size_takes ws n e =
    let a = bind_ok (after (codes "size") ws) (λ rest. first_in rest >>= λ first. positive_in first.0 >>= λ m. ended first.1 >>= λ _. sized m) n e in
    let f = bind_ok (first_in a.0) (λ first. positive_in first.0 >>= λ m. ended first.1 >>= λ _. sized m) n a.2 in
    let p = bind_ok (positive_in f.0.0) (λ m. ended f.0.1 >>= λ _. sized m) n f.2 in
    let d = bind_ok (ended f.0.1) (λ _. sized p.0) n p.2 in
    let s = sized_is p.0 n d.2 in
    let r = positive_read f.0.0 p.0 p.1 (omega (arith, s.1)) in
    subst (SizeIs ws) s.0 (record {
      words = after_takes (codes "size") ws a.0 a.1 ∙ ap (λ (v : List Word). codes "size" ∷ v)
          (first_takes a.0 f.0 f.1 ∙ ap (λ (v : Word). v ∷ f.0.1) (sym r.0) ∙ ap (λ (v : List Word). decimal p.0 ∷ v) (ended_takes f.0.1 d.0 d.1));
      some = r.1;
      few = s.1;
    })

pub record SizesAre (ws : List Word) (n : ℕ × ℕ) : Type 0 where
  pub words : ws ≡ codes "sizes" ∷ decimal n.0 ∷ decimal n.1 ∷ []
  pub some_x : 1 ≤ n.0
  pub some_y : 1 ≤ n.1
  pub few_x : n.0 ≤ 2 ^ 52
  pub few_y : n.1 ≤ 2 ^ 52

both_sized_are : (nx ny : ℕ) (n : ℕ × ℕ) → both_sized nx ny ≡ Ok n → ((nx, ny) ≡ n) × (nx ≤ 2 ^ 52) × (ny ≤ 2 ^ 52)
both_sized_are nx ny n e =
    let made : ℕ × ℕ = (nx, ny) in
    let g = by_test (leb nx (2 ^ 52) && leb ny (2 ^ 52)) made Wide n e in
    let p = and_parts (leb nx (2 ^ 52)) (leb ny (2 ^ 52)) g.0 in
    (g.1, leb-true nx (2 ^ 52) p.0, leb-true ny (2 ^ 52) p.1)

pub sizes_take : (ws : List Word) (n : ℕ × ℕ) → sizes_at ws ≡ Ok n → SizesAre ws n
unfolding sizes_at
sizes_take ws n e =
    let a = bind_ok (after (codes "sizes") ws) (λ rest. first_in rest >>= λ first. positive_in first.0 >>= λ nx. first_in first.1 >>= λ second. positive_in second.0 >>= λ ny. ended second.1 >>= λ _. both_sized nx ny) n e in
    let f = bind_ok (first_in a.0) (λ first. positive_in first.0 >>= λ nx. first_in first.1 >>= λ second. positive_in second.0 >>= λ ny. ended second.1 >>= λ _. both_sized nx ny) n a.2 in
    let p = bind_ok (positive_in f.0.0) (λ nx. first_in f.0.1 >>= λ second. positive_in second.0 >>= λ ny. ended second.1 >>= λ _. both_sized nx ny) n f.2 in
    let s = bind_ok (first_in f.0.1) (λ second. positive_in second.0 >>= λ ny. ended second.1 >>= λ _. both_sized p.0 ny) n p.2 in
    let q = bind_ok (positive_in s.0.0) (λ ny. ended s.0.1 >>= λ _. both_sized p.0 ny) n s.2 in
    let d = bind_ok (ended s.0.1) (λ _. both_sized p.0 q.0) n q.2 in
    let b = both_sized_are p.0 q.0 n d.2 in
    let r = positive_read f.0.0 p.0 p.1 (omega (arith, b.1)) in
    let t = positive_read s.0.0 q.0 q.1 (omega (arith, b.2)) in
    subst (SizesAre ws) {x = (p.0, q.0)} b.0 (record {
      words = after_takes (codes "sizes") ws a.0 a.1 ∙ ap (λ (v : List Word). codes "sizes" ∷ v)
          (first_takes a.0 f.0 f.1 ∙ ap (λ (v : Word). v ∷ f.0.1) (sym r.0)
          ∙ ap (λ (v : List Word). decimal p.0 ∷ v) (first_takes f.0.1 s.0 s.1 ∙ ap (λ (v : Word). v ∷ s.0.1) (sym t.0) ∙ ap (λ (v : List Word). decimal q.0 ∷ v) (ended_takes s.0.1 d.0 d.1)));
      some_x = r.1;
      some_y = t.1;
      few_x = b.1;
      few_y = b.2;
    })

pub end_takes : (counts : Counts) (ws x : List Word) → end_at counts ws ≡ Ok x → (ws ≡ end_words) × (are_few counts ≡ true)
unfolding end_at
end_takes counts ws x e =
    let a = bind_ok (after (codes "end") ws) (λ rest. ended rest >>= λ _. cond (are_few counts) (Ok []) (Err TooMany)) x e in
    let d = bind_ok (ended a.0) (λ _. cond (are_few counts) (Ok []) (Err TooMany)) x a.2 in
    let g = by_test (are_few counts) [] TooMany x d.2 in
    (after_takes (codes "end") ws a.0 a.1 ∙ ap (λ (v : List Word). codes "end" ∷ v) (ended_takes a.0 d.0 d.1), g.0)

pub lcp_end_takes : (n : ℕ) (rows : List Terms) (ws x : List Word) → lcp_end_at n rows ws ≡ Ok x → (ws ≡ end_words) × (length rows ≡ n) × (are_few (lcp_counts n rows) ≡ true)
unfolding lcp_end_at
lcp_end_takes n rows ws x e =
    let g = if_test (eqb (length rows) n) (end_at (lcp_counts n rows) ws) BadLine x e in
    let t = end_takes (lcp_counts n rows) ws x g.1 in
    (t.0, eqb-true (length rows) n g.0, t.1)
