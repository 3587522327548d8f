-- The last line that hints at each line.
use Rattle.std.proofs.Common.{◌≡◌, ℕ, zero, suc, ◌+◌, ◌<◌, Bool, true, false, not, ◌&&◌, cond, eqb, List, [], ◌∷◌, ◌++◌, length, take, drop, set, get_or, refl, sym, ap, subst, ◌∙◌, ◌⊎◌, inl, inr, arith}
use Rattle.std.specs.Prelude.{◌||◌, Some, slice_get, IfOk, Result, Ok, Err}
use Rattle.std.specs.List.{filter, list_any, range_with_len}
use Rattle.std.proofs.lemmas.Bool.{eqb-true, eq-eqb, ne_eqb}
use Rattle.std.proofs.lemmas.List.{length-set, length-take-le, take-append-drop, take_more, drop_more, get_or-set_same, get_or-set_other}
use Rattle.std.proofs.lemmas.List.Elements.{filter-append}
use Rattle.std.proofs.lemmas.Option.{slice_get_within, get_or_from_slice_get}
use Rattle.cert_text.specs.declared.cert.CertLine.{CertLine}
use Rattle.cert_text.specs.declared.cert.CertLine.TheVariants as line
use Rattle.migrating.specs.Migration.{names_hint, hints_at}
use Rattle.migrating.specs.Making.{hints_in, noted, last_hint, AreLast, AreLastHinted, AreRows}

both : (b : Bool) → b ≡ true → b ≡ false → ⊥
both true e f = absurd cc
both false e f = absurd cc

-- ---- one line more

pub noted_size : (last : List ℕ) (number : ℕ) (hints : List ℕ) → length (noted last number hints) ≡ length last
noted_size last number [] = refl
noted_size last number (g ∷ hints) = noted_size (set last g number) number hints ∙ length-set last g number

noted_at : (last : List ℕ) (number : ℕ) (hints : List ℕ) (h : ℕ) → h < length last → get_or (noted last number hints) h 0 ≡ cond (names_hint hints h) number (get_or last h 0)
noted_at last number [] h inside = refl
noted_at last number (g ∷ hints) h inside =
    noted_at (set last g number) number hints h (subst (λ (n : ℕ). h < n) (sym (length-set last g number)) inside) ∙ by (eqb g h) refl
  where
    same_ends : (b : Bool) → cond b number number ≡ number
    same_ends true = refl
    same_ends false = refl

    by : (t : Bool) → eqb g h ≡ t → cond (names_hint hints h) number (get_or (set last g number) h 0) ≡ cond (t || names_hint hints h) number (get_or last h 0)
    by true e =
        ap (λ (n : ℕ). cond (names_hint hints h) number n) (ap (λ (i : ℕ). get_or (set last i number) h 0) (eqb-true g h e) ∙ get_or-set_same last h number 0 inside)
        ∙ same_ends (names_hint hints h)
    by false e = ap (λ (n : ℕ). cond (names_hint hints h) number n) (get_or-set_other last g h number 0 (λ f. both (eqb g h) (eq-eqb g h (sym f)) e))

last_push : (above : ℕ) (xs : List CertLine) (y : CertLine) (h : ℕ) → last_hint above (xs ++ y ∷ []) h ≡ cond (names_hint (hints_in y) h) (above + length xs + 1) (last_hint above xs h)
last_push above [] y h = ap (λ (n : ℕ). cond (names_hint (hints_in y) h) n 0) (number above)
  where
    number : (n : ℕ) → n + 1 ≡ n + 0 + 1
    number n = omega arith
last_push above (x ∷ xs) y h =
    let e = last_push (above + 1) xs y h in
    by (names_hint (hints_in y) h) (names_hint (hints_in x) h) (last_hint (above + 1) xs h) (last_hint (above + 1) (xs ++ y ∷ []) h) e
  where
    by : (b c : Bool) (v w : ℕ) → w ≡ cond b (above + 1 + length xs + 1) v
        → cond (eqb w 0) (cond c (above + 1) 0) w ≡ cond b (above + length (x ∷ xs) + 1) (cond (eqb v 0) (cond c (above + 1) 0) v)
    by true c v w e =
        let long : w ≡ above + length (x ∷ xs) + 1 = omega (arith, e) in
        ap (λ (t : Bool). cond t (cond c (above + 1) 0) w) (ne_eqb w 0 (λ z. absurd (omega (arith, z, long)))) ∙ long
    by false c v w e = ap (λ (n : ℕ). cond (eqb n 0) (cond c (above + 1) 0) n) e

pub last_more : (lines : List CertLine) (at : ℕ) (y : CertLine) (last new : List ℕ) → at < length lines → y ≡ get_or lines at y → length last ≡ length lines
    → ((h : ℕ) → h < length lines → get_or last h 0 ≡ last_hint 0 (take at lines) h) → new ≡ noted last (at + 1) (hints_in y)
    → (length new ≡ length lines) × ((h : ℕ) → h < length lines → get_or new h 0 ≡ last_hint 0 (take (at + 1) lines) h)
last_more lines at y last new inside same size each e = (
  ap length e ∙ noted_size last (at + 1) (hints_in y) ∙ size,
  λ h here. ap (λ (l : List ℕ). get_or l h 0) e ∙ noted_at last (at + 1) (hints_in y) h (omega (arith, size, here))
      ∙ ap (λ (n : ℕ). cond (names_hint (hints_in y) h) (at + 1) n) (each h here)
      ∙ sym (ap (λ (ls : List CertLine). last_hint 0 ls h) (take_more lines at y inside ∙ ap (λ (z : CertLine). take at lines ++ z ∷ []) (sym same)) ∙ last_push 0 (take at lines) y h
      ∙ ap (λ (n : ℕ). cond (names_hint (hints_in y) h) n (last_hint 0 (take at lines) h)) (number_is (length (take at lines)) (length-take-le at lines (omega (arith, inside))))),
)
  where
    number_is : (n : ℕ) → n ≡ at → 0 + n + 1 ≡ at + 1
    number_is n e = omega (arith, e)

-- ---- which line is the last

hints_at_is : (y : CertLine) (h : ℕ) → hints_at h y ≡ names_hint (hints_in y) h
hints_at_is (line.Ray ng mult) h = refl
hints_at_is (line.Point ng e mult) h = refl
hints_at_is (line.Derived ng hints) h = refl

abbrev OrAbove : ℕ → ℕ → Type 0
OrAbove above v = (v ≡ 0) ⊎ (above < v)

above_or_none : (above : ℕ) (ys : List CertLine) (h : ℕ) → OrAbove above (last_hint above ys h)
above_or_none above [] h = inl refl
above_or_none above (y ∷ ys) h = by (eqb (last_hint (above + 1) ys h) 0) (names_hint (hints_in y) h) (last_hint (above + 1) ys h) (above_or_none (above + 1) ys h)
  where
    by : (t b : Bool) (v : ℕ) → OrAbove (above + 1) v → OrAbove above (cond t (cond b (above + 1) 0) v)
    by true true v o = inr (omega arith)
    by true false v o = inl refl
    by false b v (inl e) = inl e
    by false b v (inr l) = inr (omega (arith, l))

none_tells : (above : ℕ) (ys : List CertLine) (h : ℕ) → eqb (last_hint above ys h) 0 ≡ not (list_any (hints_at h) ys)
none_tells above [] h = refl
none_tells above (y ∷ ys) h =
    by (names_hint (hints_in y) h) (list_any (hints_at h) ys) (eqb v 0) v refl (none_tells (above + 1) ys h) ∙ ap (λ (b : Bool). not (b || list_any (hints_at h) ys)) (sym (hints_at_is y h))
  where
    v : ℕ
    v = last_hint (above + 1) ys h

    by : (b any t : Bool) (v : ℕ) → eqb v 0 ≡ t → t ≡ not any → eqb (cond t (cond b (above + 1) 0) v) 0 ≡ not (b || any)
    by true true true v e f = absurd cc
    by false true true v e f = absurd cc
    by b false false v e f = absurd cc
    by true true false v e f = e
    by false true false v e f = e
    by true false true v e f = ne_eqb (above + 1) 0 (λ z. absurd (omega (arith, z)))
    by false false true v e f = refl

last_is : (above : ℕ) (front : List CertLine) (y : CertLine) (rest : List CertLine) (h : ℕ)
    → eqb (last_hint above (front ++ y ∷ rest) h) (above + length front + 1) ≡ (names_hint (hints_in y) h && not (list_any (hints_at h) rest))
last_is above [] y rest h = by (names_hint (hints_in y) h) (list_any (hints_at h) rest) (last_hint (above + 1) rest h) (none_tells (above + 1) rest h) (above_or_none (above + 1) rest h)
  where
    by : (b any : Bool) (v : ℕ) → eqb v 0 ≡ not any → OrAbove (above + 1) v → eqb (cond (eqb v 0) (cond b (above + 1) 0) v) (above + 0 + 1) ≡ (b && not any)
    by true false v e o = ap (λ (t : Bool). eqb (cond t (above + 1) v) (above + 0 + 1)) e ∙ eq-eqb (above + 1) (above + 0 + 1) (omega arith)
    by false false v e o = ap (λ (t : Bool). eqb (cond t 0 v) (above + 0 + 1)) e ∙ ne_eqb 0 (above + 0 + 1) (λ z. absurd (omega (arith, z)))
    by b true v e (inl z) = absurd (both (eqb v 0) (eq-eqb v 0 z) e)
    by true true v e (inr l) = ap (λ (t : Bool). eqb (cond t (above + 1) v) (above + 0 + 1)) e ∙ ne_eqb v (above + 0 + 1) (λ z. absurd (omega (arith, z, l)))
    by false true v e (inr l) = ap (λ (t : Bool). eqb (cond t 0 v) (above + 0 + 1)) e ∙ ne_eqb v (above + 0 + 1) (λ z. absurd (omega (arith, z, l)))
last_is above (x ∷ front) y rest h =
    let v = last_hint (above + 1) (front ++ y ∷ rest) h in
    by (names_hint (hints_in x) h) (eqb v 0) v refl ∙ last_is (above + 1) front y rest h
  where
    by : (b t : Bool) (v : ℕ) → eqb v 0 ≡ t → eqb (cond t (cond b (above + 1) 0) v) (above + length (x ∷ front) + 1) ≡ eqb v (above + 1 + length front + 1)
    by true true v e = ne_eqb (above + 1) (above + length (x ∷ front) + 1) (λ z. absurd (omega (arith, z))) ∙ sym (ne_eqb v (above + 1 + length front + 1) (λ z. absurd (omega (arith, z, eqb-true v 0 e))))
    by false true v e = ne_eqb 0 (above + length (x ∷ front) + 1) (λ z. absurd (omega (arith, z))) ∙ sym (ne_eqb v (above + 1 + length front + 1) (λ z. absurd (omega (arith, z, eqb-true v 0 e))))
    by b false v e = ap (λ (n : ℕ). eqb v n) (same (length front))
      where
        same : (n : ℕ) → above + suc n + 1 ≡ above + 1 + n + 1
        same n = omega arith

-- ---- the lines that are dropped

filter_same : (p q : ℕ → Bool) (from count : ℕ) → ((h : ℕ) → h < from + count → p h ≡ q h) → filter p (range_with_len from count) ≡ filter q (range_with_len from count)
filter_same p q from zero same = refl
filter_same p q from (suc count) same =
    ap (λ (b : Bool). cond b (from ∷ filter p (range_with_len (from + 1) count)) (filter p (range_with_len (from + 1) count))) (same from (omega arith))
    ∙ ap (λ (hs : List ℕ). cond (q from) (from ∷ hs) hs) (filter_same p q (from + 1) count (λ h l. same h (omega (arith, l))))

pub dropped_are : (lines : List CertLine) (last : List ℕ) (rows : List (List ℕ)) → AreLast lines last → AreRows last (length last) rows → AreLastHinted lines rows
dropped_are lines last rows l r = record {
  size = r.size ∙ l.size;
  each = λ k y e. r.each k (omega (arith, slice_get_within lines k y e, l.size)) ∙ ap (λ (n : ℕ). filter (λ h. eqb (get_or last h 0) (k + 1)) (range_with_len 0 n)) l.size
      ∙ filter_same (λ h. eqb (get_or last h 0) (k + 1)) (λ h. names_hint (hints_in y) h && not (list_any (hints_at h) (drop (k + 1) lines))) 0 (length lines)
      (λ h inside. ap (λ (n : ℕ). eqb n (k + 1)) (l.each h (omega (arith, inside))) ∙ here k y e h);
}
  where
    here : (k : ℕ) (y : CertLine) → slice_get lines k ≡ Some y → (h : ℕ) → eqb (last_hint 0 lines h) (k + 1) ≡ (names_hint (hints_in y) h && not (list_any (hints_at h) (drop (k + 1) lines)))
    here k y e h =
        let inside = slice_get_within lines k y e in
        let split : lines ≡ take k lines ++ y ∷ drop (k + 1) lines =
        sym (take-append-drop k lines) ∙ ap (λ (ls : List CertLine). take k lines ++ ls) (drop_more lines k y inside ∙ ap (λ (z : CertLine). z ∷ drop (k + 1) lines) (get_or_from_slice_get lines k y y e)) in
        ap (λ (ls : List CertLine). eqb (last_hint 0 ls h) (k + 1)) split ∙ ap (λ (n : ℕ). eqb (last_hint 0 (take k lines ++ y ∷ drop (k + 1) lines) h) n) (number_is (length (take k lines)) (length-take-le k lines (omega (arith, inside))))
        ∙ last_is 0 (take k lines) y (drop (k + 1) lines) h
      where
        number_is : (n : ℕ) → n ≡ k → k + 1 ≡ 0 + n + 1
        number_is n e = omega (arith, e)

-- ---- rows

range_more : (from count : ℕ) → range_with_len from (count + 1) ≡ range_with_len from count ++ (from + count) ∷ []
range_more from zero = ap (λ (n : ℕ). n ∷ []) (none from)
  where
    none : (n : ℕ) → n ≡ n + 0
    none n = omega arith
range_more from (suc count) = ap (range_with_len from) (longer count) ∙ ap (λ (hs : List ℕ). from ∷ hs) (range_more (from + 1) count ∙ ap (λ (n : ℕ). range_with_len (from + 1) count ++ n ∷ []) (same count))
  where
    same : (n : ℕ) → from + 1 + n ≡ from + suc n
    same n = omega arith

    longer : (n : ℕ) → suc n + 1 ≡ suc (n + 1)
    longer n = omega arith

pub row_more : (last : List ℕ) (i number : ℕ) (rows new : List (List ℕ)) → i < length last → number ≡ get_or last i 0 → AreRows last i rows → length new ≡ length rows
    → ((k : ℕ) → k < length rows → get_or new k [] ≡ get_or rows k [] ++ cond (eqb number (k + 1)) (i ∷ []) []) → AreRows last (i + 1) new
row_more last i number rows new inside same h size each = record {
  size = size ∙ h.size;
  each = λ k here. each k (omega (arith, here, h.size)) ∙ ap (λ (hs : List ℕ). hs ++ cond (eqb number (k + 1)) (i ∷ []) []) (h.each k here)
      ∙ ap (λ (n : ℕ). filter (λ g. eqb (get_or last g 0) (k + 1)) (range_with_len 0 i) ++ cond (eqb n (k + 1)) (i ∷ []) []) same
      ∙ sym (ap (filter (λ g. eqb (get_or last g 0) (k + 1))) (range_more 0 i ∙ ap (λ (n : ℕ). range_with_len 0 i ++ n ∷ []) (zero_and i)) ∙ filter-append (λ g. eqb (get_or last g 0) (k + 1)) (range_with_len 0 i) (i ∷ []));
}
  where
    zero_and : (n : ℕ) → 0 + n ≡ n
    zero_and n = omega arith

pub rows_empty : (last : List ℕ) (rows : List (List ℕ)) → length rows ≡ length last → ((k : ℕ) → get_or rows k [] ≡ []) → AreRows last 0 rows
rows_empty last rows size each = record { size = size; each = λ k here. each k }

pub all_dropped : {V E : Type 0} (items : V → List (List ℕ)) (lines : List CertLine) (last last2 : List ℕ) (r : Result V E) → AreLast lines last → last2 ≡ last → IfOk r (λ v. AreRows last2 (length last2) (items v)) → IfOk r (λ v. AreLastHinted lines (items v))
all_dropped items lines last last2 (Err e) l same h = tt
all_dropped items lines last last2 (Ok v) l same h = dropped_are lines last (items v) l (subst (λ (xs : List ℕ). AreRows xs (length xs) (items v)) same h)
