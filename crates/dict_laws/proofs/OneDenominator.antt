-- The dictionary over one denominator at the list of forms of a dictionary.
use Rattle.std.proofs.Common.{ℕ, zero, suc, ◌+◌, ◌*◌, ◌/◌, ◌^◌, ◌≤◌, ◌<◌, ◌≡◌, ◌∙◌, sym, ap, subst, arith, ℤ, pos, ◌*ℤ◌, ◌<ℤ◌, List, [], ◌∷◌, ◌++◌, length, map}
use Rattle.std.specs.Prelude.{unsigned_abs}
use Rattle.std.proofs.lemmas.Int.{ints, unsigned_abs-mul}
use Rattle.std.proofs.lemmas.List.{get_or-map, length-map, length-append}
use Rattle.std.proofs.lemmas.List.FromFn.{length-range_with_len}
use Rattle.std.proofs.lemmas.List.Sorted.{length_permutation}
use Rattle.std.proofs.lemmas.Nat.Gcd.{dvd_trans, dvd-zero}
use Rattle.std.proofs.Math.Nat.{mul-le-mul, div-mul_cancel, dvd-mul_right, dvd-mul_left}
use Rattle.std.specs.List.{range_with_len}
use Prim.Native.Nat.{◌∣◌}
use Rattle.lpcc_case.specs.declared.form.Form.TheVariants.{Col, Con, Cost}
use Rattle.lpcc_case.specs.Instance.{Instance}
use Rattle.dict.specs.Terms.{AreTerms}
use Rattle.dict.specs.Equations.{Equation, equation, Divides, DividesEach, Holds, IsRow, IsMultiple, scale, scaled}
use Rattle.dict.specs.Dictionaries.{Dictionary, IsDictionary, row_at, form_at}
use Rattle.dict.specs.Forms.{IsDictionaryOf, IsDictionaryAt, affine_of, forms_of, with_rows}
use Rattle.dict.proofs.Commons.{above}
use Rattle.dict.proofs.Determined.{EachTimes, common_of}
use Rattle.dict.proofs.Exchanges.{positive}
use Rattle.dict.proofs.LawsOfDictionaries.{row_at_list}
use Rattle.dict.proofs.Reduces.{cancel, divided, divided_exact, divides_scaled, holds_scaled, holds_unscaled, only_one, unscaled_row}

-- ---- the greatest common divisor of all numbers of a list of rows

numbers : List Equation → List (ℕ × ℤ)
numbers [] = []
numbers (q ∷ qs) = (0, q.den) ∷ (0, q.constant) ∷ (q.entries ++ numbers qs)

split_each : (g : ℕ) (xs ys : List (ℕ × ℤ)) → DividesEach g (xs ++ ys) → DividesEach g xs × DividesEach g ys
split_each g [] ys h = (tt, h)
split_each g (x ∷ xs) ys h = let rest = split_each g xs ys h.1 in ((h.0, rest.0), rest.1)

join_each : (g : ℕ) (xs ys : List (ℕ × ℤ)) → DividesEach g xs → DividesEach g ys → DividesEach g (xs ++ ys)
join_each g [] ys h k = k
join_each g (x ∷ xs) ys h k = (h.0, join_each g xs ys h.1 k)

from_numbers : (g : ℕ) (rows : List Equation) (i : ℕ) → i < length rows → DividesEach g (numbers rows) → Divides g (row_at rows i)
unfolding numbers
from_numbers g [] i h all = absurd (omega arith)
from_numbers g (q ∷ qs) zero h all = record { den = all.0; constant = all.1.0; entries = (split_each g q.entries (numbers qs) all.1.1).0 }
from_numbers g (q ∷ qs) (suc i) h all = from_numbers g qs i (omega arith) (split_each g q.entries (numbers qs) all.1.1).1

to_numbers : (g : ℕ) (rows : List Equation) → ((i : ℕ) → i < length rows → Divides g (row_at rows i)) → DividesEach g (numbers rows)
unfolding numbers
to_numbers g [] each = tt
to_numbers g (q ∷ qs) each =
    let here : Divides g q = each 0 (omega arith) in
    (here.den, (here.constant, join_each g q.entries (numbers qs) here.entries (to_numbers g qs (λ i h. each (suc i) (omega arith)))))

once : (n : ℕ) → n ≡ 1 * n
once n = omega arith

each_once : (d : ℕ) (ts : List (ℕ × ℤ)) → DividesEach d ts → EachTimes d 1 ts
each_once d [] h = tt
each_once d (t ∷ ts) h = (subst (λ (n : ℕ). d ∣ n) (once (unsigned_abs t.1)) h.0, each_once d ts h.1)

pub record CommonOfRows (rows : List Equation) : Type 0 where
  pub g : ℕ
  pub divides : (i : ℕ) → i < length rows → Divides g (row_at rows i)
  pub greatest : (d : ℕ) → ((i : ℕ) → i < length rows → Divides d (row_at rows i)) → d ∣ g

pub common_of_rows : (rows : List Equation) → CommonOfRows rows
common_of_rows rows =
    let c = common_of 0 (numbers rows) in
    record {
      g = c.g;
      divides = λ i h. from_numbers c.g rows i h c.each;
      greatest = λ d each.
          let all = c.times d 1 (dvd-zero d) (each_once d (numbers rows) (to_numbers d rows each)) in
          subst (λ (n : ℕ). d ∣ n) (sym (once c.g)) all;
    }

-- ---- a common multiple of the denominators

pub dens : List Equation → ℕ
dens [] = 1
dens (q ∷ qs) = unsigned_abs q.den * dens qs

den_divides : (rows : List Equation) (i : ℕ) → i < length rows → unsigned_abs (row_at rows i).den ∣ dens rows
unfolding dens
den_divides [] i h = absurd (omega arith)
den_divides (q ∷ qs) zero h = dvd-mul_right (unsigned_abs q.den) (dens qs)
den_divides (q ∷ qs) (suc i) h = dvd_trans (unsigned_abs (row_at qs i).den) (den_divides qs i (omega arith)) (dvd-mul_left (dens qs) (unsigned_abs q.den))

dens_positive : (rows : List Equation) → ((i : ℕ) → i < length rows → pos 0 <ℤ (row_at rows i).den) → 0 < dens rows
unfolding dens
dens_positive [] each = omega arith
dens_positive (q ∷ qs) each =
    let here : pos 0 <ℤ q.den = each 0 (omega arith) in
    let some : 1 ≤ unsigned_abs q.den = omega (arith, ints, here) in
    let rest : 1 ≤ dens qs = dens_positive qs (λ i h. each (suc i) (omega arith)) in
    let both : 1 * 1 ≤ unsigned_abs q.den * dens qs = mul-le-mul some rest in
    omega (arith, both)

-- ---- a row times a whole number

grown : (z : ℤ) (b k p : ℕ) → unsigned_abs z < b → 0 < k → k ≤ p → unsigned_abs (z *ℤ pos k) < b * p
grown z b k p small some le =
    let all : (unsigned_abs z + 1) * k ≤ b * p = mul-le-mul (omega (arith, small)) le in
    omega (arith, all, some, unsigned_abs-mul z (pos k))

not_gone : (z : ℤ) (k : ℕ) → 0 < unsigned_abs z → 0 < k → 0 < unsigned_abs (z *ℤ pos k)
not_gone z k hz hk =
    let both : 1 * 1 ≤ unsigned_abs z * k = mul-le-mul hz hk in
    omega (arith, both, unsigned_abs-mul z (pos k))

grown_terms : (b low high k p : ℕ) (ts : List (ℕ × ℤ)) → 0 < k → k ≤ p → AreTerms b low high ts → AreTerms (b * p) low high (scale (pos k) ts)
grown_terms b low high k p [] some le all = all
grown_terms b low high k p (t ∷ ts) some le all =
    (all.0, not_gone t.1 k all.1 some, grown t.1 b k p all.2 some le, grown_terms b (t.0 + 1) high k p ts some le all.3)

pub grown_row : (b places k p : ℕ) (q : Equation) → 0 < k → k ≤ p → IsRow b places q → IsRow (b * p) places (scaled (pos k) q)
grown_row b places k p q some le is = record {
  positive = positive q.den (pos k) is.positive (omega (arith, ints, some));
  den = grown q.den b k p is.den some le;
  constant = grown q.constant b k p is.constant some le;
  entries = grown_terms b 0 places k p q.entries some le is.entries;
}

-- ---- the rows over one denominator

-- each row over the product of the denominators
widened : ℕ → Equation → Equation
widened p q = scaled (pos (p / unsigned_abs q.den)) q

pub record IsWidened (bound places p : ℕ) (q m : Equation) : Type 0 where
  pub row : IsRow (bound * p) places m
  pub den : m.den ≡ pos p
  pub holds : (f one : ℤ) (v : ℕ → ℤ) → Holds q f v one → Holds m f v one

whole_den : (d : ℤ) (p : ℕ) → pos 0 <ℤ d → p / unsigned_abs d * unsigned_abs d ≡ p → d *ℤ pos (p / unsigned_abs d) ≡ pos p
whole_den (pos n) p over e = omega (arith, ints, e)
whole_den (ℤ.negsuc n) p over e = absurd (omega (arith, ints, over))

some_quotient : (q d p : ℕ) → 0 < p → q * d ≡ p → (0 < q)
some_quotient zero d p h e = absurd (omega (arith, h, e))
some_quotient (suc q) d p h e = omega arith

few_quotient : (q d p : ℕ) → 0 < d → q * d ≡ p → q ≤ p
few_quotient q d p h e = let l : q * 1 ≤ q * d = mul-le-mul (omega arith) (omega (arith, h)) in omega (arith, l, e)

widen : (bound places p : ℕ) (q : Equation) → 0 < p → unsigned_abs q.den ∣ p → IsRow bound places q → IsWidened bound places p q (widened p q)
unfolding widened
widen bound places p q some divides is =
    let d = unsigned_abs q.den in
    let e : p / d * d ≡ p = div-mul_cancel d divides in
    let over : 0 < d = omega (arith, ints, is.positive) in
    record {
      row = grown_row bound places (p / d) p q (some_quotient (p / d) d p some e) (few_quotient (p / d) d p over e) is;
      den = whole_den q.den p is.positive e;
      holds = λ f one v h. holds_scaled q (p / d) f one v h;
    }

pub row_map : (f : Equation → Equation) (rows : List Equation) (i : ℕ) → i < length rows → row_at (map f rows) i ≡ f (row_at rows i)
row_map f rows i h = get_or-map f rows i (equation (pos 1) (pos 0) []) (equation (pos 1) (pos 0) []) h

pub one_denominator : (a : Instance) (d : Dictionary) (bound : ℕ) → IsDictionaryOf a d → length d.basic ≡ length d.rows → 0 < length d.rows → ((i : ℕ) → i < length d.rows → IsRow bound (length d.nonbasic) (row_at d.rows i)) → (rows : List Equation) × IsDictionaryAt a (with_rows rows d)
one_denominator a d bound of size some each =
    let n = length d.nonbasic in
    let p = dens d.rows in
    let over : 0 < p = dens_positive d.rows (λ i h. (each i h).positive) in
    let wide = map (widened p) d.rows in
    let count : length wide ≡ length d.rows = length-map d.rows (widened p) in
    let at : (i : ℕ) → i < length d.rows → IsWidened bound n p (row_at d.rows i) (row_at wide i) = λ i h. subst (λ (m : Equation). IsWidened bound n p (row_at d.rows i) m) (sym (row_map (widened p) d.rows i h)) (widen bound n p (row_at d.rows i) over (den_divides d.rows i h) (each i h)) in
    let c = common_of_rows wide in
    let g = c.g in
    let divides : (i : ℕ) → i < length d.rows → Divides g (row_at wide i) = λ i h. c.divides i (omega (arith, h, count)) in
    let g_some : 0 < g = above g (row_at wide 0).den (divides 0 some).den (at 0 some).row.positive in
    let rows = map (divided g) wide in
    let size_of : length rows ≡ length d.rows = length-map wide (divided g) ∙ count in
    let row_is : (i : ℕ) → i < length d.rows → row_at rows i ≡ divided g (row_at wide i) = λ i h. row_map (divided g) wide i (omega (arith, h, count)) in
    let exact : (i : ℕ) → i < length d.rows → scaled (pos g) (row_at rows i) ≡ row_at wide i = λ i h. ap (λ (q : Equation). scaled (pos g) q) (row_is i h) ∙ divided_exact g (row_at wide i) (divides i h) in
    let whole_of : (i : ℕ) → i < length d.rows → (row_at rows i).den *ℤ pos g ≡ pos p = λ i h. ap (λ (q : Equation). q.den) (exact i h) ∙ (at i h).den in
    let inside : (i : ℕ) → i < length rows → i < length d.rows = λ i h. omega (arith, h, size_of) in
    let holds : (x : ℕ → ℤ) (one : ℤ) (i : ℕ) → i < length rows → Holds (row_at rows i) (affine_of a (form_at d.basic i) x one) (λ j. affine_of a (form_at d.nonbasic j) x one) one = λ x one i h.
    holds_unscaled (row_at rows i) g (affine_of a (form_at d.basic i) x one) one (λ j. affine_of a (form_at d.nonbasic j) x one) g_some
    (subst (λ (q : Equation). Holds q (affine_of a (form_at d.basic i) x one) (λ j. affine_of a (form_at d.nonbasic j) x one) one) (sym (exact i (inside i h)))
    ((at i (inside i h)).holds (affine_of a (form_at d.basic i) x one) one (λ j. affine_of a (form_at d.nonbasic j) x one) (of.identities x one i (inside i h)))) in (
      rows,
      record {
        of = record { forms = of.forms; identities = holds; independent = of.independent };
        size = size ∙ sym size_of;
        bound = bound * p;
        rows = λ i h. unscaled_row (bound * p) g n (row_at rows i) g_some (subst (λ (q : Equation). IsRow (bound * p) n q) (sym (exact i (inside i h))) (at i (inside i h)).row);
        den = (row_at rows 0).den;
        one_den = λ i h. cancel (row_at rows i).den (row_at rows 0).den g g_some (whole_of i (inside i h) ∙ sym (whole_of 0 some));
        reduced = λ m all.
            only_one m g g_some (c.greatest (m * g)
            (λ i h.
            let k : i < length d.rows = omega (arith, h, count) in
            subst (λ (q : Equation). Divides (m * g) q) (exact i k) (divides_scaled m g (row_at rows i) (all i (omega (arith, k, size_of))))));
      },
    )

-- ---- a dictionary of a case has a row

forms_count : (a : Instance) → length (forms_of a) ≡ a.columns + (length a.constraints + 1)
forms_count a =
    let columns : length (map Col (range_with_len 0 a.columns)) ≡ a.columns = length-map (range_with_len 0 a.columns) Col ∙ length-range_with_len 0 a.columns in
    let rows : length (map Con (range_with_len 0 (length a.constraints))) ≡ length a.constraints = length-map (range_with_len 0 (length a.constraints)) Con ∙ length-range_with_len 0 (length a.constraints) in
    omega (
      arith,
      length-append (map Col (range_with_len 0 a.columns)) (map Con (range_with_len 0 (length a.constraints)) ++ Cost ∷ []),
      length-append (map Con (range_with_len 0 (length a.constraints))) (Cost ∷ []),
      columns,
      rows,
    )

pub some_row : (a : Instance) (d : Dictionary) → IsDictionary a.columns d → IsDictionaryOf a d → 0 < length d.rows
some_row a d is of =
    omega (arith, length_permutation (forms_of a) (d.nonbasic ++ d.basic) of.forms, length-append d.nonbasic d.basic, forms_count a, is.nonbasic, is.basic)

pub exists_at_list : (a : Instance) (d : Dictionary) → IsDictionary a.columns d → IsDictionaryOf a d → (rows : List Equation) × IsDictionaryAt a (with_rows rows d) × ((i : ℕ) → i < length d.rows → IsMultiple (row_at d.rows i) (row_at rows i))
exists_at_list a d is of =
    let found = one_denominator a d (2 ^ 63) of is.basic (some_row a d is of) (λ i h. subst (λ (n : ℕ). IsRow (2 ^ 63) n (row_at d.rows i)) (sym is.nonbasic) (is.rows i h).0) in
    (found.0, found.1, row_at_list a a.columns d found.0 is of found.1)
