-- The dictionary at a list of forms is one and the same, up to order.
use Rattle.std.proofs.Common.{ℕ, zero, suc, ◌*◌, ◌≤◌, ◌<◌, ◌≡◌, ◌∙◌, refl, sym, ap, subst, arith, ℤ, pos, negsuc, ◌+ℤ◌, ◌*ℤ◌, ◌<ℤ◌, List, [], ◌∷◌, ◌++◌, length, cond, eqb}
use Rattle.std.proofs.lemmas.Int.{ints}
use Rattle.std.proofs.lemmas.Nat.Gcd.{dvd-zero, dvd_antisymm}
use Rattle.std.proofs.Math.Nat.{dvd-mul_left}
use Rattle.std.specs.Prelude.{unsigned_abs}
use Rattle.std.specs.List.{AllByRecursion}
use Prim.Native.Nat.{◌∣◌}
use Rattle.lpcc_case.specs.declared.form.Form.{Form}
use Rattle.lpcc_case.specs.Instance.{Instance}
use Rattle.lpcc_case.specs.Points.{coefficient}
use Rattle.dict.specs.Terms.{weigh, only}
use Rattle.dict.specs.Equations.{Equation, equation, Holds, Divides, DividesEach}
use Rattle.dict.specs.Dictionaries.{Dictionary, row_at, form_at}
use Rattle.dict.specs.Forms.{Affine, AreIndependent, IsDictionaryAt, IsRenumbering, IsRenumbered, affine_of, affine_at}
use Rattle.dict.proofs.Machine.{is_pos}
use Rattle.dict.proofs.SparseSums.{weigh_only, weigh_same_below, terms_below, only_same, only_apart}
use Rattle.lpcc_case.proofs.Shares.{share_other}
use Rattle.dict.proofs.Reduces.{cancel}
use Rattle.dict.proofs.Pivots.{by_lt, by_eq}
use Rattle.dict.proofs.Determined.{IsSameRow, determined, common_of, EachTimes, each_times, divides_cross}

-- the terms with their places renumbered
renumber : (ℕ → ℕ) → List (ℕ × ℤ) → List (ℕ × ℤ)
renumber to [] = []
renumber to (t ∷ ts) = (to t.0, t.1) ∷ renumber to ts

weigh_renumber : (to : ℕ → ℕ) (ts : List (ℕ × ℤ)) (v : ℕ → ℤ) → weigh (renumber to ts) v ≡ weigh ts (λ j. v (to j))
unfolding renumber
weigh_renumber to [] v = refl
weigh_renumber to (t ∷ ts) v = ap (λ z. (t.1 *ℤ v (to t.0)) +ℤ z) (weigh_renumber to ts v)

below_renumber : (to : ℕ → ℕ) (n n' : ℕ) (ts : List (ℕ × ℤ)) → ((j : ℕ) → j < n' → to j < n) → AllByRecursion (λ t. t.0 < n') ts → AllByRecursion (λ t. t.0 < n) (renumber to ts)
unfolding renumber
below_renumber to n n' [] within all = tt
below_renumber to n n' (t ∷ ts) within all = (within t.0 all.0, below_renumber to n n' ts within all.1)

coefficient_renumber : (to : ℕ → ℕ) (n' l : ℕ) (ts : List (ℕ × ℤ)) → ((j : ℕ) → j < n' → to j ≡ to l → j ≡ l) → AllByRecursion (λ t. t.0 < n') ts → coefficient (renumber to ts) (to l) ≡ coefficient ts l
coefficient_renumber to n' l ts injective all =
    sym (weigh_only (renumber to ts) (to l))
    ∙ weigh_renumber to ts (only (to l))
    ∙ weigh_same_below n' ts (λ j. only (to l) (to j)) (only l) all
    (λ j h.
    by_eq j l
    (λ same. ap (λ i. only (to l) (to i)) same ∙ only_same (to l) ∙ sym (ap (λ i. only l i) same ∙ only_same l))
    (λ other. only_apart (to l) (to j) (λ e. other (injective j h e)) ∙ sym (only_apart l j other)))
    ∙ weigh_only ts l

difference : (a b : ℤ) → a ≡ b → (pos 1 *ℤ a) +ℤ ((negsuc 0 *ℤ b) +ℤ pos 0) ≡ pos 0
difference a b e = omega (arith, ints, e)

one_apart : (a b : ℤ) → a ≡ pos 1 → b ≡ pos 0 → (pos 1 *ℤ a) +ℤ ((negsuc 0 *ℤ b) +ℤ pos 0) ≡ pos 0 → ⊥
one_apart a b ea eb e = omega (arith, ints, ea, eb, e)

-- independent forms are distinct
distinct : (n : ℕ) (g : ℕ → Affine) (j l : ℕ) → AreIndependent n g → j < n → l < n → ((x : ℕ → ℤ) → g j x (pos 0) ≡ g l x (pos 0)) → j ≡ l
distinct n g j l independent hj hl same =
    by_eq j l (λ e. e)
    (λ other.
    let c : List (ℕ × ℤ) = (j, pos 1) ∷ (l, negsuc 0) ∷ [] in
    let sum : (x : ℕ → ℤ) → weigh c (λ i. g i x (pos 0)) ≡ pos 0 = λ x. difference (g j x (pos 0)) (g l x (pos 0)) (same x) in
    let none : coefficient c j ≡ pos 0 = independent c (hj, (hl, tt)) sum j in
    absurd (one_apart (only j j) (only j l) (only_same j) (only_apart j l (λ e. other (sym e))) (weigh_only c j ∙ none)))

-- all numbers of all rows, but the denominators
numbers : List Equation → List (ℕ × ℤ)
numbers [] = []
numbers (q ∷ qs) = (0, q.constant) ∷ (q.entries ++ numbers qs)

split_each : (g : ℕ) (xs ys : List (ℕ × ℤ)) → DividesEach g (xs ++ ys) → DividesEach g xs × DividesEach g ys
split_each g [] ys h = (tt, h)
split_each g (x ∷ xs) ys h = let r = split_each g xs ys h.1 in ((h.0, r.0), r.1)

join_times : (d k : ℕ) (xs ys : List (ℕ × ℤ)) → EachTimes d k xs → EachTimes d k ys → EachTimes d k (xs ++ ys)
join_times d k [] ys h i = i
join_times d k (x ∷ xs) ys h i = (h.0, join_times d k xs ys h.1 i)

each_row : (g : ℕ) (rows : List Equation) (i : ℕ) → i < length rows → DividesEach g (numbers rows) → (g ∣ unsigned_abs (row_at rows i).constant) × DividesEach g (row_at rows i).entries
unfolding numbers
each_row g [] i h all = absurd (omega arith)
each_row g (q ∷ qs) zero h all = (all.0, (split_each g q.entries (numbers qs) all.1).0)
each_row g (q ∷ qs) (suc i) h all = each_row g qs i (omega arith) (split_each g q.entries (numbers qs) all.1).1

times_rows : (d k : ℕ) (rows : List Equation) → ((i : ℕ) → i < length rows → (d ∣ k * unsigned_abs (row_at rows i).constant) × EachTimes d k (row_at rows i).entries) → EachTimes d k (numbers rows)
unfolding numbers
times_rows d k [] h = tt
times_rows d k (q ∷ qs) h =
    let here = h 0 (omega arith) in
    (here.0, join_times d k q.entries (numbers qs) here.1 (times_rows d k qs (λ i l. h (suc i) (omega (arith, l)))))

-- where rows over d have no common divisor, d divides what it divides times each number
joint : (rows : List Equation) (d k : ℕ) → ((i : ℕ) → i < length rows → unsigned_abs (row_at rows i).den ≡ d) → ((n : ℕ) → ((i : ℕ) → i < length rows → Divides n (row_at rows i)) → n ≡ 1) → ((i : ℕ) → i < length rows → (d ∣ k * unsigned_abs (row_at rows i).constant) × EachTimes d k (row_at rows i).entries) → d ∣ k
joint rows d k den reduced times =
    let r = common_of d (numbers rows) in
    let one : r.g ≡ 1 = reduced r.g (λ i h.
    let e = each_row r.g rows i h r.each in
    record { den = subst (λ (n : ℕ). r.g ∣ n) (sym (den i h)) r.first; constant = e.0; entries = e.1 }) in
    let h : d ∣ k * 1 = subst (λ (g : ℕ). d ∣ k * g) one (r.times d k (dvd-mul_left d k) (times_rows d k rows times)) in
    let e : k * 1 ≡ k = omega arith in
    subst (λ (n : ℕ). d ∣ n) e h

-- two dictionaries at lists of the same forms
record Both (a : Instance) (places rows back : ℕ → ℕ) (d t : Dictionary) : Type 0 where
  one : IsDictionaryAt a d
  two : IsDictionaryAt a t
  nonbasic : IsRenumbering places t.nonbasic d.nonbasic
  basic : IsRenumbering rows t.basic d.basic
  other : IsRenumbering back d.basic t.basic

renumbered : (ℕ → ℕ) → Equation → Equation
renumbered to q = equation q.den q.constant (renumber to q.entries)

same_row : (a : Instance) (places rows back : ℕ → ℕ) (d t : Dictionary) (i k : ℕ) → Both a places rows back d t → i < length d.rows → k < length t.rows → form_at d.basic i ≡ form_at t.basic k → IsSameRow (row_at d.rows i) (renumbered places (row_at t.rows k))
unfolding renumbered
same_row a places rows back d t i k b hi hk same =
    let n = length d.nonbasic in
    let n' = length t.nonbasic in
    let q = row_at t.rows k in
    let below : AllByRecursion (λ u. u.0 < n') q.entries = terms_below b.two.bound 0 n' q.entries (b.two.rows k hk).entries in
    let moved : (x : ℕ → ℤ) (one : ℤ) → weigh (renumber places q.entries) (λ j. affine_at a d.nonbasic j x one) ≡ weigh q.entries (λ j. affine_at a t.nonbasic j x one) = λ x one.
    weigh_renumber places q.entries (λ j. affine_at a d.nonbasic j x one) ∙ weigh_same_below n' q.entries (λ j. affine_at a d.nonbasic (places j) x one) (λ j. affine_at a t.nonbasic j x one) below (λ j h. ap (λ (f : Form). affine_of a f x one) (b.nonbasic.same j h)) in
    determined n (row_at d.rows i) (equation q.den q.constant (renumber places q.entries)) (affine_of a (form_at d.basic i)) (affine_at a d.nonbasic) b.one.of.independent (terms_below b.one.bound 0 n (row_at d.rows i).entries (b.one.rows i hi).entries) (below_renumber places n n' q.entries b.nonbasic.within below) (λ x one. b.one.of.identities x one i hi)
    (λ x one.
    let h : Holds q (affine_of a (form_at t.basic k) x one) (λ j. affine_at a t.nonbasic j x one) one = b.two.of.identities x one k hk in
    let f : affine_of a (form_at d.basic i) x one ≡ affine_of a (form_at t.basic k) x one = ap (λ (g : Form). affine_of a g x one) same in
    ap (λ z. q.den *ℤ z) f ∙ h ∙ ap (λ z. z +ℤ (q.constant *ℤ one)) (sym (moved x one)))

injective : (a : Instance) (places rows back : ℕ → ℕ) (d t : Dictionary) (l j : ℕ) → Both a places rows back d t → l < length t.nonbasic → j < length t.nonbasic → places j ≡ places l → j ≡ l
injective a places rows back d t l j b hl hj e =
    distinct (length t.nonbasic) (affine_at a t.nonbasic) j l b.two.of.independent hj hl
    (λ x. ap (λ (f : Form). affine_of a f x (pos 0)) (sym (b.nonbasic.same j hj) ∙ ap (λ i. form_at d.nonbasic i) e ∙ b.nonbasic.same l hl))

-- the entries of the one row, times the other's denominator
same_entry : (a : Instance) (places rows back : ℕ → ℕ) (d t : Dictionary) (i k l : ℕ) → Both a places rows back d t → i < length d.rows → k < length t.rows → l < length t.nonbasic → form_at d.basic i ≡ form_at t.basic k → coefficient (row_at d.rows i).entries (places l) *ℤ (row_at t.rows k).den ≡ coefficient (row_at t.rows k).entries l *ℤ (row_at d.rows i).den
unfolding renumbered
same_entry a places rows back d t i k l b hi hk hl same =
    let s = same_row a places rows back d t i k b hi hk same in
    let below = terms_below b.two.bound 0 (length t.nonbasic) (row_at t.rows k).entries (b.two.rows k hk).entries in
    s.entries (places l) ∙ ap (λ z. z *ℤ (row_at d.rows i).den) (coefficient_renumber places (length t.nonbasic) l (row_at t.rows k).entries (λ j hj e. injective a places rows back d t l j b hl hj e) below)

pub past_places : (n l : ℕ) (ts : List (ℕ × ℤ)) → n ≤ l → AllByRecursion (λ t. t.0 < n) ts → coefficient ts l ≡ pos 0
past_places n l [] h all = refl
past_places n l (t ∷ ts) h all =
    let e : cond (eqb t.0 l) t.1 (pos 0) ≡ pos 0 = share_other t.0 l t.1 (λ same. omega (arith, all.0, h, same)) in
    omega (arith, ints, e, past_places n l ts h all.1)

back_inside : (a : Instance) (places rows back : ℕ → ℕ) (d t : Dictionary) (i : ℕ) → Both a places rows back d t → i < length d.rows → back i < length t.rows
back_inside a places rows back d t i b h = omega (arith, b.one.size, b.two.size, b.other.within i (omega (arith, h, b.one.size)))

rows_inside : (a : Instance) (places rows back : ℕ → ℕ) (d t : Dictionary) (k : ℕ) → Both a places rows back d t → k < length t.rows → rows k < length d.rows
rows_inside a places rows back d t k b h = omega (arith, b.one.size, b.two.size, b.basic.within k (omega (arith, h, b.two.size)))

size_is : (a : Instance) (d : Dictionary) (i : ℕ) → (is : IsDictionaryAt a d) → i < length d.rows → unsigned_abs (row_at d.rows i).den ≡ unsigned_abs is.den
size_is a d i is h = ap unsigned_abs (is.one_den i h)

-- the denominator of the one divides that of the other
one_way : (a : Instance) (places rows back : ℕ → ℕ) (d t : Dictionary) → (b : Both a places rows back d t) → unsigned_abs b.one.den ∣ unsigned_abs b.two.den
unfolding renumbered
one_way a places rows back d t b =
    joint d.rows (unsigned_abs b.one.den) (unsigned_abs b.two.den) (λ i h. size_is a d i b.one h) b.one.reduced
    (λ i h.
    let k = back i in
    let hk = back_inside a places rows back d t i b h in
    let s = same_row a places rows back d t i k b h hk (sym (b.other.same i (omega (arith, h, b.one.size)))) in
    let q = row_at d.rows i in
    let m = row_at t.rows k in
    let divides : (z y : ℤ) → z *ℤ m.den ≡ y *ℤ q.den → unsigned_abs b.one.den ∣ unsigned_abs b.two.den * unsigned_abs z = λ z y e.
    subst (λ (n : ℕ). n ∣ unsigned_abs b.two.den * unsigned_abs z) (size_is a d i b.one h) (subst (λ (n : ℕ). unsigned_abs q.den ∣ n * unsigned_abs z) (size_is a t k b.two hk) (divides_cross z y q.den m.den e)) in (
      divides q.constant m.constant s.constant,
      each_times b.one.bound 0 (length d.nonbasic) (unsigned_abs b.one.den) (unsigned_abs b.two.den) q.entries (b.one.rows i h).entries (λ j. divides (coefficient q.entries j) (coefficient (renumber places m.entries) j) (s.entries j)),
    ))

zero_multiple : (d k : ℕ) → d ∣ k * unsigned_abs (pos 0)
zero_multiple d k = let e : 0 ≡ k * unsigned_abs (pos 0) = omega arith in subst (λ (n : ℕ). d ∣ n) e (dvd-zero d)

other_way : (a : Instance) (places rows back : ℕ → ℕ) (d t : Dictionary) → (b : Both a places rows back d t) → unsigned_abs b.two.den ∣ unsigned_abs b.one.den
unfolding renumbered
other_way a places rows back d t b =
    joint t.rows (unsigned_abs b.two.den) (unsigned_abs b.one.den) (λ k h. size_is a t k b.two h) b.two.reduced
    (λ k h.
    let i = rows k in
    let hi = rows_inside a places rows back d t k b h in
    let form = b.basic.same k (omega (arith, h, b.two.size)) in
    let s = same_row a places rows back d t i k b hi h form in
    let q = row_at d.rows i in
    let m = row_at t.rows k in
    let divides : (z y : ℤ) → z *ℤ q.den ≡ y *ℤ m.den → unsigned_abs b.two.den ∣ unsigned_abs b.one.den * unsigned_abs z = λ z y e.
    subst (λ (n : ℕ). n ∣ unsigned_abs b.one.den * unsigned_abs z) (size_is a t k b.two h) (subst (λ (n : ℕ). unsigned_abs m.den ∣ n * unsigned_abs z) (size_is a d i b.one hi) (divides_cross z y m.den q.den e)) in (
      divides m.constant q.constant (sym s.constant),
      each_times b.two.bound 0 (length t.nonbasic) (unsigned_abs b.two.den) (unsigned_abs b.one.den) m.entries (b.two.rows k h).entries
          (λ l.
          by_lt l (length t.nonbasic)
          (λ lt. divides (coefficient m.entries l) (coefficient q.entries (places l)) (sym (same_entry a places rows back d t i k l b hi h lt form)))
          (λ ge. subst (λ (z : ℤ). unsigned_abs b.two.den ∣ unsigned_abs b.one.den * unsigned_abs z) (sym (past_places (length t.nonbasic) l m.entries ge (terms_below b.two.bound 0 (length t.nonbasic) m.entries (b.two.rows k h).entries))) (zero_multiple (unsigned_abs b.two.den) (unsigned_abs b.one.den)))),
    ))

same_size : (x y : ℤ) → pos 0 <ℤ x → pos 0 <ℤ y → unsigned_abs x ≡ unsigned_abs y → x ≡ y
same_size x y hx hy e = omega (arith, ints, hx, hy, e)

cancelled : (z y d e : ℤ) → pos 0 <ℤ d → e ≡ d → z *ℤ e ≡ y *ℤ d → y ≡ z
cancelled z y d e over same h =
    let x : z *ℤ d ≡ y *ℤ d = ap (λ i. z *ℤ i) (sym same) ∙ h in
    cancel y z (unsigned_abs d) (omega (arith, ints, over)) (subst (λ (i : ℤ). y *ℤ i ≡ z *ℤ i) (is_pos d over) (sym x))

pub same_up_to_order : (a : Instance) (places rows back : ℕ → ℕ) (d t : Dictionary) → IsDictionaryAt a d → IsDictionaryAt a t → IsRenumbering places t.nonbasic d.nonbasic → IsRenumbering rows t.basic d.basic → IsRenumbering back d.basic t.basic → IsRenumbered places rows d t
unfolding renumbered
same_up_to_order a places rows back d t one two nonbasic basic other =
    let b : Both a places rows back d t = record { one = one; two = two; nonbasic = nonbasic; basic = basic; other = other } in
    let sizes : unsigned_abs one.den ≡ unsigned_abs two.den = dvd_antisymm (one_way a places rows back d t b) (other_way a places rows back d t b) in
    let dens : (k : ℕ) → k < length t.rows → (row_at t.rows k).den ≡ (row_at d.rows (rows k)).den = λ k h.
    let hi = rows_inside a places rows back d t k b h in
    same_size (row_at t.rows k).den (row_at d.rows (rows k)).den (two.rows k h).positive (one.rows (rows k) hi).positive (size_is a t k two h ∙ sym sizes ∙ sym (size_is a d (rows k) one hi)) in
    record {
      den = dens;
      constant = λ k h.
          let hi = rows_inside a places rows back d t k b h in
          let s = same_row a places rows back d t (rows k) k b hi h (basic.same k (omega (arith, h, two.size))) in
          cancelled (row_at d.rows (rows k)).constant (row_at t.rows k).constant (row_at d.rows (rows k)).den (row_at t.rows k).den (one.rows (rows k) hi).positive (dens k h) s.constant;
      entry = λ k j h hj.
          let hi = rows_inside a places rows back d t k b h in
          cancelled (coefficient (row_at d.rows (rows k)).entries (places j)) (coefficient (row_at t.rows k).entries j) (row_at d.rows (rows k)).den (row_at t.rows k).den (one.rows (rows k) hi).positive (dens k h) (same_entry a places rows back d t (rows k) k j b hi h hj (basic.same k (omega (arith, h, two.size))));
    }
