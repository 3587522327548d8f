-- A number that is read as at most 10^38 meets the same limits.
use Rattle.std.proofs.Common.{◌≡◌, ℕ, zero, suc, ◌+◌, ◌-◌, ◌*◌, ◌^◌, ◌<◌, ◌≤◌, Bool, true, false, ◌&&◌, cond, ltb, leb, eqb, [], ◌∷◌, length, drop, get_or, Ok, Err, refl, sym, ap, ◌∙◌, inl, inr, arith, lit<, lit≤, ℤ, pos, negsuc}
use Rattle.std.specs.Prelude.{neg_ℤ, unsigned_abs}
use Rattle.std.specs.Char.{is_ascii_digit, digit_value}
use Rattle.std.specs.Str.{all_ascii_digits}
use Rattle.std.specs.Str.Parse.{digits_value, digits_value_after}
use Rattle.std.proofs.lemmas.Bool.{leb-true, lt-ltb, le-ltb, le-leb, lt-leb, and_parts, cases_lt, ne_eqb}
use Rattle.std.proofs.lemmas.Str.{digit_value_digit}
use Rattle.std.proofs.lemmas.List.{drop_more, drop_all}
use Rattle.cert_text.specs.declared.fault.CertWhy.{CertWhy}
use Rattle.cert_text.specs.declared.fault.CertWhy.TheVariants.{BadLine, NumberWide, BadCount}
use Rattle.cert_text.specs.Spelling.{Word}
use Rattle.cert_text.specs.Reading.{◌>>=◌, Reading, digits_at, natural_at, below_zero, whole_at, counted, index_at, positive, positive_at, factor, factor_at, cost_value, cost_value_at, count, count_at}
use Rattle.cert_text.specs.Capped.{most, cap, capped, capped_whole, with_digit, digits_from, capped_digits_at, capped_natural_at, capped_whole_at, negative_at, nonnegative_at}

cap_low : (n : ℕ) → n < most → cap n ≡ n
cap_low n h = ap (λ (t : Bool). cond t n most) (lt-ltb n most h)

cap_high : (n : ℕ) → most ≤ n → cap n ≡ most
cap_high n h = ap (λ (t : Bool). cond t n most) (le-ltb n most h)

-- what is the same for all numbers from 10^38 on does not see the cap
cap_same : {Y : Type 0} (f : ℕ → Y) (y : Y) → ((m : ℕ) → most ≤ m → f m ≡ y) → (n : ℕ) → f (cap n) ≡ f n
cap_same f y h n = elim (cases_lt n most) [
  | inl low ↦ ap f (cap_low n low)
  | inr high ↦ ap f (cap_high n high) ∙ h most (lit≤ tt) ∙ sym (h n high)
]

-- ---- digits

cap_step : (n d : ℕ) → cap (cap n * 10 + d) ≡ cap (n * 10 + d)
cap_step n d = elim (cases_lt n most) [
  | inl low ↦ ap (λ (m : ℕ). cap (m * 10 + d)) (cap_low n low)
  | inr high ↦ ap (λ (m : ℕ). cap (m * 10 + d)) (cap_high n high) ∙ cap_high (most * 10 + d) (omega arith) ∙ sym (cap_high (n * 10 + d) (omega (arith, high)))
]

-- the digits behind those of n
abbrev all_digits : ℕ → Word → Reading ℕ
all_digits n w = cond (all_ascii_digits w) (capped (digits_value_after 10 n w)) (Err BadLine)

digit_worth : (b : ℕ) → is_ascii_digit b ≡ true → digit_value b ≡ b - 48
digit_worth b e =
    let t = and_parts (leb 48 b) (leb b 57) e in
    let low : 48 ≤ b = leb-true _ _ t.0 in
    let high : b ≤ 57 = leb-true _ _ t.1 in
    omega (arith, digit_value_digit b (low, high), low)

digits_step : (n b : ℕ) (w : Word) (t : Bool) → is_ascii_digit b ≡ t → ((m : ℕ) → digits_from (cap m) w ≡ all_digits m w)
    → (cond t (capped (cap n * 10 + (b - 48))) (Err BadLine) >>= λ m. digits_from m w) ≡ cond (t && all_ascii_digits w) (capped (digits_value_after 10 (n * 10 + digit_value b) w)) (Err BadLine)
digits_step n b w true e next =
    ap (λ (m : ℕ). digits_from m w) (cap_step n (b - 48)) ∙ next (n * 10 + (b - 48)) ∙ ap (λ (d : ℕ). all_digits (n * 10 + d) w) (sym (digit_worth b e))
digits_step n b w false e next = refl

digits_are : (w : Word) (n : ℕ) → digits_from (cap n) w ≡ all_digits n w
digits_are [] n = refl
digits_are (b ∷ w) n = digits_step n b w (is_ascii_digit b) refl (λ m. digits_are w m)

capped_all : (w : Word) (t : Bool) → cond t (capped (digits_value 10 w)) (Err BadLine) ≡ (cond t (Ok (digits_value 10 w)) (Err BadLine) >>= capped)
capped_all w true = refl
capped_all w false = refl

pub digits_read : (w : Word) → digits_from 0 w ≡ capped_digits_at w
unfolding digits_at
digits_read w = ap (λ (n : ℕ). digits_from n w) (sym (cap_low 0 (lit< tt))) ∙ digits_are w 0 ∙ capped_all w (all_ascii_digits w)

digits_next : (v i : ℕ) (w : Word) → i < length w → digits_from v (drop i w) ≡ (with_digit v (get_or w i 0) >>= λ m. digits_from m (drop (i + 1) w))
digits_next v i w h = rw (drop_more w i 0 h) refl

pub digit_refused : (v i : ℕ) (w : Word) (why : CertWhy) → i < length w → Err why ≡ with_digit v (get_or w i 0) → digits_from v (drop i w) ≡ digits_from 0 w → Err why ≡ capped_digits_at w
digit_refused v i w why h e so_far = ap (λ (r : Reading ℕ). r >>= λ m. digits_from m (drop (i + 1) w)) e ∙ sym (digits_next v i w h) ∙ so_far ∙ digits_read w

pub digit_goes_on : (v i m : ℕ) (w : Word) → i < length w → Ok m ≡ with_digit v (get_or w i 0) → digits_from v (drop i w) ≡ digits_from 0 w → digits_from m (drop (i + 1) w) ≡ digits_from 0 w
digit_goes_on v i m w h e so_far = ap (λ (r : Reading ℕ). r >>= λ k. digits_from k (drop (i + 1) w)) e ∙ sym (digits_next v i w h) ∙ so_far

pub digits_end : (v i : ℕ) (w : Word) → length w ≤ i → digits_from v (drop i w) ≡ digits_from 0 w → Ok v ≡ capped_digits_at w
digits_end v i w h so_far = sym (ap (digits_from v) (drop_all i w h)) ∙ so_far ∙ digits_read w

-- ---- numbers of at least 0

uncapped : {Y : Type 0} (f : ℕ → Reading Y) → ((n : ℕ) → f (cap n) ≡ f n) → (r : Reading ℕ) → ((r >>= capped) >>= f) ≡ (r >>= f)
uncapped f h (Ok n) = h n
uncapped f h (Err why) = refl

index_same : (greatest n : ℕ) → greatest < 2 ^ 64 → counted greatest (cap n) ≡ counted greatest n
index_same greatest n small = cap_same (counted greatest) (Err NumberWide) (λ m h. wide m h) n
  where
    wide : (m : ℕ) → most ≤ m → counted greatest m ≡ Err NumberWide
    wide m h =
        ap (λ (t : Bool). cond t (Err BadLine) (cond (ltb greatest m) (Err NumberWide) (Ok (m - 1)))) (ne_eqb m 0 (λ e. omega (arith, e, h)))
        ∙ ap (λ (t : Bool). cond t (Err NumberWide) (Ok (m - 1))) (lt-ltb greatest m (omega (arith, h, small)))

index_is : (greatest : ℕ) (w : Word) → greatest < 2 ^ 64 → (capped_natural_at w >>= counted greatest) ≡ index_at greatest w
unfolding index_at
index_is greatest w small = uncapped (counted greatest) (λ n. index_same greatest n small) (natural_at w)

pub index_err : (greatest : ℕ) (w : Word) (why : CertWhy) → greatest < 2 ^ 64 → Err why ≡ capped_natural_at w → index_at greatest w ≡ Err why
index_err greatest w why small e = sym (ap (λ (r : Reading ℕ). r >>= counted greatest) e ∙ index_is greatest w small)

pub index_ok : (greatest : ℕ) (w : Word) (n : ℕ) → greatest < 2 ^ 64 → Ok n ≡ capped_natural_at w → index_at greatest w ≡ counted greatest n
index_ok greatest w n small e = sym (ap (λ (r : Reading ℕ). r >>= counted greatest) e ∙ index_is greatest w small)

positive_wide : (m : ℕ) → most ≤ m → positive m ≡ Err NumberWide
positive_wide m h =
    ap (λ (t : Bool). cond t (Err BadLine) (cond (ltb m (2 ^ 63)) (Ok (pos m)) (Err NumberWide))) (ne_eqb m 0 (λ e. omega (arith, e, h)))
    ∙ ap (λ (t : Bool). cond t (Ok (pos m)) (Err NumberWide)) (le-ltb m (2 ^ 63) (omega (arith, h)))

positive_is : (w : Word) → (capped_natural_at w >>= positive) ≡ positive_at w
unfolding positive_at
positive_is w = uncapped positive (λ n. cap_same positive (Err NumberWide) positive_wide n) (natural_at w)

pub positive_err : (w : Word) (why : CertWhy) → Err why ≡ capped_natural_at w → positive_at w ≡ Err why
positive_err w why e = sym (ap (λ (r : Reading ℕ). r >>= positive) e ∙ positive_is w)

pub positive_ok : (w : Word) (n : ℕ) → Ok n ≡ capped_natural_at w → positive_at w ≡ positive n
positive_ok w n e = sym (ap (λ (r : Reading ℕ). r >>= positive) e ∙ positive_is w)

-- ---- whole numbers

cap_positive : (n : ℕ) → cap (suc n) ≡ 0 → ⊥
cap_positive n e = elim (cases_lt (suc n) most) [
  | inl low ↦ omega (arith, e, cap_low (suc n) low)
  | inr high ↦ omega (arith, e, cap_high (suc n) high)
]

minus : (r : Reading ℕ) → ((r >>= capped) >>= below_zero) ≡ ((r >>= below_zero) >>= capped_whole)
minus (Err why) = refl
minus (Ok zero) = refl
minus (Ok (suc n)) = ap (λ (t : Bool). cond t (Err BadLine) (Ok (neg_ℤ (pos (cap (suc n)))))) (ne_eqb (cap (suc n)) 0 (cap_positive n))
    ∙ sym (ap (λ (t : Bool). cond t (Err BadLine) (Ok (neg_ℤ (pos (suc n)))) >>= capped_whole) (ne_eqb (suc n) 0 (λ e. omega (arith, e))))

pub whole_minus : (w digits : Word) (b : ℕ) → w ≡ b ∷ digits → eqb b 45 ≡ true → negative_at digits ≡ capped_whole_at w
unfolding whole_at
whole_minus w digits b e t =
    minus (natural_at digits) ∙ ap (λ (c : Bool). cond c (natural_at digits >>= below_zero) (natural_at (b ∷ digits) >>= λ n. Ok (pos n)) >>= capped_whole) (sym t)
    ∙ ap capped_whole_at (sym e)

plain : (r : Reading ℕ) → ((r >>= capped) >>= λ n. Ok (pos n)) ≡ ((r >>= λ n. Ok (pos n)) >>= capped_whole)
plain (Err why) = refl
plain (Ok n) = refl

pub whole_plain : (w digits : Word) (b : ℕ) → w ≡ b ∷ digits → eqb b 45 ≡ false → nonnegative_at w ≡ capped_whole_at w
unfolding whole_at
whole_plain w digits b e t =
    ap nonnegative_at e ∙ plain (natural_at (b ∷ digits)) ∙ ap (λ (c : Bool). cond c (natural_at digits >>= below_zero) (natural_at (b ∷ digits) >>= λ n. Ok (pos n)) >>= capped_whole) (sym t)
    ∙ ap capped_whole_at (sym e)

pub whole_empty : (w : Word) → length w ≡ 0 → capped_whole_at w ≡ Err BadLine
unfolding whole_at
whole_empty [] e = refl
whole_empty (b ∷ w) e = absurd (omega (arith, e))

-- past the cap a number of either sign is refused alike
whole_same : {Y : Type 0} (f : ℤ → Reading Y) (y z : Reading Y) → ((m : ℕ) → most ≤ m → f (pos m) ≡ y) → ((m : ℕ) → most ≤ m → f (neg_ℤ (pos m)) ≡ z) → (r : Reading ℤ) → ((r >>= capped_whole) >>= f) ≡ (r >>= f)
whole_same f y z h k (Err why) = refl
whole_same f y z h k (Ok (pos n)) = cap_same (λ m. f (pos m)) y h n
whole_same f y z h k (Ok (negsuc n)) = cap_same (λ m. f (neg_ℤ (pos m))) z k (suc n)

size_minus : (m : ℕ) → unsigned_abs (neg_ℤ (pos m)) ≡ m
size_minus zero = refl
size_minus (suc m) = refl

factor_by : (z : ℤ) (n : ℕ) → unsigned_abs z ≡ n → most ≤ n → factor z ≡ Err NumberWide
factor_by z n e h =
    ap (λ (t : Bool). cond t (Err BadLine) (cond (ltb (unsigned_abs z) (2 ^ 63)) (Ok z) (Err NumberWide))) (ne_eqb (unsigned_abs z) 0 (λ k. omega (arith, k, e, h)))
    ∙ ap (λ (t : Bool). cond t (Ok z) (Err NumberWide)) (le-ltb (unsigned_abs z) (2 ^ 63) (omega (arith, e, h)))

factor_is : (w : Word) → (capped_whole_at w >>= factor) ≡ factor_at w
unfolding factor_at
factor_is w = whole_same factor (Err NumberWide) (Err NumberWide) (λ m h. factor_by (pos m) m refl h) (λ m h. factor_by (neg_ℤ (pos m)) m (size_minus m) h) (whole_at w)

pub factor_err : (w : Word) (why : CertWhy) → Err why ≡ capped_whole_at w → factor_at w ≡ Err why
factor_err w why e = sym (ap (λ (r : Reading ℤ). r >>= factor) e ∙ factor_is w)

pub factor_ok : (w : Word) (z : ℤ) → Ok z ≡ capped_whole_at w → factor_at w ≡ factor z
factor_ok w z e = sym (ap (λ (r : Reading ℤ). r >>= factor) e ∙ factor_is w)

cost_value_by : (z : ℤ) (n : ℕ) → unsigned_abs z ≡ n → most ≤ n → cost_value z ≡ Err NumberWide
cost_value_by z n e h = ap (λ (t : Bool). cond t (Ok z) (Err NumberWide)) (lt-leb (unsigned_abs z) (2 ^ 126) (omega (arith, e, h)))

cost_value_is : (w : Word) → (capped_whole_at w >>= cost_value) ≡ cost_value_at w
unfolding cost_value_at
cost_value_is w = whole_same cost_value (Err NumberWide) (Err NumberWide) (λ m h. cost_value_by (pos m) m refl h) (λ m h. cost_value_by (neg_ℤ (pos m)) m (size_minus m) h) (whole_at w)

pub cost_value_err : (w : Word) (why : CertWhy) → Err why ≡ capped_whole_at w → cost_value_at w ≡ Err why
cost_value_err w why e = sym (ap (λ (r : Reading ℤ). r >>= cost_value) e ∙ cost_value_is w)

pub cost_value_ok : (w : Word) (z : ℤ) → Ok z ≡ capped_whole_at w → cost_value_at w ≡ cost_value z
cost_value_ok w z e = sym (ap (λ (r : Reading ℤ). r >>= cost_value) e ∙ cost_value_is w)

count_wide : (n m : ℕ) → most ≤ m → count n (pos m) ≡ Err NumberWide
count_wide n m h = ap (λ (t : Bool). cond t (Err NumberWide) (cond (eqb m n) (Ok m) (Err BadCount))) (le-leb (2 ^ 64) m (omega (arith, h)))

count_minus : (n m : ℕ) → most ≤ m → count n (neg_ℤ (pos m)) ≡ Err BadCount
count_minus n zero h = absurd (omega (arith, h))
count_minus n (suc m) h = refl

count_is : (n : ℕ) (w : Word) → (capped_whole_at w >>= count n) ≡ count_at n w
unfolding count_at
count_is n w = whole_same (count n) (Err NumberWide) (Err BadCount) (count_wide n) (count_minus n) (whole_at w)

pub count_err : (n : ℕ) (w : Word) (why : CertWhy) → Err why ≡ capped_whole_at w → count_at n w ≡ Err why
count_err n w why e = sym (ap (λ (r : Reading ℤ). r >>= count n) e ∙ count_is n w)

pub count_ok : (n : ℕ) (w : Word) (z : ℤ) → Ok z ≡ capped_whole_at w → count_at n w ≡ count n z
count_ok n w z e = sym (ap (λ (r : Reading ℤ). r >>= count n) e ∙ count_is n w)
