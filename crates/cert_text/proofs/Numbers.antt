-- Numbers: what is read is spelled so, and what is spelled is read.
use Rattle.std.proofs.Common.{◌≡◌, ◌≢◌, ℕ, zero, suc, ◌+◌, ◌-◌, ◌*◌, ◌/◌, ◌%◌, ◌^◌, ◌<◌, ◌≤◌, Bool, true, false, cond, ltb, leb, eqb, List, [], ◌∷◌, ◌++◌, length, get_or, Ok, Err, refl, sym, ap, subst, ◌∙◌, inl, inr, append_assoc, arith, ℤ, pos, negsuc, ◌≤ℤ◌}
use Rattle.std.specs.Prelude.{unsigned_abs, All}
use Rattle.std.specs.Char.{digit_value}
use Rattle.std.specs.Fmt.{decimal, signed_decimal, digits, digits_onto, digit_glyph}
use Rattle.std.specs.Str.{all_ascii_digits}
use Rattle.std.specs.Str.Parse.{AllDigits, digits_value, digits_value_after}
use Rattle.std.proofs.lemmas.Bool.{ltb-true, ltb-false, leb-true, leb-false, eqb-true, eqb-false, lt-ltb, le-ltb, le-leb, lt-leb, cases_lt, cond_both, ne_eqb, eq-eqb}
use Rattle.std.proofs.lemmas.Int.{ints}
use Rattle.std.proofs.lemmas.List.{append-nil}
use Rattle.std.proofs.lemmas.List.Elements.{All-nil, All-cons}
use Rattle.std.proofs.lemmas.Fmt.{decimal_digit, decimal_step_wide, decimal_by_steps_wide, decimal_is_IsNumeral_wide}
use Rattle.std.proofs.lemmas.Str.{digit_value_digit}
use Rattle.std.proofs.lemmas.Str.Parse.{IsNumeralModel, numerals_by_value, tells_all_ascii_digits, digit_from_value}
use Rattle.lp_base.specs.Numbers.{IsNarrow}
use Rattle.cert_text.specs.declared.fault.CertWhy.TheVariants.{BadLine, NumberWide, BadCount}
use Rattle.cert_text.specs.Spelling.{Word}
use Rattle.cert_text.specs.Reading.{◌>>=◌, Reading, digits_at, natural_at, below_zero, whole_at, counted, index_at, positive, positive_at, factor, factor_at, cost_value, cost_value_at, count, count_at, from_least, number_at, hint_at}
use Rattle.cert_text.proofs.Results.{same_ok, bind_ok, by_test, unless_test, either}

-- ---- digits, up to 10^64

le_value_after : (n : ℕ) (ds : List ℕ) → n ≤ digits_value_after 10 n ds
le_value_after n [] = omega arith
le_value_after n (c ∷ cs) = omega (arith, le_value_after (n * 10 + digit_value c) cs)

decimal_value_after : (n : ℕ) (ds : List ℕ) → 0 < n → AllDigits 10 ds → digits_value_after 10 n ds < 10 ^ 64 → decimal (digits_value_after 10 n ds) ≡ decimal n ++ ds
decimal_value_after n [] some d small = sym (append-nil (decimal n))
decimal_value_after n (c ∷ cs) some d small =
    let m : ℕ = n * 10 + digit_value c in
    let k = digit_value_digit c (digit_from_value c d.0) in
    let front : m / 10 ≡ n = omega (arith, d.0) in
    let end : 48 + m % 10 ≡ c = omega (arith, d.0) in
    decimal_value_after m cs (omega arith) d.1 small
    ∙ ap (λ x. x ++ cs) (decimal_step_wide m (omega arith) (omega (arith, le_value_after m cs)) ∙ (λ i. decimal (front i) ++ (end i ∷ [])))
    ∙ append_assoc (decimal n) (c ∷ []) cs

decimal_value : (ds : List ℕ) → AllDigits 10 ds → 0 < length ds → (get_or ds 0 0 ≡ 48 → length ds ≡ 1) → digits_value 10 ds < 10 ^ 64 → decimal (digits_value 10 ds) ≡ ds
decimal_value [] d some lead small = absurd (omega arith)
decimal_value (c ∷ []) d some lead small =
    let k = digit_value_digit c (digit_from_value c d.0) in
    decimal_digit (0 * 10 + digit_value c) (omega (arith, d.0)) ∙ ap (λ x. x ∷ []) (omega arith)
decimal_value (c ∷ e ∷ cs) d some lead small =
    let k = digit_value_digit c (digit_from_value c d.0) in
    let no : c ≡ 48 → ⊥ = λ z. omega (arith, lead z) in
    let is : 48 + (0 * 10 + digit_value c) ≡ c = omega arith in
    decimal_value_after (0 * 10 + digit_value c) (e ∷ cs) (omega arith) d.1 small
    ∙ ap (λ x. x ++ (e ∷ cs)) (decimal_digit (0 * 10 + digit_value c) (omega (arith, d.0)) ∙ ap (λ x. x ∷ []) is)

-- digits begin with a zero only where it is the whole number
abbrev Leads : ℕ → List ℕ → Type 0
Leads n ds = (0 < length ds) × (0 < n → 48 < get_or ds 0 0)

leads_more : (n : ℕ) (ds : List ℕ) → 10 ≤ n → Leads (n / 10) ds → Leads n (ds ++ ((48 + n % 10) ∷ []))
leads_more n [] low h = absurd (omega (arith, h.0))
leads_more n (c ∷ ds) low h = (omega arith, λ some. h.1 (omega (arith, low)))

leads : (n : ℕ) → n < 10 ^ 64 → Leads n (decimal n)
leads = decimal_by_steps_wide Leads (λ n low. (omega arith, λ some. omega (arith, some))) leads_more

own : IsNumeralModel (λ ds. all_ascii_digits ds ≡ true) (digits_value 10)
own = numerals_by_value _ tells_all_ascii_digits

digits_take : (w : Word) (n : ℕ) → digits_at w ≡ Ok n → 0 < length w → (get_or w 0 0 ≡ 48 → length w ≡ 1) → n < 10 ^ 64 → decimal n ≡ w
unfolding digits_at
digits_take w n e some lead small =
    let g = by_test (all_ascii_digits w) (digits_value 10 w) BadLine n e in
    ap decimal (sym g.1) ∙ decimal_value w (own.to w g.0) some lead (omega (arith, g.1, small))

pub natural_takes : (w : Word) (n : ℕ) → natural_at w ≡ Ok n → n < 10 ^ 64 → decimal n ≡ w
unfolding natural_at
natural_takes [] n e small = absurd cc
natural_takes (b ∷ []) n e small = digits_take (b ∷ []) n e (omega arith) (λ h. refl) small
natural_takes (b ∷ c ∷ w) n e small =
    let g = unless_test (eqb b 48) (digits_at (b ∷ c ∷ w)) BadLine n e in
    digits_take (b ∷ c ∷ w) n g.1 (omega arith) (λ h. absurd (eqb-false b 48 g.0 h)) small

digits_again : (n : ℕ) → n < 10 ^ 64 → digits_at (decimal n) ≡ Ok n
unfolding digits_at
digits_again n h =
    let d = decimal_is_IsNumeral_wide n h in
    ap (λ (t : Bool). cond t (Ok (digits_value 10 (decimal n))) (Err BadLine)) (own.from (decimal n) d.0.1) ∙ ap (λ (m : ℕ). Ok m) d.1

pub decimal_digits : (n : ℕ) → n < 10 ^ 64 → all_ascii_digits (decimal n) ≡ true
decimal_digits n h = own.from (decimal n) (decimal_is_IsNumeral_wide n h).0.1

pub decimal_some : (n : ℕ) → n < 10 ^ 64 → 0 < length (decimal n)
decimal_some n h = (leads n h).0

natural_by : (w : Word) (r : Reading ℕ) → 0 < length w → (1 < length w → 48 < get_or w 0 0) → digits_at w ≡ r → natural_at w ≡ r
unfolding natural_at
natural_by [] r some lead e = absurd (omega (arith, some))
natural_by (b ∷ []) r some lead e = e
natural_by (b ∷ c ∷ w) r some lead e = ap (λ (t : Bool). cond t (Err BadLine) (digits_at (b ∷ c ∷ w))) (ne_eqb b 48 (λ z. omega (arith, z, lead (omega arith)))) ∙ e

pub natural_again : (n : ℕ) → n < 10 ^ 64 → natural_at (decimal n) ≡ Ok n
natural_again n h =
    let l = leads n h in
    natural_by (decimal n) (Ok n) l.0 (λ long. elim (cases_lt n 1) [
      | inl none ↦ absurd (omega (arith, long, ap length (decimal_digit n (omega (arith, none)))))
      | inr some ↦ l.1 (omega (arith, some))
    ]) (digits_again n h)

-- ---- whole numbers

minus_takes : (n : ℕ) (w : Word) (z : ℤ) → decimal n ≡ w → below_zero n ≡ Ok z → signed_decimal z ≡ 45 ∷ w
minus_takes zero w z e h = absurd (zero_apart z h)
  where
    zero_apart : (z : ℤ) → below_zero 0 ≡ Ok z → ⊥
    zero_apart z h = absurd cc
minus_takes (suc k) w z e h =
    let g = unless_test (eqb (suc k) 0) (Ok (negsuc k)) BadLine z h in
    ap signed_decimal (sym (same_ok (negsuc k) z g.1)) ∙ ap (λ (ds : List ℕ). 45 ∷ ds) e

minus_size : (n : ℕ) (z : ℤ) → below_zero n ≡ Ok z → unsigned_abs z ≡ n
minus_size zero z h = absurd (zero_apart z h)
  where
    zero_apart : (z : ℤ) → below_zero 0 ≡ Ok z → ⊥
    zero_apart z h = absurd cc
minus_size (suc k) z h = let g = unless_test (eqb (suc k) 0) (Ok (negsuc k)) BadLine z h in ap unsigned_abs (sym (same_ok (negsuc k) z g.1))

pub whole_takes : (w : Word) (z : ℤ) → whole_at w ≡ Ok z → unsigned_abs z < 10 ^ 64 → signed_decimal z ≡ w
unfolding whole_at
whole_takes [] z e small = absurd cc
whole_takes (b ∷ w) z e small = elim (either (eqb b 45) (natural_at w >>= below_zero) (natural_at (b ∷ w) >>= λ n. Ok (pos n)) (Ok z) e) [
  | inl minus ↦
      let a = bind_ok (natural_at w) below_zero z minus.1 in
      minus_takes a.0 w z (natural_takes w a.0 a.1 (omega (arith, minus_size a.0 z a.2, small))) a.2 ∙ ap (λ (c : ℕ). c ∷ w) (sym (eqb-true b 45 minus.0))
  | inr plain ↦
      let a = bind_ok (natural_at (b ∷ w)) (λ n. Ok (pos n)) z plain.1 in
      let same = same_ok (pos a.0) z a.2 in
      ap signed_decimal (sym same) ∙ natural_takes (b ∷ w) a.0 a.1 (omega (arith, ap unsigned_abs same, small))
]

whole_by : (w : Word) (n : ℕ) → 0 < length w → (get_or w 0 0 ≡ 45 → ⊥) → natural_at w ≡ Ok n → whole_at w ≡ Ok (pos n)
unfolding whole_at
whole_by [] n some lead e = absurd (omega (arith, some))
whole_by (b ∷ w) n some lead e = ap (λ (t : Bool). cond t (natural_at w >>= below_zero) (natural_at (b ∷ w) >>= λ m. Ok (pos m))) (ne_eqb b 45 lead) ∙ ap (λ (r : Reading ℕ). r >>= λ m. Ok (pos m)) e

first_is_digit : (n : ℕ) → n < 10 ^ 64 → get_or (decimal n) 0 0 ≡ 45 → ⊥
first_is_digit n h e = elim (cases_lt n 10) [
  | inl low ↦ omega (arith, e, ap (λ (ds : List ℕ). get_or ds 0 0) (decimal_digit n low))
  | inr high ↦ omega (arith, e, (leads n h).1 (omega (arith, high)))
]

pub whole_again : (z : ℤ) → unsigned_abs z < 10 ^ 64 → whole_at (signed_decimal z) ≡ Ok z
unfolding whole_at
whole_again (pos n) h = whole_by (decimal n) n (leads n h).0 (first_is_digit n h) (natural_again n h)
whole_again (negsuc k) h =
    ap (λ (r : Reading ℕ). r >>= below_zero) (natural_again (suc k) h) ∙ ap (λ (t : Bool). cond t (Err BadLine) (Ok (negsuc k))) (ne_eqb (suc k) 0 (λ e. omega (arith, e)))

-- ---- numbers counted from 1

pub index_takes : (greatest : ℕ) (w : Word) (n : ℕ) → greatest < 2 ^ 64 → index_at greatest w ≡ Ok n → (decimal (n + 1) ≡ w) × (n < greatest)
unfolding index_at
index_takes greatest w n small e =
    let a = bind_ok (natural_at w) (counted greatest) n e in
    let f = unless_test (eqb a.0 0) (cond (ltb greatest a.0) (Err NumberWide) (Ok (a.0 - 1))) BadLine n a.2 in
    let g = unless_test (ltb greatest a.0) (Ok (a.0 - 1)) NumberWide n f.1 in
    let some : 0 < a.0 = elim (cases_lt a.0 1) [ inl none ↦ absurd (eqb-false a.0 0 f.0 (omega (arith, none))) | inr low ↦ omega (arith, low) ] in
    let high : a.0 ≤ greatest = ltb-false greatest a.0 g.0 in
    let next : n + 1 ≡ a.0 = omega (arith, same_ok (a.0 - 1) n g.1, some) in
    (ap decimal next ∙ natural_takes w a.0 a.1 (omega (arith, high, small)), omega (arith, next, high))

pub index_again : (greatest n : ℕ) → n < greatest → greatest < 2 ^ 64 → index_at greatest (decimal (n + 1)) ≡ Ok n
unfolding index_at
index_again greatest n h small =
    ap (λ (r : Reading ℕ). r >>= counted greatest) (natural_again (n + 1) (omega (arith, h, small)))
    ∙ ap (λ (t : Bool). cond t (Err BadLine) (cond (ltb greatest (n + 1)) (Err NumberWide) (Ok (n + 1 - 1)))) (ne_eqb (n + 1) 0 (λ e. omega (arith, e)))
    ∙ ap (λ (t : Bool). cond t (Err NumberWide) (Ok (n + 1 - 1))) (le-ltb greatest (n + 1) (omega (arith, h)))
    ∙ ap (λ (k : ℕ). Ok k) (let e : n + 1 - 1 ≡ n = omega arith in e)

pub number_takes : (least : ℕ) (w : Word) (n : ℕ) → number_at least w ≡ Ok n → (decimal (n + 1) ≡ w) × (n < 2 ^ 32 - 1) × (least ≤ n)
unfolding number_at
number_takes least w n e =
    let a = bind_ok (index_at (2 ^ 32 - 1) w) (from_least least) n e in
    let g = unless_test (ltb a.0 least) (Ok a.0) BadLine n a.2 in
    let same = same_ok a.0 n g.1 in
    let t = index_takes (2 ^ 32 - 1) w a.0 (omega arith) a.1 in
    (ap (λ (m : ℕ). decimal (m + 1)) (sym same) ∙ t.0, omega (arith, t.1, same), omega (arith, ltb-false a.0 least g.0, same))

pub number_again : (least n : ℕ) → n < 2 ^ 32 - 1 → least ≤ n → number_at least (decimal (n + 1)) ≡ Ok n
unfolding number_at
number_again least n h low =
    ap (λ (r : Reading ℕ). r >>= from_least least) (index_again (2 ^ 32 - 1) n h (omega arith)) ∙ ap (λ (t : Bool). cond t (Err BadLine) (Ok n)) (le-ltb n least low)

pub hint_takes : (w : Word) (h : ℕ) → hint_at w ≡ Ok h → (decimal (h + 1) ≡ w) × (h < 2 ^ 64 - 1)
unfolding hint_at
hint_takes w h e = index_takes (2 ^ 64 - 1) w h (omega arith) e

pub hint_again : (h : ℕ) → h < 2 ^ 64 - 1 → hint_at (decimal (h + 1)) ≡ Ok h
unfolding hint_at
hint_again h small = index_again (2 ^ 64 - 1) h small (omega arith)

-- ---- numbers with a sign

pub positive_takes : (w : Word) (z : ℤ) → positive_at w ≡ Ok z → (signed_decimal z ≡ w) × (pos 1 ≤ℤ z) × IsNarrow z
unfolding positive_at
positive_takes w z e =
    let a = bind_ok (natural_at w) positive z e in
    let f = unless_test (eqb a.0 0) (cond (ltb a.0 (2 ^ 63)) (Ok (pos a.0)) (Err NumberWide)) BadLine z a.2 in
    let g = by_test (ltb a.0 (2 ^ 63)) (pos a.0) NumberWide z f.1 in
    let some : 0 < a.0 = elim (cases_lt a.0 1) [ inl none ↦ absurd (eqb-false a.0 0 f.0 (omega (arith, none))) | inr low ↦ omega (arith, low) ] in
    let high : a.0 < 2 ^ 63 = ltb-true a.0 (2 ^ 63) g.0 in
    subst (λ (y : ℤ). (signed_decimal y ≡ w) × (pos 1 ≤ℤ y) × IsNarrow y) g.1 (natural_takes w a.0 a.1 (omega (arith, high)), omega (arith, ints), high)

positive_again : (n : ℕ) → 0 < n → n < 2 ^ 63 → positive_at (decimal n) ≡ Ok (pos n)
unfolding positive_at
positive_again n low high =
    ap (λ (r : Reading ℕ). r >>= positive) (natural_again n (omega (arith, high)))
    ∙ ap (λ (t : Bool). cond t (Err BadLine) (cond (ltb n (2 ^ 63)) (Ok (pos n)) (Err NumberWide))) (ne_eqb n 0 (λ e. omega (arith, e, low)))
    ∙ ap (λ (t : Bool). cond t (Ok (pos n)) (Err NumberWide)) (lt-ltb n (2 ^ 63) high)

pub positive_int_again : (z : ℤ) → pos 1 ≤ℤ z → IsNarrow z → positive_at (signed_decimal z) ≡ Ok z
positive_int_again (pos n) low narrow = positive_again n (omega (arith, ints)) narrow
positive_int_again (negsuc n) low narrow = absurd (omega (arith, ints))

not_zero : (z : ℤ) → eqb (unsigned_abs z) 0 ≡ false → z ≢ pos 0
not_zero z e h = eqb-false (unsigned_abs z) 0 e (ap unsigned_abs h)

some_size : (z : ℤ) → z ≢ pos 0 → unsigned_abs z ≡ 0 → ⊥
some_size (pos zero) other e = other refl
some_size (pos (suc n)) other e = omega (arith, e)
some_size (negsuc n) other e = omega (arith, e)

pub factor_takes : (w : Word) (z : ℤ) → factor_at w ≡ Ok z → (signed_decimal z ≡ w) × IsNarrow z × (z ≢ pos 0)
unfolding factor_at
factor_takes w z e =
    let a = bind_ok (whole_at w) factor z e in
    let f = unless_test (eqb (unsigned_abs a.0) 0) (cond (ltb (unsigned_abs a.0) (2 ^ 63)) (Ok a.0) (Err NumberWide)) BadLine z a.2 in
    let g = by_test (ltb (unsigned_abs a.0) (2 ^ 63)) a.0 NumberWide z f.1 in
    let narrow : unsigned_abs a.0 < 2 ^ 63 = ltb-true (unsigned_abs a.0) (2 ^ 63) g.0 in
    subst (λ (y : ℤ). (signed_decimal y ≡ w) × IsNarrow y × (y ≢ pos 0)) g.1 (whole_takes w a.0 a.1 (omega (arith, narrow)), narrow, not_zero a.0 f.0)

pub factor_again : (z : ℤ) → IsNarrow z → z ≢ pos 0 → factor_at (signed_decimal z) ≡ Ok z
unfolding factor_at
factor_again z narrow other =
    ap (λ (r : Reading ℤ). r >>= factor) (whole_again z (omega (arith, narrow)))
    ∙ ap (λ (t : Bool). cond t (Err BadLine) (cond (ltb (unsigned_abs z) (2 ^ 63)) (Ok z) (Err NumberWide))) (ne_eqb (unsigned_abs z) 0 (some_size z other))
    ∙ ap (λ (t : Bool). cond t (Ok z) (Err NumberWide)) (lt-ltb (unsigned_abs z) (2 ^ 63) narrow)

pub cost_value_takes : (w : Word) (z : ℤ) → cost_value_at w ≡ Ok z → (signed_decimal z ≡ w) × (unsigned_abs z ≤ 2 ^ 126)
unfolding cost_value_at
cost_value_takes w z e =
    let a = bind_ok (whole_at w) cost_value z e in
    let g = by_test (leb (unsigned_abs a.0) (2 ^ 126)) a.0 NumberWide z a.2 in
    let small : unsigned_abs a.0 ≤ 2 ^ 126 = leb-true (unsigned_abs a.0) (2 ^ 126) g.0 in
    subst (λ (y : ℤ). (signed_decimal y ≡ w) × (unsigned_abs y ≤ 2 ^ 126)) g.1 (whole_takes w a.0 a.1 (omega (arith, small)), small)

pub cost_value_again : (z : ℤ) → unsigned_abs z ≤ 2 ^ 126 → cost_value_at (signed_decimal z) ≡ Ok z
unfolding cost_value_at
cost_value_again z small =
    ap (λ (r : Reading ℤ). r >>= cost_value) (whole_again z (omega (arith, small))) ∙ ap (λ (t : Bool). cond t (Ok z) (Err NumberWide)) (le-leb (unsigned_abs z) (2 ^ 126) small)

count_of_whole : (n : ℕ) (z : ℤ) (k : ℕ) → count n z ≡ Ok k → (z ≡ pos n) × (n < 2 ^ 64)
count_of_whole n (negsuc m) k e = absurd cc
count_of_whole n (pos m) k e =
    let f = unless_test (leb (2 ^ 64) m) (cond (eqb m n) (Ok m) (Err BadCount)) NumberWide k e in
    let g = by_test (eqb m n) m BadCount k f.1 in
    let same = eqb-true m n g.0 in
    (ap pos same, omega (arith, leb-false (2 ^ 64) m f.0, same))

pub count_takes : (n : ℕ) (w : Word) (k : ℕ) → count_at n w ≡ Ok k → (decimal n ≡ w) × (n < 2 ^ 64)
unfolding count_at
count_takes n w k e =
    let a = bind_ok (whole_at w) (count n) k e in
    let g = count_of_whole n a.0 k a.2 in
    (ap signed_decimal (sym g.0) ∙ whole_takes w a.0 a.1 (omega (arith, ap unsigned_abs g.0, g.1)), g.1)

pub count_again : (n : ℕ) → n < 2 ^ 64 → count_at n (decimal n) ≡ Ok n
unfolding count_at
count_again n small =
    ap (λ (r : Reading ℤ). r >>= count n) (whole_again (pos n) (omega (arith, small)))
    ∙ ap (λ (t : Bool). cond t (Err NumberWide) (cond (eqb n n) (Ok n) (Err BadCount))) (lt-leb (2 ^ 64) n small)
    ∙ ap (λ (t : Bool). cond t (Ok n) (Err BadCount)) (eq-eqb n n refl)

-- ---- bytes of numbers

-- no byte is a space, or LF
abbrev pub IsPlain : Word → Type 0
IsPlain w = All (λ b. 32 < b) w

abbrev IsAbove : ℕ → Type 0
IsAbove b = 32 < b

plain_glyph : (d : ℕ) → 32 < digit_glyph false d
plain_glyph d = cond_both (ltb d 10) (48 + d) (87 + d) IsAbove (λ e. omega arith) (λ e. omega arith)

plain_onto : (k n : ℕ) (acc : List ℕ) → IsPlain acc → IsPlain (digits_onto k 10 false n acc)
plain_onto zero n acc h = h
plain_onto (suc k) n acc h =
    let here = All-cons IsAbove (digit_glyph false (n % 10)) acc (plain_glyph (n % 10)) h in
    cond_both (eqb (n / 10) 0) (digit_glyph false (n % 10) ∷ acc) (digits_onto k 10 false (n / 10) (digit_glyph false (n % 10) ∷ acc)) IsPlain (λ e. here) (λ e. plain_onto k (n / 10) (digit_glyph false (n % 10) ∷ acc) here)

pub plain_decimal : (n : ℕ) → IsPlain (decimal n)
unfolding digits
plain_decimal n = plain_onto 64 n [] (All-nil IsAbove)

pub plain_signed : (z : ℤ) → IsPlain (signed_decimal z)
plain_signed (pos n) = plain_decimal n
plain_signed (negsuc n) = All-cons IsAbove 45 (decimal (suc n)) (omega arith) (plain_decimal (suc n))
