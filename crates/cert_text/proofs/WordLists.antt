-- Lists of words: what is read is spelled so, and what is spelled is read.
use Rattle.std.proofs.Common.{◌≡◌, ◌≢◌, ℕ, ◌+◌, ◌-◌, ◌^◌, ◌<◌, ◌≤◌, Bool, true, false, cond, ltb, eqb, List, [], ◌∷◌, ◌++◌, length, get_or, take, map, Option, Some, None, Ok, Err, refl, sym, ap, subst, ◌∙◌, inl, inr, arith, lit<, ℤ, pos}
use Rattle.std.specs.Prelude.{All, bytes_eq, flat_map}
use Rattle.std.specs.Char.{is_ascii_digit}
use Rattle.std.specs.Str.{all_ascii_digits}
use Rattle.std.specs.Fmt.{decimal, signed_decimal}
use Rattle.std.proofs.lemmas.Bool.{eqb-true, le-ltb, and_parts, false_from_ne_true}
use Rattle.std.proofs.lemmas.Slice.Eq.{bytes_eq-Decides}
use Rattle.std.proofs.lemmas.List.{take_more, take_all, get_or_at, take_at, length_push}
use Rattle.std.proofs.lemmas.List.Elements.{All-nil, All-cons, All-head, All-tail, All-weaker}
use Rattle.lp_base.specs.Numbers.{IsNarrow}
use Rattle.nogoods.specs.declared.choice.Choice.{Choice}
use Rattle.nogoods.specs.declared.choice.Side.{Side}
use Rattle.nogoods.specs.declared.choice.Side.TheVariants.{A, B}
use Rattle.nogoods.specs.Choices.{pair_of}
use Rattle.cert_text.specs.declared.fault.CertWhy.TheVariants.{BadLine, BadChoice}
use Rattle.cert_text.specs.Certs.{number_of, IsNoGood, AreTerms}
use Rattle.cert_text.specs.Spelling.{Word, side_letter, choice_word, term_words, hint_word, colon}
use Rattle.cert_text.specs.Reading.{◌>>=◌, Reading, side_at, index_at, chosen, choice_at, number_at, factor_at, hint_at, choices_from, last_choices_from, terms_from, hints_at}
use Rattle.cert_text.proofs.Results.{same_ok, apart, bind_ok, unless_test, if_test, either}
use Rattle.cert_text.proofs.Ascents.{Ascend, ascend_more, ascend_parts, ascend_from_zero, choices_ascend, last_choices_ascend}
use Rattle.cert_text.proofs.Numbers.{decimal_digits, decimal_some, index_takes, index_again, number_takes, number_again, factor_takes, factor_again, hint_takes, hint_again}

-- ---- choices

side_takes : (letter : ℕ) (s : Side) → side_at letter ≡ Some s → side_letter s ≡ letter ∷ []
side_takes letter s e = elim (either (eqb letter 97) (Some A) (cond (eqb letter 98) (Some B) None) (Some s) e) [
  | inl a ↦ ap side_letter (sym (same_side A s a.1)) ∙ ap (λ (b : ℕ). b ∷ []) (sym (eqb-true letter 97 a.0))
  | inr other ↦ elim (either (eqb letter 98) (Some B) None (Some s) other.1) [
    | inl b ↦ ap side_letter (sym (same_side B s b.1)) ∙ ap (λ (c : ℕ). c ∷ []) (sym (eqb-true letter 98 b.0))
    | inr none ↦ absurd (none_apart s none.1)
  ]
]
  where
    some : Side → Option Side
    some s = Some s

    same_side : (s t : Side) → Some s ≡ some t → s ≡ t
    same_side s t e = cc

    none_apart : (s : Side) → None ≡ some s → ⊥
    none_apart s e = absurd cc

parted : (w : Word) → 0 < length w → take (length w - 1) w ++ get_or w (length w - 1) 0 ∷ [] ≡ w
parted w some =
    let k : length w - 1 + 1 ≡ length w = omega arith in
    sym (take_more w (length w - 1) 0 (omega arith)) ∙ ap (λ (n : ℕ). take n w) k ∙ take_all (length w) w (omega arith)

abbrev pub HasPair : Choice → Type 0
HasPair c = c.pair < 512

chosen_takes : (least : ℕ) (side : Option Side) (pair : Reading ℕ) (c : Choice) → chosen least side pair ≡ Ok c → (side ≡ Some c.side) × (pair ≡ Ok c.pair)
chosen_takes least None pair c e = absurd cc
chosen_takes least (Some side) (Err why) c e = absurd cc
chosen_takes least (Some side) (Ok pair) c e =
    let made : Choice = record { pair = pair; side = side } in
    let same = same_ok made c (unless_test (ltb pair least) (Ok made) BadChoice c e).1 in
    (ap (λ (x : Choice). Some x.side) same, ap (λ (x : Choice). Ok x.pair) same)

choice_takes : (least : ℕ) (w : Word) (c : Choice) → choice_at least w ≡ Ok c → (choice_word c ≡ w) × HasPair c
unfolding choice_at
choice_takes least [] c e = absurd cc
choice_takes least (b ∷ w) c e =
    let last = get_or (b ∷ w) (length (b ∷ w) - 1) 0 in
    let front = take (length (b ∷ w) - 1) (b ∷ w) in
    let g = if_test (is_ascii_digit b) (chosen least (side_at last) (index_at 512 front)) BadLine c e in
    let p = chosen_takes least (side_at last) (index_at 512 front) c g.1 in
    let i = index_takes 512 front c.pair (omega arith) p.1 in
    (ap (λ (x : Word). x ++ side_letter c.side) i.0 ∙ ap (λ (x : Word). front ++ x) (side_takes last c.side p.0) ∙ parted (b ∷ w) (omega arith), i.1)

choice_parts : (least : ℕ) (number : Word) (letter : ℕ)
    → choice_at least (number ++ letter ∷ []) ≡ cond (is_ascii_digit (get_or (number ++ letter ∷ []) 0 0)) (chosen least (side_at letter) (index_at 512 number)) (Err BadLine)
unfolding choice_at
choice_parts least number letter =
    let k : length (number ++ letter ∷ []) - 1 ≡ length number = omega (arith, length_push number letter) in
    rw (k, get_or_at number letter [] 0 (length number) refl, take_at number (letter ∷ []) (length number) refl) refl

first_digit : (ds rest : List ℕ) → 0 < length ds → all_ascii_digits ds ≡ true → is_ascii_digit (get_or (ds ++ rest) 0 0) ≡ true
first_digit [] rest some e = absurd (omega (arith, some))
first_digit (d ∷ ds) rest some e = (and_parts (is_ascii_digit d) (all_ascii_digits ds) e).0

letter_of : (s : Side) → (letter : ℕ) × (side_letter s ≡ letter ∷ []) × (side_at letter ≡ Some s)
letter_of A = (97, refl, refl)
letter_of B = (98, refl, refl)

choice_again : (least : ℕ) (c : Choice) → HasPair c → least ≤ c.pair → choice_at least (choice_word c) ≡ Ok c
choice_again least c h low =
    let l = letter_of c.side in
    let number = decimal (c.pair + 1) in
    let small : c.pair + 1 < 10 ^ 64 = omega (arith, h) in
    ap (choice_at least) (ap (λ (x : Word). number ++ x) l.1) ∙ choice_parts least number l.0
    ∙ ap (λ (t : Bool). cond t (chosen least (side_at l.0) (index_at 512 number)) (Err BadLine)) (first_digit number (l.0 ∷ []) (decimal_some (c.pair + 1) small) (decimal_digits (c.pair + 1) small))
    ∙ ap (λ (s : Option Side). chosen least s (index_at 512 number)) l.2 ∙ ap (chosen least (Some c.side)) (index_again 512 c.pair h (lit< tt))
    ∙ ap (λ (t : Bool). cond t (Err BadChoice) (Ok c)) (le-ltb c.pair least low)

colon_refused : (least : ℕ) → choice_at least colon ≡ Err BadLine
unfolding choice_at
colon_refused least = refl

not_colon : (c : Choice) → HasPair c → bytes_eq (choice_word c) colon ≡ false
not_colon c h =
    false_from_ne_true _ (λ t. apart c BadLine (sym (choice_again 0 c h (omega arith)) ∙ ap (choice_at 0) ((bytes_eq-Decides (choice_word c) colon).0 t) ∙ colon_refused 0))

choices_take : (least : ℕ) (ws : List Word) (x : List Choice × List Word) → choices_from least ws ≡ Ok x → (ws ≡ map choice_word x.0 ++ colon ∷ x.1) × All HasPair x.0
unfolding choices_from
choices_take least [] x e = absurd cc
choices_take least (w ∷ ws) x e = elim (either (bytes_eq w colon) (Ok ([], ws)) (choice_at least w >>= λ c. choices_from (c.pair + 1) ws >>= λ found. Ok (c ∷ found.0, found.1)) (Ok x) e) [
  | inl closed ↦
      let made : List Choice × List Word = ([], ws) in
      subst (λ (y : List Choice × List Word). (w ∷ ws ≡ map choice_word y.0 ++ colon ∷ y.1) × All HasPair y.0) {x = made} (same_ok made x closed.1)
      (ap (λ (v : Word). v ∷ ws) ((bytes_eq-Decides w colon).0 closed.0), All-nil HasPair)
  | inr onward ↦
      let c = bind_ok (choice_at least w) (λ c. choices_from (c.pair + 1) ws >>= λ found. Ok (c ∷ found.0, found.1)) x onward.1 in
      let found = bind_ok (choices_from (c.0.pair + 1) ws) (λ found. Ok (c.0 ∷ found.0, found.1)) x c.2 in
      let made : List Choice × List Word = (c.0 ∷ found.0.0, found.0.1) in
      let t = choice_takes least w c.0 c.1 in
      let more = choices_take (c.0.pair + 1) ws found.0 found.1 in
      subst (λ (y : List Choice × List Word). (w ∷ ws ≡ map choice_word y.0 ++ colon ∷ y.1) × All HasPair y.0) {x = made} (same_ok made x found.2)
      (ap (λ (v : Word). v ∷ ws) (sym t.0) ∙ ap (λ (vs : List Word). choice_word c.0 ∷ vs) more.0, All-cons HasPair c.0 found.0.0 t.1 more.1)
]

choices_again : (least : ℕ) (cs : List Choice) (rest : List Word) → All HasPair cs → Ascend pair_of least cs → choices_from least (map choice_word cs ++ colon ∷ rest) ≡ Ok (cs, rest)
unfolding choices_from
choices_again least [] rest h a = refl
choices_again least (c ∷ cs) rest h a =
    let behind = map choice_word cs ++ colon ∷ rest in
    let head = All-head HasPair c cs h in
    ap (λ (t : Bool). cond t (Ok ([], behind)) (choice_at least (choice_word c) >>= λ d. choices_from (d.pair + 1) behind >>= λ found. Ok (d ∷ found.0, found.1))) (not_colon c head)
    ∙ ap (λ (r : Reading Choice). r >>= λ d. choices_from (d.pair + 1) behind >>= λ found. Ok (d ∷ found.0, found.1)) (choice_again least c head a.0)
    ∙ ap (λ (r : Reading (List Choice × List Word)). r >>= λ found. Ok (c ∷ found.0, found.1)) (choices_again (c.pair + 1) cs rest (All-tail HasPair c cs h) (ascend_parts pair_of c cs a.1))

pub no_good_takes : (ws : List Word) (x : List Choice × List Word) → choices_from 0 ws ≡ Ok x → (ws ≡ map choice_word x.0 ++ colon ∷ x.1) × IsNoGood x.0
no_good_takes ws x e = let t = choices_take 0 ws x e in (t.0, record { ascending = (choices_ascend 0 ws x e).1; pairs_named = t.1 })

pub no_good_again : (ng : List Choice) (rest : List Word) → IsNoGood ng → choices_from 0 (map choice_word ng ++ colon ∷ rest) ≡ Ok (ng, rest)
no_good_again ng rest h = choices_again 0 ng rest h.pairs_named (ascend_from_zero pair_of ng h.ascending)

last_choices_take : (least : ℕ) (ws : List Word) (cs : List Choice) → last_choices_from least ws ≡ Ok cs → (ws ≡ map choice_word cs) × All HasPair cs
unfolding last_choices_from
last_choices_take least [] cs e = subst (λ (y : List Choice). ([] ≡ map choice_word y) × All HasPair y) {x = []} (same_ok [] cs e) (refl, All-nil HasPair)
last_choices_take least (w ∷ ws) cs e =
    let c = bind_ok (choice_at least w) (λ c. last_choices_from (c.pair + 1) ws >>= λ ds. Ok (c ∷ ds)) cs e in
    let ds = bind_ok (last_choices_from (c.0.pair + 1) ws) (λ ds. Ok (c.0 ∷ ds)) cs c.2 in
    let t = choice_takes least w c.0 c.1 in
    let more = last_choices_take (c.0.pair + 1) ws ds.0 ds.1 in
    subst (λ (y : List Choice). (w ∷ ws ≡ map choice_word y) × All HasPair y) {x = c.0 ∷ ds.0} (same_ok (c.0 ∷ ds.0) cs ds.2)
    (ap (λ (v : Word). v ∷ ws) (sym t.0) ∙ ap (λ (vs : List Word). choice_word c.0 ∷ vs) more.0, All-cons HasPair c.0 ds.0 t.1 more.1)

last_choices_again : (least : ℕ) (cs : List Choice) → All HasPair cs → Ascend pair_of least cs → last_choices_from least (map choice_word cs) ≡ Ok cs
unfolding last_choices_from
last_choices_again least [] h a = refl
last_choices_again least (c ∷ cs) h a =
    ap (λ (r : Reading Choice). r >>= λ d. last_choices_from (d.pair + 1) (map choice_word cs) >>= λ ds. Ok (d ∷ ds)) (choice_again least c (All-head HasPair c cs h) a.0)
    ∙ ap (λ (r : Reading (List Choice)). r >>= λ ds. Ok (c ∷ ds)) (last_choices_again (c.pair + 1) cs (All-tail HasPair c cs h) (ascend_parts pair_of c cs a.1))

pub piece_takes : (ws : List Word) (cs : List Choice) → last_choices_from 0 ws ≡ Ok cs → (ws ≡ map choice_word cs) × IsNoGood cs
piece_takes ws cs e = let t = last_choices_take 0 ws cs e in (t.0, record { ascending = (last_choices_ascend 0 ws cs e).1; pairs_named = t.1 })

pub piece_again : (cs : List Choice) → IsNoGood cs → last_choices_from 0 (map choice_word cs) ≡ Ok cs
piece_again cs h = last_choices_again 0 cs h.pairs_named (ascend_from_zero pair_of cs h.ascending)

-- ---- terms

abbrev Term : Type 0
Term = ℕ × ℤ

abbrev IsTerm : Term → Type 0
IsTerm t = (t.0 < 2 ^ 32 - 1) × (IsNarrow t.1 × (t.1 ≢ pos 0))

record TermsAre (least : ℕ) (ws : List Word) (ts : List Term) : Type 0 where
  words : ws ≡ flat_map term_words ts
  each : All IsTerm ts
  ascend : Ascend number_of least ts

terms_take : (least : ℕ) (ws : List Word) (ts : List Term) → terms_from least ws ≡ Ok ts → TermsAre least ws ts
unfolding terms_from
terms_take least [] ts e = subst (λ (y : List Term). TermsAre least [] y) {x = []} (same_ok [] ts e) (record { words = refl; each = All-nil IsTerm; ascend = (tt, refl) })
terms_take least (number ∷ []) ts e = absurd (apart_bound (number_at least number) ts e)
  where
    apart_bound : (r : Reading ℕ) (ts : List Term) → (r >>= λ n. Err BadLine) ≡ Ok ts → ⊥
    apart_bound (Ok n) ts e = absurd cc
    apart_bound (Err why) ts e = absurd cc
terms_take least (number ∷ word ∷ ws) ts e =
    let n = bind_ok (number_at least number) (λ n. factor_at word >>= λ z. terms_from (n + 1) ws >>= λ terms. Ok ((n, z) ∷ terms)) ts e in
    let z = bind_ok (factor_at word) (λ z. terms_from (n.0 + 1) ws >>= λ terms. Ok ((n.0, z) ∷ terms)) ts n.2 in
    let us = bind_ok (terms_from (n.0 + 1) ws) (λ terms. Ok ((n.0, z.0) ∷ terms)) ts z.2 in
    let t : Term = (n.0, z.0) in
    let k = number_takes least number n.0 n.1 in
    let y = factor_takes word z.0 z.1 in
    let more = terms_take (n.0 + 1) ws us.0 us.1 in
    subst (TermsAre least (number ∷ word ∷ ws)) {x = t ∷ us.0} (same_ok (t ∷ us.0) ts us.2) (record {
      words = ap (λ (v : Word). v ∷ word ∷ ws) (sym k.0) ∙ ap (λ (v : Word). decimal (n.0 + 1) ∷ v ∷ ws) (sym y.0) ∙ ap (λ (vs : List Word). decimal (n.0 + 1) ∷ signed_decimal z.0 ∷ vs) more.words;
      each = All-cons IsTerm t us.0 (k.1, (y.1, y.2)) more.each;
      ascend = ascend_more number_of least t us.0 k.2 more.ascend;
    })

terms_again : (least : ℕ) (ts : List Term) → All IsTerm ts → Ascend number_of least ts → terms_from least (flat_map term_words ts) ≡ Ok ts
unfolding terms_from
terms_again least [] h a = refl
terms_again least (t ∷ ts) h a =
    let head = All-head IsTerm t ts h in
    let rest = flat_map term_words ts in
    ap (λ (r : Reading ℕ). r >>= λ n. factor_at (signed_decimal t.1) >>= λ z. terms_from (n + 1) rest >>= λ terms. Ok ((n, z) ∷ terms)) (number_again least t.0 head.0 a.0)
    ∙ ap (λ (r : Reading ℤ). r >>= λ z. terms_from (t.0 + 1) rest >>= λ terms. Ok ((t.0, z) ∷ terms)) (factor_again t.1 head.1.0 head.1.1)
    ∙ ap (λ (r : Reading (List Term)). r >>= λ terms. Ok (t ∷ terms)) (terms_again (t.0 + 1) ts (All-tail IsTerm t ts h) (ascend_parts number_of t ts a.1))

pub row_takes : (ws : List Word) (ts : List Term) → terms_from 0 ws ≡ Ok ts → (ws ≡ flat_map term_words ts) × AreTerms ts
row_takes ws ts e =
    let t = terms_take 0 ws ts e in (
      t.words,
      record {
        ascending = t.ascend.1;
        numbers = All-weaker IsTerm (λ x. x.0 < 2 ^ 32 - 1) (λ x h. h.0) ts t.each;
        narrow = All-weaker IsTerm (λ x. IsNarrow x.1 × (x.1 ≢ pos 0)) (λ x h. h.1) ts t.each;
      },
    )

pub row_again : (ts : List Term) → AreTerms ts → terms_from 0 (flat_map term_words ts) ≡ Ok ts
row_again ts h = terms_again 0 ts (λ i d lt. (h.numbers i d lt, h.narrow i d lt)) (ascend_from_zero number_of ts h.ascending)

-- ---- hints

abbrev IsHint : ℕ → Type 0
IsHint h = h < 2 ^ 64 - 1

pub hints_take : (ws : List Word) (hs : List ℕ) → hints_at ws ≡ Ok hs → (ws ≡ map hint_word hs) × All IsHint hs
unfolding hints_at
hints_take [] hs e = subst (λ (y : List ℕ). ([] ≡ map hint_word y) × All IsHint y) {x = []} (same_ok [] hs e) (refl, All-nil IsHint)
hints_take (w ∷ ws) hs e =
    let h = bind_ok (hint_at w) (λ h. hints_at ws >>= λ hints. Ok (h ∷ hints)) hs e in
    let ks = bind_ok (hints_at ws) (λ hints. Ok (h.0 ∷ hints)) hs h.2 in
    let t = hint_takes w h.0 h.1 in
    let more = hints_take ws ks.0 ks.1 in
    subst (λ (y : List ℕ). (w ∷ ws ≡ map hint_word y) × All IsHint y) {x = h.0 ∷ ks.0} (same_ok (h.0 ∷ ks.0) hs ks.2)
    (ap (λ (v : Word). v ∷ ws) (sym t.0) ∙ ap (λ (vs : List Word). hint_word h.0 ∷ vs) more.0, All-cons IsHint h.0 ks.0 t.1 more.1)

pub hints_again : (hs : List ℕ) → All IsHint hs → hints_at (map hint_word hs) ≡ Ok hs
unfolding hints_at
hints_again [] h = refl
hints_again (x ∷ hs) h =
    ap (λ (r : Reading ℕ). r >>= λ k. hints_at (map hint_word hs) >>= λ hints. Ok (k ∷ hints)) (hint_again x (All-head IsHint x hs h))
    ∙ ap (λ (r : Reading (List ℕ)). r >>= λ hints. Ok (x ∷ hints)) (hints_again hs (All-tail IsHint x hs h))
