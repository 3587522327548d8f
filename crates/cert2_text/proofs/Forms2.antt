-- The forms of lines of form 2: what is read is spelled so, and what is spelled is read.
use Rattle.std.proofs.Common.{◌≡◌, ℕ, ◌+◌, ◌-◌, ◌^◌, ◌<◌, ◌≤◌, Bool, true, cond, ltb, leb, eqb, List, [], ◌∷◌, ◌++◌, length, map, Option, Some, None, Ok, Err, refl, sym, ap, subst, ◌∙◌, inl, inr, arith, ℤ}
use Rattle.std.specs.Prelude.{All, bytes_eq, flat_map, codes}
use Rattle.std.specs.Char.{is_ascii_digit}
use Rattle.std.specs.Str.{all_ascii_digits}
use Rattle.std.specs.Fmt.{decimal, signed_decimal}
use Rattle.std.proofs.lemmas.Bool.{ltb-false, leb-true, le-ltb, eqb-true, ne_eqb, and_parts}
use Rattle.std.proofs.lemmas.Option.{cond_some}
use Rattle.std.proofs.lemmas.List.Elements.{All-nil, All-cons, All-head, All-tail}
use Rattle.std.proofs.lemmas.Slice.Eq.{bytes_eq-Decides}
use Rattle.nogoods.specs.declared.choice.Choice.{Choice}
use Rattle.cert_text.specs.declared.fault.CertWhy.TheVariants.{BadLine}
use Rattle.cert_text.specs.Certs.{AreTerms}
use Rattle.cert_text.specs.Spelling.{Word, choice_word, term_words, hint_word, colon}
use Rattle.cert_text.specs.Reading.{◌>>=◌, Reading, index_at, hint_at, from_least, after, first_at, choices_from, terms_from, hints_at, bound_at}
use Rattle.cert_text.proofs.Results.{same_ok, bind_ok, unless_test, either}
use Rattle.cert_text.proofs.Numbers.{decimal_digits, index_takes, index_again, hint_takes, hint_again}
use Rattle.cert_text.proofs.Ascents.{Ascend, ascend_more, ascend_parts, ascend_from_zero}
use Rattle.cert_text.proofs.WordLists.{no_good_takes, no_good_again, row_takes, row_again, hints_take, hints_again}
use Rattle.cert_text.proofs.Forms.{after_takes, after_again, first_takes, bound_takes, bound_again, front}
use Rattle.cert2_text.specs.declared.cert2.Cert2Line.{Cert2Line}
use Rattle.cert2_text.specs.declared.cert2.Cert2Line.TheVariants.{Shared, Ray, Point, Derived, Forget}
use Rattle.cert2_text.specs.Certs2.{IsListNumber, IsLine2}
use Rattle.cert2_text.specs.Spelling2.{list_words, line2_words}
use Rattle.cert2_text.specs.Reading2.{list_word, list_by, list_at, dropped_at, dropped_from, some_dropped, shared_at, ray2_at, point2_at, derived2_at, forget_at, line2_by, line2_at}

-- ---- a list that is named

abbrev ListIs : List Word → Option ℕ × List Word → Type 0
ListIs ws x = (ws ≡ list_words x.0 ++ x.1) × IsListNumber x.0

list_word_takes : (w number : Word) → list_word w ≡ Some number → w ≡ 64 ∷ number
list_word_takes [] number e = absurd cc
list_word_takes (b ∷ w) number e = let f = cond_some (eqb b 64) w number e in ap (λ (c : ℕ). c ∷ w) (eqb-true b 64 f.0) ∙ ap (λ (v : Word). 64 ∷ v) f.1

list_by_takes : (o : Option Word) (w : Word) (ws : List Word) (x : Option ℕ × List Word) → list_word w ≡ o → list_by o (w ∷ ws) ws ≡ Ok x → ListIs (w ∷ ws) x
list_by_takes None w ws x e h =
    let made : Option ℕ × List Word = (None, w ∷ ws) in
    subst (ListIs (w ∷ ws)) {x = made} (same_ok made x h) (refl, tt)
list_by_takes (Some number) w ws x e h =
    let a = bind_ok (hint_at number) (λ n. Ok (Some n, ws)) x h in
    let t = hint_takes number a.0 a.1 in
    let made : Option ℕ × List Word = (Some a.0, ws) in
    subst (ListIs (w ∷ ws)) {x = made} (same_ok made x a.2) (ap (λ (v : Word). v ∷ ws) (list_word_takes w number e ∙ ap (λ (v : Word). 64 ∷ v) (sym t.0)), t.1)

list_takes : (ws : List Word) (x : Option ℕ × List Word) → list_at ws ≡ Ok x → ListIs ws x
unfolding list_at
list_takes [] x e =
    let made : Option ℕ × List Word = (None, []) in
    subst (ListIs []) {x = made} (same_ok made x e) (refl, tt)
list_takes (w ∷ ws) x e = list_by_takes (list_word w) w ws x refl e

-- no list is named first
abbrev NoList : List Word → Type 0
NoList [] = Unit {0}
NoList (w ∷ ws) = list_word w ≡ None

list_again : (list : Option ℕ) (rest : List Word) → IsListNumber list → NoList rest → list_at (list_words list ++ rest) ≡ Ok (list, rest)
unfolding list_at
list_again None [] h n = refl
list_again None (w ∷ ws) h n = ap (λ (o : Option Word). list_by o (w ∷ ws) ws) n
list_again (Some l) rest h n = ap (λ (r : Reading ℕ). r >>= λ y. Ok (Some y, rest)) (hint_again l h)

digits_no_list : (w : Word) → all_ascii_digits w ≡ true → list_word w ≡ None
digits_no_list [] e = refl
digits_no_list (b ∷ w) e =
    let d = and_parts (is_ascii_digit b) (all_ascii_digits w) e in
    let t = and_parts (leb 48 b) (leb b 57) d.0 in
    let high : b ≤ 57 = leb-true _ _ t.1 in
    ap (λ (x : Bool). cond x (Some w) None) (ne_eqb b 64 (λ z. omega (arith, z, high)))

terms_no_list : (ts : List (ℕ × ℤ)) → AreTerms ts → NoList (flat_map term_words ts)
terms_no_list [] h = tt
terms_no_list (t ∷ ts) h =
    let small : t.0 < 2 ^ 32 - 1 = All-head (λ u. u.0 < 2 ^ 32 - 1) t ts h.numbers in
    digits_no_list (decimal (t.0 + 1)) (decimal_digits (t.0 + 1) (omega (arith, small)))

-- ---- lines that are dropped

abbrev IsNumber : ℕ → Type 0
IsNumber h = h < 2 ^ 64 - 1

abbrev own : ℕ → ℕ
own n = n

number_takes : (least : ℕ) (w : Word) (n : ℕ) → dropped_at least w ≡ Ok n → (decimal (n + 1) ≡ w) × IsNumber n × (least ≤ n)
unfolding dropped_at
number_takes least w n e =
    let a = bind_ok (index_at (2 ^ 64 - 1) w) (from_least least) n e in
    let g = unless_test (ltb a.0 least) (Ok a.0) BadLine n a.2 in
    let same = same_ok a.0 n g.1 in
    let t = index_takes (2 ^ 64 - 1) w a.0 (omega arith) a.1 in
    (ap (λ (m : ℕ). decimal (m + 1)) (sym same) ∙ t.0, omega (arith, t.1, same), omega (arith, ltb-false a.0 least g.0, same))

number_again : (least n : ℕ) → IsNumber n → least ≤ n → dropped_at least (decimal (n + 1)) ≡ Ok n
unfolding dropped_at
number_again least n h low =
    ap (λ (r : Reading ℕ). r >>= from_least least) (index_again (2 ^ 64 - 1) n h (omega arith)) ∙ ap (λ (t : Bool). cond t (Err BadLine) (Ok n)) (le-ltb n least low)

record NumbersAre (least : ℕ) (ws : List Word) (hs : List ℕ) : Type 0 where
  words : ws ≡ map hint_word hs
  each : All IsNumber hs
  ascend : Ascend own least hs

numbers_take : (least : ℕ) (ws : List Word) (hs : List ℕ) → dropped_from least ws ≡ Ok hs → NumbersAre least ws hs
unfolding dropped_from
numbers_take least [] hs e = subst (λ (y : List ℕ). NumbersAre least [] y) {x = []} (same_ok [] hs e) (record { words = refl; each = All-nil IsNumber; ascend = (tt, refl) })
numbers_take least (w ∷ ws) hs e =
    let h = bind_ok (dropped_at least w) (λ h. dropped_from (h + 1) ws >>= λ ks. Ok (h ∷ ks)) hs e in
    let ks = bind_ok (dropped_from (h.0 + 1) ws) (λ ks. Ok (h.0 ∷ ks)) hs h.2 in
    let t = number_takes least w h.0 h.1 in
    let more = numbers_take (h.0 + 1) ws ks.0 ks.1 in
    subst (λ (y : List ℕ). NumbersAre least (w ∷ ws) y) {x = h.0 ∷ ks.0} (same_ok (h.0 ∷ ks.0) hs ks.2) (record {
      words = ap (λ (v : Word). v ∷ ws) (sym t.0) ∙ ap (λ (vs : List Word). hint_word h.0 ∷ vs) more.words;
      each = All-cons IsNumber h.0 ks.0 t.1 more.each;
      ascend = ascend_more own least h.0 ks.0 t.2 more.ascend;
    })

numbers_again : (least : ℕ) (hs : List ℕ) → All IsNumber hs → Ascend own least hs → dropped_from least (map hint_word hs) ≡ Ok hs
unfolding dropped_from
numbers_again least [] h a = refl
numbers_again least (x ∷ hs) h a =
    ap (λ (r : Reading ℕ). r >>= λ k. dropped_from (k + 1) (map hint_word hs) >>= λ ks. Ok (k ∷ ks)) (number_again least x (All-head IsNumber x hs h) a.0)
    ∙ ap (λ (r : Reading (List ℕ)). r >>= λ ks. Ok (x ∷ ks)) (numbers_again (x + 1) hs (All-tail IsNumber x hs h) (ascend_parts own x hs a.1))

some_takes : (hs : List ℕ) (x : Cert2Line) → some_dropped hs ≡ Ok x → (0 < length hs) × (Forget hs ≡ x)
some_takes [] x e = absurd cc
some_takes (h ∷ hs) x e = (omega arith, same_ok (Forget (h ∷ hs)) x e)

some_again : (hs : List ℕ) → 0 < length hs → some_dropped hs ≡ Ok (Forget hs)
some_again [] h = absurd (omega (arith, h))
some_again (k ∷ hs) h = refl

-- ---- lines

abbrev Spelled : Word → List Word → Cert2Line → Type 0
Spelled kind ws x = (kind ∷ ws ≡ line2_words x) × IsLine2 x

shared_takes : (ws : List Word) (x : Cert2Line) → shared_at ws ≡ Ok x → Spelled (codes "m") ws x
unfolding shared_at
shared_takes ws x e =
    let a = bind_ok (after colon ws) (λ rest. terms_from 0 rest >>= λ mult. Ok (Shared mult)) x e in
    let b = bind_ok (terms_from 0 a.0) (λ mult. Ok (Shared mult)) x a.2 in
    let r = row_takes a.0 b.0 b.1 in
    subst (Spelled (codes "m") ws) {x = Shared b.0} (same_ok (Shared b.0) x b.2)
    (ap (λ (v : List Word). codes "m" ∷ v) (after_takes colon ws a.0 a.1 ∙ ap (λ (v : List Word). colon ∷ v) r.0), r.1)

ray_takes : (ws : List Word) (x : Cert2Line) → ray2_at ws ≡ Ok x → Spelled (codes "i") ws x
unfolding ray2_at
ray_takes ws x e =
    let a = bind_ok (choices_from 0 ws) (λ y. list_at y.1 >>= λ l. terms_from 0 l.1 >>= λ mult. Ok (Ray y.0 l.0 mult)) x e in
    let l = bind_ok (list_at a.0.1) (λ l. terms_from 0 l.1 >>= λ mult. Ok (Ray a.0.0 l.0 mult)) x a.2 in
    let b = bind_ok (terms_from 0 l.0.1) (λ mult. Ok (Ray a.0.0 l.0.0 mult)) x l.2 in
    let n = no_good_takes ws a.0 a.1 in
    let k = list_takes a.0.1 l.0 l.1 in
    let r = row_takes l.0.1 b.0 b.1 in
    let behind : a.0.1 ≡ list_words l.0.0 ++ flat_map term_words b.0 = k.0 ∙ ap (λ (t : List Word). list_words l.0.0 ++ t) r.0 in
    subst (Spelled (codes "i") ws) {x = Ray a.0.0 l.0.0 b.0} (same_ok (Ray a.0.0 l.0.0 b.0) x b.2)
    (front (codes "i") ws a.0.0 a.0.1 (list_words l.0.0 ++ flat_map term_words b.0) n.0 behind, (n.1, k.1, r.1))

point_takes : (ws : List Word) (x : Cert2Line) → point2_at ws ≡ Ok x → Spelled (codes "p") ws x
unfolding point2_at
point_takes ws x e =
    let a = bind_ok (choices_from 0 ws) (λ y. bound_at y.1 >>= λ n. list_at n.1 >>= λ l. terms_from 0 l.1 >>= λ mult. Ok (Point y.0 n.0 l.0 mult)) x e in
    let d = bind_ok (bound_at a.0.1) (λ n. list_at n.1 >>= λ l. terms_from 0 l.1 >>= λ mult. Ok (Point a.0.0 n.0 l.0 mult)) x a.2 in
    let l = bind_ok (list_at d.0.1) (λ l. terms_from 0 l.1 >>= λ mult. Ok (Point a.0.0 d.0.0 l.0 mult)) x d.2 in
    let b = bind_ok (terms_from 0 l.0.1) (λ mult. Ok (Point a.0.0 d.0.0 l.0.0 mult)) x l.2 in
    let n = no_good_takes ws a.0 a.1 in
    let e1 = bound_takes a.0.1 d.0 d.1 in
    let k = list_takes d.0.1 l.0 l.1 in
    let r = row_takes l.0.1 b.0 b.1 in
    let rest : d.0.1 ≡ list_words l.0.0 ++ flat_map term_words b.0 = k.0 ∙ ap (λ (t : List Word). list_words l.0.0 ++ t) r.0 in
    let behind : a.0.1 ≡ signed_decimal d.0.0 ∷ colon ∷ (list_words l.0.0 ++ flat_map term_words b.0) = e1.0 ∙ ap (λ (t : List Word). signed_decimal d.0.0 ∷ colon ∷ t) rest in
    subst (Spelled (codes "p") ws) {x = Point a.0.0 d.0.0 l.0.0 b.0} (same_ok (Point a.0.0 d.0.0 l.0.0 b.0) x b.2)
    (front (codes "p") ws a.0.0 a.0.1 (signed_decimal d.0.0 ∷ colon ∷ (list_words l.0.0 ++ flat_map term_words b.0)) n.0 behind, (n.1, e1.1, e1.2, k.1, r.1))

derived_takes : (ws : List Word) (x : Cert2Line) → derived2_at ws ≡ Ok x → Spelled (codes "d") ws x
unfolding derived2_at
derived_takes ws x e =
    let a = bind_ok (choices_from 0 ws) (λ y. hints_at y.1 >>= λ hints. Ok (Derived y.0 hints)) x e in
    let b = bind_ok (hints_at a.0.1) (λ hints. Ok (Derived a.0.0 hints)) x a.2 in
    let n = no_good_takes ws a.0 a.1 in
    let h = hints_take a.0.1 b.0 b.1 in
    subst (Spelled (codes "d") ws) {x = Derived a.0.0 b.0} (same_ok (Derived a.0.0 b.0) x b.2) (front (codes "d") ws a.0.0 a.0.1 (map hint_word b.0) n.0 h.0, (n.1, h.1))

forget_takes : (ws : List Word) (x : Cert2Line) → forget_at ws ≡ Ok x → Spelled (codes "x") ws x
unfolding forget_at
forget_takes ws x e =
    let a = bind_ok (dropped_from 0 ws) some_dropped x e in
    let t = numbers_take 0 ws a.0 a.1 in
    let s = some_takes a.0 x a.2 in
    subst (Spelled (codes "x") ws) {x = Forget a.0} s.1 (ap (λ (v : List Word). codes "x" ∷ v) t.words, record { some = s.0; ascending = t.ascend.1; numbers = t.each })

of_kind : (kind letter : Word) (ws : List Word) (x : Cert2Line) → bytes_eq kind letter ≡ true → Spelled letter ws x → Spelled kind ws x
of_kind kind letter ws x t h = (ap (λ (v : Word). v ∷ ws) ((bytes_eq-Decides kind letter).0 t) ∙ h.0, h.1)

abbrev from_x : Word → List Word → Reading Cert2Line
from_x kind ws = cond (bytes_eq kind (codes "x")) (forget_at ws) (Err BadLine)

abbrev from_m : Word → List Word → Reading Cert2Line
from_m kind ws = cond (bytes_eq kind (codes "m")) (shared_at ws) (from_x kind ws)

abbrev from_d : Word → List Word → Reading Cert2Line
from_d kind ws = cond (bytes_eq kind (codes "d")) (derived2_at ws) (from_m kind ws)

abbrev from_p : Word → List Word → Reading Cert2Line
from_p kind ws = cond (bytes_eq kind (codes "p")) (point2_at ws) (from_d kind ws)

x_takes : (kind : Word) (ws : List Word) (x : Cert2Line) → from_x kind ws ≡ Ok x → Spelled kind ws x
x_takes kind ws x e = elim (either (bytes_eq kind (codes "x")) (forget_at ws) (Err BadLine) (Ok x) e) [
  | inl here ↦ of_kind kind (codes "x") ws x here.0 (forget_takes ws x here.1)
  | inr none ↦ absurd (no_line x none.1)
]
  where
    read : Cert2Line → Reading Cert2Line
    read x = Ok x

    no_line : (x : Cert2Line) → Err BadLine ≡ read x → ⊥
    no_line x e = absurd cc

m_takes : (kind : Word) (ws : List Word) (x : Cert2Line) → from_m kind ws ≡ Ok x → Spelled kind ws x
m_takes kind ws x e = elim (either (bytes_eq kind (codes "m")) (shared_at ws) (from_x kind ws) (Ok x) e) [
  | inl here ↦ of_kind kind (codes "m") ws x here.0 (shared_takes ws x here.1)
  | inr other ↦ x_takes kind ws x other.1
]

d_takes : (kind : Word) (ws : List Word) (x : Cert2Line) → from_d kind ws ≡ Ok x → Spelled kind ws x
d_takes kind ws x e = elim (either (bytes_eq kind (codes "d")) (derived2_at ws) (from_m kind ws) (Ok x) e) [
  | inl here ↦ of_kind kind (codes "d") ws x here.0 (derived_takes ws x here.1)
  | inr other ↦ m_takes kind ws x other.1
]

p_takes : (kind : Word) (ws : List Word) (x : Cert2Line) → from_p kind ws ≡ Ok x → Spelled kind ws x
p_takes kind ws x e = elim (either (bytes_eq kind (codes "p")) (point2_at ws) (from_d kind ws) (Ok x) e) [
  | inl here ↦ of_kind kind (codes "p") ws x here.0 (point_takes ws x here.1)
  | inr other ↦ d_takes kind ws x other.1
]

line_by_takes : (kind : Word) (ws : List Word) (x : Cert2Line) → line2_by kind ws ≡ Ok x → Spelled kind ws x
unfolding line2_by
line_by_takes kind ws x e = elim (either (bytes_eq kind (codes "i")) (ray2_at ws) (from_p kind ws) (Ok x) e) [
  | inl here ↦ of_kind kind (codes "i") ws x here.0 (ray_takes ws x here.1)
  | inr other ↦ p_takes kind ws x other.1
]

pub line2_takes : (ws : List Word) (x : Cert2Line) → line2_at ws ≡ Ok x → (ws ≡ line2_words x) × IsLine2 x
unfolding line2_at
line2_takes ws x e =
    let a = bind_ok (first_at ws) (λ first. line2_by first.0 first.1) x e in
    let t = line_by_takes a.0.0 a.0.1 x a.2 in
    (first_takes ws a.0 a.1 ∙ t.0, t.1)

shared_again : (mult : List (ℕ × ℤ)) → IsLine2 (Shared mult) → shared_at (colon ∷ flat_map term_words mult) ≡ Ok (Shared mult)
unfolding shared_at
shared_again mult h =
    ap (λ (r : Reading (List Word)). r >>= λ rest. terms_from 0 rest >>= λ m. Ok (Shared m)) (after_again colon (flat_map term_words mult))
    ∙ ap (λ (r : Reading (List (ℕ × ℤ))). r >>= λ m. Ok (Shared m)) (row_again mult h)

ray_again : (ng : List Choice) (list : Option ℕ) (mult : List (ℕ × ℤ)) → IsLine2 (Ray ng list mult) → ray2_at (map choice_word ng ++ colon ∷ (list_words list ++ flat_map term_words mult)) ≡ Ok (Ray ng list mult)
unfolding ray2_at
ray_again ng list mult h =
    ap (λ (r : Reading (List Choice × List Word)). r >>= λ y. list_at y.1 >>= λ l. terms_from 0 l.1 >>= λ m. Ok (Ray y.0 l.0 m)) (no_good_again ng (list_words list ++ flat_map term_words mult) h.0)
    ∙ ap (λ (r : Reading (Option ℕ × List Word)). r >>= λ l. terms_from 0 l.1 >>= λ m. Ok (Ray ng l.0 m)) (list_again list (flat_map term_words mult) h.1 (terms_no_list mult h.2))
    ∙ ap (λ (r : Reading (List (ℕ × ℤ))). r >>= λ m. Ok (Ray ng list m)) (row_again mult h.2)

point_again : (ng : List Choice) (e : ℤ) (list : Option ℕ) (mult : List (ℕ × ℤ)) → IsLine2 (Point ng e list mult)
    → point2_at (map choice_word ng ++ colon ∷ signed_decimal e ∷ colon ∷ (list_words list ++ flat_map term_words mult)) ≡ Ok (Point ng e list mult)
unfolding point2_at
point_again ng e list mult h =
    ap (λ (r : Reading (List Choice × List Word)). r >>= λ y. bound_at y.1 >>= λ n. list_at n.1 >>= λ l. terms_from 0 l.1 >>= λ m. Ok (Point y.0 n.0 l.0 m))
    (no_good_again ng (signed_decimal e ∷ colon ∷ (list_words list ++ flat_map term_words mult)) h.0)
    ∙ ap (λ (r : Reading (ℤ × List Word)). r >>= λ n. list_at n.1 >>= λ l. terms_from 0 l.1 >>= λ m. Ok (Point ng n.0 l.0 m)) (bound_again e (list_words list ++ flat_map term_words mult) h.1 h.2)
    ∙ ap (λ (r : Reading (Option ℕ × List Word)). r >>= λ l. terms_from 0 l.1 >>= λ m. Ok (Point ng e l.0 m)) (list_again list (flat_map term_words mult) h.3 (terms_no_list mult h.4))
    ∙ ap (λ (r : Reading (List (ℕ × ℤ))). r >>= λ m. Ok (Point ng e list m)) (row_again mult h.4)

derived_again : (ng : List Choice) (hints : List ℕ) → IsLine2 (Derived ng hints) → derived2_at (map choice_word ng ++ colon ∷ map hint_word hints) ≡ Ok (Derived ng hints)
unfolding derived2_at
derived_again ng hints h =
    ap (λ (r : Reading (List Choice × List Word)). r >>= λ y. hints_at y.1 >>= λ hs. Ok (Derived y.0 hs)) (no_good_again ng (map hint_word hints) h.0)
    ∙ ap (λ (r : Reading (List ℕ)). r >>= λ hs. Ok (Derived ng hs)) (hints_again hints h.1)

forget_again : (hs : List ℕ) → IsLine2 (Forget hs) → forget_at (map hint_word hs) ≡ Ok (Forget hs)
unfolding forget_at
forget_again hs h = ap (λ (r : Reading (List ℕ)). r >>= some_dropped) (numbers_again 0 hs h.numbers (ascend_from_zero own hs h.ascending)) ∙ some_again hs h.some

pub line2_again : (x : Cert2Line) → IsLine2 x → line2_at (line2_words x) ≡ Ok x
unfolding line2_at first_at line2_by
line2_again (Shared mult) h = shared_again mult h
line2_again (Ray ng list mult) h = ray_again ng list mult h
line2_again (Point ng e list mult) h = point_again ng e list mult h
line2_again (Derived ng hints) h = derived_again ng hints h
line2_again (Forget hs) h = forget_again hs h
