-- How the value of a row changes by an exchange.
use Rattle.std.proofs.Common.{ℕ, ◌<◌, ◌≡◌, ◌∙◌, refl, sym, ap, arith, ℤ, pos, ◌+ℤ◌, ◌-ℤ◌, ◌*ℤ◌, neg_ℤ, ◌<ℤ◌, List, [], ◌∷◌, ◌++◌, Bool, true, false, cond, eqb}
use Rattle.std.specs.List.{AllByRecursion}
use Rattle.std.proofs.lemmas.Int.{ints}
use Rattle.std.proofs.Math.IntN.{zero-*ℤ, *ℤ-zero}
use Rattle.lp_base.proofs.Ring.{mul_add_right, mul_add_left, mul_assoc, mul_comm, mul_swap}
use Rattle.nogoods.specs.declared.choice.Choice.{Choice}
use Rattle.lpcc_case.specs.declared.form.Form.{Form}
use Rattle.lpcc_case.specs.Instance.{Instance}
use Rattle.lpcc_case.specs.Points.{coefficient}
use Rattle.dict.specs.Terms.{weigh, without}
use Rattle.dict.specs.Equations.{Equation, equation, Holds, scale}
use Rattle.dict.specs.Exchanges.{turn}
use Rattle.dict.specs.Dictionaries.{form_at}
use Rattle.dict.specs.Forms.{IsRowOf, AreIndependent, affine_of, affine_at}
use Rattle.dict.proofs.Enters.{neg_times}
use Rattle.dict.proofs.Pivots.{by_eq}
use Rattle.dict.proofs.SparseSums.{weigh_append, weigh_scale, weigh_split, weigh_same, without_same, without_apart}
use Rattle.dict.proofs.Independence.{drop_at, all_scale, all_append}
use Rattle.dict.proofs.Determined.{determined}
use Rattle.orders.specs.Order.{IsAbove, IsLess}
use Rattle.orders.proofs.Orders.{above_same, above_times, above_from_times}
use Rattle.walks.specs.Values.{margin, part, loosening, unit}
use Rattle.walks.proofs.Margins.{margin_holds}
use Rattle.walks.proofs.Signs.{turn_times}
use Rattle.walks.proofs.Sums.{weigh_multiple}

drop_one : (b : Bool) (z x : ℤ) → cond b (pos 0) z *ℤ x ≡ z *ℤ cond b (pos 0) x
drop_one true z x = zero-*ℤ x ∙ sym (*ℤ-zero z)
drop_one false z x = refl

weigh_drop : (e : ℕ) (ts : List (ℕ × ℤ)) (v : ℕ → ℤ) → weigh (drop_at e ts) v ≡ weigh ts (without e v)
weigh_drop e [] v = refl
weigh_drop e (t ∷ ts) v = omega (arith, ints, drop_one (eqb t.0 e) t.1 (v t.0), weigh_drop e ts v)

drop_all : (n e : ℕ) (ts : List (ℕ × ℤ)) → AllByRecursion (λ t. t.0 < n) ts → AllByRecursion (λ t. t.0 < n) (drop_at e ts)
drop_all n e [] h = tt
drop_all n e (t ∷ ts) h = (h.0, drop_all n e ts h.1)

-- the form of q over the forms after the exchange of the form of r with that at e
abbrev pub eliminated : ℕ → Equation → Equation → Equation
eliminated e q r =
    equation (coefficient r.entries e *ℤ q.den) ((coefficient r.entries e *ℤ q.constant) -ℤ (coefficient q.entries e *ℤ r.constant))
    (scale (coefficient r.entries e) (drop_at e q.entries) ++ (scale (neg_ℤ (coefficient q.entries e)) (drop_at e r.entries) ++ (e, coefficient q.entries e *ℤ r.den) ∷ []))

pub times_less : (a b c : ℤ) → a *ℤ (b -ℤ c) ≡ (a *ℤ b) -ℤ (a *ℤ c)
times_less a b c =
    let s = mul_add_left a (b -ℤ c) c in
    let t : (b -ℤ c) +ℤ c ≡ b = omega (arith, ints) in
    omega (arith, ints, s, ap (λ z. a *ℤ z) t)

pub less_times : (a b c : ℤ) → (b -ℤ c) *ℤ a ≡ (b *ℤ a) -ℤ (c *ℤ a)
less_times a b c = mul_comm (b -ℤ c) a ∙ times_less a b c ∙ ap (λ z. z -ℤ (a *ℤ c)) (mul_comm a b) ∙ ap (λ z. (b *ℤ a) -ℤ z) (mul_comm a c)

pub turn_around : (a b c : ℤ) → a *ℤ (b *ℤ c) ≡ b *ℤ (a *ℤ c)
turn_around a b c = sym (mul_assoc a b c) ∙ ap (λ z. z *ℤ c) (mul_comm a b) ∙ mul_assoc b a c

-- forms that differ at e alone, where the second have fr
pub record IsSwapped (e : ℕ) (forms after : List Form) (fr : Form) : Type 0 where
  pub here : form_at after e ≡ fr
  pub other : (j : ℕ) → (j ≡ e → ⊥) → form_at after j ≡ form_at forms j

without_swapped : (e : ℕ) (forms after : List Form) (fr : Form) (m : Form → ℤ) → IsSwapped e forms after fr → (j : ℕ) → without e (λ k. m (form_at after k)) j ≡ without e (λ k. m (form_at forms k)) j
without_swapped e forms after fr m is j =
    by_eq j e
    (λ same. ap (λ i. without e (λ k. m (form_at after k)) i) same ∙ without_same e (λ k. m (form_at after k)) ∙ sym (ap (λ i. without e (λ k. m (form_at forms k)) i) same ∙ without_same e (λ k. m (form_at forms k))))
    (λ other. without_apart e j (λ k. m (form_at after k)) other ∙ ap m (is.other j other) ∙ sym (without_apart e j (λ k. m (form_at forms k)) other))

pub eliminated_margin : (e : ℕ) (q r : Equation) (forms after : List Form) (f fr : Form) (m : Form → ℤ) → IsSwapped e forms after fr → margin (eliminated e q r) after f m ≡ (coefficient r.entries e *ℤ margin q forms f m) -ℤ (coefficient q.entries e *ℤ margin r forms fr m)
eliminated_margin e q r forms after f fr m is =
    let cr = coefficient r.entries e in
    let cq = coefficient q.entries e in
    let v : ℕ → ℤ = λ j. m (form_at forms j) in
    let w : ℕ → ℤ = λ j. m (form_at after j) in
    let qs = weigh q.entries (without e v) in
    let rs = weigh r.entries (without e v) in
    let wq : weigh (scale cr (drop_at e q.entries)) w ≡ cr *ℤ qs = weigh_scale cr (drop_at e q.entries) w ∙ ap (λ z. z *ℤ cr) (weigh_drop e q.entries w ∙ weigh_same q.entries (without e w) (without e v) (without_swapped e forms after fr m is)) ∙ mul_comm qs cr in
    let wr : weigh (scale (neg_ℤ cq) (drop_at e r.entries)) w ≡ neg_ℤ (cq *ℤ rs) = weigh_scale (neg_ℤ cq) (drop_at e r.entries) w ∙ ap (λ z. z *ℤ neg_ℤ cq) (weigh_drop e r.entries w ∙ weigh_same r.entries (without e w) (without e v) (without_swapped e forms after fr m is)) ∙ mul_comm rs (neg_ℤ cq) ∙ neg_times cq rs in
    let we : (cq *ℤ r.den) *ℤ w e ≡ cq *ℤ (r.den *ℤ m fr) = ap (λ g. (cq *ℤ r.den) *ℤ m g) is.here ∙ mul_assoc cq r.den (m fr) in
    let all = weigh_append (scale cr (drop_at e q.entries)) (scale (neg_ℤ cq) (drop_at e r.entries) ++ (e, cq *ℤ r.den) ∷ []) w in
    let rest = weigh_append (scale (neg_ℤ cq) (drop_at e r.entries)) ((e, cq *ℤ r.den) ∷ []) w in
    let sq = ap (λ z. cr *ℤ z) (weigh_split q.entries e v) ∙ mul_add_left cr (cq *ℤ v e) qs in
    let sr = ap (λ z. cq *ℤ z) (weigh_split r.entries e v) ∙ mul_add_left cq (cr *ℤ v e) rs in
    omega (arith, ints, all, rest, wq, wr, we, sq, sr, turn_around cr cq (v e), times_less cr (q.den *ℤ m f) (weigh q.entries v), times_less cq (r.den *ℤ m fr) (weigh r.entries v), mul_assoc cr q.den (m f))

eliminated_below : (n e : ℕ) (q r : Equation) → e < n → AllByRecursion (λ t. t.0 < n) q.entries → AllByRecursion (λ t. t.0 < n) r.entries → AllByRecursion (λ t. t.0 < n) (eliminated e q r).entries
eliminated_below n e q r h bq br =
    all_append n (scale (coefficient r.entries e) (drop_at e q.entries)) (scale (neg_ℤ (coefficient q.entries e)) (drop_at e r.entries) ++ (e, coefficient q.entries e *ℤ r.den) ∷ []) (all_scale n (coefficient r.entries e) (drop_at e q.entries) (drop_all n e q.entries bq))
    (all_append n (scale (neg_ℤ (coefficient q.entries e)) (drop_at e r.entries)) ((e, coefficient q.entries e *ℤ r.den) ∷ []) (all_scale n (neg_ℤ (coefficient q.entries e)) (drop_at e r.entries) (drop_all n e r.entries br)) (h, tt))

constant_times : (cr cq x y one : ℤ) → ((cr *ℤ x) -ℤ (cq *ℤ y)) *ℤ one ≡ (cr *ℤ (x *ℤ one)) -ℤ (cq *ℤ (y *ℤ one))
constant_times cr cq x y one = omega (arith, ints, less_times one (cr *ℤ x) (cq *ℤ y), mul_assoc cr x one, mul_assoc cq y one)

eliminated_holds : (e : ℕ) (q r : Equation) (forms after : List Form) (f fr : Form) (m : Form → ℤ) (one : ℤ) → IsSwapped e forms after fr → Holds q (m f) (λ j. m (form_at forms j)) one → Holds r (m fr) (λ j. m (form_at forms j)) one → Holds (eliminated e q r) (m f) (λ j. m (form_at after j)) one
eliminated_holds e q r forms after f fr m one is hq hr =
    let cr = coefficient r.entries e in
    let cq = coefficient q.entries e in
    let made = eliminated_margin e q r forms after f fr m is in
    let a = ap (λ z. cr *ℤ z) (margin_holds q forms f m one hq) in
    let b = ap (λ z. cq *ℤ z) (margin_holds r forms fr m one hr) in
    omega (arith, ints, made, a, b, constant_times cr cq q.constant r.constant one)

-- two rows of one form over the same forms have the same value
pub same_part : (a : Instance) (tight : List Choice) (q s : Equation) (forms : List Form) (f : Form) (n p : ℕ) → AreIndependent n (affine_at a forms) → AllByRecursion (λ t. t.0 < n) q.entries → AllByRecursion (λ t. t.0 < n) s.entries → IsRowOf q (affine_of a f) (affine_at a forms) → IsRowOf s (affine_of a f) (affine_at a forms) → part a tight q forms f p *ℤ s.den ≡ part a tight s forms f p *ℤ q.den
same_part a tight q s forms f n p independent bq bs hq hs =
    let same = determined n q s (affine_of a f) (affine_at a forms) independent bq bs hq hs in
    let m : Form → ℤ = loosening a tight p in
    let u : ℕ → ℤ = λ j. m (form_at forms j) in
    let w = weigh_multiple n q.entries s.entries u s.den q.den bq bs (λ k lt. same.entries k) in
    let c : (q.constant *ℤ unit p) *ℤ s.den ≡ (s.constant *ℤ unit p) *ℤ q.den = mul_swap q.constant (unit p) s.den ∙ ap (λ z. z *ℤ unit p) same.constant ∙ mul_swap s.constant q.den (unit p) in
    let d : (q.den *ℤ m f) *ℤ s.den ≡ (s.den *ℤ m f) *ℤ q.den = mul_comm (q.den *ℤ m f) s.den ∙ turn_around s.den q.den (m f) ∙ mul_comm q.den (s.den *ℤ m f) in
    omega (arith, ints, w, c, d, mul_add_right s.den (q.constant *ℤ unit p) (margin q forms f m), mul_add_right q.den (s.constant *ℤ unit p) (margin s forms f m), less_times s.den (q.den *ℤ m f) (weigh q.entries u), less_times q.den (s.den *ℤ m f) (weigh s.entries u))

-- the value after the exchange: q and s are the rows of f before and after it, r is that of the form that leaves
pub changed_part : (a : Instance) (tight : List Choice) (e : ℕ) (q r s : Equation) (forms after : List Form) (f fr : Form) (n p : ℕ) → e < n → IsSwapped e forms after fr → AreIndependent n (affine_at a after) → AllByRecursion (λ t. t.0 < n) q.entries → AllByRecursion (λ t. t.0 < n) r.entries → AllByRecursion (λ t. t.0 < n) s.entries → IsRowOf q (affine_of a f) (affine_at a forms) → IsRowOf r (affine_of a fr) (affine_at a forms) → IsRowOf s (affine_of a f) (affine_at a after) → part a tight s after f p *ℤ (coefficient r.entries e *ℤ q.den) ≡ ((coefficient r.entries e *ℤ part a tight q forms f p) -ℤ (coefficient q.entries e *ℤ part a tight r forms fr p)) *ℤ s.den
changed_part a tight e q r s forms after f fr n p h is independent bq br bs hq hr hs =
    let cr = coefficient r.entries e in
    let cq = coefficient q.entries e in
    let m : Form → ℤ = loosening a tight p in
    let made = eliminated e q r in
    let row : IsRowOf made (affine_of a f) (affine_at a after) = λ x one. eliminated_holds e q r forms after f fr (λ g. affine_of a g x one) one is (hq x one) (hr x one) in
    let same = same_part a tight made s after f n p independent (eliminated_below n e q r h bq br) bs row hs in
    let value : part a tight made after f p ≡ (cr *ℤ part a tight q forms f p) -ℤ (cq *ℤ part a tight r forms fr p) =
    omega (arith, ints, eliminated_margin e q r forms after f fr m is, constant_times cr cq q.constant r.constant (unit p), mul_add_left cr (q.constant *ℤ unit p) (margin q forms f m), mul_add_left cq (r.constant *ℤ unit p) (margin r forms fr m)) in
    sym same ∙ ap (λ z. z *ℤ s.den) value

-- ---- the strict change of the stage's row

pub times_turn : (b : Bool) (x y : ℤ) → x *ℤ turn b y ≡ turn b (x *ℤ y)
times_turn b x y = mul_comm x (turn b y) ∙ turn_times b y x ∙ ap (λ z. turn b z) (mul_comm y x)

turn_less : (b : Bool) (x y : ℤ) → turn b x -ℤ turn b y ≡ turn b (x -ℤ y)
turn_less true x y = omega (arith, ints)
turn_less false x y = refl

turned_twice : (b c : Bool) (y : ℤ) → turn b (neg_ℤ (turn c (neg_ℤ y))) ≡ turn c (turn b y)
turned_twice true true y = omega (arith, ints)
turned_twice true false y = omega (arith, ints)
turned_twice false true y = omega (arith, ints)
turned_twice false false y = omega (arith, ints)

-- what is left of the change
moved : (cr cs ds de v w t : ℤ) → w *ℤ (cr *ℤ ds) ≡ ((cr *ℤ v) -ℤ (cs *ℤ t)) *ℤ de → cr *ℤ ((ds *ℤ w) -ℤ (de *ℤ v)) ≡ neg_ℤ ((de *ℤ cs) *ℤ t)
moved cr cs ds de v w t h =
    let a : cr *ℤ (ds *ℤ w) ≡ w *ℤ (cr *ℤ ds) = sym (mul_assoc cr ds w) ∙ mul_comm (cr *ℤ ds) w in
    let b : cr *ℤ (de *ℤ v) ≡ (cr *ℤ v) *ℤ de = ap (λ z. cr *ℤ z) (mul_comm de v) ∙ sym (mul_assoc cr v de) in
    let c : (de *ℤ cs) *ℤ t ≡ (cs *ℤ t) *ℤ de = mul_assoc de cs t ∙ mul_comm de (cs *ℤ t) in
    omega (arith, ints, times_less cr (ds *ℤ w) (de *ℤ v), a, b, c, h, less_times de (cr *ℤ v) (cs *ℤ t))

pub lifted : (down falls : Bool) (cr cs ds de v w t : ℤ) → w *ℤ (cr *ℤ ds) ≡ ((cr *ℤ v) -ℤ (cs *ℤ t)) *ℤ de → neg_ℤ (turn down cr) *ℤ ((ds *ℤ turn falls w) -ℤ (de *ℤ turn falls v)) ≡ (de *ℤ turn down (turn falls cs)) *ℤ t
lifted down falls cr cs ds de v w t h =
    let x = (ds *ℤ w) -ℤ (de *ℤ v) in
    let y = (de *ℤ cs) *ℤ t in
    let inner : (ds *ℤ turn falls w) -ℤ (de *ℤ turn falls v) ≡ turn falls x = ap (λ z. z -ℤ (de *ℤ turn falls v)) (times_turn falls ds w) ∙ ap (λ z. turn falls (ds *ℤ w) -ℤ z) (times_turn falls de v) ∙ turn_less falls (ds *ℤ w) (de *ℤ v) in
    let outer : neg_ℤ (turn down cr) *ℤ x ≡ neg_ℤ (turn down (neg_ℤ y)) = neg_times (turn down cr) x ∙ ap neg_ℤ (turn_times down cr x ∙ ap (λ z. turn down z) (moved cr cs ds de v w t h)) in
    let right : (de *ℤ turn down (turn falls cs)) *ℤ t ≡ turn down (turn falls y) = ap (λ z. z *ℤ t) (times_turn down de (turn falls cs) ∙ ap (λ z. turn down z) (times_turn falls de cs)) ∙ turn_times down (turn falls (de *ℤ cs)) t ∙ ap (λ z. turn down z) (turn_times falls (de *ℤ cs) t) in
    ap (λ z. neg_ℤ (turn down cr) *ℤ z) inner ∙ times_turn falls (neg_ℤ (turn down cr)) x ∙ ap (λ z. turn falls z) outer ∙ turned_twice falls down y ∙ sym right

times_above : (x y : ℤ) → pos 0 <ℤ x → pos 0 <ℤ y → pos 0 <ℤ (x *ℤ y)
times_above x y hx hy =
    let m = Rattle.lp_base.proofs.Ring.mul_le_left x (pos 1) y (omega (arith, ints, hx)) (omega (arith, ints, hy)) in
    let o : x *ℤ pos 1 ≡ x = omega (arith, ints) in
    omega (arith, ints, m, o, hx)

-- so where the form that leaves is above 0 and falls, and the change helps, the value grows
pub grows : (n : ℕ) (down falls : Bool) (cr cs ds de : ℤ) (v w t : ℕ → ℤ) → ((p : ℕ) → p < n → w p *ℤ (cr *ℤ ds) ≡ ((cr *ℤ v p) -ℤ (cs *ℤ t p)) *ℤ de) → turn down cr <ℤ pos 0 → pos 0 <ℤ turn down (turn falls cs) → pos 0 <ℤ de → IsAbove n t → IsLess n ds (λ p. turn falls (v p)) de (λ p. turn falls (w p))
grows n down falls cr cs ds de v w t change rate_falls helps positive above =
    above_from_times n (neg_ℤ (turn down cr)) (λ p. (ds *ℤ turn falls (w p)) -ℤ (de *ℤ turn falls (v p))) (omega (arith, ints, rate_falls))
    (above_same n (λ p. (de *ℤ turn down (turn falls cs)) *ℤ t p) (λ p. neg_ℤ (turn down cr) *ℤ ((ds *ℤ turn falls (w p)) -ℤ (de *ℤ turn falls (v p))))
    (λ p lt. sym (lifted down falls cr cs ds de (v p) (w p) (t p) (change p lt)))
    (above_times n (de *ℤ turn down (turn falls cs)) t (times_above de (turn down (turn falls cs)) positive helps) above))
