-- The sides of a row times its multiplier.
use Rattle.std.proofs.Common.{ℕ, ◌*◌, ◌≤◌, ◌≡◌, ◌≢◌, [], ◌∷◌, refl, sym, ap, subst, ◌∙◌, arith, ℤ, pos, negsuc, neg_ℤ, ◌+ℤ◌, ◌-ℤ◌, ◌*ℤ◌, ◌≤ℤ◌, Bool, true, false, cond, Option, None, Some}
use Rattle.std.specs.Prelude.{unsigned_abs}
use Rattle.std.proofs.Math.IntN.{zero-*ℤ}
use Rattle.std.proofs.Math.Nat.{mul-le-mul}
use Rattle.std.specs.Option.{option_map}
use Rattle.std.proofs.lemmas.Int.{ints, unsigned_abs-mul}
use Rattle.lp_base.proofs.Ring.{mul_add_right, mul_assoc, mul_comm, mul_swap}
use Rattle.lp_nums.specs.Fractions.{Fraction}
use Rattle.decks.specs.declared.deck.Letter.{Letter}
use Rattle.decks.specs.declared.deck.Letter.TheVariants.{N, E, L, G}
use Rattle.deck_case.specs.declared.rows.Ends.{Ends}
use Rattle.deck_case.specs.Multipliers.{times}
use Rattle.deck_case.specs.Rationals.{minus, negative, plus, size}
use Rattle.deck_case.specs.Sides.{Sides, between, reaches_down, sides}
use Rattle.deck_case.specs.Wide.{has_wide, is_wide}
use Rattle.deck_case.specs.Steps.{AreEnds, IsClearedBy, ends_of, far_end, narrow}
use Rattle.deck_case.proofs.TermSteps.{narrow_none, narrow_some, or_false, or_true_left, or_true_right}
use Rattle.deck_case.proofs.Wholes.{times_is, times_whole}

-- ---- sums of fractions, times a multiplier that clears both

pub positive_product : (a b : ℤ) → pos 1 ≤ℤ a → pos 1 ≤ℤ b → pos 1 ≤ℤ (a *ℤ b)
positive_product (pos a) (pos b) h k =
    let p : 1 ≤ a = omega (arith, ints, h) in
    let q : 1 ≤ b = omega (arith, ints, k) in
    let l : 1 * 1 ≤ a * b = mul-le-mul p q in
    omega (arith, ints, l)
positive_product (negsuc a) b h k = absurd (omega (arith, ints))
positive_product (pos a) (negsuc b) h k = absurd (omega (arith, ints))

-- (t + s) B R is the numerator of the sum times M
pub cross : (t s b r n k m : ℤ) → t *ℤ b ≡ n *ℤ m → s *ℤ r ≡ k *ℤ m → (t +ℤ s) *ℤ (b *ℤ r) ≡ ((n *ℤ r) +ℤ (k *ℤ b)) *ℤ m
cross t s b r n k m e f =
    let first : t *ℤ (b *ℤ r) ≡ (n *ℤ r) *ℤ m = sym (mul_assoc t b r) ∙ ap (λ z. z *ℤ r) e ∙ mul_swap n m r in
    let second : s *ℤ (b *ℤ r) ≡ (k *ℤ b) *ℤ m = ap (λ z. s *ℤ z) (mul_comm b r) ∙ sym (mul_assoc s r b) ∙ ap (λ z. z *ℤ b) f ∙ mul_swap k m b in
    mul_add_right (b *ℤ r) t s
    ∙ ap (λ z. z +ℤ (s *ℤ (b *ℤ r))) first
    ∙ ap (λ z. ((n *ℤ r) *ℤ m) +ℤ z) second
    ∙ sym (mul_add_right m (n *ℤ r) (k *ℤ b))

pub times_plus : (m : ℕ) (f g : Fraction) → IsClearedBy m f → IsClearedBy m g → times m (plus f g) ≡ times m f +ℤ times m g
times_plus m f g p q =
    times_is m (plus f g) (times m f +ℤ times m g) (positive_product f.den g.den p.positive q.positive)
    (cross (times m f) (times m g) f.den g.den f.num g.num (pos m) (times_whole m f p.positive p.divides) (times_whole m g q.positive q.divides))

pub negated_product : (a b : ℤ) → neg_ℤ a *ℤ b ≡ neg_ℤ (a *ℤ b)
negated_product a b =
    let none : a +ℤ neg_ℤ a ≡ pos 0 = omega (arith, ints) in
    let parts : (a *ℤ b) +ℤ (neg_ℤ a *ℤ b) ≡ pos 0 = sym (mul_add_right b a (neg_ℤ a)) ∙ ap (λ z. z *ℤ b) none ∙ zero-*ℤ b in
    omega (arith, ints, parts)

pub times_negative : (m : ℕ) (f : Fraction) → IsClearedBy m f → times m (negative f) ≡ neg_ℤ (times m f)
times_negative m f p =
    times_is m (negative f) (neg_ℤ (times m f)) p.positive
    (negated_product (times m f) f.den ∙ ap neg_ℤ (times_whole m f p.positive p.divides) ∙ sym (negated_product f.num (pos m)))

size_product : (a : ℤ) (d : ℤ) → pos 1 ≤ℤ d → pos (unsigned_abs a) *ℤ d ≡ pos (unsigned_abs (a *ℤ d))
size_product a (pos d) h = omega (arith, ints, unsigned_abs-mul a (pos d))
size_product a (negsuc d) h = absurd (omega (arith, ints))

size_times : (a : ℤ) (m : ℕ) → pos (unsigned_abs (a *ℤ pos m)) ≡ pos (unsigned_abs a) *ℤ pos m
size_times a m = omega (arith, ints, unsigned_abs-mul a (pos m))

pub times_size_of : (m : ℕ) (f : Fraction) → IsClearedBy m f → times m (size f) ≡ pos (unsigned_abs (times m f))
times_size_of m f p =
    times_is m (size f) (pos (unsigned_abs (times m f))) p.positive
    (size_product (times m f) f.den p.positive ∙ ap (λ z. pos (unsigned_abs z)) (times_whole m f p.positive p.divides) ∙ size_times f.num m)

clear_size : (m : ℕ) (f : Fraction) → IsClearedBy m f → IsClearedBy m (size f)
clear_size m f p = record { positive = p.positive; divides = p.divides; small = p.small }

clear_negative : (m : ℕ) (f : Fraction) → IsClearedBy m f → IsClearedBy m (negative f)
clear_negative m f p = record { positive = p.positive; divides = p.divides; small = p.small }

-- the end that a range gives
pub times_above : (m : ℕ) (b r : Fraction) → IsClearedBy m b → IsClearedBy m r → times m (plus b (size r)) ≡ far_end (times m b) false (times m r)
times_above m b r p q = times_plus m b (size r) p (clear_size m r q) ∙ ap (λ z. times m b +ℤ z) (times_size_of m r q)

less_is : (a b : ℤ) → a +ℤ neg_ℤ b ≡ a -ℤ b
less_is a b = omega (arith, ints)

pub times_below : (m : ℕ) (b r : Fraction) → IsClearedBy m b → IsClearedBy m r → times m (minus b (size r)) ≡ far_end (times m b) true (times m r)
times_below m b r p q =
    times_plus m b (negative (size r)) p (clear_negative m (size r) (clear_size m r q))
    ∙ ap (λ z. times m b +ℤ z) (times_negative m (size r) (clear_size m r q) ∙ ap neg_ℤ (times_size_of m r q))
    ∙ less_is (times m b) (pos (unsigned_abs (times m r)))

-- ---- the ends of a row

down_found : (m : ℕ) (b x : Fraction) (near z : ℤ) (o : Option ℤ) (found : Option Ends) → near ≡ times m b → is_wide near ≡ false → z ≡ times m x → o ≡ narrow z → found ≡ option_map (λ far. ends_of (Some far) (Some near)) o → AreEnds m (between (Some x) (Some b)) found
down_found m b x near z None found eb narrow_near ez e h =
    let wide : is_wide (times m x) ≡ true = ap is_wide (sym ez) ∙ narrow_none z (sym e) in
    subst (AreEnds m (between (Some x) (Some b))) (sym h) (or_true_left (is_wide (times m x)) (has_wide (times m b ∷ [])) wide)
down_found m b x near z (Some w) found eb narrow_near ez e h =
    let is = narrow_some z w (sym e) in
    let far : is_wide (times m x) ≡ false = ap is_wide (sym ez) ∙ is.1 in
    let close : is_wide (times m b) ≡ false = ap is_wide (sym eb) ∙ narrow_near in
    subst (AreEnds m (between (Some x) (Some b))) (sym h)
    (ap Some (is.0 ∙ ez), ap Some eb, or_false (is_wide (times m x)) (has_wide (times m b ∷ [])) far (or_false (is_wide (times m b)) false close refl))

up_found : (m : ℕ) (b x : Fraction) (near z : ℤ) (o : Option ℤ) (found : Option Ends) → near ≡ times m b → is_wide near ≡ false → z ≡ times m x → o ≡ narrow z → found ≡ option_map (λ far. ends_of (Some near) (Some far)) o → AreEnds m (between (Some b) (Some x)) found
up_found m b x near z None found eb narrow_near ez e h =
    let wide : is_wide (times m x) ≡ true = ap is_wide (sym ez) ∙ narrow_none z (sym e) in
    subst (AreEnds m (between (Some b) (Some x))) (sym h) (or_true_right (is_wide (times m b)) (has_wide (times m x ∷ [])) (or_true_left (is_wide (times m x)) false wide))
up_found m b x near z (Some w) found eb narrow_near ez e h =
    let is = narrow_some z w (sym e) in
    let far : is_wide (times m x) ≡ false = ap is_wide (sym ez) ∙ is.1 in
    let close : is_wide (times m b) ≡ false = ap is_wide (sym eb) ∙ narrow_near in
    subst (AreEnds m (between (Some b) (Some x))) (sym h)
    (ap Some eb, ap Some (is.0 ∙ ez), or_false (is_wide (times m b)) (has_wide (times m x ∷ [])) close (or_false (is_wide (times m x)) false far refl))

pick : (m : ℕ) (t : Bool) (D U : Sides) (found d u : Option Ends) → found ≡ cond t d u → (found ≡ d → AreEnds m D found) → (found ≡ u → AreEnds m U found) → AreEnds m (cond t D U) found
pick m true D U found d u e f g = f e
pick m false D U found d u e f g = g e

-- the ends of a row with a range, as the code finds them
abbrev pub found_ends : Bool → ℤ → ℤ → Option Ends
found_ends down near span = cond down (option_map (λ far. ends_of (Some far) (Some near)) (narrow (far_end near true span))) (option_map (λ far. ends_of (Some near) (Some far)) (narrow (far_end near false span)))

range_found : (m : ℕ) (t : Bool) (b r : Fraction) (near : ℤ) (found : Option Ends) → IsClearedBy m b → IsClearedBy m r → near ≡ times m b → is_wide near ≡ false → found ≡ found_ends t near (times m r) → AreEnds m (cond t (between (Some (minus b (size r))) (Some b)) (between (Some b) (Some (plus b (size r))))) found
range_found m t b r near found p q eb narrow_near h =
    let span = times m r in
    pick m t (between (Some (minus b (size r))) (Some b)) (between (Some b) (Some (plus b (size r)))) found (option_map (λ far. ends_of (Some far) (Some near)) (narrow (far_end near true span))) (option_map (λ far. ends_of (Some near) (Some far)) (narrow (far_end near false span))) h
    (λ e. down_found m b (minus b (size r)) near (far_end near true span) (narrow (far_end near true span)) found eb narrow_near (ap (λ z. far_end z true span) eb ∙ sym (times_below m b r p q)) refl e)
    (λ e. up_found m b (plus b (size r)) near (far_end near false span) (narrow (far_end near false span)) found eb narrow_near (ap (λ z. far_end z false span) eb ∙ sym (times_above m b r p q)) refl e)

pub with_range_found : (m : ℕ) (letter : Letter) (b r : Fraction) (near : ℤ) (found : Option Ends) → letter ≢ N → IsClearedBy m b → IsClearedBy m r → near ≡ times m b → is_wide near ≡ false → found ≡ found_ends (reaches_down letter r) near (times m r) → AreEnds m (sides letter b (Some r)) found
with_range_found m N b r near found other p q eb narrow_near h = absurd (other refl)
with_range_found m E b r near found other p q eb narrow_near h = range_found m (reaches_down E r) b r near found p q eb narrow_near h
with_range_found m L b r near found other p q eb narrow_near h = range_found m true b r near found p q eb narrow_near h
with_range_found m G b r near found other p q eb narrow_near h = range_found m false b r near found p q eb narrow_near h
