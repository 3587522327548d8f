-- The multipliers of a row have no common divisor, and the cuts that rows give.
use Rattle.std.proofs.Common.{ℕ, suc, ◌*◌, ◌/◌, ◌<◌, ◌≡◌, ◌∙◌, refl, sym, ap, subst, arith, ℤ, pos, negsuc, ◌+ℤ◌, ◌-ℤ◌, ◌*ℤ◌, neg_ℤ, ◌<ℤ◌, List, [], ◌∷◌, length, Bool, true, false, cond, eqb, not, ◌⊎◌, inl, inr}
use Prim.Native.Nat.{◌∣◌}
use Rattle.std.specs.Prelude.{unsigned_abs}
use Rattle.std.specs.List.{AllByRecursion}
use Rattle.std.proofs.lemmas.Bool.{lt-ltb}
use Rattle.std.proofs.lemmas.Int.{ints, unsigned_abs-mul}
use Rattle.std.proofs.lemmas.Nat.Gcd.{dvd-zero}
use Rattle.std.proofs.Math.IntN.{zero-*ℤ}
use Rattle.std.proofs.Math.Nat.{div-mul_cancel, dvd-mul_left}
use Rattle.lp_base.proofs.Ring.{mul_add_right, mul_swap}
use Rattle.nogoods.specs.declared.choice.Choice.{Choice}
use Rattle.lpcc_case.specs.declared.form.Form.{Form}
use Rattle.lpcc_case.specs.declared.form.Form.TheVariants.{Con, Cost}
use Rattle.lpcc_case.specs.declared.point.Point.{Point as Numbers}
use Rattle.lpcc_case.specs.Instance.{Instance}
use Rattle.lpcc_case.specs.Pieces.{NamesPairs}
use Rattle.lpcc_case.specs.Points.{coefficient}
use Rattle.cuts.specs.declared.cut.Cut.{Cut}
use Rattle.cuts.specs.declared.cut.Cut.TheVariants.{Ray, Point}
use Rattle.dict.specs.Terms.{weigh, AreTerms}
use Rattle.dict.specs.Equations.{Equation, DividesEach, Holds, IsReduced}
use Rattle.dict.specs.Exchanges.{turn}
use Rattle.dict.specs.Dictionaries.{Dictionary, IsDictionary, row_at, form_at, entry_at}
use Rattle.dict.specs.Forms.{affine_of}
use Rattle.dict.proofs.Determined.{EachTimes, each_times}
use Rattle.dict.proofs.Enters.{neg_times}
use Rattle.dict.proofs.Pivots.{by_lt}
use Rattle.dict.proofs.SparseSums.{terms_below}
use Rattle.walks.specs.Divisors.{AreCoprime}
use Rattle.walks.specs.Duals.{AreMultipliersOf, IsPlaced, NoneFree, NoneHelps, blamed}
use Rattle.walks.specs.Steps.{IsSized, IsStageRow, goal, is_last}
use Rattle.walks.specs.Values.{is_fixed, share}
use Rattle.walks.proofs.Ends.{stuck_exchange_gives_ray_cut, stuck_stage_gives_ray_cut, lowest_cost_gives_point_cut}
use Rattle.walks.proofs.Signs.{only_constraints, only_fixed}
use Rattle.basic_solutions.specs.RowCuts.{IsCutOfRow, IsPointCutOf, IsRayCutOf, weights}
use Rattle.basic_solutions.proofs.Shares.{share_at_place, share_own}
use Rattle.basic_solutions.proofs.WeightSteps.{past_end}

-- ---- multiples of t

IsTimes : ℕ → ℤ → Type 0
IsTimes t x = (z : ℤ) × (z *ℤ pos t ≡ x)

times_of : (t : ℕ) (x : ℤ) → t ∣ unsigned_abs x → IsTimes t x
unfolding IsTimes
times_of t (pos n) h = (pos (n / t), ap pos (div-mul_cancel t h))
times_of t (negsuc n) h =
    let e : pos (suc n / t) *ℤ pos t ≡ pos (suc n) = ap pos (div-mul_cancel t h) in
    (neg_ℤ (pos (suc n / t)), neg_times (pos (suc n / t)) (pos t) ∙ ap neg_ℤ e)

divides_of : (t : ℕ) (x : ℤ) → IsTimes t x → t ∣ unsigned_abs x
unfolding IsTimes
divides_of t x h =
    let e : unsigned_abs h.0 * t ≡ unsigned_abs x = sym (unsigned_abs-mul h.0 (pos t)) ∙ ap unsigned_abs h.1 in
    subst (λ (n : ℕ). t ∣ n) e (dvd-mul_left t (unsigned_abs h.0))

times_zero : (t : ℕ) → IsTimes t (pos 0)
unfolding IsTimes
times_zero t = (pos 0, zero-*ℤ (pos t))

times_add : (t : ℕ) (x y : ℤ) → IsTimes t x → IsTimes t y → IsTimes t (x +ℤ y)
unfolding IsTimes
times_add t x y h k = (h.0 +ℤ k.0, mul_add_right (pos t) h.0 k.0 ∙ ap (λ z. z +ℤ (k.0 *ℤ pos t)) h.1 ∙ ap (λ z. x +ℤ z) k.1)

times_less : (t : ℕ) (x y : ℤ) → IsTimes t x → IsTimes t y → IsTimes t (x -ℤ y)
unfolding IsTimes
times_less t x y h k =
    let n = neg_times k.0 (pos t) in
    let s = mul_add_right (pos t) h.0 (neg_ℤ k.0) in
    (h.0 +ℤ neg_ℤ k.0, omega (arith, ints, s, n, h.1, k.1))

times_factor : (t : ℕ) (x y : ℤ) → IsTimes t x → IsTimes t (x *ℤ y)
unfolding IsTimes
times_factor t x y h = (h.0 *ℤ y, mul_swap h.0 y (pos t) ∙ ap (λ z. z *ℤ y) h.1)

times_weigh : (t : ℕ) (ts : List (ℕ × ℤ)) (v : ℕ → ℤ) → DividesEach t ts → IsTimes t (weigh ts v)
times_weigh t [] v h = times_zero t
times_weigh t (u ∷ ts) v h = times_add t (u.1 *ℤ v u.0) (weigh ts v) (times_factor t u.1 (v u.0) (times_of t u.1 h.0)) (times_weigh t ts v h.1)

times_cond : (b : Bool) (t : ℕ) (x : ℤ) → IsTimes t x → IsTimes t (cond b x (pos 0))
times_cond true t x h = h
times_cond false t x h = times_zero t

times_coefficient : (t : ℕ) (mult : List (ℕ × ℤ)) (k : ℕ) → AllByRecursion (λ z. t ∣ unsigned_abs z) (weights mult) → IsTimes t (coefficient mult k)
times_coefficient t [] k h = times_zero t
times_coefficient t (m ∷ ms) k h = times_add t (cond (eqb m.0 k) m.1 (pos 0)) (coefficient ms k) (times_cond (eqb m.0 k) t m.1 (times_of t m.1 h.0)) (times_coefficient t ms k h.1)

-- ---- a row of which t divides the denominator and the entries

divides_constant : (t : ℕ) (q : Equation) (f : ℤ) (v : ℕ → ℤ) → Holds q f v (pos 1) → t ∣ unsigned_abs q.den → DividesEach t q.entries → t ∣ unsigned_abs q.constant
divides_constant t q f v holds den entries =
    let d = times_less t (q.den *ℤ f) (weigh q.entries v) (times_factor t q.den f (times_of t q.den den)) (times_weigh t q.entries v entries) in
    let e : (q.den *ℤ f) -ℤ weigh q.entries v ≡ q.constant = omega (arith, ints, holds) in
    divides_of t q.constant (subst (λ (z : ℤ). IsTimes t z) e d)

each_once : (t : ℕ) (ts : List (ℕ × ℤ)) → EachTimes t 1 ts → DividesEach t ts
each_once t [] h = tt
each_once t (u ∷ ts) h =
    let e : 1 * unsigned_abs u.1 ≡ unsigned_abs u.1 = omega arith in
    (subst (λ (n : ℕ). t ∣ n) e h.0, each_once t ts h.1)

once : (t n : ℕ) → t ∣ n → t ∣ 1 * n
once t n h = let e : n ≡ 1 * n = omega arith in subst (λ (m : ℕ). t ∣ m) e h

divides_entries : (bound high t : ℕ) (ts : List (ℕ × ℤ)) → AreTerms bound 0 high ts → ((j : ℕ) → j < high → t ∣ unsigned_abs (coefficient ts j)) → DividesEach t ts
divides_entries bound high t ts terms h =
    each_once t ts (each_times bound 0 high t 1 ts terms
    (λ j.
    by_lt j high (λ lt. once t (unsigned_abs (coefficient ts j)) (h j lt))
    (λ ge. once t (unsigned_abs (coefficient ts j)) (subst (λ (z : ℤ). t ∣ unsigned_abs z) (sym (past_end high j ts ge (terms_below bound 0 high ts terms))) (dvd-zero t)))))

same_size : (b : Bool) (z : ℤ) → unsigned_abs (turn b z) ≡ unsigned_abs z
same_size true z = omega (arith, ints)
same_size false z = refl

-- the size of a share is that of its multiplier
share_divided : (a : Instance) (d : Dictionary) (i k t : ℕ) (sign : Bool) (f : Form) (mult : List (ℕ × ℤ)) → AreMultipliersOf a sign (row_at d.rows i) d.nonbasic f mult → k < length a.constraints → AllByRecursion (λ z. t ∣ unsigned_abs z) (weights mult) → t ∣ unsigned_abs (share (row_at d.rows i) d.nonbasic f k)
share_divided a d i k t sign f mult of lt all =
    let s = share (row_at d.rows i) d.nonbasic f k in
    let e : unsigned_abs (coefficient mult k) ≡ unsigned_abs s = ap unsigned_abs (of.numbers k lt) ∙ same_size sign s in
    subst (λ (n : ℕ). t ∣ n) e (divides_of t (coefficient mult k) (times_coefficient t mult k all))

pub row_lowest : (a : Instance) (d : Dictionary) (i t : ℕ) (sign : Bool) (mult : List (ℕ × ℤ)) → IsSized a d → IsReduced (row_at d.rows i) → i < length d.rows → ((j : ℕ) → j < length d.nonbasic → (coefficient (row_at d.rows i).entries j ≡ pos 0) ⊎ ((l : ℕ) × (l < length a.constraints) × (form_at d.nonbasic j ≡ Con l))) → AreMultipliersOf a sign (row_at d.rows i) d.nonbasic (form_at d.basic i) mult → t ∣ unsigned_abs (row_at d.rows i).den → AllByRecursion (λ z. t ∣ unsigned_abs z) (weights mult) → t ≡ 1
row_lowest a d i t sign mult sized reduced hi onlys of den all =
    let q = row_at d.rows i in
    let entries = divides_entries sized.bound (length d.nonbasic) t q.entries (sized.rows i hi).entries
    (λ j lt. elim (onlys j lt) [
      | inl none ↦ subst (λ (z : ℤ). t ∣ unsigned_abs z) (sym none) (dvd-zero t)
      | inr con ↦
          let s = share_at_place a d i con.0 j sized hi lt con.2 in
          let e : unsigned_abs (share q d.nonbasic (form_at d.basic i) con.0) ≡ unsigned_abs (entry_at d i j) = ap unsigned_abs s ∙ same_size true (entry_at d i j) in
          subst (λ (n : ℕ). t ∣ n) e (share_divided a d i con.0 t sign (form_at d.basic i) mult of con.1 all)
    ]) in
    let x : ℕ → ℤ = λ c. pos 0 in
    reduced t (record {
      den = den;
      constant = divides_constant t q (affine_of a (form_at d.basic i) x (pos 1)) (λ j. affine_of a (form_at d.nonbasic j) x (pos 1)) (sized.of.identities x (pos 1) i hi) den entries;
      entries = entries;
    })

pub ray_lowest : (a : Instance) (d : Dictionary) (i l : ℕ) (sign : Bool) (mult : List (ℕ × ℤ)) → IsSized a d → IsReduced (row_at d.rows i) → i < length d.rows → form_at d.basic i ≡ Con l → l < length a.constraints → ((j : ℕ) → j < length d.nonbasic → (coefficient (row_at d.rows i).entries j ≡ pos 0) ⊎ ((k : ℕ) × (k < length a.constraints) × (form_at d.nonbasic j ≡ Con k))) → AreMultipliersOf a sign (row_at d.rows i) d.nonbasic (form_at d.basic i) mult → AreCoprime (weights mult)
ray_lowest a d i l sign mult sized reduced hi form hl onlys of t all =
    let own = share_own a d i l sized hi form in
    let den : t ∣ unsigned_abs (row_at d.rows i).den = subst (λ (z : ℤ). t ∣ unsigned_abs z) own (share_divided a d i l t sign (form_at d.basic i) mult of hl all) in
    row_lowest a d i t sign mult sized reduced hi onlys of den all

-- ---- the cuts

at_form : (a : Instance) (d : Dictionary) (i : ℕ) (f : Form) (sign : Bool) (mult : List (ℕ × ℤ)) → form_at d.basic i ≡ f → AreMultipliersOf a sign (row_at d.rows i) d.nonbasic (form_at d.basic i) mult → AreMultipliersOf a sign (row_at d.rows i) d.nonbasic f mult
at_form a d i f sign mult form of = subst (λ (g : Form). AreMultipliersOf a sign (row_at d.rows i) d.nonbasic g mult) form of

is_stage : (a : Instance) (stage : ℕ) → stage < length a.constraints → goal a stage ≡ Con stage
is_stage a stage h = ap (λ b. cond b (Con stage) Cost) (lt-ltb stage (length a.constraints) h)

not_last : (a : Instance) (stage : ℕ) → stage < length a.constraints → is_last a stage ≡ false
not_last a stage h = ap not (lt-ltb stage (length a.constraints) h)

pub stage_cut : (a : Instance) (tight ng : List Choice) (d : Dictionary) (places stage row : ℕ) (mult : List (ℕ × ℤ)) (cut : Cut) → IsDictionary places d → IsSized a d → IsPlaced a d → NamesPairs a tight → stage < length a.constraints → IsStageRow a tight stage d row → NoneHelps a tight (is_last a stage) d row → IsCutOfRow a tight d row false ng mult → cut ≡ Ray ng mult → IsRayCutOf a tight cut
stage_cut a tight ng d places stage row mult cut kept sized placed named h at none of made =
    let form : form_at d.basic row ≡ Con stage = at.form ∙ is_stage a stage h in
    let helps : NoneHelps a tight false d row = subst (λ (b : Bool). NoneHelps a tight b d row) (not_last a stage h) none in
    let is : cut ≡ Ray (blamed a mult tight) mult = made ∙ ap (λ cs. Ray cs mult) of.needed in
    record {
      mult = mult;
      cut_is = is;
      passes = subst (λ (x : Cut). Rattle.cuts.specs.Cuts.Passes a x) (sym is) (stuck_stage_gives_ray_cut a tight d row stage mult sized placed named at.within form h (at.free h) (at.below h) helps (at_form a d row (Con stage) false mult form of.of));
      lowest = ray_lowest a d row stage false mult sized (kept.rows row at.within).1 at.within form h (only_constraints a tight false d row placed.nonbasic helps) of.of;
    }

pub exchange_cut : (a : Instance) (tight ng : List Choice) (d : Dictionary) (places k row : ℕ) (sign : Bool) (mult : List (ℕ × ℤ)) (cut : Cut) → IsDictionary places d → IsSized a d → IsPlaced a d → NamesPairs a tight → k < length a.constraints → is_fixed a tight k ≡ true → row < length d.rows → form_at d.basic row ≡ Con k → NoneFree a tight d row → turn sign (row_at d.rows row).constant <ℤ pos 0 → IsCutOfRow a tight d row sign ng mult → cut ≡ Ray ng mult → IsRayCutOf a tight cut
exchange_cut a tight ng d places k row sign mult cut kept sized placed named h fixed within form none below of made =
    let is : cut ≡ Ray (blamed a mult tight) mult = made ∙ ap (λ cs. Ray cs mult) of.needed in
    record {
      mult = mult;
      cut_is = is;
      passes = subst (λ (x : Cut). Rattle.cuts.specs.Cuts.Passes a x) (sym is) (stuck_exchange_gives_ray_cut a tight sign d row k mult sized placed named within form h fixed below none (at_form a d row (Con k) sign mult form of.of));
      lowest = ray_lowest a d row k sign mult sized (kept.rows row within).1 within form h (only_fixed a tight d row placed.nonbasic none) of.of;
    }

pub cost_cut : (a : Instance) (tight ng : List Choice) (d : Dictionary) (places row : ℕ) (mult : List (ℕ × ℤ)) (e v : ℤ) (cut : Cut) (q : Numbers) → IsDictionary places d → IsSized a d → IsPlaced a d → NamesPairs a tight → row ≡ length a.constraints → NoneHelps a tight true d (length a.constraints) → ((row_at d.rows (length a.constraints)).den *ℤ q.z) ≡ ((row_at d.rows (length a.constraints)).constant *ℤ q.d) → IsCutOfRow a tight d row true ng mult → e ≡ (row_at d.rows row).den → v ≡ (row_at d.rows row).constant → cut ≡ Point ng mult e v → IsPointCutOf a tight q cut
cost_cut a tight ng d places row mult e v cut q kept sized placed named last none value of ee ev made =
    let m = length a.constraints in
    let within : m < length d.rows = omega (arith, placed.size) in
    let here : IsCutOfRow a tight d m true ng mult = subst (λ (i : ℕ). IsCutOfRow a tight d i true ng mult) last of in
    let den : e ≡ (row_at d.rows m).den = ee ∙ ap (λ i. (row_at d.rows i).den) last in
    let constant : v ≡ (row_at d.rows m).constant = ev ∙ ap (λ i. (row_at d.rows i).constant) last in
    let is : cut ≡ Point (blamed a mult tight) mult e v = made ∙ ap (λ cs. Point cs mult e v) here.needed in
    let exact : cut ≡ Point (blamed a mult tight) mult (row_at d.rows m).den (row_at d.rows m).constant = is ∙ ap (λ z. Point (blamed a mult tight) mult z v) den ∙ ap (λ z. Point (blamed a mult tight) mult (row_at d.rows m).den z) constant in
    record {
      mult = mult;
      e = e;
      v = v;
      cut_is = is;
      passes = subst (λ (x : Cut). Rattle.cuts.specs.Cuts.Passes a x) (sym exact) (lowest_cost_gives_point_cut a tight d m mult sized placed named within placed.cost none (at_form a d m Cost true mult placed.cost here.of));
      lowest = λ t all. row_lowest a d m t true mult sized (kept.rows m within).1 within (only_constraints a tight true d m placed.nonbasic none) here.of (subst (λ (z : ℤ). t ∣ unsigned_abs z) den all.0) all.1;
      bound = ap (λ z. z *ℤ q.z) den ∙ value ∙ ap (λ z. z *ℤ q.d) (sym constant);
    }
