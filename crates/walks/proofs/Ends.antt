-- The ends of a walk without a point.
use Rattle.std.proofs.Common.{ℕ, zero, suc, ◌<◌, ◌^◌, ◌≡◌, ◌∙◌, refl, sym, ap, subst, arith, ℤ, pos, ◌+ℤ◌, ◌*ℤ◌, ◌<ℤ◌, ◌≤ℤ◌, List, length, Bool, true, false, cond, eqb}
use Rattle.std.specs.List.{AllByRecursion}
use Rattle.std.proofs.lemmas.Int.{ints}
use Rattle.std.proofs.lemmas.Bool.{eqb-true}
use Rattle.std.proofs.Math.IntN.{*ℤ-zero}
use Rattle.nogoods.specs.declared.choice.Choice.{Choice}
use Rattle.lpcc_case.specs.declared.form.Form.{Form}
use Rattle.lpcc_case.specs.declared.form.Form.TheVariants.{Con, Cost}
use Rattle.lpcc_case.specs.Instance.{Instance}
use Rattle.lpcc_case.specs.Pieces.{NamesPairs}
use Rattle.dict.specs.Equations.{Equation, IsRow}
use Rattle.dict.specs.Exchanges.{turn}
use Rattle.dict.specs.Dictionaries.{Dictionary, IsDictionary, row_at, form_at}
use Rattle.dict.proofs.SparseSums.{terms_below}
use Rattle.cuts.specs.declared.cut.Cut.TheVariants.{Ray, Point}
use Rattle.cuts.specs.Cuts.{Passes}
use Rattle.orders.specs.Order.{IsBelow}
use Rattle.orders.proofs.Orders.{below_first}
use Rattle.walks.specs.Values.{is_fixed, parts, value, part, share, margin, at_con}
use Rattle.walks.specs.Duals.{AreMultipliersOf, IsPlaced, NoneFree, NoneHelps, blamed}
use Rattle.walks.specs.Steps.{IsSized}
use Rattle.walks.proofs.Margins.{margin_none}
use Rattle.walks.proofs.Signs.{only_constraints, only_fixed, share_sign, share_none, turn_none}
use Rattle.walks.proofs.Duals.{ray_passes, point_passes}

-- the row, over as many places as there are nonbasic forms
pub row_is : (places : ℕ) (d : Dictionary) (i : ℕ) → IsDictionary places d → i < length d.rows → IsRow (2 ^ 63) (length d.nonbasic) (row_at d.rows i)
row_is places d i is h = subst (λ (n : ℕ). IsRow (2 ^ 63) n (row_at d.rows i)) (sym is.nonbasic) (is.rows i h).0

pub below_places : (a : Instance) (d : Dictionary) (i : ℕ) → IsSized a d → i < length d.rows → AllByRecursion (λ t. t.0 < length d.nonbasic) (row_at d.rows i).entries
below_places a d i sized h = terms_below sized.bound 0 (length d.nonbasic) (row_at d.rows i).entries (sized.rows i h).entries

own_by : (b : Bool) (den : ℤ) → pos 0 <ℤ den → pos 0 ≤ℤ (den *ℤ cond b (pos 1) (pos 0))
own_by true den h = omega (arith, ints, h)
own_by false den h = omega (arith, ints, *ℤ-zero den)

-- parts of a value
pub part_first : (a : Instance) (tight : List Choice) (q : Equation) (forms : List Form) (f : Form) → part a tight q forms f 0 ≡ q.constant
part_first a tight q forms f = omega (arith, ints, margin_none q forms f)

part_by : (b : Bool) (q : Equation) (forms : List Form) (f : Form) (k : ℕ) → (b ≡ false → pos 0 ≤ℤ share q forms f k) → pos 0 ≤ℤ ((q.constant *ℤ pos 0) +ℤ margin q forms f (λ g. cond b (pos 0) (at_con k g)))
part_by true q forms f k h = omega (arith, ints, margin_none q forms f, *ℤ-zero q.constant)
part_by false q forms f k h = omega (arith, ints, h refl, *ℤ-zero q.constant)

part_later : (a : Instance) (tight : List Choice) (q : Equation) (forms : List Form) (f : Form) (p : ℕ) → ((k : ℕ) → is_fixed a tight k ≡ false → pos 0 ≤ℤ share q forms f k) → 0 < p → pos 0 ≤ℤ part a tight q forms f p
part_later a tight q forms f zero h lt = absurd (omega arith)
part_later a tight q forms f (suc k) h lt = part_by (is_fixed a tight k) q forms f k (h k)

pub stuck_stage_gives_ray_cut : (a : Instance) (tight : List Choice) (d : Dictionary) (i l : ℕ) (mult : List (ℕ × ℤ)) → IsSized a d → IsPlaced a d → NamesPairs a tight → i < length d.rows → form_at d.basic i ≡ Con l → l < length a.constraints → is_fixed a tight l ≡ false → IsBelow (parts a) (value a tight d i) → NoneHelps a tight false d i → AreMultipliersOf a false (row_at d.rows i) d.nonbasic (Con l) mult → Passes a (Ray (blamed a mult tight) mult)
stuck_stage_gives_ray_cut a tight d i l mult sized placed named within form inside free below none m =
    let q = row_at d.rows i in
    let row = sized.rows i within in
    let terms = below_places a d i sized within in
    let signs : (k : ℕ) → is_fixed a tight k ≡ false → pos 0 ≤ℤ share q d.nonbasic (Con l) k = λ k fk. share_sign a tight false d i k (Con l) terms none fk (own_by (eqb l k) q.den row.positive) in
    let value_is : IsBelow (parts a) (part a tight q d.nonbasic (Con l)) = subst (λ (f : Form). IsBelow (parts a) (part a tight q d.nonbasic f)) form below in
    let first = below_first (parts a) (part a tight q d.nonbasic (Con l)) value_is (λ p lt some. part_later a tight q d.nonbasic (Con l) p signs some) in
    let constant : q.constant <ℤ pos 0 = subst (λ (z : ℤ). z <ℤ pos 0) (part_first a tight q d.nonbasic (Con l)) first in
    ray_passes a tight false d i l sized.bound mult sized.of within form inside row (only_constraints a tight false d i placed.nonbasic none) m (λ k lt fk. signs k fk) constant named

pub lowest_cost_gives_point_cut : (a : Instance) (tight : List Choice) (d : Dictionary) (i : ℕ) (mult : List (ℕ × ℤ)) → IsSized a d → IsPlaced a d → NamesPairs a tight → i < length d.rows → form_at d.basic i ≡ Cost → NoneHelps a tight true d i → AreMultipliersOf a true (row_at d.rows i) d.nonbasic Cost mult → Passes a (Point (blamed a mult tight) mult (row_at d.rows i).den (row_at d.rows i).constant)
lowest_cost_gives_point_cut a tight d i mult sized placed named within form none m =
    let q = row_at d.rows i in
    let row = sized.rows i within in
    let terms = below_places a d i sized within in
    let own : pos 0 ≤ℤ turn true (q.den *ℤ pos 0) = omega (arith, ints, *ℤ-zero q.den) in
    point_passes a tight d i sized.bound mult sized.of within form row (only_constraints a tight true d i placed.nonbasic none) m (λ k lt free. share_sign a tight true d i k Cost terms none free own) named

own_none : (b : Bool) (a : Instance) (tight : List Choice) (k l : ℕ) → eqb l k ≡ b → is_fixed a tight l ≡ true → is_fixed a tight k ≡ false → cond b (pos 1) (pos 0) ≡ pos 0
own_none true a tight k l e fixed free =
    let same : l ≡ k = eqb-true l k e in
    let both : is_fixed a tight k ≡ true = subst (λ (n : ℕ). is_fixed a tight n ≡ true) same fixed in
    absurd (cc (both, free))
own_none false a tight k l e fixed free = refl

pub stuck_exchange_gives_ray_cut : (a : Instance) (tight : List Choice) (sign : Bool) (d : Dictionary) (i l : ℕ) (mult : List (ℕ × ℤ)) → IsSized a d → IsPlaced a d → NamesPairs a tight → i < length d.rows → form_at d.basic i ≡ Con l → l < length a.constraints → is_fixed a tight l ≡ true → turn sign (row_at d.rows i).constant <ℤ pos 0 → NoneFree a tight d i → AreMultipliersOf a sign (row_at d.rows i) d.nonbasic (Con l) mult → Passes a (Ray (blamed a mult tight) mult)
stuck_exchange_gives_ray_cut a tight sign d i l mult sized placed named within form inside fixed below none m =
    let q = row_at d.rows i in
    let row = sized.rows i within in
    let terms = below_places a d i sized within in
    ray_passes a tight sign d i l sized.bound mult sized.of within form inside row (only_fixed a tight d i placed.nonbasic none) m
    (λ k lt free.
    let z = share_none a tight d i k (Con l) terms none free (own_none (eqb l k) a tight k l refl fixed free) in
    subst (λ (y : ℤ). pos 0 ≤ℤ y) (sym (ap (λ y. turn sign y) z ∙ turn_none sign)) (omega (arith, ints)))
    below named
