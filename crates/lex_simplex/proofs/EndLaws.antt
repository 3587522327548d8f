-- The point and the ray at the end of a walk.
use Rattle.std.proofs.Common.{ℕ, zero, suc, ◌+◌, ◌++◌, ◌<◌, ◌≤◌, ◌≡◌, ◌∙◌, refl, sym, ap, subst, arith, ℤ, pos, ◌*ℤ◌, neg_ℤ, ◌<ℤ◌, ◌≤ℤ◌, List, [], ◌∷◌, length, map, Bool, true, false, cond, inl, inr}
use Rattle.std.specs.Prelude.{unsigned_abs, int_lt, nat_lt, not}
use Rattle.std.proofs.lemmas.Int.{ints, by_lt_z}
use Rattle.std.proofs.lemmas.Bool.{ltb-true, lt-ltb}
use Rattle.std.specs.List.{range_with_len}
use Rattle.std.proofs.lemmas.List.FromFn.{length-map-range_with_len, get_or-map-range_with_len}
use Rattle.lp_base.specs.Numbers.{IsNarrow}
use Rattle.nogoods.specs.declared.choice.Choice.{Choice}
use Rattle.lpcc_case.specs.declared.form.Form.{Form}
use Rattle.lpcc_case.specs.declared.form.Form.TheVariants.{Col, Con, Cost}
use Rattle.lpcc_case.specs.declared.point.Point.{Point as Numbers}
use Rattle.lpcc_case.specs.Instance.{Instance}
use Rattle.lpcc_case.specs.Cases.{IsCase}
use Rattle.lpcc_case.specs.declared.point.Ray.{Ray}
use Rattle.lpcc_case.specs.NarrowPoints.{AreNumbersOf, IsPointOf}
use Rattle.lpcc_case.specs.Points.{Point}
use Rattle.dict.specs.Dictionaries.{Dictionary, entry_at, row_at, form_at}
use Rattle.dict.specs.Terms.{only}
use Rattle.dict.specs.Exchanges.{turn}
use Rattle.dict.specs.Forms.{start_of}
use Rattle.dict.proofs.Pivots.{by_eq}
use Rattle.dict.proofs.SparseSums.{only_same, only_apart}
use Rattle.orders.proofs.Orders.{by_lt}
use Rattle.walks.specs.Bases.{AreAbove, ArePassed, MayGo, NoneBlocks}
use Rattle.walks.specs.Steps.{Blocks, IsEntering, IsSized, IsStageRow, goal, goes_down, is_last}
use Rattle.walks.specs.Values.{is_fixed}
use Rattle.walks.proofs.Keeps.{free_inside}
use Rattle.orders.specs.Counts.{choose}
use Rattle.basic_solutions.proofs.Receding.{direction_recedes}
use Rattle.lex_simplex.specs.Answers.{IsAnswer, IsNotSpent}
use Rattle.lex_simplex.specs.Rounds.{IsInStage, NoneLeaves}
use Rattle.lex_simplex.specs.declared.answer.LpAnswer.{LpAnswer}
use Rattle.lex_simplex.specs.declared.answer.LpAnswer.TheVariants.{Infeasible, Optimum, Unbounded, Wide, Spent}
use Rattle.walks.specs.Duals.{Helps, IsPlaced, NoneHelps}
use Rattle.walks.specs.Divisors.{AreCoprime}
use Rattle.walks.specs.Ends.{IsPointAt, IsRayAt}
use Rattle.walks.specs.Walks.{IsOnWalk, IsPath, IsStep, Place}
use Rattle.walks.proofs.Walks.{walk_is_sound, con_row, large_budget_is_not_spent, one_row}
use Rattle.walks.proofs.Points.{basic_point_meets_all}
use Rattle.basic_solutions.specs.Solutions.{IsBasicPoint, IsDirection, IsWidePoint, IsWide, number_in}

-- with no step made the walk stands at the start
path_at_start : (a : Instance) (tight : List Choice) (p : Place) (before : List Place) → IsPath a tight p before → p.steps ≡ 0 → p.at ≡ start_of a
path_at_start a tight p [] path none = ap (λ (q : Place). q.at) path
path_at_start a tight p (q ∷ before) path none = elim path.0 [
  | inl skip ↦
      let s : p.steps ≡ q.steps = ap (λ (r : Place). r.steps) skip.2 in
      ap (λ (r : Place). r.at) skip.2 ∙ path_at_start a tight q before path.1 (omega (arith, s, none))
  | inr more ↦ elim more [
    | inl fix ↦ let s : p.steps ≡ suc q.steps = ap (λ (r : Place). r.steps) fix.6 in absurd (omega (arith, s, none))
    | inr later ↦ elim later [
      | inl raise ↦
          let s : p.steps ≡ q.steps = ap (λ (r : Place). r.steps) raise.3 in
          ap (λ (r : Place). r.at) raise.3 ∙ path_at_start a tight q before path.1 (omega (arith, s, none))
      | inr pivot ↦ let s : p.steps ≡ suc q.steps = ap (λ (r : Place). r.steps) pivot.7 in absurd (omega (arith, s, none))
    ]
  ]
]

-- at the start the point is 0, and the direction of a column is this column
no_column : (xs : List ℕ) (i c : ℕ) → form_at (map Con xs ++ Cost ∷ []) i ≡ Col c → ⊥
no_column [] zero c e = absurd (cc)
no_column [] (suc i) c e = absurd (cc)
no_column (x ∷ xs) zero c e = absurd (cc)
no_column (x ∷ xs) (suc i) c e = no_column xs i c e

column_of : {j c : ℕ} → Col j ≡ Col c → j ≡ c
column_of e = cc

start_point : (a : Instance) → IsBasicPoint (start_of a) (λ c. pos 0) (pos 1)
start_point a = record {
  basic = λ i c lt e. absurd (no_column (range_with_len 0 (length a.constraints)) i c e);
  nonbasic = λ j c lt e. refl;
}

start_direction : (a : Instance) (down : Bool) (col : ℕ) → IsDirection (start_of a) down col (λ c. turn down (only col c))
start_direction a down col = record {
  times = 1;
  positive = omega arith;
  step = 1;
  goes = omega arith;
  base = record {
    basic = λ i c lt e. absurd (no_column (range_with_len 0 (length a.constraints)) i c e);
    nonbasic = λ j c lt e.
        let here : j < a.columns = omega (arith, lt, length-map-range_with_len Col 0 a.columns) in
        let same : j ≡ c = column_of (sym (get_or-map-range_with_len Col 0 a.columns j j Cost here (omega arith)) ∙ e) in
        ap (λ n. turn down (only col n) *ℤ pos 1) (sym same);
  };
}

narrow_at_start : (a : Instance) → IsWidePoint a.columns (λ c. pos 0) (pos 1) → ⊥
narrow_at_start a (inl one) = one (omega arith)
narrow_at_start a (inr x) = x.2 (omega arith)

turned_only : (down : Bool) (col c : ℕ) → IsNarrow (turn down (only col c))
turned_only down col c = by_eq c col (λ e. small down (only col c) (ap (only col) e ∙ only_same col)) (λ other. none down (only col c) (only_apart col c other))
  where
    small : (b : Bool) (z : ℤ) → z ≡ pos 1 → IsNarrow (turn b z)
    small true z e = rw e (omega arith)
    small false z e = rw e (omega arith)

    none : (b : Bool) (z : ℤ) → z ≡ pos 0 → IsNarrow (turn b z)
    none true z e = rw e (omega arith)
    none false z e = rw e (omega arith)

pub some_steps_of_point : (a : Instance) (tight : List Choice) (p : Place) (d : Dictionary) → d ≡ p.at → IsOnWalk a tight p → ((x : ℕ → ℤ) (one : ℤ) → pos 0 <ℤ one → IsBasicPoint d x one → IsWidePoint a.columns x one) → 0 < p.steps
some_steps_of_point a tight p d e on wide =
    by_lt 0 p.steps (λ lt. lt)
    (λ ge.
    let start : d ≡ start_of a = e ∙ path_at_start a tight p on.0 on.1 (omega (arith, ge)) in
    absurd (narrow_at_start a (wide (λ c. pos 0) (pos 1) (omega (arith, ints)) (subst (λ (t : Dictionary). IsBasicPoint t (λ c. pos 0) (pos 1)) (sym start) (start_point a)))))

pub some_steps_of_ray : (a : Instance) (tight : List Choice) (p : Place) (d : Dictionary) (down : Bool) (col : ℕ) → d ≡ p.at → IsOnWalk a tight p → ((x : ℕ → ℤ) → IsDirection d down col x → IsWide a.columns x) → 0 < p.steps
some_steps_of_ray a tight p d down col e on wide =
    by_lt 0 p.steps (λ lt. lt)
    (λ ge.
    let start : d ≡ start_of a = e ∙ path_at_start a tight p on.0 on.1 (omega (arith, ge)) in
    let w = wide (λ c. turn down (only col c)) (subst (λ (t : Dictionary). IsDirection t down col (λ c. turn down (only col c))) (sym start) (start_direction a down col)) in
    absurd (w.2 (turned_only down col w.0)))

-- ---- the point

-- it meets all constraints and is tight at the choices, and its value is that of the cost's row
pub record IsEndPoint (a : Instance) (tight : List Choice) (d : Dictionary) (q : Numbers) : Type 0 where
  pub point : IsPointAt a tight q
  pub value : (row_at d.rows (length a.constraints)).den *ℤ q.z ≡ (row_at d.rows (length a.constraints)).constant *ℤ q.d

pub end_point : (a : Instance) (tight : List Choice) (p : Place) (d : Dictionary) (q : Numbers) → d ≡ p.at → IsCase a → IsOnWalk a tight p → p.looked ≡ length a.constraints → p.stage ≡ length a.constraints → IsPointOf a q → IsBasicPoint d (number_in q.x) q.d → AreCoprime (q.d ∷ q.x) → IsEndPoint a tight p.at q
end_point a tight p d q same kept on looked stage numbers base lowest =
    let sound = walk_is_sound a tight p kept on in
    let point : Point a.columns = record { x = q.x; d = unsigned_abs q.d; size = numbers.fits.numbers.size; positive = omega (arith, ints, numbers.fits.positive) } in
    let den : q.d ≡ pos (unsigned_abs q.d) = omega (arith, ints, numbers.fits.positive) in
    let here : IsBasicPoint p.at (number_in q.x) q.d = subst (λ (t : Dictionary). IsBasicPoint t (number_in q.x) q.d) same base in
    let there : IsBasicPoint p.at (number_in q.x) (pos (unsigned_abs q.d)) = subst (λ (z : ℤ). IsBasicPoint p.at (number_in q.x) z) den here in
    let met = basic_point_meets_all a tight p.at point kept sound.sized sound.placed (subst (λ (n : ℕ). AreAbove a tight n p.at) stage sound.above) (subst (λ (n : ℕ). ArePassed a tight n p.at) looked sound.passed) there in
    let r = row_at p.at.rows (length a.constraints) in
    record {
      point = record { numbers = numbers; lowest = lowest; point = point; means = (refl, sym den); met = met.0; tight_there = met.1 };
      value = ap (λ z. r.den *ℤ z) numbers.cost ∙ met.2 ∙ ap (λ z. r.constant *ℤ z) (sym den);
    }

-- ---- steps

pub step_inside : (a : Instance) (tight : List Choice) (p : Place) (row col : ℕ) → IsCase a → IsOnWalk a tight p → IsStep a tight p row col → (row < length a.constraints) × (col < length p.at.nonbasic)
step_inside a tight p row col kept on step =
    let placed = (walk_is_sound a tight p kept on).placed in
    elim step [
      | inl fix ↦ (con_row a p.at row p.looked placed fix.1.within fix.1.form, fix.1.enters.within)
      | inr pivot ↦ (con_row a p.at row pivot.2.leaves.blocks.constraint placed pivot.2.leaves.within pivot.2.leaves.blocks.form, pivot.2.enters.within)
    ]

-- ---- the last stage

last_by : (b : Bool) (a : Instance) → nat_lt (length a.constraints) (length a.constraints) ≡ b → (b ≡ true → ⊥) → (goal a (length a.constraints) ≡ Cost) × (is_last a (length a.constraints) ≡ true)
last_by true a e h = absurd (h refl)
last_by false a e h = (ap (λ t. cond t (Con (length a.constraints)) Cost) e, ap not e)

last_stage : (a : Instance) → (goal a (length a.constraints) ≡ Cost) × (is_last a (length a.constraints) ≡ true)
last_stage a = last_by (nat_lt (length a.constraints) (length a.constraints)) a refl (λ e. let lt = ltb-true (length a.constraints) (length a.constraints) e in omega (arith, lt))

cost_row : (a : Instance) (tight : List Choice) (d : Dictionary) (row : ℕ) → IsSized a d → IsPlaced a d → IsStageRow a tight (length a.constraints) d row → row ≡ length a.constraints
cost_row a tight d row sized placed stands = one_row a d row (length a.constraints) sized stands.within (omega (arith, placed.size)) (stands.form ∙ (last_stage a).0 ∙ sym placed.cost)

pub none_for_cost : (a : Instance) (tight : List Choice) (p : Place) (row : ℕ) → IsCase a → IsOnWalk a tight p → p.stage ≡ length a.constraints → IsStageRow a tight p.stage p.at row → NoneHelps a tight (is_last a p.stage) p.at row → NoneHelps a tight true p.at (length a.constraints)
none_for_cost a tight p row kept on stage stands none =
    let sound = walk_is_sound a tight p kept on in
    let last : IsStageRow a tight (length a.constraints) p.at row = subst (λ (n : ℕ). IsStageRow a tight n p.at row) stage stands in
    let falls : is_last a p.stage ≡ true = ap (is_last a) stage ∙ (last_stage a).1 in
    subst (λ (n : ℕ). NoneHelps a tight true p.at n) (cost_row a tight p.at row sound.sized sound.placed last)
    (subst (λ (b : Bool). NoneHelps a tight b p.at row) falls none)

-- ---- the ray

may_go : (a : Instance) (tight : List Choice) (f : Form) (z : ℤ) → Helps a tight true f z → MayGo a tight (int_lt (neg_ℤ z) (pos 0)) f
may_go a tight (Col j) z h = tt
may_go a tight (Con k) z h = (opposite (is_fixed a tight k) h.0, not_below (neg_ℤ z) h.1)
  where
    opposite : (b : Bool) → not b ≡ true → b ≡ false
    opposite true h = absurd (cc)
    opposite false h = refl

    not_below : (z : ℤ) → pos 0 <ℤ z → int_lt z (pos 0) ≡ false
    not_below z h = grind (arith, ints)
may_go a tight Cost z h = absurd h

helps_some : (a : Instance) (tight : List Choice) (f : Form) (z : ℤ) → Helps a tight true f z → z ≡ pos 0 → ⊥
helps_some a tight (Col j) z h e = h e
helps_some a tight (Con k) z h e = omega (arith, ints, h.1, e)
helps_some a tight Cost z h e = h

falls_by : (b : Bool) (z : ℤ) → int_lt (neg_ℤ z) (pos 0) ≡ b → (z ≡ pos 0 → ⊥) → turn b z <ℤ pos 0
falls_by true z e h = grind (arith, ints)
falls_by false z e h = by_lt_z z (pos 0) (λ low. low) (λ ge. absurd (h (at_zero z ge e)))
  where
    at_zero : (z : ℤ) → pos 0 ≤ℤ z → int_lt (neg_ℤ z) (pos 0) ≡ false → z ≡ pos 0
    at_zero z ge e = grind (arith, ints)

none_blocks : (a : Instance) (tight : List Choice) (d : Dictionary) (row col : ℕ) (down : Bool) → ((i : ℕ) → i < length d.rows → Blocks a tight (length a.constraints) d row col down i → ⊥) → NoneBlocks a tight down col d
none_blocks a tight d row col down none i k hi form free =
    by_lt_z (turn down (entry_at d i col)) (pos 0)
    (λ low. absurd (none i hi (record { constraint = k; form = form; free = free; goes = inl (free_inside a tight k free, low) })))
    (λ ge. ge)

ray_in_last : (a : Instance) (tight : List Choice) (d : Dictionary) (row col : ℕ) (down : Bool) (ray : Ray) → IsCase a → IsSized a d → IsPlaced a d → ArePassed a tight (length a.constraints) d → down ≡ int_lt (neg_ℤ (entry_at d (length a.constraints) col)) (pos 0) → col < length d.nonbasic → Helps a tight true (form_at d.nonbasic col) (entry_at d (length a.constraints) col) → NoneBlocks a tight down col d → AreNumbersOf a ray.r → IsDirection d down col (number_in ray.r) → AreCoprime ray.r → IsRayAt a tight ray
ray_in_last a tight d row col down ray kept sized placed passed is within helps none numbers direction lowest =
    let z = entry_at d (length a.constraints) col in
    record {
      numbers = numbers;
      lowest = lowest;
      recedes = direction_recedes a tight down col d ray.r kept sized placed passed within
          (subst (λ (b : Bool). MayGo a tight b (form_at d.nonbasic col)) (sym is) (may_go a tight (form_at d.nonbasic col) z helps))
          none
          (subst (λ (b : Bool). turn b z <ℤ pos 0) (sym is) (falls_by (int_lt (neg_ℤ z) (pos 0)) z refl (helps_some a tight (form_at d.nonbasic col) z helps)))
          numbers.size direction;
    }

down_is : (a : Instance) (d : Dictionary) (stage row col : ℕ) → stage ≡ length a.constraints → row ≡ length a.constraints → goes_down a stage d row col ≡ int_lt (neg_ℤ (entry_at d (length a.constraints) col)) (pos 0)
down_is a d stage row col es er =
    ap (λ n. goes_down a n d row col) es ∙ ap (λ n. goes_down a (length a.constraints) d n col) er
    ∙ ap (λ b. int_lt (turn b (entry_at d (length a.constraints) col)) (pos 0)) (last_stage a).1

pub end_ray : (a : Instance) (tight : List Choice) (p : Place) (d : Dictionary) (stage row col : ℕ) (down : Bool) (ray : Ray) → d ≡ p.at → stage ≡ p.stage → down ≡ goes_down a stage d row col → IsCase a → IsOnWalk a tight p → p.looked ≡ length a.constraints → p.stage ≡ length a.constraints → IsStageRow a tight p.stage p.at row → IsEntering a tight p.stage p.at row col → NoneLeaves a tight p.stage p.at row col → AreNumbersOf a ray.r → IsDirection d down col (number_in ray.r) → AreCoprime ray.r → IsRayAt a tight ray
end_ray a tight p d stage row col down ray same at is kept on looked last stands enters none numbers direction lowest =
    let m = length a.constraints in
    let sound = walk_is_sound a tight p kept on in
    let there : IsStageRow a tight m p.at row = subst (λ (n : ℕ). IsStageRow a tight n p.at row) last stands in
    let row_is = cost_row a tight p.at row sound.sized sound.placed there in
    let falls : is_last a p.stage ≡ true = ap (is_last a) last ∙ (last_stage a).1 in
    let down_here : down ≡ goes_down a p.stage p.at row col = is ∙ ap (λ n. goes_down a n d row col) at ∙ ap (λ (t : Dictionary). goes_down a p.stage t row col) same in
    let down_last = down_here ∙ down_is a p.at p.stage row col last row_is in
    let helps : Helps a tight true (form_at p.at.nonbasic col) (entry_at p.at m col) =
    subst (λ (n : ℕ). Helps a tight true (form_at p.at.nonbasic col) (entry_at p.at n col)) row_is
    (subst (λ (b : Bool). Helps a tight b (form_at p.at.nonbasic col) (entry_at p.at row col)) falls enters.holds) in
    let blocked : (i : ℕ) → i < length p.at.rows → Blocks a tight m p.at row col down i → ⊥ =
    subst (λ (n : ℕ). (i : ℕ) → i < length p.at.rows → Blocks a tight n p.at row col down i → ⊥) last
    (subst (λ (b : Bool). (i : ℕ) → i < length p.at.rows → Blocks a tight p.stage p.at row col b i → ⊥) (sym down_here) none) in
    ray_in_last a tight p.at row col down ray kept sound.sized sound.placed (subst (λ (n : ℕ). ArePassed a tight n p.at) looked sound.passed) down_last enters.within helps (none_blocks a tight p.at row col down blocked) numbers (subst (λ (t : Dictionary). IsDirection t down col (number_in ray.r)) same direction) lowest

-- ---- a form leaves in the stage of a constraint: at least the stage's own

goal_by : (b : Bool) (a : Instance) (stage : ℕ) → nat_lt stage (length a.constraints) ≡ b → b ≡ true → (goal a stage ≡ Con stage) × (is_last a stage ≡ false)
goal_by true a stage e h = (ap (λ t. cond t (Con stage) Cost) e, ap not e)
goal_by false a stage e h = absurd (cc)

goal_before : (a : Instance) (stage : ℕ) → stage < length a.constraints → (goal a stage ≡ Con stage) × (is_last a stage ≡ false)
goal_before a stage lt = goal_by (nat_lt stage (length a.constraints)) a stage refl (lt-ltb stage (length a.constraints) lt)

rises_by : (b : Bool) (z : ℤ) → int_lt z (pos 0) ≡ b → (z ≡ pos 0 → ⊥) → pos 0 <ℤ turn b z
rises_by true z e h = grind (arith, ints)
rises_by false z e h = by_lt_z (pos 0) z (λ up. up) (λ le. absurd (h (at_zero z le e)))
  where
    at_zero : (z : ℤ) → z ≤ℤ pos 0 → int_lt z (pos 0) ≡ false → z ≡ pos 0
    at_zero z le e = grind (arith, ints)

helps_up : (a : Instance) (tight : List Choice) (f : Form) (z : ℤ) → Helps a tight false f z → z ≡ pos 0 → ⊥
helps_up a tight (Col j) z h e = h e
helps_up a tight (Con k) z h e = omega (arith, ints, h.1, e)
helps_up a tight Cost z h e = h

own_blocks : (a : Instance) (tight : List Choice) (stage : ℕ) (d : Dictionary) (row col : ℕ) → stage < length a.constraints → IsStageRow a tight stage d row → IsEntering a tight stage d row col → Blocks a tight stage d row col (goes_down a stage d row col) row
own_blocks a tight stage d row col lt stands enters =
    let g = goal_before a stage lt in
    let z = entry_at d row col in
    let some = helps_up a tight (form_at d.nonbasic col) z (subst (λ (b : Bool). Helps a tight b (form_at d.nonbasic col) z) g.1 enters.holds) in
    let down : goes_down a stage d row col ≡ int_lt z (pos 0) = ap (λ b. int_lt (turn b z) (pos 0)) g.1 in
    record {
      constraint = stage;
      form = stands.form ∙ g.0;
      free = stands.free lt;
      goes = inr (refl, refl, subst (λ (b : Bool). pos 0 <ℤ turn b z) (sym down) (rises_by (int_lt z (pos 0)) z refl some));
    }

pub open_is_last : (a : Instance) (tight : List Choice) (p : Place) (row col : ℕ) → IsInStage a p → IsStageRow a tight p.stage p.at row → IsEntering a tight p.stage p.at row col → NoneLeaves a tight p.stage p.at row col → p.stage ≡ length a.constraints
open_is_last a tight p row col in_stage stands enters none =
    by_lt p.stage (length a.constraints)
    (λ lt. absurd (none row stands.within (own_blocks a tight p.stage p.at row col lt stands enters)))
    (λ ge. omega (arith, ge, in_stage.1))

-- ---- a large budget

pub not_spent : (a : Instance) (tight : List Choice) (budget : ℕ) (answer : LpAnswer) → IsCase a → choose (a.columns + length a.constraints) a.columns ≤ budget → IsAnswer a tight budget answer → IsNotSpent answer
not_spent a tight budget (Infeasible cut) kept enough h = tt
not_spent a tight budget (Optimum q cut) kept enough h = tt
not_spent a tight budget (Unbounded q ray) kept enough h = tt
not_spent a tight budget (Wide w) kept enough h = tt
not_spent a tight budget (Spent s) kept enough h = large_budget_is_not_spent a tight s.stage budget kept enough h.reached
