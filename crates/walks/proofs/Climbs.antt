-- A stage has at most as many pivots as there are choices of its nonbasic forms.
use Rattle.std.proofs.Common.{ℕ, ◌+◌, ◌≤◌, ◌≡◌, ◌∙◌, sym, ap, subst, arith, pos, ◌*ℤ◌, ◌<ℤ◌, List, [], ◌∷◌, length, map}
use Rattle.std.specs.List.{AllByRecursion}
use Rattle.lp_base.proofs.Ring.{mul_comm}
use Rattle.nogoods.specs.declared.choice.Choice.{Choice}
use Rattle.lpcc_case.specs.declared.form.Form.{Form}
use Rattle.lpcc_case.specs.Instance.{Instance}
use Rattle.dict.specs.Exchanges.{turn}
use Rattle.dict.specs.Dictionaries.{row_at}
use Rattle.dict.specs.Forms.{IsRowOf, affine_of, affine_at}
use Rattle.dict.proofs.SparseSums.{terms_below}
use Rattle.orders.specs.Counts.{choose, IsChoiceOf, AreApart}
use Rattle.orders.proofs.Orders.{less_trans, less_not_same}
use Rattle.orders.proofs.Choices.{few_choices}
use Rattle.walks.specs.Values.{part, parts, value}
use Rattle.walks.specs.Steps.{goal, is_last}
use Rattle.walks.specs.Climbs.{Standing, IsStanding, Climbs, IsClimb}
use Rattle.walks.proofs.Changes.{times_turn}
use Rattle.walks.proofs.Sets.{marks, marks_are_choice, distinct_from, among_from_marks, set_part}

den_positive : (a : Instance) (stage : ℕ) (s : Standing) → IsStanding a stage s → pos 0 <ℤ (row_at s.at.rows s.row).den
den_positive a stage s is = (is.sized.rows s.row is.within).positive

-- the value at the same set of forms is the same
same_value : (a : Instance) (tight : List Choice) (stage : ℕ) (s t : Standing) (p : ℕ) → IsStanding a stage s → IsStanding a stage t → marks a t.at.nonbasic ≡ marks a s.at.nonbasic → value a tight s.at s.row p *ℤ (row_at t.at.rows t.row).den ≡ value a tight t.at t.row p *ℤ (row_at s.at.rows s.row).den
same_value a tight stage s t p is it e =
    let q = row_at s.at.rows s.row in
    let r = row_at t.at.rows t.row in
    let g = goal a stage in
    let hq : IsRowOf q (affine_of a g) (affine_at a s.at.nonbasic) = subst (λ (f : Form). IsRowOf q (affine_of a f) (affine_at a s.at.nonbasic)) is.form (λ x one. is.sized.of.identities x one s.row is.within) in
    let hr : IsRowOf r (affine_of a g) (affine_at a t.at.nonbasic) = subst (λ (f : Form). IsRowOf r (affine_of a f) (affine_at a t.at.nonbasic)) it.form (λ x one. it.sized.of.identities x one t.row it.within) in
    let main = set_part a tight q r s.at.nonbasic t.at.nonbasic g p is.sized.of.independent is.placed.nonbasic it.placed.nonbasic (among_from_marks a t.at.nonbasic s.at.nonbasic e) (terms_below is.sized.bound 0 (length s.at.nonbasic) q.entries (is.sized.rows s.row is.within).entries) (terms_below it.sized.bound 0 (length t.at.nonbasic) r.entries (it.sized.rows t.row it.within).entries) hq hr in
    ap (λ f. part a tight q s.at.nonbasic f p *ℤ r.den) is.form ∙ main ∙ ap (λ f. part a tight r t.at.nonbasic f p *ℤ q.den) (sym it.form)

not_same : (a : Instance) (tight : List Choice) (stage : ℕ) (s t : Standing) → IsStanding a stage s → IsStanding a stage t → Climbs a tight stage t s → marks a s.at.nonbasic ≡ marks a t.at.nonbasic → ⊥
not_same a tight stage s t is it climbs e =
    let ds = (row_at s.at.rows s.row).den in
    let dt = (row_at t.at.rows t.row).den in
    let b = is_last a stage in
    less_not_same (parts a) dt ds (λ p. turn b (value a tight t.at t.row p)) (λ p. turn b (value a tight s.at s.row p))
    (λ p lt.
    let v = same_value a tight stage s t p is it (sym e) in
    times_turn b dt (value a tight s.at s.row p) ∙ ap (λ z. turn b z) (mul_comm dt (value a tight s.at s.row p) ∙ v ∙ mul_comm (value a tight t.at t.row p) ds) ∙ sym (times_turn b ds (value a tight t.at t.row p)))
    climbs

-- each is better than all before it
climbs_all : (a : Instance) (tight : List Choice) (stage : ℕ) (s t : Standing) (before : List Standing) → IsStanding a stage s → IsStanding a stage t → AllByRecursion (IsStanding a stage) before → Climbs a tight stage t s → IsClimb a tight stage (t ∷ before) → AllByRecursion (λ u. Climbs a tight stage u s) before
climbs_all a tight stage s t [] is it all climbs run = tt
climbs_all a tight stage s t (u ∷ us) is it all climbs run =
    let b = is_last a stage in
    let here : Climbs a tight stage u s = less_trans (parts a) (row_at u.at.rows u.row).den (row_at t.at.rows t.row).den (row_at s.at.rows s.row).den (λ p. turn b (value a tight u.at u.row p)) (λ p. turn b (value a tight t.at t.row p)) (λ p. turn b (value a tight s.at s.row p)) (den_positive a stage u all.0) (den_positive a stage t it) (den_positive a stage s is) run.0 climbs in
    (here, climbs_all a tight stage s u us is all.0 all.1 here run.1)

apart_from : (a : Instance) (tight : List Choice) (stage : ℕ) (s : Standing) (before : List Standing) → IsStanding a stage s → AllByRecursion (IsStanding a stage) before → AllByRecursion (λ u. Climbs a tight stage u s) before → AllByRecursion (λ c. marks a s.at.nonbasic ≡ c → ⊥) (map (λ u. marks a u.at.nonbasic) before)
apart_from a tight stage s [] is all climbs = tt
apart_from a tight stage s (u ∷ us) is all climbs = (not_same a tight stage s u is all.0 climbs.0, apart_from a tight stage s us is all.1 climbs.1)

all_apart : (a : Instance) (tight : List Choice) (stage : ℕ) (run : List Standing) → AllByRecursion (IsStanding a stage) run → IsClimb a tight stage run → AreApart (map (λ u. marks a u.at.nonbasic) run)
all_apart a tight stage [] all climb = tt
all_apart a tight stage (s ∷ []) all climb = (tt, tt)
all_apart a tight stage (s ∷ t ∷ before) all climb =
    let later : AllByRecursion (λ u. Climbs a tight stage u s) (t ∷ before) = (climb.0, climbs_all a tight stage s t before all.0 all.1.0 all.1.1 climb.0 climb.1) in
    (apart_from a tight stage s (t ∷ before) all.0 all.1 later, all_apart a tight stage (t ∷ before) all.1 climb.1)

all_choices : (a : Instance) (stage : ℕ) (run : List Standing) → AllByRecursion (IsStanding a stage) run → AllByRecursion (λ u. length u.at.nonbasic ≡ a.columns) run → AllByRecursion (IsChoiceOf (a.columns + length a.constraints) a.columns) (map (λ u. marks a u.at.nonbasic) run)
all_choices a stage [] all sizes = tt
all_choices a stage (s ∷ before) all sizes = (marks_are_choice a s.at.nonbasic all.0.placed.nonbasic (distinct_from a s.at.nonbasic all.0.sized.of.independent) sizes.0, all_choices a stage before all.1 sizes.1)

pub few_in_a_stage : (a : Instance) (tight : List Choice) (stage : ℕ) (run : List Standing) → AllByRecursion (IsStanding a stage) run → AllByRecursion (λ u. length u.at.nonbasic ≡ a.columns) run → IsClimb a tight stage run → length run ≤ choose (a.columns + length a.constraints) a.columns
few_in_a_stage a tight stage run all sizes climb =
    let few = few_choices (a.columns + length a.constraints) a.columns (map (λ u. marks a u.at.nonbasic) run) (all_choices a stage run all sizes) (all_apart a tight stage run all climb) in
    omega (arith, few, Rattle.std.proofs.lemmas.List.length-map run (λ u. marks a u.at.nonbasic))
