use Rattle.std.proofs.Common.{◌≡◌, ◌∙◌, sym, ap, subst, rules, ℤ, List, length, FitsSigned}
use mir.Syntax.{w128}
use Rattle.std.proofs.lemmas.Int.{to_z-of_z}
use Rattle.lp_base.specs.Sums.{dot}
use Rattle.lp_base.proofs.Machine.{narrow_again}
use Rattle.lp_nums.specs.Fractions.{Fraction}
use Rattle.lpcc_case.specs.NarrowPoints.{AreNumbersOf}
use Rattle.basic_solutions.specs.Commons.{IsWideOver}
use Rattle.basic_solutions.specs.Readings.{AreNarrowFractions, AreOver, AreReadings, den_in, size_in}
use Rattle.basic_solutions.specs.Solutions.{IsBasicPoint, number_in}
use Rattle.basic_solutions.proofs.Fractions.{readings_narrow}
use Rattle.basic_solutions.proofs.Solved.{coprime_again, numbers_of, point_again, point_is_basic}
use Rattle.basic_solutions.proofs.WideLists.{point_none, point_wide}
use Rattle.basic_solutions.proofs.point.point_of.Goals as goal

pub over_common_denominator-requires : goal.over_common_denominator-requires
over_common_denominator-requires c =
    subst (λ (vs : List Fraction). AreNarrowFractions vs) (sym c.deref.ensures.value) (readings_narrow c.args.case.now c.args.dict.now _ c.in_ok-values.values.items c.requires.sized c.in_ok-values.ensures)

pub cost_of-z-requires : goal.cost_of-z-requires
cost_of-z-requires c =
    let over : AreOver c.deref.result.now c.in-Some.d c.in-Some.x.items = rw c.in-Some.is at c.in_ok-d.ensures.some in
    let size : length c.deref.result.now ≡ c.args.case.now.columns = ap length c.deref.ensures.value ∙ c.in_ok-values.ensures.size in
    subst (λ (xs : List ℤ). AreNumbersOf c.args.case.now xs) (sym c.deref-in-Some.ensures.value) (numbers_of c.args.case.now c.deref.result.now _ _ c.in-Some.x.items size over.numbers)

pub returns-in-Some-clause-numbers : goal.returns-in-Some-clause-numbers
returns-in-Some-clause-numbers c =
    let over : AreOver c.deref.result.now c.in-Some.d c.in-Some.x.items = rw c.in-Some.is at c.in_ok-d.ensures.some in
    let size : length c.deref.result.now ≡ c.args.case.now.columns = ap length c.deref.ensures.value ∙ c.in_ok-values.ensures.size in
    let fits : FitsSigned w128 c.cost_of-z.result = search rules in
    let cost : c.cost_of-z.result ≡ dot c.args.case.now.cost c.in-Some.x.items = c.cost_of-z.ensures ∙ ap (λ (xs : List ℤ). dot c.args.case.now.cost xs) c.deref-in-Some.ensures.value in
    point_again c.args.case.now c.in-Some.d _ c.cost_of-z.result _ c.in-Some.x.items c.of_vec.result (narrow_again c.in-Some.d over.narrow) (to_z-of_z w128 c.cost_of-z.result fits) c.of_vec.ensures (numbers_of c.args.case.now c.deref.result.now _ _ c.in-Some.x.items size over.numbers) over.narrow over.positive cost

pub returns-in-Some-clause-basic : goal.returns-in-Some-clause-basic
returns-in-Some-clause-basic c =
    let over : AreOver c.deref.result.now c.in-Some.d c.in-Some.x.items = rw c.in-Some.is at c.in_ok-d.ensures.some in
    let read : AreReadings c.args.case.now c.args.dict.now _ c.deref.result.now = subst (λ (vs : List Fraction). AreReadings c.args.case.now c.args.dict.now _ vs) (sym c.deref.ensures.value) c.in_ok-values.ensures in
    let basic : IsBasicPoint c.args.dict.now (number_in c.in-Some.x.items) c.in-Some.d = point_is_basic c.args.case.now c.args.dict.now c.deref.result.now c.in-Some.d c.in-Some.x.items c.requires.placed read over in
    subst (λ (z : ℤ). IsBasicPoint c.args.dict.now (number_in c.of_vec.result) z) (sym (narrow_again c.in-Some.d over.narrow)) (subst (λ (xs : List ℤ). IsBasicPoint c.args.dict.now (number_in xs) c.in-Some.d) (sym c.of_vec.ensures) basic)

pub returns-in-Some-clause-lowest : goal.returns-in-Some-clause-lowest
returns-in-Some-clause-lowest c =
    let over : AreOver c.deref.result.now c.in-Some.d c.in-Some.x.items = rw c.in-Some.is at c.in_ok-d.ensures.some in
    coprime_again c.in-Some.d _ c.in-Some.x.items c.of_vec.result (narrow_again c.in-Some.d over.narrow) c.of_vec.ensures over.lowest

pub returns-clause-none : goal.returns-clause-none
returns-clause-none c =
    let wide : IsWideOver (length c.deref.result.now) (size_in c.deref.result.now) (den_in c.deref.result.now) = rw c.in-None.is at c.in_ok-d.ensures.none in
    point_none c.args.case.now c.args.dict.now c.deref.result.now c.requires.sized (subst (λ (vs : List Fraction). AreReadings c.args.case.now c.args.dict.now _ vs) (sym c.deref.ensures.value) c.in_ok-values.ensures) wide

pub returns-clause-wide : goal.returns-clause-wide
returns-clause-wide c =
    let wide : IsWideOver (length c.deref.result.now) (size_in c.deref.result.now) (den_in c.deref.result.now) = rw c.in-None.is at c.in_ok-d.ensures.none in
    point_wide c.args.case.now c.args.dict.now c.deref.result.now c.requires.sized c.requires.placed (subst (λ (vs : List Fraction). AreReadings c.args.case.now c.args.dict.now _ vs) (sym c.deref.ensures.value) c.in_ok-values.ensures) wide
