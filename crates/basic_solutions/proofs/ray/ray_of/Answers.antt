use Rattle.std.proofs.Common.{◌≡◌, ◌∙◌, sym, ap, subst, ℤ, List, length, Some}
use Rattle.lp_nums.specs.Fractions.{Fraction}
use Rattle.lpcc_case.specs.NarrowPoints.{AreNumbersOf}
use Rattle.walks.specs.Divisors.{AreCoprime}
use Rattle.basic_solutions.specs.Commons.{IsWideAlong}
use Rattle.basic_solutions.specs.Readings.{AreAlong, AreNarrowFractions, AreReadings, den_in, size_in}
use Rattle.basic_solutions.specs.Solutions.{IsDirection, number_in}
use Rattle.basic_solutions.proofs.Fractions.{readings_narrow}
use Rattle.basic_solutions.proofs.Solved.{direction_goes, numbers_of, ray_is_direction}
use Rattle.basic_solutions.proofs.WideLists.{ray_none, ray_wide}
use Rattle.basic_solutions.proofs.ray.ray_of.Goals as goal

pub along_fractions-requires-clause-narrow : goal.along_fractions-requires-clause-narrow
along_fractions-requires-clause-narrow c =
    subst (λ (vs : List Fraction). AreNarrowFractions vs) (sym c.deref.ensures.value) (readings_narrow c.args.case.now c.args.dict.now _ c.in_ok-values.values.items c.requires.sized c.in_ok-values.ensures)

pub along_fractions-requires-clause-goes : goal.along_fractions-requires-clause-goes
along_fractions-requires-clause-goes c =
    let read : AreReadings c.args.case.now c.args.dict.now (Some (c.args.col, c.args.down)) c.deref.result.now = subst (λ (vs : List Fraction). AreReadings c.args.case.now c.args.dict.now (Some (c.args.col, c.args.down)) vs) (sym c.deref.ensures.value) c.in_ok-values.ensures in
    direction_goes c.args.case.now c.args.dict.now c.args.col c.args.down c.deref.result.now c.constraints-constraints.ensures.kept c.requires.sized c.requires.placed c.requires.col read

pub returns-in-Some-clause-numbers : goal.returns-in-Some-clause-numbers
returns-in-Some-clause-numbers c =
    let along : AreAlong c.deref.result.now c.in-Some.numbers.items = rw c.in-Some.is at c.in_ok-numbers.ensures.some in
    let size : length c.deref.result.now ≡ c.args.case.now.columns = ap length c.deref.ensures.value ∙ c.in_ok-values.ensures.size in
    subst (λ (xs : List ℤ). AreNumbersOf c.args.case.now xs) (sym c.of_vec.ensures) (numbers_of c.args.case.now c.deref.result.now _ _ c.in-Some.numbers.items size along.numbers)

pub returns-in-Some-clause-direction : goal.returns-in-Some-clause-direction
returns-in-Some-clause-direction c =
    let along : AreAlong c.deref.result.now c.in-Some.numbers.items = rw c.in-Some.is at c.in_ok-numbers.ensures.some in
    let read : AreReadings c.args.case.now c.args.dict.now (Some (c.args.col, c.args.down)) c.deref.result.now = subst (λ (vs : List Fraction). AreReadings c.args.case.now c.args.dict.now (Some (c.args.col, c.args.down)) vs) (sym c.deref.ensures.value) c.in_ok-values.ensures in
    subst (λ (xs : List ℤ). IsDirection c.args.dict.now c.args.down c.args.col (number_in xs)) (sym c.of_vec.ensures) (ray_is_direction c.args.case.now c.args.dict.now c.args.col c.args.down c.deref.result.now c.in-Some.numbers.items c.requires.placed read along)

pub returns-in-Some-clause-lowest : goal.returns-in-Some-clause-lowest
returns-in-Some-clause-lowest c =
    let along : AreAlong c.deref.result.now c.in-Some.numbers.items = rw c.in-Some.is at c.in_ok-numbers.ensures.some in
    subst (λ (xs : List ℤ). AreCoprime xs) (sym c.of_vec.ensures) along.lowest

pub returns-clause-none : goal.returns-clause-none
returns-clause-none c =
    let wide : IsWideAlong (length c.deref.result.now) (size_in c.deref.result.now) (den_in c.deref.result.now) = rw c.in-None.is at c.in_ok-numbers.ensures.none in
    ray_none c.args.case.now c.args.dict.now c.args.col c.args.down c.deref.result.now c.requires.sized (subst (λ (vs : List Fraction). AreReadings c.args.case.now c.args.dict.now (Some (c.args.col, c.args.down)) vs) (sym c.deref.ensures.value) c.in_ok-values.ensures) wide

pub returns-clause-wide : goal.returns-clause-wide
returns-clause-wide c =
    let wide : IsWideAlong (length c.deref.result.now) (size_in c.deref.result.now) (den_in c.deref.result.now) = rw c.in-None.is at c.in_ok-numbers.ensures.none in
    ray_wide c.args.case.now c.args.dict.now c.args.col c.args.down c.deref.result.now c.requires.sized c.requires.placed c.requires.col (subst (λ (vs : List Fraction). AreReadings c.args.case.now c.args.dict.now (Some (c.args.col, c.args.down)) vs) (sym c.deref.ensures.value) c.in_ok-values.ensures) wide
