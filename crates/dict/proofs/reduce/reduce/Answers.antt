use Rattle.std.proofs.Common.{ℤ, ◌≡◌, ◌∙◌, ◌*◌, ◌*ℤ◌, ◌<◌, ◌≤◌, ◌^◌, refl, subst, to_z, of_z, IfOk, IfErr}
use Rattle.std.specs.Prelude.{unsigned_abs}
use Rattle.std.proofs.lemmas.Int.{to_z-of_z}
use mir.Syntax.{w128}
use Rattle.lp_base.proofs.Machine.{again}
use Rattle.lpcc_case.specs.Points.{coefficient}
use Rattle.dict.specs.Terms.{AreTerms}
use Rattle.dict.specs.Equations.{Equation, equation, scale, IsCommon}
use Rattle.dict.proofs.Machine.{read_again}
use Rattle.dict.proofs.Commons.{equation_again}
use Rattle.dict.proofs.Reduces.{wide_from, reduced_row, narrow_row, number_den, number_constant, number_entry}
use Rattle.dict.proofs.reduce.reduce.Goals as goal

pub narrow-requires-clause-divides : goal.narrow-requires-clause-divides
narrow-requires-clause-divides c =
    let common = (subst (λ (q : Equation). IsCommon (unsigned_abs c.common-g.result) q) (equation_again c.args.den c.args.constant c.args.entries.now c.ranges.den c.ranges.constant) c.common-g.ensures.common) in
    rw (again c.common-g.result c.common-g.ensures.small, to_z-of_z w128 c.args.den c.ranges.den) common.0.den

pub narrow-requires-2-clause-divides : goal.narrow-requires-2-clause-divides
narrow-requires-2-clause-divides c =
    let common = (subst (λ (q : Equation). IsCommon (unsigned_abs c.common-g.result) q) (equation_again c.args.den c.args.constant c.args.entries.now c.ranges.den c.ranges.constant) c.common-g.ensures.common) in
    rw (again c.common-g.result c.common-g.ensures.small, to_z-of_z w128 c.args.constant c.ranges.constant) common.0.constant

pub returns-in-None-clause-wide : goal.returns-in-None-clause-wide
returns-in-None-clause-wide c =
    let common = (subst (λ (q : Equation). IsCommon (unsigned_abs c.common-g.result) q) (equation_again c.args.den c.args.constant c.args.entries.now c.ranges.den c.ranges.constant) c.common-g.ensures.common) in
    let large : 2 ^ 63 * unsigned_abs (to_z w128 (of_z w128 c.common-g.result)) ≤ unsigned_abs (to_z w128 (of_z w128 c.args.den)) = c.in-None.ensures.wide in
    wide_from c.args.places _ (equation c.args.den c.args.constant c.args.entries.now) c.common-g.result c.args.den c.requires.row common c.common-g.ensures.positive (number_den c.args.places (equation c.args.den c.args.constant c.args.entries.now))
    (rw (again c.common-g.result c.common-g.ensures.small, to_z-of_z w128 c.args.den c.ranges.den) at large)

pub returns-in-None-narrow-clause-wide : goal.returns-in-None-narrow-clause-wide
returns-in-None-narrow-clause-wide c =
    let common = (subst (λ (q : Equation). IsCommon (unsigned_abs c.common-g.result) q) (equation_again c.args.den c.args.constant c.args.entries.now c.ranges.den c.ranges.constant) c.common-g.ensures.common) in
    let large : 2 ^ 63 * unsigned_abs (to_z w128 (of_z w128 c.common-g.result)) ≤ unsigned_abs (to_z w128 (of_z w128 c.args.constant)) = c.in-None-narrow.ensures.wide in
    wide_from c.args.places c.args.places (equation c.args.den c.args.constant c.args.entries.now) c.common-g.result c.args.constant c.requires.row common c.common-g.ensures.positive (number_constant c.args.places (equation c.args.den c.args.constant c.args.entries.now))
    (rw (again c.common-g.result c.common-g.ensures.small, to_z-of_z w128 c.args.constant c.ranges.constant) at large)

pub returns-in-Err-clause-wide : goal.returns-in-Err-clause-wide
returns-in-Err-clause-wide c =
    let common = (subst (λ (q : Equation). IsCommon (unsigned_abs c.common-g.result) q) (equation_again c.args.den c.args.constant c.args.entries.now c.ranges.den c.ranges.constant) c.common-g.ensures.common) in
    let wide : IfErr c.in_ok-small.field-0 (λ at. 2 ^ 63 * unsigned_abs (to_z w128 (of_z w128 c.common-g.result)) ≤ unsigned_abs (coefficient c.args.entries.now at)) = c.in_ok-small.ensures.wide in
    let within : IfErr c.in_ok-small.field-0 (λ at. at < c.args.places) = c.in_ok-small.ensures.within in
    let is_wide : 2 ^ 63 * unsigned_abs (to_z w128 (of_z w128 c.common-g.result)) ≤ unsigned_abs (coefficient c.args.entries.now c.in-Err.at) = rw c.in-Err.is at wide in
    let is_within : c.in-Err.at < c.args.places = rw c.in-Err.is at within in
    wide_from c.args.places c.in-Err.at (equation c.args.den c.args.constant c.args.entries.now) c.common-g.result (coefficient c.args.entries.now c.in-Err.at) c.requires.row common c.common-g.ensures.positive (number_entry c.args.places c.in-Err.at (equation c.args.den c.args.constant c.args.entries.now) is_within)
    (subst (λ (g : ℤ). 2 ^ 63 * unsigned_abs g ≤ unsigned_abs (coefficient c.args.entries.now c.in-Err.at)) (again c.common-g.result c.common-g.ensures.small) is_wide)

pub returns-in-Ok-clause-reduced : goal.returns-in-Ok-clause-reduced
returns-in-Ok-clause-reduced c =
    let common = (subst (λ (q : Equation). IsCommon (unsigned_abs c.common-g.result) q) (equation_again c.args.den c.args.constant c.args.entries.now c.ranges.den c.ranges.constant) c.common-g.ensures.common) in
    let eg : to_z w128 (of_z w128 c.common-g.result) ≡ c.common-g.result = again c.common-g.result c.common-g.ensures.small in
    let of : c.of.result ≡ equation c.in-Some.n c.in-Some-narrow.n c.in-Ok.small.items = c.of.ensures ∙ rw (read_again c.in-Some.n c.in-Some.ensures.narrow, read_again c.in-Some-narrow.n c.in-Some-narrow.ensures.narrow) refl in
    let ed : c.in-Some.n *ℤ c.common-g.result ≡ c.args.den = subst (λ (g : ℤ). c.in-Some.n *ℤ g ≡ to_z w128 (of_z w128 c.args.den)) eg c.in-Some.ensures.exact ∙ to_z-of_z w128 c.args.den c.ranges.den in
    let ec : c.in-Some-narrow.n *ℤ c.common-g.result ≡ c.args.constant = subst (λ (g : ℤ). c.in-Some-narrow.n *ℤ g ≡ to_z w128 (of_z w128 c.args.constant)) eg c.in-Some-narrow.ensures.exact ∙ to_z-of_z w128 c.args.constant c.ranges.constant in
    let exact : IfOk c.in_ok-small.field-0 (λ out. scale (to_z w128 (of_z w128 c.common-g.result)) out.items ≡ c.args.entries.now) = c.in_ok-small.ensures.exact in
    let ee : scale (to_z w128 (of_z w128 c.common-g.result)) c.in-Ok.small.items ≡ c.args.entries.now = rw c.in-Ok.is at exact in
    reduced_row c.args.places c.args.den c.args.constant c.in-Some.n c.in-Some-narrow.n c.common-g.result c.args.entries.now c.in-Ok.small.items c.of.result common c.common-g.ensures.positive ed ec
    (subst (λ (g : ℤ). scale g c.in-Ok.small.items ≡ c.args.entries.now) eg ee)
    of

pub returns-in-Ok-clause-narrow : goal.returns-in-Ok-clause-narrow
returns-in-Ok-clause-narrow c =
    let eg : to_z w128 (of_z w128 c.common-g.result) ≡ c.common-g.result = again c.common-g.result c.common-g.ensures.small in
    let of : c.of.result ≡ equation c.in-Some.n c.in-Some-narrow.n c.in-Ok.small.items = c.of.ensures ∙ rw (read_again c.in-Some.n c.in-Some.ensures.narrow, read_again c.in-Some-narrow.n c.in-Some-narrow.ensures.narrow) refl in
    let ed : c.in-Some.n *ℤ c.common-g.result ≡ c.args.den = subst (λ (g : ℤ). c.in-Some.n *ℤ g ≡ to_z w128 (of_z w128 c.args.den)) eg c.in-Some.ensures.exact ∙ to_z-of_z w128 c.args.den c.ranges.den in
    let small : IfOk c.in_ok-small.field-0 (λ out. AreTerms (2 ^ 63) 0 c.args.places out.items) = c.in_ok-small.ensures.narrow in
    let terms : AreTerms (2 ^ 63) 0 c.args.places c.in-Ok.small.items = rw c.in-Ok.is at small in
    narrow_row c.args.places c.args.den c.in-Some.n c.in-Some-narrow.n c.common-g.result c.in-Ok.small.items c.of.result c.requires.row.positive c.common-g.ensures.positive ed c.in-Some.ensures.narrow c.in-Some-narrow.ensures.narrow terms of
