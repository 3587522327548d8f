use Rattle.std.proofs.Common.{ℕ, ℤ, List, pos, ◌≡◌, ◌∙◌, ◌*◌, ◌≤◌, ◌^◌, ◌++◌, ◌∷◌, [], to_z, of_z, refl, sym, ap, subst, arith, rules, FitsSigned}
use Rattle.std.specs.Prelude.{unsigned_abs}
use Rattle.std.proofs.lemmas.Int.{ints, to_z-of_z}
use mir.Syntax.{w64, w128}
use Rattle.dict.specs.Terms.{AreTerms}
use Rattle.dict.specs.Equations.{scale}
use Rattle.dict.proofs.Machine.{read_again, is_pos}
use Rattle.dict.proofs.SparseSums.{coefficient_at, term_within}
use Rattle.dict.proofs.Commons.{NarrowEach, divides_at, divide_step, divide_done, narrow_end}
use Rattle.dict.proofs.Reduces.{unscaled_terms, narrow_terms}
use Rattle.dict.proofs.reduce.divide_all.Goals as goal

pub loop-i-init : goal.loop-i-init
loop-i-init c = rw c.in_ok-out.ensures.items (record { so_far = refl; small = tt })

pub narrow-requires-clause-divides : goal.narrow-requires-clause-divides
narrow-requires-clause-divides c =
    let f : FitsSigned w128 c.wide_term_at-term.result.1 = search rules in
    rw (to_z-of_z w128 c.wide_term_at-term.result.1 f, to_z-of_z w128 c.args.g c.ranges.g) (divides_at (unsigned_abs c.args.g) c.args.entries.now c.loop-i.i c.wide_term_at-term.result c.loop-i-test.true c.wide_term_at-term.ensures c.requires.divides)

pub returns-in-None-clause-wide : goal.returns-in-None-clause-wide
returns-in-None-clause-wide c =
    let f : FitsSigned w128 c.wide_term_at-term.result.1 = search rules in
    let large : 2 ^ 63 * unsigned_abs (to_z w128 (of_z w128 c.args.g)) ≤ unsigned_abs (to_z w128 (of_z w128 c.wide_term_at-term.result.1)) = c.in-None.ensures.wide in
    let read : 2 ^ 63 * unsigned_abs c.args.g ≤ unsigned_abs c.wide_term_at-term.result.1 = rw (to_z-of_z w128 c.wide_term_at-term.result.1 f, to_z-of_z w128 c.args.g c.ranges.g) at large in
    subst (λ (z : ℤ). 2 ^ 63 * unsigned_abs c.args.g ≤ unsigned_abs z) (sym (coefficient_at (2 ^ 127) 0 c.args.places c.args.entries.now c.loop-i.i c.wide_term_at-term.result c.loop-i-test.true c.wide_term_at-term.ensures c.requires.terms)) read

pub returns-in-None-clause-within : goal.returns-in-None-clause-within
returns-in-None-clause-within c =
    (term_within (2 ^ 127) 0 c.args.places c.args.entries.now c.loop-i.i c.wide_term_at-term.result c.loop-i-test.true c.wide_term_at-term.ensures c.requires.terms).1

pub loop-i-preserved : goal.loop-i-preserved
loop-i-preserved c =
    let f : FitsSigned w128 c.wide_term_at-term.result.1 = search rules in
    let r : to_z w64 (of_z w64 c.in-Some.n) ≡ c.in-Some.n = read_again c.in-Some.n c.in-Some.ensures.narrow in
    let items : c.put_narrow.new.out.items ≡ c.loop-i.out.items ++ (c.wide_term_at-term.result.0, c.in-Some.n) ∷ [] = c.in_ok-put_narrow-in-Some.ensures ∙ ap (λ (z : ℤ). c.loop-i.out.items ++ (c.wide_term_at-term.result.0, z) ∷ []) r in
    record {
      so_far =
          divide_step _ c.args.entries.now c.loop-i.i c.wide_term_at-term.result c.in-Some.n c.loop-i.out.items c.put_narrow.new.out.items c.loop-i-test.true c.wide_term_at-term.ensures (c.in-Some.ensures.exact ∙ to_z-of_z w128 c.wide_term_at-term.result.1 f) items c.loop-i.invariant.so_far;
      small = subst (λ (z : List (ℕ × ℤ)). NarrowEach z) (sym items) (narrow_end c.loop-i.out.items (c.wide_term_at-term.result.0, c.in-Some.n) c.loop-i.invariant.small c.in-Some.ensures.narrow);
    }

pub returns-clause-exact : goal.returns-clause-exact
returns-clause-exact c =
    subst (λ (g : ℤ). scale g c.loop-i.out.items ≡ c.args.entries.now) (to_z-of_z w128 c.args.g c.ranges.g)
    (divide_done (to_z w128 (of_z w128 c.args.g)) c.args.entries.now c.loop-i.out.items c.loop-i.i (omega (arith, c.loop-i-test.false)) c.loop-i.invariant.so_far)

pub returns-clause-narrow : goal.returns-clause-narrow
returns-clause-narrow c =
    let exact : scale (pos (unsigned_abs c.args.g)) c.loop-i.out.items ≡ c.args.entries.now = ap (λ (g : ℤ). scale g c.loop-i.out.items) (sym (is_pos c.args.g c.requires.positive)) ∙ returns-clause-exact c in
    narrow_terms (2 ^ 127) 0 c.args.places c.loop-i.out.items c.loop-i.invariant.small
    (unscaled_terms (2 ^ 127) (unsigned_abs c.args.g) 0 c.args.places c.loop-i.out.items (omega (arith, ints, c.requires.positive)) (subst (λ (z : List (ℕ × ℤ)). AreTerms (2 ^ 127) 0 c.args.places z) (sym exact) c.requires.terms))
