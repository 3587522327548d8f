use Rattle.std.proofs.Common.{rules, arith, ◌≡◌, ◌<◌, ◌∙◌, ◌^◌, refl, sym, ap, subst, ℕ, List, length, get_or, map}
use Rattle.std.specs.Prelude.{All, replicate}
use Rattle.std.proofs.lemmas.List.{length-map}
use Rattle.std.specs.Arc.{arc_value}
use Rattle.cut_pool.specs.Opened.{IsFirstLane}
use Rattle.cut_pool.specs.Reaches.{TookAll, bare_reach}
use Rattle.cut_pool.proofs.Taking.{Pages}
use Rattle.cut_pool.proofs.Readying.{first_counts, new_reach, new_shelf}
use Rattle.cut_pool.proofs.shelf.Shelf.create.Goals as goal

pub hand_first-requires-clause-lanes : goal.hand_first-requires-clause-lanes
hand_first-requires-clause-lanes c =
    let e = c.in_ok-lanes.ensures in
    subst (λ (n : ℕ). All (IsFirstLane (arc_value c.in_ok-case.case) n) c.in_ok-lanes.lanes.items) (sym e.counts.0) e.lanes

pub invariant_of-shelf : goal.invariant_of-shelf
invariant_of-shelf c =
    let a = arc_value c.in_ok-case.case in
    let old : List Pages = c.in_ok-lanes.lanes.items in
    let after : List Pages = c.hand_first.new.lanes.items in
    let e = c.in_ok-handed.ensures in
    let pages : map length after ≡ map length old = search rules in
    let size : length after ≡ length old = sym (length-map after length) ∙ ap length pages ∙ length-map old length in
    let count : length old ≡ c.args.workers = c.in_ok-lanes.ensures.counts.0 in
    let few : length after < 2 ^ 32 = omega (arith, size, count, c.ranges.workers.fits) in
    let rooms : c.in_ok-rooms.rooms.items ≡ replicate c.args.workers 16 = search rules in
    new_shelf a after c.in_ok-rooms.rooms.items c.in_ok-handed.handed.items few (rooms ∙ ap (λ (n : ℕ). replicate n 16) (sym (size ∙ count))) (e.counts.0 ∙ sym size) (λ w h. e.waits w (omega (arith, h, size)))

pub returns-clause-reaches : goal.returns-clause-reaches
returns-clause-reaches c = λ k d h.
    let a = arc_value c.in_ok-case.case in
    let old : List Pages = c.in_ok-lanes.lanes.items in
    let after : List Pages = c.hand_first.new.lanes.items in
    let e = c.in_ok-handed.ensures in
    let pages : map length after ≡ map length old = search rules in
    let ones : map length old ≡ replicate (length old) 1 = first_counts a old c.args.workers c.in_ok-lanes.ensures.lanes in
    let inside : k < length old = omega (arith, h, c.in_ok-lanes.ensures.counts.0) in
    let took : TookAll (bare_reach a (length old) k) (get_or c.hand_first.new.reaches.items k d) (replicate (length old) 0) (replicate (length old) 1) =
    subst (λ (t : List ℕ). TookAll (bare_reach a (length old) k) (get_or c.hand_first.new.reaches.items k d) (replicate (length old) 0) t) ones (e.took k d inside) in
    new_reach _ a (length old) k (get_or c.hand_first.new.reaches.items k d) took inside (ap length pages ∙ length-map old length) refl (pages ∙ ones) (e.all k inside ∙ ones)
