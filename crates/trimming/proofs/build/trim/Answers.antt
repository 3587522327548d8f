use Rattle.std.proofs.Common.{ℕ, List, sym, subst, ap, length}
use Rattle.trimming.specs.Trimmed.{AreReached}
use Rattle.trimming.proofs.KeepLaws.{places_low, all_kept, keeps_empty}
use Rattle.trimming.proofs.build.trim.Goals as goal

pub numbers_of-requires-clause-low : goal.numbers_of-requires-clause-low
numbers_of-requires-clause-low c =
    let P : List ℕ → Type 0 = λ l. AreReached c.args.log.now l in
    places_low c.args.log.now c.as_slice-places.result.now (length c.steps.result.now) (subst P (sym c.as_slice-places.ensures) c.in_ok-places.ensures) c.steps.ensures.kept (ap (λ l. length l) c.steps.ensures.list)

pub returns-clause-empty : goal.returns-clause-empty
returns-clause-empty c =
    let P : List ℕ → Type 0 = λ l. AreReached c.args.log.now l in
    keeps_empty c.args.log.now c.loop-place.made c.as_slice-places.result.now (subst P (sym c.as_slice-places.ensures) c.in_ok-places.ensures) (all_kept c.args.log.now c.loop-place.made c.as_slice-places.result.now c.loop-place.place c.loop-place-test.false c.loop-place.invariant)
