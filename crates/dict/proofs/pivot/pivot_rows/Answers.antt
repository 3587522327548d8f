use Rattle.std.proofs.Common.{ℕ, List, ◌≡◌, ◌<◌, ◌∙◌, sym, ap, subst, length, IfOk, IfErr}
use Rattle.std.specs.List.{AllByRecursion}
use Rattle.dict.specs.Equations.{Equation, IsReduced}
use Rattle.dict.specs.Exchanges.{Enters, IsNext, IsWideNext}
use Rattle.dict.specs.Dictionaries.{row_at, AreRows}
use Rattle.dict.specs.Pivots.{written}
use Rattle.dict.proofs.Pivots.{row_is, after}
use Rattle.dict.proofs.pivot.pivot_rows.Goals as goal

pub enter-requires-clause-reduced : goal.enter-requires-clause-reduced
enter-requires-clause-reduced c =
    subst (λ (q : Equation). IsReduced q) (sym (c.index.ensures ∙ row_is c.args.rows.now.items c.args.row c.index.result.now c.requires.within)) (c.requires.rows c.args.row c.requires.within).1

pub fresh_rows-requires-clause-rows : goal.fresh_rows-requires-clause-rows
fresh_rows-requires-clause-rows c = subst (λ (rows : List Equation). AreRows c.args.places rows) (sym c.deref.ensures.value) c.requires.rows

pub put_rows-requires : goal.put_rows-requires
put_rows-requires c =
    let made : IfOk c.in_ok-fresh.field-0 (λ fresh. AllByRecursion (λ f. f.0 < length c.args.rows.now.items) fresh.items) = rw c.deref.ensures.value at c.in_ok-fresh.ensures.numbers in
    rw c.in-Ok.is at made

pub returns-in-Ok-clause-after : goal.returns-in-Ok-clause-after
returns-in-Ok-clause-after c =
    let enters : Enters c.args.e (row_at c.args.rows.now.items c.args.row) c.in_ok-entering.entering = subst (λ (q : Equation). Enters c.args.e q c.in_ok-entering.entering) (c.index.ensures ∙ row_is c.args.rows.now.items c.args.row c.index.result.now c.requires.within) c.in_ok-entering.ensures.enters in
    let sizes : IfOk c.in_ok-fresh.field-0 (λ fresh. length (written fresh.items c.args.rows.now.items) ≡ length c.args.rows.now.items) = rw c.deref.ensures.value at c.in_ok-fresh.ensures.size in
    let size : length (written c.in-Ok.fresh.items c.args.rows.now.items) ≡ length c.args.rows.now.items = rw c.in-Ok.is at sizes in
    let made : IfOk c.in_ok-fresh.field-0 (λ fresh. (i : ℕ) → i < length c.args.rows.now.items → (i ≡ c.args.row → ⊥) → IsNext c.args.places c.args.e (row_at c.args.rows.now.items i) c.in_ok-entering.entering (row_at (written fresh.items c.args.rows.now.items) i)) = rw c.deref.ensures.value at c.in_ok-fresh.ensures.next in
    let next : (i : ℕ) → i < length c.args.rows.now.items → (i ≡ c.args.row → ⊥) → IsNext c.args.places c.args.e (row_at c.args.rows.now.items i) c.in_ok-entering.entering (row_at (written c.in-Ok.fresh.items c.args.rows.now.items) i) = rw c.in-Ok.is at made in
    after c.args.places c.args.row c.args.e c.args.rows.now.items c.put_rows.new.rows.items c.in_ok-entering.entering c.requires.within (ap (λ (z : List Equation). length z) c.put_rows.ensures ∙ size) enters c.in_ok-entering.ensures.row c.in_ok-entering.ensures.reduced
    (λ i h other. subst (λ (z : List Equation). IsNext c.args.places c.args.e (row_at c.args.rows.now.items i) c.in_ok-entering.entering (row_at z i)) (sym c.put_rows.ensures) (next i h other))

pub returns-in-Err-clause-wide : goal.returns-in-Err-clause-wide
returns-in-Err-clause-wide c =
    let enters : Enters c.args.e (row_at c.args.rows.now.items c.args.row) c.in_ok-entering.entering = subst (λ (q : Equation). Enters c.args.e q c.in_ok-entering.entering) (c.index.ensures ∙ row_is c.args.rows.now.items c.args.row c.index.result.now c.requires.within) c.in_ok-entering.ensures.enters in
    let within : IfErr c.in_ok-fresh.field-0 (λ at. at.0 < length c.args.rows.now.items) = rw c.deref.ensures.value at c.in_ok-fresh.ensures.within in
    let other : IfErr c.in_ok-fresh.field-0 (λ at. at.0 ≡ c.args.row → ⊥) = c.in_ok-fresh.ensures.other in
    let wide : IfErr c.in_ok-fresh.field-0 (λ at. IsWideNext c.args.places c.args.e at.1 (row_at c.args.rows.now.items at.0) c.in_ok-entering.entering) = rw c.deref.ensures.value at c.in_ok-fresh.ensures.wide in
    record {
      entering = c.in_ok-entering.entering;
      enters = enters;
      within = rw c.in-Err.is at within;
      other = rw c.in-Err.is at other;
      wide = rw c.in-Err.is at wide;
    }
