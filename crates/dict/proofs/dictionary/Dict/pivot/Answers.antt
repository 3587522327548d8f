use Rattle.std.proofs.Common.{ℕ, ◌≡◌, ◌<◌, ◌∙◌, pos, refl, sym, subst, arith, length, set, OnOk, IfErr}
use Rattle.std.proofs.lemmas.List.{length-set}
use Rattle.lpcc_case.specs.Points.{coefficient}
use Rattle.dict.specs.Dictionaries.{Dictionary, IsDictionary, IsWideRow, AllHold, AreRows, row_at, form_at}
use Rattle.dict.specs.Pivots.{IsAfter, IsWidePlace}
use Rattle.dict.specs.Forms.{IsDictionaryOf}
use Rattle.dict.proofs.Pivots.{rows_after}
use Rattle.dict.proofs.Dictionaries.{pivoted_is, form_read, dictionary_after, all_hold_after, of_after, wide_row}
use Rattle.dict.proofs.dictionary.Dict.pivot.Goals as goal

pub invariant_of-self-in-Ok-Ok : goal.invariant_of-self-in-Ok-Ok
invariant_of-self-in-Ok-Ok c =
    let d : Dictionary = record { rows = c.self.inside.rows.items; basic = c.self.inside.basic.items; nonbasic = c.self.inside.nonbasic.items } in
    let told : OnOk c.in-Ok-Ok.field-0 (IsAfter c.self.inside.columns c.args.row c.args.col c.self.inside.rows.items c.pivot_rows.new.rows.items) = c.in-Ok-Ok.ensures.after in
    let after : IsAfter c.self.inside.columns c.args.row c.args.col c.self.inside.rows.items c.pivot_rows.new.rows.items = rw c.in-Ok-Ok.field-0-is at told in
    let row : c.args.row < length c.self.inside.rows.items = subst (λ (e : Dictionary). c.args.row < length e.rows) (sym c.self.view_is) c.requires.row in
    let col : c.args.col < length c.self.inside.nonbasic.items = subst (λ (e : Dictionary). c.args.col < length e.nonbasic) (sym c.self.view_is) c.requires.col in
    let x : c.index.result.now ≡ form_at c.self.inside.nonbasic.items c.args.col = form_read c.self.inside.nonbasic.items c.args.col c.index.result.now col c.index.ensures in
    let y : c.index-leaving.result.now ≡ form_at c.self.inside.basic.items c.args.row = form_read c.self.inside.basic.items c.args.row c.index-leaving.result.now (omega (arith, row, c.self.invariant.basic)) c.index-leaving.ensures in
    let made = pivoted_is c.pivot_rows.new.rows.items c.args.row c.args.col d c.index.result.now c.index-leaving.result.now x y in
    subst (λ (e : Dictionary). IsDictionary c.self.inside.columns e) made (dictionary_after c.self.inside.columns c.args.row c.args.col d c.pivot_rows.new.rows.items after c.self.invariant)

pub returns-in-Ok-Err-clause-cause : goal.returns-in-Ok-Err-clause-cause
returns-in-Ok-Err-clause-cause c =
    let d : Dictionary = record { rows = c.self.inside.rows.items; basic = c.self.inside.basic.items; nonbasic = c.self.inside.nonbasic.items } in
    let told : IfErr c.in-Ok-Err.field-0 (λ at. IsWidePlace c.self.inside.columns c.args.row c.args.col c.self.inside.rows.items at) = c.in-Ok-Err.ensures.wide in
    let wide : IsWidePlace c.self.inside.columns c.args.row c.args.col c.self.inside.rows.items c.in-Ok-Err.at = rw c.in-Ok-Err.field-0-is at told in
    let row : c.args.row < length c.self.inside.rows.items = subst (λ (e : Dictionary). c.args.row < length e.rows) (sym c.self.view_is) c.requires.row in
    let col : c.args.col < length c.self.inside.nonbasic.items = subst (λ (e : Dictionary). c.args.col < length e.nonbasic) (sym c.self.view_is) c.requires.col in
    let here : IsWideRow c.args.row c.args.col d c.in-Ok-Err.at.0 c.in-Ok-Err.at.1 = wide_row c.args.row c.args.col d c.in-Ok-Err.at row col (subst (λ (n : ℕ). IsWidePlace n c.args.row c.args.col c.self.inside.rows.items c.in-Ok-Err.at) (sym c.self.invariant.nonbasic) wide) in
    record {
      at_row = refl;
      at_col = refl;
      cause = subst (λ (e : Dictionary). IsWideRow c.args.row c.args.col e c.in-Ok-Err.at.0 c.in-Ok-Err.at.1) c.self.view_is here;
    }

pub returns-in-Ok-Ok-clause-rows : goal.returns-in-Ok-Ok-clause-rows
returns-in-Ok-Ok-clause-rows c =
    let told : OnOk c.in-Ok-Ok.field-0 (IsAfter c.self.inside.columns c.args.row c.args.col c.self.inside.rows.items c.pivot_rows.new.rows.items) = c.in-Ok-Ok.ensures.after in
    let after : IsAfter c.self.inside.columns c.args.row c.args.col c.self.inside.rows.items c.pivot_rows.new.rows.items = rw c.in-Ok-Ok.field-0-is at told in
    let size : length (set c.self.inside.nonbasic.items c.args.col c.index-leaving.result.now) ≡ c.self.inside.columns = length-set c.self.inside.nonbasic.items c.args.col c.index-leaving.result.now ∙ c.self.invariant.nonbasic in
    subst (λ (n : ℕ). AreRows n c.pivot_rows.new.rows.items) (sym size) (rows_after c.self.inside.columns c.args.row c.args.col c.self.inside.rows.items c.pivot_rows.new.rows.items after)

pub returns-in-Ok-Ok-clause-holds : goal.returns-in-Ok-Ok-clause-holds
returns-in-Ok-Ok-clause-holds c =
    let d : Dictionary = record { rows = c.self.inside.rows.items; basic = c.self.inside.basic.items; nonbasic = c.self.inside.nonbasic.items } in
    let told : OnOk c.in-Ok-Ok.field-0 (IsAfter c.self.inside.columns c.args.row c.args.col c.self.inside.rows.items c.pivot_rows.new.rows.items) = c.in-Ok-Ok.ensures.after in
    let after : IsAfter c.self.inside.columns c.args.row c.args.col c.self.inside.rows.items c.pivot_rows.new.rows.items = rw c.in-Ok-Ok.field-0-is at told in
    let row : c.args.row < length c.self.inside.rows.items = subst (λ (e : Dictionary). c.args.row < length e.rows) (sym c.self.view_is) c.requires.row in
    let col : c.args.col < length c.self.inside.nonbasic.items = subst (λ (e : Dictionary). c.args.col < length e.nonbasic) (sym c.self.view_is) c.requires.col in
    let x : c.index.result.now ≡ form_at c.self.inside.nonbasic.items c.args.col = form_read c.self.inside.nonbasic.items c.args.col c.index.result.now col c.index.ensures in
    let y : c.index-leaving.result.now ≡ form_at c.self.inside.basic.items c.args.row = form_read c.self.inside.basic.items c.args.row c.index-leaving.result.now (omega (arith, row, c.self.invariant.basic)) c.index-leaving.ensures in
    let made = pivoted_is c.pivot_rows.new.rows.items c.args.row c.args.col d c.index.result.now c.index-leaving.result.now x y in
    λ m one holds.
    subst (λ (e : Dictionary). AllHold m one e) made
    (all_hold_after c.self.inside.columns c.args.row c.args.col d c.pivot_rows.new.rows.items m one after c.self.invariant.basic row col (subst (λ (e : Dictionary). AllHold m one e) (sym c.self.view_is) holds))

pub returns-in-Ok-Ok-clause-keeps : goal.returns-in-Ok-Ok-clause-keeps
returns-in-Ok-Ok-clause-keeps c =
    let d : Dictionary = record { rows = c.self.inside.rows.items; basic = c.self.inside.basic.items; nonbasic = c.self.inside.nonbasic.items } in
    let told : OnOk c.in-Ok-Ok.field-0 (IsAfter c.self.inside.columns c.args.row c.args.col c.self.inside.rows.items c.pivot_rows.new.rows.items) = c.in-Ok-Ok.ensures.after in
    let after : IsAfter c.self.inside.columns c.args.row c.args.col c.self.inside.rows.items c.pivot_rows.new.rows.items = rw c.in-Ok-Ok.field-0-is at told in
    let row : c.args.row < length c.self.inside.rows.items = subst (λ (e : Dictionary). c.args.row < length e.rows) (sym c.self.view_is) c.requires.row in
    let col : c.args.col < length c.self.inside.nonbasic.items = subst (λ (e : Dictionary). c.args.col < length e.nonbasic) (sym c.self.view_is) c.requires.col in
    let x : c.index.result.now ≡ form_at c.self.inside.nonbasic.items c.args.col = form_read c.self.inside.nonbasic.items c.args.col c.index.result.now col c.index.ensures in
    let y : c.index-leaving.result.now ≡ form_at c.self.inside.basic.items c.args.row = form_read c.self.inside.basic.items c.args.row c.index-leaving.result.now (omega (arith, row, c.self.invariant.basic)) c.index-leaving.ensures in
    let made = pivoted_is c.pivot_rows.new.rows.items c.args.row c.args.col d c.index.result.now c.index-leaving.result.now x y in
    let some : coefficient (row_at c.self.inside.rows.items c.args.row).entries c.args.col ≡ pos 0 → ⊥ = subst (λ (e : Dictionary). coefficient (row_at e.rows c.args.row).entries c.args.col ≡ pos 0 → ⊥) (sym c.self.view_is) c.requires.entry in
    λ a of.
    subst (λ (e : Dictionary). IsDictionaryOf a e) made
    (of_after a c.self.inside.columns c.args.row c.args.col d c.pivot_rows.new.rows.items after c.self.invariant row col some (subst (λ (e : Dictionary). IsDictionaryOf a e) (sym c.self.view_is) of))
