use Rattle.std.proofs.Common.{rules, refl, sym, ap, ◌∙◌, ◌≡◌, ◌≢◌, ◌+◌, inl, inr}
use Rattle.cut_pool.specs.Pages.{PageView}
use Rattle.cut_pool.proofs.Order.{get_at, some_page}
use Rattle.cut_pool.proofs.lane.step_on.Goals as goal

pub returns-then-place-room : goal.returns-then-place-room
returns-then-place-room c = λ p e.
    let same : c.index.result.now ≡ p = some_page c.index.result.now p (sym (get_at c.args.held.now.items c.args.at c.index.result.now c.requires.within c.index.ensures) ∙ e) in
    let here : c.args.place + 1 ≡ c.room.result = search rules in
    inl (here ∙ c.room.ensures ∙ ap (λ (q : PageView). q.room) same, refl, refl)

pub returns-else-place-room : goal.returns-else-place-room
returns-else-place-room c = λ p e.
    let same : c.index.result.now ≡ p = some_page c.index.result.now p (sym (get_at c.args.held.now.items c.args.at c.index.result.now c.requires.within c.index.ensures) ∙ e) in
    let here : c.args.place + 1 ≢ c.room.result = search rules in
    inr ((λ z. here (z ∙ sym (c.room.ensures ∙ ap (λ (q : PageView). q.room) same))), refl, refl)
