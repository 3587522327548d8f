use Rattle.std.proofs.Common.{rules, arith, ◌≡◌, ◌∙◌, sym, ap, List, [], ◌∷◌, ◌++◌, length, get_or}
use Rattle.std.specs.Arc.{arc_value}
use Rattle.cut_pool.proofs.Taking.{Pages, read_here}
use Rattle.cut_pool.proofs.FirstPages.{open_step}
use Rattle.cut_pool.proofs.opening.open_more.Goals as goal

pub returns-clause-waits : goal.returns-clause-waits
returns-clause-waits c = λ w row h R.
    let lanes : List Pages = c.args.lanes.now.items in
    let k = c.args.worker in
    let p : Pages = c.index_mut.result.now in
    let opened = c.in_ok-page.opened in
    let here : get_or lanes k [] ≡ p = read_here lanes k p [] c.requires.known c.index_mut.ensures.value in
    let size : length opened ≡ length lanes = search rules in
    let pushed : c.push.new.self ≡ p ++ opened ∷ [] = search rules in
    open_step (arc_value c.args.case.now) lanes row w k c.next_room-room.result opened c.push.new.self R c.requires.known (pushed ∙ ap (λ (t : Pages). t ++ opened ∷ []) (sym here)) (omega (arith, h, size)) c.in_ok-page.ensures.ready.1
