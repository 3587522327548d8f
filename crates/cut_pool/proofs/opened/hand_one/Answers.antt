use Rattle.std.proofs.Common.{◌≡◌, sym, ap, subst, ◌∙◌, List, set, Some, None}
use Rattle.std.specs.Prelude.{slice_get, Option}
use Rattle.cut_pool.specs.Pages.{PageView}
use Rattle.cut_pool.specs.Opened.{IsFreshPage, Waits}
use Rattle.cut_pool.proofs.Hands.{same_some, got, there, set_got, set_back, waits_else}
use Rattle.cut_pool.proofs.opened.hand_one.Goals as goal

pub returns-in-Err-clause-err : goal.returns-in-Err-clause-err
returns-in-Err-clause-err c =
    let items : List (List (Option PageView)) = c.args.pages.now.items in
    let W = c.requires.waits in
    let o : List (Option PageView) = c.index_mut.result.now in
    let t : List (Option PageView) = c.take-held.new.self in
    let here = got items c.args.j o (there items c.args.j W.0 W.2) c.index_mut.ensures.value in
    let second : slice_get (set items c.args.j t) c.args.j ≡ Some t = set_got items c.args.j o t here in
    let again : c.index_mut-in-Err.result.now ≡ t = same_some c.index_mut-in-Err.result.now t (sym (got (set items c.args.j t) c.args.j c.index_mut-in-Err.result.now (there (set items c.args.j t) c.args.j t second) c.index_mut-in-Err.ensures.value) ∙ second) in
    let value = c.in-Err.ensures.back in
    let all : c.put.new.self ≡ o = c.put.ensures
    ∙ ap (λ (l : List (Option PageView)). set l c.args.worker (Some c.in-Err.failed.value)) (again ∙ c.take-held.ensures.rest)
    ∙ set_back o c.args.worker None (Some c.in-Err.failed.value) (c.take-held.ensures.pass ∙ ap (λ (p : PageView). Some (Some p)) (sym value)) in
    (c.in-Err.ensures.err, set_back items c.args.j t c.put.new.self (here ∙ ap Some (sym all)))

pub returns-in-Err-clause-others : goal.returns-in-Err-clause-others
returns-in-Err-clause-others c = λ a w k apart wait.
    subst (λ (l : List (List (Option PageView))). Waits a l w k) (sym (returns-in-Err-clause-err c).1) wait

pub returns-clause-ok : goal.returns-clause-ok
returns-clause-ok c =
    let items : List (List (Option PageView)) = c.args.pages.now.items in
    let W = c.requires.waits in
    let o : List (Option PageView) = c.index_mut.result.now in
    let here = got items c.args.j o (there items c.args.j W.0 W.2) c.index_mut.ensures.value in
    let mine : W.0 ≡ o = same_some W.0 o (sym W.2 ∙ here) in
    let p : Some W.1 ≡ Some c.take-held.result = same_some (Some W.1) (Some c.take-held.result) (sym W.3 ∙ ap (λ (l : List (Option PageView)). slice_get l c.args.worker) mine ∙ c.take-held.ensures.pass) in
    (c.take-held.result, subst (λ (q : PageView). IsFreshPage c.args.reach.now.case q) (same_some W.1 c.take-held.result p) W.4, c.in_default.ensures.ok)

pub returns-clause-others : goal.returns-clause-others
returns-clause-others c = λ a w k apart wait.
    let items : List (List (Option PageView)) = c.args.pages.now.items in
    let W = c.requires.waits in
    let o : List (Option PageView) = c.index_mut.result.now in
    let here = got items c.args.j o (there items c.args.j W.0 W.2) c.index_mut.ensures.value in
    subst (λ (t : List (Option PageView)). Waits a (set items c.args.j t) w k) (sym c.take-held.ensures.rest) (waits_else a items c.args.j c.args.worker w k o here apart wait)
