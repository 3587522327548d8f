use Rattle.std.proofs.Common.{arith, ◌≡◌, ◌<◌, ◌∙◌, refl, sym, ap, subst, ℕ, List, [], length, get_or, set, map}
use Rattle.std.proofs.lemmas.List.{length-map}
use Rattle.std.specs.Arc.{arc_value}
use Rattle.lpcc_case.specs.Instance.{Instance}
use Rattle.cut_pool.specs.Opened.{RowWaits}
use Rattle.cut_pool.specs.Reaches.{ReachView}
use Rattle.cut_pool.specs.Shelves.{ShelfView, SameButRow, Fits, page_count}
use Rattle.cut_pool.proofs.Taking.{Pages, read_here, set_here}
use Rattle.cut_pool.proofs.Readying.{shelf_taken, taken_fits, on_ok, row_rest}
use Rattle.cut_pool.proofs.shelf.Shelf.hand_out.Goals as goal

pub invariant_of-self : goal.invariant_of-self
invariant_of-self c =
    let i = c.self.inside in
    let a = arc_value i.case in
    let w : ℕ = c.args.worker in
    let n : ReachView = c.args.reach.now in
    let lanes : List Pages = i.lanes.items in
    let after : List Pages = c.take_all.new.lanes.items in
    let row : List ℕ = c.take_all.new.row in
    let e = c.take_all.ensures in
    let before : ShelfView = record { case = a; pages = map length lanes; handed = i.handed.items } in
    let F : Fits before w n = subst (λ (s : ShelfView). Fits s w n) (sym c.self.view_is) c.requires in
    let inside : w < length lanes = omega (arith, F.known, length-map lanes length) in
    let count : length after ≡ length lanes = sym (length-map after length) ∙ ap length e.counts ∙ length-map lanes length in
    let mine : RowWaits a after row w = subst (λ (b : Instance). RowWaits b after row w) F.case e.waits in
    shelf_taken a lanes after i.rooms.items i.handed.items w row c.self.invariant inside count mine (λ v r d R. e.others a v r d R)

pub returns-clause-fits : goal.returns-clause-fits
returns-clause-fits c =
    let i = c.self.inside in
    let a = arc_value i.case in
    let n : ReachView = c.args.reach.now in
    let w : ℕ = c.args.worker in
    let lanes : List Pages = i.lanes.items in
    let after : List Pages = c.take_all.new.lanes.items in
    let row : List ℕ = c.take_all.new.row in
    let handed : List (List ℕ) = i.handed.items in
    let e = c.take_all.ensures in
    let before : ShelfView = record { case = a; pages = map length lanes; handed = handed } in
    let later : ShelfView = record { case = a; pages = map length after; handed = set handed w row } in
    let F : Fits before w n = subst (λ (s : ShelfView). Fits s w n) (sym c.self.view_is) c.requires in
    let inside : w < length lanes = omega (arith, F.known, length-map lanes length) in
    let known : w < length handed = omega (arith, inside, c.self.invariant.rows) in
    let count : length after ≡ length lanes = sym (length-map after length) ∙ ap length e.counts ∙ length-map lanes length in
    let from : c.index_mut.result.now ≡ get_or handed w [] = sym (read_here handed w c.index_mut.result.now [] known c.index_mut.ensures.value) in
    let size : length row ≡ length n.lanes = e.waits.count ∙ count ∙ sym (length-map lanes length) ∙ sym F.lanes in
    taken_fits before later w n c.take_all.new.reach c.index_mut.result.now row F e.took from size refl (ap length e.counts) (sym (set_here handed w w row [] refl known))

pub returns-clause-all : goal.returns-clause-all
returns-clause-all c =
    let i = c.self.inside in
    let w : ℕ = c.args.worker in
    let lanes : List Pages = i.lanes.items in
    let before : ShelfView = record { case = arc_value i.case; pages = map length lanes; handed = i.handed.items } in
    let F : Fits before w c.args.reach.now = subst (λ (s : ShelfView). Fits s w c.args.reach.now) (sym c.self.view_is) c.requires in
    let inside : w < length lanes = omega (arith, F.known, length-map lanes length) in
    let known : w < length i.handed.items = omega (arith, inside, c.self.invariant.rows) in
    let mine = (returns-clause-fits c).pages ∙ set_here i.handed.items w w c.take_all.new.row [] refl known in
    on_ok c.take_all.result (c.take_all.new.row ≡ map length c.take_all.new.lanes.items) (map page_count c.take_all.new.reach.lanes ≡ map length c.take_all.new.lanes.items) (λ e. mine ∙ e) c.take_all.ensures.all

pub returns-clause-rest : goal.returns-clause-rest
returns-clause-rest c =
    let i = c.self.inside in
    let before : ShelfView = record { case = arc_value i.case; pages = map length i.lanes.items; handed = i.handed.items } in
    let later : ShelfView = record { case = arc_value i.case; pages = map length c.take_all.new.lanes.items; handed = set i.handed.items c.args.worker c.take_all.new.row } in
    subst (λ (s : ShelfView). SameButRow s later c.args.worker) c.self.view_is (row_rest before later c.args.worker c.take_all.new.row refl (ap length c.take_all.ensures.counts) refl)
