use Rattle.std.proofs.Common.{arith, rules, sym, ap, subst, ◌∙◌, ◌≡◌, ◌≢◌, ◌<◌, ◌^◌, length, false, true, [], ◌∷◌, length-append, length-set, List, ℕ}
use Rattle.std.proofs.lemmas.Bool.{false≢true}
use Rattle.cut_pool.specs.Pages.{given_of}
use Rattle.cut_pool.specs.Lanes.{LaneView, NextOf, ArePagesOf}
use Rattle.cut_pool.proofs.Order.{at_here, at_within, few_given, vain, step, next_none, next_vain, next_more, next_fact, room_left}
use Rattle.cut_pool.proofs.lane.Lane.next.Goals as goal

pub returns-then-self-len-clause-next : goal.returns-then-self-len-clause-next
returns-then-self-len-clause-next c =
    let i = c.self.inside in
    let end : i.at ≡ length i.held.items = search rules in
    let l : LaneView = record { pages = i.held.items; at_ready = i.at_ready; dry = i.dry } in
    subst (λ (t : LaneView). NextOf t (record l { dry = true }) c.args.into.now c.args.into.now false) c.self.view_is (next_none l i.at i.place c.args.into.now c.self.invariant.0 end)

pub next_of-requires-clause-within : goal.next_of-requires-clause-within
next_of-requires-clause-within c =
    let i = c.self.inside in
    let other : i.at ≢ length i.held.items = search rules in
    at_within i.held.items i.at i.place c.self.invariant.0 other

pub invariant_of-self-then-not-next_of : goal.invariant_of-self-then-not-next_of
invariant_of-self-then-not-next_of c =
    let i = c.self.inside in
    let no : c.next_of.result ≡ false = search rules in
    let v = vain i.held.items c.next_of.new.held.items i.at i.place c.args.into.now c.next_of.new.into c.next_of.result c.self.invariant.0 c.next_of.ensures.gives (λ t. false≢true (sym no ∙ t)) in
    (v.0, c.self.invariant.1 ∙ sym (ap length v.1))

pub returns-then-not-next_of-clause-next : goal.returns-then-not-next_of-clause-next
returns-then-not-next_of-clause-next c =
    let i = c.self.inside in
    let no : c.next_of.result ≡ false = search rules in
    let l : LaneView = record { pages = i.held.items; at_ready = i.at_ready; dry = i.dry } in
    subst (λ (t : LaneView). NextOf t (record { pages = c.next_of.new.held.items; at_ready = i.at_ready; dry = true }) c.args.into.now c.next_of.new.into false) c.self.view_is
    (next_vain l c.next_of.new.held.items i.at i.place c.args.into.now c.next_of.new.into c.next_of.result c.self.invariant.0 c.next_of.ensures.gives (λ t. false≢true (sym no ∙ t)))

pub step_on-requires-clause-within : goal.step_on-requires-clause-within
step_on-requires-clause-within c =
    let i = c.self.inside in
    let other : i.at ≢ length i.held.items = search rules in
    let G = c.next_of.ensures.gives in
    omega (arith, at_within i.held.items i.at i.place c.self.invariant.0 other, ap length G.put, length-set i.held.items i.at G.next)

pub step_on-requires-clause-room : goal.step_on-requires-clause-room
step_on-requires-clause-room c = λ p e.
    let i = c.self.inside in
    room_left i.held.items c.next_of.new.held.items i.at i.place c.args.into.now c.next_of.new.into c.next_of.result p c.self.invariant.0 c.next_of.ensures.gives e

pub step_on-requires-clause-small : goal.step_on-requires-clause-small
step_on-requires-clause-small c =
    let i = c.self.inside in
    let G = c.next_of.ensures.gives in
    let was = at_here i.held.items i.at i.place G.page c.self.invariant.0 G.here in
    omega (arith, was.1, was.2.1)

pub overflow_add-self : goal.overflow_add-self
overflow_add-self c =
    let i = c.self.inside in
    let small : length i.held.items < 2 ^ 64 = search rules in
    omega (arith, small, few_given i.held.items i.at i.place c.self.invariant.0, c.self.invariant.1)

pub invariant_of-self-2 : goal.invariant_of-self-2
invariant_of-self-2 c =
    let i = c.self.inside in
    let yes : c.next_of.result ≡ true = search rules in
    let words : List ℕ = c.next_of.new.into in
    let s = step i.held.items c.next_of.new.held.items i.at i.place c.args.into.now words c.next_of.result c.step_on.result c.self.invariant.0 c.next_of.ensures.gives yes c.step_on.ensures in
    (s.0, omega (arith, c.self.invariant.1, ap length s.1, length-append (given_of i.held.items) (words ∷ [])))

pub returns-clause-next : goal.returns-clause-next
returns-clause-next c =
    let i = c.self.inside in
    let yes : c.next_of.result ≡ true = search rules in
    let l : LaneView = record { pages = i.held.items; at_ready = i.at_ready; dry = i.dry } in
    subst (λ (t : LaneView). NextOf t (record { pages = c.next_of.new.held.items; at_ready = i.at_ready; dry = i.dry }) c.args.into.now c.next_of.new.into true) c.self.view_is
    (next_more l c.next_of.new.held.items i.at i.place c.args.into.now c.next_of.new.into c.next_of.result c.self.invariant.0 c.next_of.ensures.gives yes)

pub returns-clause-fact : goal.returns-clause-fact
returns-clause-fact c = λ a all t.
    let i = c.self.inside in
    let yes : c.next_of.result ≡ true = search rules in
    next_fact i.held.items c.next_of.new.held.items i.at c.args.into.now c.next_of.new.into c.next_of.result c.next_of.ensures.gives yes a (subst (λ (l : LaneView). ArePagesOf a l.pages) (sym c.self.view_is) all)
