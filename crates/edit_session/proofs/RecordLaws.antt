-- What events leave of the absorbed cuts, and how records go on.
use Rattle.std.proofs.Common.{inl, inr, ℕ, ◌≡◌, refl, sym, ap, ◌∙◌, subst, List, [], ◌∷◌, ◌++◌, Option, Some, None, append_assoc}
use Rattle.std.specs.Prelude.{All, Contains}
use Rattle.std.proofs.lemmas.List.{append-nil}
use Rattle.std.proofs.lemmas.List.Elements.{All-head, All-tail, Contains-append_left}
use Rattle.lpcc_case.specs.Instance.{Instance}
use Rattle.cuts.specs.declared.cut.Cut.{Cut}
use Rattle.play.specs.declared.event.Event.{Event}
use Rattle.play.specs.declared.event.Event.TheVariants.{Publish, Read, Offer, Draw, Absorb, Learn, Settle, Conclude}
use Rattle.play.specs.declared.event.Options.{Options}
use Rattle.play.specs.declared.event.Ticket.{Ticket}
use Rattle.play.specs.declared.event.VerdictKind.{VerdictKind}
use Rattle.play.specs.declared.outcome.Outcome.{Outcome}
use Rattle.play.specs.declared.outcome.Outcome.TheVariants as outcome
use Rattle.play.specs.Parts.{Part, flight_of, start}
use Rattle.play.specs.Steps.{after, settle, take_open, take_outcome}
use Rattle.play.specs.Records.{Leads}
use Rattle.desk_part.specs.declared.answer.Draw.{Draw as Answer}
use Rattle.desk_part.specs.declared.answer.Draw.TheVariants as draw
use Rattle.desk_part.specs.DeskParts.{AddedBy, CarriesMore, IsLearn, conclusion}
use Rattle.edit_session.specs.Answers.{AreAbsorbed, AreAbsorbedAtDraws, settled_by, settled_in}
use Rattle.edit_session.specs.Rounds.{IsReached}

-- ---- absorbed cuts stay

outcome_absorbs : (t : Ticket) (what : Outcome) (d : Part) (c : Cut) → Contains d.absorbed c → Contains (take_outcome t what d).absorbed c
outcome_absorbs t (outcome.Cut x kept best) d c h = Contains-append_left d.absorbed (x ∷ []) c h
outcome_absorbs t (outcome.Barred lane place x best) d c h = Contains-append_left d.absorbed (x ∷ []) c h
outcome_absorbs t (outcome.Unbounded point ray) d c h = h
outcome_absorbs t (outcome.Wide at) d c h = h
outcome_absorbs t (outcome.Spent at) d c h = h

open_absorbs : (v : Option VerdictKind) (t : Ticket) (what : Outcome) (d : Part) (c : Cut) → Contains d.absorbed c → Contains (take_open v t what d).absorbed c
open_absorbs None t what d c h = outcome_absorbs t what d c h
open_absorbs (Some v) t what d c h = h

settle_absorbs : (found : Option Ticket) (what : Outcome) (d : Part) (c : Cut) → Contains d.absorbed c → Contains (settle found what d).absorbed c
settle_absorbs None what d c h = h
settle_absorbs (Some t) what d c h = open_absorbs d.verdict t what d c h

event_absorbs : (x : Event) (d : Part) (c : Cut) → Contains d.absorbed c → Contains (after x d).absorbed c
event_absorbs (Publish lane x) d c h = h
event_absorbs (Read worker lane place) d c h = h
event_absorbs (Offer worker point) d c h = h
event_absorbs (Draw worker number piece) d c h = h
event_absorbs (Absorb x) d c h = Contains-append_left d.absorbed (x ∷ []) c h
event_absorbs (Learn ng hints) d c h = h
event_absorbs (Settle worker number what) d c h = settle_absorbs (flight_of number d.flight) what d c h
event_absorbs (Conclude verdict) d c h = h

pub leads_absorb : (a : Instance) (o : Options) (d : Part) (xs : List Event) (e : Part) (c : Cut) → Leads a o d xs e → Contains d.absorbed c → Contains e.absorbed c
leads_absorb a o d [] e c leads h = subst (λ (p : Part). Contains p.absorbed c) leads h
leads_absorb a o d (x ∷ xs) e c leads h = leads_absorb a o (after x d) xs e c leads.1 (event_absorbs x d c h)

-- ---- records behind one another

pub absorbed_join : (kept : List Cut) (a : Instance) (o : Options) (d : Part) (xs : List Event) (e : Part) (ys : List Event) → Leads a o d xs e → AreAbsorbedAtDraws kept d xs → AreAbsorbedAtDraws kept e ys → AreAbsorbedAtDraws kept d (xs ++ ys)
absorbed_join kept a o d [] e ys leads first then = subst (λ (p : Part). AreAbsorbedAtDraws kept p ys) (sym leads) then
absorbed_join kept a o d (x ∷ xs) e ys leads first then = (first.0, absorbed_join kept a o (after x d) xs e ys leads.1 first.1 then)

pub settled_join : (xs ys : List Event) → settled_in (xs ++ ys) ≡ settled_in xs ++ settled_in ys
settled_join [] ys = refl
settled_join (x ∷ xs) ys = ap (λ l. settled_by x ++ l) (settled_join xs ys) ∙ sym (append_assoc (settled_by x) (settled_in xs) (settled_in ys))

pub reached_more : (a : Instance) (o : Options) (kept : List Cut) (d : Part) (xs : List Event) (e : Part) (settled : List Cut) → IsReached a o kept d settled → CarriesMore a o d xs e → AreAbsorbedAtDraws kept d xs → IsReached a o kept e (settled ++ settled_in xs)
reached_more a o kept d xs e settled r more here_it =
    (r.0 ++ xs, more r.0 r.1, absorbed_join kept a o start r.0 d xs r.1 r.2 here_it, ap (λ l. l ++ settled_in xs) r.3 ∙ sym (settled_join r.0 xs))

-- events that settle by no cut
pub reached_quiet : (a : Instance) (o : Options) (kept : List Cut) (d : Part) (xs : List Event) (e : Part) (settled : List Cut) → IsReached a o kept d settled → CarriesMore a o d xs e → AreAbsorbedAtDraws kept d xs → settled_in xs ≡ [] → IsReached a o kept e settled
reached_quiet a o kept d xs e settled r more here_it none =
    subst (λ l. IsReached a o kept e l) (ap (λ l. settled ++ l) none ∙ append-nil settled) (reached_more a o kept d xs e settled r more here_it)

-- ---- the events of a draw

-- behind the learned steps
pub record IsLearnedTo (a : Instance) (o : Options) (kept : List Cut) (d : Part) (xs ys : List Event) (e : Part) : Type 0 where
  pub middle : Part
  pub first : Leads a o d xs middle
  pub then : Leads a o middle ys e
  pub best : middle.best ≡ d.best
  pub absorbed : middle.absorbed ≡ d.absorbed
  pub verdict : middle.verdict ≡ d.verdict
  pub draws : AreAbsorbedAtDraws kept d xs
  pub settles : settled_in xs ≡ []

pub learned_to : (a : Instance) (o : Options) (kept : List Cut) (d : Part) (xs ys : List Event) (e : Part) → All IsLearn xs → Leads a o d (xs ++ ys) e → IsLearnedTo a o kept d xs ys e
learned_to a o kept d [] ys e learns leads = record { middle = d; first = refl; then = leads; best = refl; absorbed = refl; verdict = refl; draws = tt; settles = refl }
learned_to a o kept d (Learn ng hints ∷ xs) ys e learns leads =
    let rest = learned_to a o kept (after (Learn ng hints) d) xs ys e (All-tail IsLearn (Learn ng hints) xs learns) leads.1 in
    record { middle = rest.middle; first = (leads.0, rest.first); then = rest.then; best = rest.best; absorbed = rest.absorbed; verdict = rest.verdict; draws = (inl refl, rest.draws); settles = rest.settles }
learned_to a o kept d (Publish lane c ∷ xs) ys e learns leads = absurd (All-head IsLearn (Publish lane c) xs learns)
learned_to a o kept d (Read worker lane place ∷ xs) ys e learns leads = absurd (All-head IsLearn (Read worker lane place) xs learns)
learned_to a o kept d (Offer worker point ∷ xs) ys e learns leads = absurd (All-head IsLearn (Offer worker point) xs learns)
learned_to a o kept d (Draw worker number piece ∷ xs) ys e learns leads = absurd (All-head IsLearn (Draw worker number piece) xs learns)
learned_to a o kept d (Absorb c ∷ xs) ys e learns leads = absurd (All-head IsLearn (Absorb c) xs learns)
learned_to a o kept d (Settle worker number what ∷ xs) ys e learns leads = absurd (All-head IsLearn (Settle worker number what) xs learns)
learned_to a o kept d (Conclude verdict ∷ xs) ys e learns leads = absurd (All-head IsLearn (Conclude verdict) xs learns)

-- what is added behind them
pub record IsAddedTo (kept : List Cut) (d : Part) (ys : List Event) (e : Part) : Type 0 where
  pub best : e.best ≡ d.best
  pub verdict : e.verdict ≡ None → d.verdict ≡ None
  pub draws : AreAbsorbedAtDraws kept d ys
  pub settles : settled_in ys ≡ []

no_none : {V : Type 0} {v : V} → Some v ≡ None → ⊥
no_none e = cc

nothing_added : (kept : List Cut) (d : Part) (ys : List Event) (e : Part) → ys ≡ [] → d ≡ e → IsAddedTo kept d ys e
nothing_added kept d ys e none same =
    let P : List Event → Part → Type 0 = λ l x. IsAddedTo kept d l x in
    let nothing : P [] d = record { best = refl; verdict = λ h. h; draws = tt; settles = refl } in
    subst (λ l. P l e) (sym none) (subst (λ x. P [] x) same nothing)

pub added_to : (a : Instance) (o : Options) (kept : List Cut) (worker : ℕ) (answer : Answer) (d : Part) (ys : List Event) (e : Part) → AddedBy worker answer ys → Leads a o d ys e → (d.verdict ≡ None → AreAbsorbed kept d) → IsAddedTo kept d ys e
added_to a o kept worker (draw.Piece t) d ys e adds leads ready =
    let x = Draw t.worker t.number t.piece in
    let L : List Event → Type 0 = λ l. Leads a o d l e in
    let P : List Event → Part → Type 0 = λ l p. IsAddedTo kept d l p in
    let there : L (x ∷ []) = subst L adds.1 leads in
    let drawn : P (x ∷ []) (after x d) = record { best = refl; verdict = λ h. h; draws = (inr (ready there.0.lawful.row.opened.0), tt); settles = refl } in
    subst (λ l. P l e) (sym adds.1) (subst (λ p. P (x ∷ []) p) there.1 drawn)
added_to a o kept worker draw.Pause d ys e adds leads ready =
    let L : List Event → Type 0 = λ l. Leads a o d l e in
    nothing_added kept d ys e adds (subst L adds leads)
added_to a o kept worker draw.Done d ys e (inl none) leads ready =
    let L : List Event → Type 0 = λ l. Leads a o d l e in
    nothing_added kept d ys e none (subst L none leads)
added_to a o kept worker draw.Done d ys e (inr some) leads ready =
    let x = Conclude some.0 in
    let L : List Event → Type 0 = λ l. Leads a o d l e in
    let P : List Event → Part → Type 0 = λ l p. IsAddedTo kept d l p in
    let there : L (x ∷ []) = subst L some.1 leads in
    let concluded : P (x ∷ []) (after x d) = record { best = refl; verdict = λ h. absurd (no_none h); draws = (inl refl, tt); settles = refl } in
    subst (λ l. P l e) (sym some.1) (subst (λ p. P (x ∷ []) p) there.1 concluded)

-- ---- the events of a settlement

pub conclusion_draws : (kept : List Cut) (d : Part) (v : Option VerdictKind) (what : Outcome) → AreAbsorbedAtDraws kept d (conclusion v what)
conclusion_draws kept d (Some v) what = tt
conclusion_draws kept d None (outcome.Cut c reasons best) = tt
conclusion_draws kept d None (outcome.Barred lane place c best) = tt
conclusion_draws kept d None (outcome.Unbounded point ray) = (inl refl, tt)
conclusion_draws kept d None (outcome.Wide at) = tt
conclusion_draws kept d None (outcome.Spent at) = tt

pub conclusion_settles : (v : Option VerdictKind) (what : Outcome) → settled_in (conclusion v what) ≡ []
conclusion_settles (Some v) what = refl
conclusion_settles None (outcome.Cut c reasons best) = refl
conclusion_settles None (outcome.Barred lane place c best) = refl
conclusion_settles None (outcome.Unbounded point ray) = refl
conclusion_settles None (outcome.Wide at) = refl
conclusion_settles None (outcome.Spent at) = refl
