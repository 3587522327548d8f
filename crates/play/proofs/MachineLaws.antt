-- The best point and the history fall.
use Rattle.std.proofs.Common.{inl, inr, ℕ, ◌≡◌, refl, ap, subst, ◌*ℤ◌, Bool, true, false, List, [], ◌∷◌, ◌++◌, length-set}
use Rattle.std.specs.Prelude.{Option, Some, None, if◌then◌else◌}
use Rattle.lpcc_case.specs.Instance.{Instance}
use Rattle.lpcc_case.specs.declared.point.Point.{Point}
use Rattle.play.specs.declared.event.Event.{Event}
use Rattle.play.specs.declared.event.Event.TheVariants.{Publish, Read, Offer, Draw, Absorb, Learn, Settle, Conclude}
use Rattle.play.specs.declared.event.Ticket.{Ticket}
use Rattle.play.specs.declared.event.VerdictKind.{VerdictKind}
use Rattle.play.specs.declared.outcome.Outcome.{Outcome}
use Rattle.play.specs.declared.outcome.Outcome.TheVariants as outcome
use Rattle.play.specs.Parts.{Part, Machine, flight_of}
use Rattle.play.specs.Points.{is_below, lowered}
use Rattle.play.specs.Steps.{after, settle, take_open, take_outcome}
use Rattle.play.specs.Records.{LeadsLawfully}
use Rattle.play.specs.declared.event.Lawful.TheVariants.{Yes}
use Rattle.play.specs.Lawful.{lane_at}
use Rattle.play.specs.Machines.{Falls, FallsTo, IsStep, MachineLeads, history, joined, step, workers_of}
use Rattle.play.proofs.PointLaws.{lt_from}

falls_cond : (q r : Point) (rest : List Point) (b : Bool) → is_below q r ≡ b → Falls (r ∷ rest) → Falls (if b then q ∷ r ∷ rest else r ∷ rest)
falls_cond q r rest true e falls = (lt_from (q.z *ℤ r.d) (r.z *ℤ q.d) e, falls)
falls_cond q r rest false e falls = falls

falls_joined : (entries : List Point) (offer : Option Point) → Falls entries → Falls (joined entries offer)
falls_joined [] None falls = falls
falls_joined (r ∷ rest) None falls = falls
falls_joined [] (Some q) falls = tt
falls_joined (r ∷ rest) (Some q) falls = falls_cond q r rest (is_below q r) refl falls

pub history_falls : (turns : List (Option Point)) (entries : List Point) → Falls entries → Falls (history entries turns)
history_falls [] entries falls = falls
history_falls (t ∷ turns) entries falls = history_falls turns (joined entries t) (falls_joined entries t falls)

lower_cond : (r q : Point) (b : Bool) → is_below q r ≡ b → FallsTo (Some r) (if b then Some q else Some r)
lower_cond r q true e = inr (q, refl, lt_from (q.z *ℤ r.d) (r.z *ℤ q.d) e)
lower_cond r q false e = inl refl

pub lowered_falls : (old offer : Option Point) → FallsTo old (lowered old offer)
lowered_falls None None = inl refl
lowered_falls (Some r) None = inl refl
lowered_falls None (Some q) = inr (q, refl, tt)
lowered_falls (Some r) (Some q) = lower_cond r q (is_below q r) refl

outcome_falls : (t : Ticket) (what : Outcome) (d : Part) → FallsTo d.best (take_outcome t what d).best
outcome_falls t (outcome.Cut c kept best) d = lowered_falls d.best best
outcome_falls t (outcome.Barred lane place c best) d = lowered_falls d.best best
outcome_falls t (outcome.Unbounded point ray) d = inl refl
outcome_falls t (outcome.Wide at) d = inl refl
outcome_falls t (outcome.Spent at) d = inl refl

open_falls : (v : Option VerdictKind) (t : Ticket) (what : Outcome) (d : Part) → FallsTo d.best (take_open v t what d).best
open_falls None t what d = outcome_falls t what d
open_falls (Some v) t what d = inl refl

settle_falls : (f : Option Ticket) (what : Outcome) (d : Part) → FallsTo d.best (settle f what d).best
settle_falls None what d = inl refl
settle_falls (Some t) what d = open_falls d.verdict t what d

pub best_falls : (d : Part) (x : Event) → FallsTo d.best (after x d).best
best_falls d (Publish lane c) = inl refl
best_falls d (Read worker lane place) = inl refl
best_falls d (Offer worker point) = inl refl
best_falls d (Draw worker number piece) = inl refl
best_falls d (Absorb c) = inl refl
best_falls d (Learn ng hints) = inl refl
best_falls d (Settle worker number what) = settle_falls (flight_of number d.flight) what d
best_falls d (Conclude verdict) = inl refl

-- what the machine's events say of the desk part
pub machine_part : (a : Instance) (n : ℕ) (m : Machine) (xs : List Event) (e : Machine) → MachineLeads a n m xs e → LeadsLawfully a n m.part xs e.part
machine_part a n m [] e leads = ap (λ (x : Machine). x.part) leads
machine_part a n m (x ∷ xs) e leads = (leads.0.desk, machine_part a n (step x m) xs e leads.1)

-- no event changes the number of workers
workers_stay : (m : Machine) (x : Event) → workers_of (step x m) ≡ workers_of m
workers_stay m (Publish lane c) = length-set m.outer.lanes lane (lane_at m.outer lane ++ c ∷ [])
workers_stay m (Read worker lane place) = refl
workers_stay m (Offer worker point) = refl
workers_stay m (Draw worker number piece) = refl
workers_stay m (Absorb c) = refl
workers_stay m (Learn ng hints) = refl
workers_stay m (Settle worker number what) = refl
workers_stay m (Conclude verdict) = refl

-- an event that is taken, and lawful events behind it
pub taken_leads : (a : Instance) (m : Machine) (x : Event) (e : Machine) (xs : List Event) (f : Machine) → IsStep a m x e Yes → MachineLeads a (workers_of e) e xs f → MachineLeads a (workers_of m) m (x ∷ xs) f
taken_leads a m x e xs f taken leads =
    let rest : MachineLeads a (workers_of (step x m)) (step x m) xs f = subst (λ d. MachineLeads a (workers_of d) d xs f) taken.1 leads in
    (taken.0, subst (λ n. MachineLeads a n (step x m) xs f) (workers_stay m x) rest)
