-- A record of one worker is one of more workers.
use Rattle.std.proofs.Common.{ℕ, ◌<◌, ◌≤◌, ◌≡◌, inl, inr, refl, sym, ◌∙◌, subst, arith, List, [], ◌∷◌}
use Rattle.std.specs.Prelude.{IfSome, Option, Some}
use Rattle.lpcc_case.specs.Instance.{Instance}
use Rattle.cert_text.specs.declared.cert.Cert.{Cert}
use Rattle.play.specs.declared.event.Event.{Event}
use Rattle.play.specs.declared.event.Event.TheVariants.{Publish, Read, Offer, Draw, Absorb, Learn, Settle, Conclude}
use Rattle.play.specs.declared.event.Options.{Options}
use Rattle.play.specs.declared.event.Ticket.{Ticket}
use Rattle.play.specs.declared.ending.Ending.{Ending}
use Rattle.play.specs.declared.ending.Ending.TheVariants as ending
use Rattle.play.specs.declared.outcome.Outcome.{Outcome}
use Rattle.play.specs.declared.outcome.Outcome.TheVariants as outcome
use Rattle.play.specs.Parts.{Part, start}
use Rattle.play.specs.Steps.{after}
use Rattle.play.specs.Lawful.{Fits, OutcomeFits}
use Rattle.play.specs.Causes.{IsTrueOutcome}
use Rattle.play.specs.Records.{IsNext, IsRecorded, Leads}
use Rattle.play.specs.Endings.{IsEnding}
use Rattle.desk_part.specs.DeskParts.{IsEndingOf, IsEndingOfRecord}
use Rattle.engine.specs.Solved.{IsEnded, IsShown, IsSolved, VerdictsAreShown, alone}

more : (k n : ℕ) → 1 ≤ n → k < 1 → k < n
more k n some below = omega (arith, some, below)

outcome_fits : (a : Instance) (n : ℕ) (what : Outcome) → 1 ≤ n → OutcomeFits a 1 what → OutcomeFits a n what
outcome_fits a n (outcome.Cut c kept best) some h = h
outcome_fits a n (outcome.Barred lane place c best) some h = (more lane n some h.0, h.1, h.2)
outcome_fits a n (outcome.Unbounded point ray) some h = h
outcome_fits a n (outcome.Wide at) some h = h
outcome_fits a n (outcome.Spent at) some h = h

event_fits : (a : Instance) (n : ℕ) (x : Event) → 1 ≤ n → Fits a 1 x → Fits a n x
event_fits a n (Publish lane c) some h = (more lane n some h.0, h.1)
event_fits a n (Read worker lane place) some h = (more worker n some h.0, more lane n some h.1)
event_fits a n (Offer worker point) some h = (more worker n some h.0, h.1)
event_fits a n (Draw worker number piece) some h = (more worker n some h.0, h.1)
event_fits a n (Absorb c) some h = h
event_fits a n (Learn ng hints) some h = h
event_fits a n (Settle worker number what) some h = (more worker n some h.0, outcome_fits a n what some h.1)
event_fits a n (Conclude verdict) some h = h

true_outcome : (a : Instance) (o : Options) (t : Ticket) (what : Outcome) → IsTrueOutcome a (alone o) t what → IsTrueOutcome a o t what
true_outcome a o t (outcome.Cut c kept best) h = h
true_outcome a o t (outcome.Barred lane place c best) h = h
true_outcome a o t (outcome.Unbounded point ray) h = h
true_outcome a o t (outcome.Wide at) h = h
true_outcome a o t (outcome.Spent at) h = h

recorded : (a : Instance) (o : Options) (d : Part) (x : Event) → IsRecorded a (alone o) d x → IsRecorded a o d x
recorded a o d (Publish lane c) h = h
recorded a o d (Read worker lane place) h = h
recorded a o d (Offer worker point) h = h
recorded a o d (Draw worker number piece) h = h
recorded a o d (Absorb c) h = h
recorded a o d (Learn ng hints) h = h
recorded a o d (Settle worker number what) h = λ t found. true_outcome a o t what (h t found)
recorded a o d (Conclude verdict) h = h

leads_wider : (a : Instance) (o : Options) (d : Part) (xs : List Event) (e : Part) → 1 ≤ o.workers → Leads a (alone o) d xs e → Leads a o d xs e
leads_wider a o d [] e some leads = leads
leads_wider a o d (x ∷ xs) e some leads = (
  record {
    lawful = record { fits = event_fits a o.workers x some leads.0.lawful.fits; row = leads.0.lawful.row };
    recorded = recorded a o d x leads.0.recorded;
  },
  leads_wider a o (after x d) xs e some leads.1,
)

ending_wider : (a : Instance) (o : Options) (d : Part) (end : Ending) → IsEnding a (alone o) d end → IsEnding a o d end
ending_wider a o d (ending.Verdict cert drawn) h = h
ending_wider a o d (ending.Overflow piece at) h = h
ending_wider a o d (ending.PivotsSpent piece at) h = h
ending_wider a o d (ending.PiecesSpent drawn left) h = (h.0, record { idle = h.1.idle; spent = h.1.spent; first = h.1.first })
ending_wider a o d ending.NoMemory h = h

record_wider : (a : Instance) (o : Options) (xs : List Event) (end : Ending) → 1 ≤ o.workers → IsEndingOf a (alone o) xs end → IsEndingOf a o xs end
record_wider a o xs end some h = record { part = h.part; carries = leads_wider a o start xs h.part some h.carries; settled = h.settled; row = ending_wider a o h.part end h.row }

pub solved_wider : (a : Instance) (o : Options) (end : Ending) → 1 ≤ o.workers → IsSolved a (alone o) end → IsSolved a o end
solved_wider a o end some (inl none) = inl none
solved_wider a o end some (inr h) = inr (h.0, record_wider a o h.0 end some h.1)

shown_wider : (a : Instance) (o : Options) (cert : Cert) (drawn : ℕ) → 1 ≤ o.workers → IsShown a (alone o) cert drawn → IsShown a o cert drawn
shown_wider a o cert drawn some h = record {
  form = h.form;
  accepted = h.accepted;
  truth = h.truth;
  events = h.events;
  ending = record_wider a o h.events (ending.Verdict cert drawn) some h.ending;
  number = h.number;
  distinct = h.distinct;
}

pub verdicts_wider : (a : Instance) (o : Options) (end : Ending) → 1 ≤ o.workers → VerdictsAreShown a (alone o) end → VerdictsAreShown a o end
verdicts_wider a o end some h cert drawn is = shown_wider a o cert drawn some (h cert drawn is)

pub ended_in : (a : Instance) (o : Options) (found : Option Ending) (end : Ending) → found ≡ Some end → IfSome found (IsEnded a o) → IsEnded a o end
ended_in a o found end is h = subst (λ x. IfSome x (IsEnded a o)) is h
