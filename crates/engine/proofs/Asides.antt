-- Each piece that a record sets aside has a walk with that end.
use Rattle.std.proofs.Common.{inl, inr, ℕ, ◌≡◌, refl, sym, ◌∙◌, subst, List, [], ◌∷◌}
use Rattle.std.specs.Prelude.{All, Contains, Option, Some, None}
use Rattle.std.proofs.lemmas.List.Elements.{All-nil, All-push, All-contains}
use Rattle.nogoods.specs.declared.choice.Side.{Side}
use Rattle.lpcc_case.specs.Instance.{Instance}
use Rattle.lpcc_case.specs.Cases.{IsCase}
use Rattle.walks.proofs.Walks.{large_budget_is_not_spent}
use Rattle.play.specs.declared.event.Event.{Event}
use Rattle.play.specs.declared.event.Event.TheVariants.{Publish, Read, Offer, Draw, Absorb, Learn, Settle, Conclude}
use Rattle.play.specs.declared.event.Options.{Options}
use Rattle.play.specs.declared.event.Ticket.{Ticket}
use Rattle.play.specs.declared.event.VerdictKind.{VerdictKind}
use Rattle.play.specs.declared.ending.Ending.{Ending}
use Rattle.play.specs.declared.ending.Ending.TheVariants as ending
use Rattle.play.specs.declared.outcome.Cause.{Cause}
use Rattle.play.specs.declared.outcome.Cause.TheVariants as cause
use Rattle.play.specs.declared.outcome.Outcome.{Outcome}
use Rattle.play.specs.declared.outcome.Outcome.TheVariants as outcome
use Rattle.cuts.specs.declared.reason.SpentAt.{SpentAt}
use Rattle.play.specs.Parts.{Part, flight_of, start}
use Rattle.play.specs.Points.{choices_of}
use Rattle.play.specs.Steps.{after, settle, take_open, take_outcome}
use Rattle.play.specs.Causes.{IsTrueOutcome}
use Rattle.play.specs.Records.{IsNext, Leads}
use Rattle.play.specs.Endings.{IsEnding, aside_of}
use Rattle.engine.specs.Solved.{IsEnded, IsSolved, IsTrueAside, IsTrueCause, PiecesLast, PivotsLast, VerdictsAreShown}
use Rattle.engine.proofs.Endings.{ending_accepted, ending_distinct, ending_number, ending_true, solved_pieces}
use Rattle.desk_part.specs.DeskParts.{IsEndingOf}

outcome_asides : (a : Instance) (o : Options) (t : Ticket) (what : Outcome) (d : Part) → IsTrueOutcome a o t what → All (IsTrueAside a o) d.aside → All (IsTrueAside a o) (take_outcome t what d).aside
outcome_asides a o t (outcome.Cut c kept best) d true_it all = all
outcome_asides a o t (outcome.Barred lane place c best) d true_it all = all
outcome_asides a o t (outcome.Unbounded point ray) d true_it all = all
outcome_asides a o t (outcome.Wide at) d true_it all = All-push (IsTrueAside a o) d.aside (aside_of t.number t.piece (cause.Wide at)) all true_it
outcome_asides a o t (outcome.Spent at) d true_it all = All-push (IsTrueAside a o) d.aside (aside_of t.number t.piece (cause.Spent at)) all true_it

open_asides : (a : Instance) (o : Options) (v : Option VerdictKind) (t : Ticket) (what : Outcome) (d : Part) → IsTrueOutcome a o t what → All (IsTrueAside a o) d.aside → All (IsTrueAside a o) (take_open v t what d).aside
open_asides a o None t what d true_it all = outcome_asides a o t what d true_it all
open_asides a o (Some v) t what d true_it all = all

settle_asides : (a : Instance) (o : Options) (f : Option Ticket) (what : Outcome) (d : Part) → ((t : Ticket) → f ≡ Some t → IsTrueOutcome a o t what) → All (IsTrueAside a o) d.aside → All (IsTrueAside a o) (settle f what d).aside
settle_asides a o None what d true_it all = all
settle_asides a o (Some t) what d true_it all = open_asides a o d.verdict t what d (true_it t refl) all

one_aside : (a : Instance) (o : Options) (d : Part) (x : Event) → IsNext a o d x → All (IsTrueAside a o) d.aside → All (IsTrueAside a o) (after x d).aside
one_aside a o d (Publish lane c) next all = all
one_aside a o d (Read worker lane place) next all = all
one_aside a o d (Offer worker point) next all = all
one_aside a o d (Draw worker number piece) next all = all
one_aside a o d (Absorb c) next all = all
one_aside a o d (Learn ng hints) next all = all
one_aside a o d (Settle worker number what) next all = settle_asides a o (flight_of number d.flight) what d next.recorded all
one_aside a o d (Conclude verdict) next all = all

all_asides : (a : Instance) (o : Options) (d : Part) (xs : List Event) (e : Part) → Leads a o d xs e → All (IsTrueAside a o) d.aside → All (IsTrueAside a o) e.aside
all_asides a o d [] e leads all =
    let P : Part → Type 0 = λ x. All (IsTrueAside a o) x.aside in
    subst P leads all
all_asides a o d (x ∷ xs) e leads all = all_asides a o (after x d) xs e leads.1 (one_aside a o d x leads.0 all)

-- the cause that an ending names is true of its piece
pub named_cause : (a : Instance) (o : Options) (xs : List Event) (end : Ending) → (e : IsEndingOf a o xs end) → (ticket : ℕ) (piece : List Side) (why : Cause) → Contains e.part.aside (aside_of ticket piece why) → IsTrueCause a o piece why
named_cause a o xs end e ticket piece why among = All-contains (IsTrueAside a o) e.part.aside (aside_of ticket piece why) (all_asides a o start xs e.part e.carries (All-nil (IsTrueAside a o))) among

never : {p : List Side} {at : SpentAt} → ending.NoMemory ≡ ending.PivotsSpent p at → ⊥
never e = cc

pub solved_pivots : (a : Instance) (o : Options) (e : Ending) → IsCase a → IsSolved a o e → PivotsLast a o e
solved_pivots a o e is_case (inl none) enough piece at is = never (sym none ∙ is)
solved_pivots a o e is_case (inr found) enough piece at is =
    let x = found.1 in
    let row : IsEnding a o x.part (ending.PivotsSpent piece at) = subst (IsEnding a o x.part) is x.row in
    let why = named_cause a o found.0 e x row.0 piece (cause.Spent at) row.1.among in
    large_budget_is_not_spent a (choices_of piece) at.stage o.pivots is_case enough why.reached

-- ---- an ending of a record that keeps the rules of its form

pub ended_shown : (a : Instance) (o : Options) (end : Ending) → IsEnded a o end → VerdictsAreShown a o end
ended_shown a o end h cert drawn is =
    let here : IsEnded a o (ending.Verdict cert drawn) = subst (IsEnded a o) is h in
    let xs = here.0.0 in
    record {
      form = here.1;
      accepted = λ w claims. ending_accepted a o xs cert drawn w here.0.1 claims;
      truth = λ w claims. ending_true a o xs cert drawn w here.0.1 claims;
      events = xs;
      ending = here.0.1;
      number = ending_number a o xs cert drawn here.0.1;
      distinct = ending_distinct a o xs (ending.Verdict cert drawn) here.0.1;
    }

pub ended_pieces : (a : Instance) (o : Options) (end : Ending) → IsEnded a o end → PiecesLast a o end
ended_pieces a o end h = solved_pieces a o end (inr h.0)

pub ended_pivots : (a : Instance) (o : Options) (end : Ending) → IsCase a → IsEnded a o end → PivotsLast a o end
ended_pivots a o end is_case h = solved_pivots a o end is_case (inr h.0)
