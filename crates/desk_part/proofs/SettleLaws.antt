-- What a settlement adds to a record.
use Rattle.std.proofs.Common.{ℕ, ◌+◌, ◌≡◌, refl, sym, ap, ◌∙◌, subst, Bool, true, false, nat_eq, List, ◌∷◌, add-one}
use Rattle.std.specs.Prelude.{◌≢◌, Option, Some, None, IfSome, if◌then◌else◌, remove}
use Rattle.std.specs.Prelude.{pos, ◌≤ℤ◌}
use Rattle.lpcc_case.specs.declared.point.Point.{Point}
use Rattle.play.specs.Points.{IsBest}
use Rattle.play.proofs.Draws.{carried_standing}
use Rattle.lpcc_case.specs.Instance.{Instance}
use Rattle.play.specs.declared.event.Event.{Event}
use Rattle.play.specs.declared.event.Event.TheVariants.{Settle}
use Rattle.play.specs.declared.event.Options.{Options}
use Rattle.play.specs.declared.event.Ticket.{Ticket}
use Rattle.play.specs.declared.event.VerdictKind.{VerdictKind}
use Rattle.play.specs.declared.event.VerdictKind.TheVariants as kind
use Rattle.play.specs.declared.outcome.Outcome.{Outcome}
use Rattle.play.specs.declared.outcome.Outcome.TheVariants as outcome
use Rattle.play.specs.Parts.{Part, flight_of, without}
use Rattle.play.specs.Steps.{after, land, settle, take_open, take_outcome}
use Rattle.play.specs.Causes.{IsTrueOutcome}
use Rattle.play.specs.Lawful.{MaySettle}
use Rattle.play.specs.Records.{IsNext, Leads}
use Rattle.desk_part.proofs.OutcomeLaws.{outcome_drawn, outcome_flight}
use Rattle.desk_part.specs.DeskParts.{CutBars, IsCarried, MayBeSettled, Settles, conclusion, is_unbounded}

some_same : {X : Type 0} {x y : X} → Some x ≡ Some y → x ≡ y
some_same e = cc

-- the event of a settlement
next_settle : (a : Instance) (o : Options) (d : Part) (t : Ticket) (what : Outcome) → MayBeSettled a o d t what → IsNext a o d (Settle t.worker t.number what)
next_settle a o d t what h = record {
  lawful = record { fits = (h.known, h.fits); row = (t, h.flying, refl, h.may) };
  recorded = λ u found. subst (λ x. IsTrueOutcome a o x what) (some_same (sym h.flying ∙ found)) h.true_outcome;
}

after_settle : (d : Part) (t : Ticket) (what : Outcome) (v : Option VerdictKind) → flight_of t.number d.flight ≡ Some t → d.verdict ≡ v → after (Settle t.worker t.number what) d ≡ land t.number (take_open v t what d)
after_settle d t what v found e = ap (λ f. settle f what d) found ∙ ap (λ w. land t.number (take_open w t what d)) e

from_here : (a : Instance) (o : Options) (s m : Part) (xs : List Event) (e : Part) → s ≡ m → Leads a o m xs e → Leads a o s xs e
from_here a o s m xs e same leads = subst (λ x. Leads a o x xs e) (sym same) leads

pub settles_closed : (a : Instance) (o : Options) (d e : Part) (t : Ticket) (what : Outcome) (v : VerdictKind) → MayBeSettled a o d t what → d.verdict ≡ Some v → land t.number d ≡ e → Settles a o d t what e
settles_closed a o d e t what v h is same =
    let P : Option VerdictKind → Type 0 = λ w. Leads a o d (Settle t.worker t.number what ∷ conclusion w what) e in
    record {
      leads = subst P (sym is) (next_settle a o d t what h, after_settle d t what (Some v) h.flying is ∙ same);
      flight = ap (λ (x : Part). x.flight) (sym same);
      drawn = ap (λ (x : Part). x.drawn) (sym same);
    }

-- behind the settlement itself
abbrev ended : Bool → Part → Part
ended b d = if b then record d { verdict = Some kind.Unbounded } else d

by_outcome : (a : Instance) (o : Options) (d e : Part) (t : Ticket) (what : Outcome) → d.verdict ≡ None → ended (is_unbounded what) (land t.number (take_outcome t what d)) ≡ e → Leads a o (land t.number (take_outcome t what d)) (conclusion None what) e
by_outcome a o d e t (outcome.Cut c kept best) waiting same = same
by_outcome a o d e t (outcome.Barred lane place c best) waiting same = same
by_outcome a o d e t (outcome.Unbounded point ray) waiting same = (record { lawful = record { fits = tt; row = (waiting, some_none) }; recorded = tt }, same)
  where
    some_none : {X : Type 0} {x : X} → Some x ≡ None → ⊥
    some_none e = cc
by_outcome a o d e t (outcome.Wide at) waiting same = same
by_outcome a o d e t (outcome.Spent at) waiting same = same

end_flight : (b : Bool) (d : Part) → (ended b d).flight ≡ d.flight
end_flight true d = refl
end_flight false d = refl

end_drawn : (b : Bool) (d : Part) → (ended b d).drawn ≡ d.drawn
end_drawn true d = refl
end_drawn false d = refl

pub settles_open : (a : Instance) (o : Options) (d e : Part) (t : Ticket) (what : Outcome) → MayBeSettled a o d t what → d.verdict ≡ None → ended (is_unbounded what) (land t.number (take_outcome t what d)) ≡ e → Settles a o d t what e
settles_open a o d e t what h waiting same =
    let P : Option VerdictKind → Type 0 = λ w. Leads a o d (Settle t.worker t.number what ∷ conclusion w what) e in
    let s = after (Settle t.worker t.number what) d in
    record {
      leads = subst P (sym waiting) (next_settle a o d t what h, from_here a o s (land t.number (take_outcome t what d)) (conclusion None what) e (after_settle d t what None h.flying waiting) (by_outcome a o d e t what waiting same));
      flight = ap (λ (x : Part). x.flight) (sym same) ∙ end_flight (is_unbounded what) (land t.number (take_outcome t what d)) ∙ ap (λ l. without t.number l) (outcome_flight d t what);
      drawn = ap (λ (x : Part). x.drawn) (sym same) ∙ end_drawn (is_unbounded what) (land t.number (take_outcome t what d)) ∙ outcome_drawn d t what;
    }

-- ---- a ticket's place

pub remove_first : (number : ℕ) (t : Ticket) (ts : List Ticket) → nat_eq t.number number ≡ true → without number (t ∷ ts) ≡ remove (t ∷ ts) 0
remove_first number t ts e = ap (λ b. if b then ts else t ∷ without number ts) e

pub remove_later : (number : ℕ) (t : Ticket) (ts : List Ticket) (n : ℕ) → nat_eq t.number number ≡ false → without number ts ≡ remove ts n → without number (t ∷ ts) ≡ remove (t ∷ ts) (n + 1)
remove_later number t ts n e rest =
    ap (λ b. if b then ts else t ∷ without number ts) e ∙ ap (λ l. t ∷ l) rest ∙ ap (λ m. remove (t ∷ ts) m) (sym (add-one n))

pub found_later : (number : ℕ) (t : Ticket) (ts : List Ticket) → nat_eq t.number number ≡ false → flight_of number (t ∷ ts) ≢ None → flight_of number ts ≢ None
found_later number t ts e found none = found (ap (λ b. if b then Some t else flight_of number ts) e ∙ none)

pub cut_bars : (a : Instance) (t : Ticket) (what : Outcome) → MaySettle a t what → CutBars t what
cut_bars a t (outcome.Cut c kept best) may = may.bars
cut_bars a t (outcome.Barred lane place c best) may = may.bars
cut_bars a t (outcome.Unbounded point ray) may = tt
cut_bars a t (outcome.Wide at) may = tt
cut_bars a t (outcome.Spent at) may = tt

-- the best point of a part has a denominator of at least 1
pub best_positive : (a : Instance) (o : Options) (d : Part) → IsCarried a o d → IfSome d.best (λ (q : Point). pos 1 ≤ℤ q.d)
best_positive a o d h = Rattle.play.proofs.Bests.best_positive a d.best (carried_standing a o h.0 d h.1).truth.best
