-- No ticket stands twice.
use Rattle.std.proofs.Common.{ℕ, ◌+◌, ◌<◌, ◌≡◌, refl, sym, ◌∙◌, subst, arith, Bool, true, false, nat_eq, List, [], ◌∷◌, ◌++◌, get_or}
use Rattle.std.specs.Prelude.{◌≢◌, All, Contains, Option, Some, None, if◌then◌else◌}
use Rattle.std.proofs.lemmas.Bool.{eqb-true}
use Rattle.std.proofs.lemmas.List.Elements.{All-contains, All-push, All-nil, All-cons, All-head, All-tail, All-weaker}
use Rattle.lpcc_case.specs.Instance.{Instance}
use Rattle.play.specs.declared.event.Event.{Event}
use Rattle.play.specs.declared.event.Event.TheVariants.{Publish, Read, Offer, Draw, Absorb, Learn, Settle, Conclude}
use Rattle.play.specs.declared.event.Ticket.{Ticket}
use Rattle.play.specs.declared.event.Aside.{Aside}
use Rattle.play.specs.declared.event.Options.{Options}
use Rattle.play.specs.declared.event.VerdictKind.{VerdictKind}
use Rattle.play.specs.declared.outcome.Outcome.{Outcome}
use Rattle.play.specs.declared.outcome.Outcome.TheVariants as outcome
use Rattle.play.specs.declared.outcome.Cause.{Cause}
use Rattle.play.specs.declared.outcome.Cause.TheVariants as cause
use Rattle.play.specs.Parts.{Part, start, flight_of, without}
use Rattle.play.specs.Steps.{after, draw, land, set_aside, settle, take_cut, take_outcome, take_open}
use Rattle.play.specs.Lawful.{IsLawfulOnDesk}
use Rattle.play.specs.Records.{LeadsLawfully, Carries}
use Rattle.play.specs.Truth.{AreApart, IsOrderly, number_of, ticket_of}
use Rattle.play.proofs.ListLaws.{there}
use Rattle.play.proofs.Keeping.{number_found}
use Rattle.play.proofs.Draws.{lawfully}

apart_push : {T : Type 0} (f : T → ℕ) (xs : List T) (x : T) → AreApart f xs → All (λ y. f x ≢ f y) xs → AreApart f (xs ++ x ∷ [])
apart_push f [] x apart new = (All-nil (λ y. f y ≢ f x), tt)
apart_push f (y ∷ ys) x apart new =
    (All-push (λ z. f z ≢ f y) ys x apart.0 (All-head (λ z. f x ≢ f z) y ys new), apart_push f ys x apart.1 (All-tail (λ z. f x ≢ f z) y ys new))

-- ---- the tickets without one

all_cond : (P : Ticket → Type 0) (b : Bool) (u : Ticket) (us rest : List Ticket) → All P (u ∷ us) → All P rest → All P (if b then us else u ∷ rest)
all_cond P true u us rest all more = All-tail P u us all
all_cond P false u us rest all more = All-cons P u rest (All-head P u us all) more

all_without : (P : Ticket → Type 0) (number : ℕ) (ts : List Ticket) → All P ts → All P (without number ts)
all_without P number [] all = all
all_without P number (u ∷ us) all = all_cond P (nat_eq u.number number) u us (without number us) all (all_without P number us (All-tail P u us all))

apart_cond : (b : Bool) (u : Ticket) (us rest : List Ticket) → AreApart number_of (u ∷ us) → AreApart number_of rest → All (λ y. number_of y ≢ number_of u) rest → AreApart number_of (if b then us else u ∷ rest)
apart_cond true u us rest apart more new = apart.1
apart_cond false u us rest apart more new = (new, more)

apart_without : (number : ℕ) (ts : List Ticket) → AreApart number_of ts → AreApart number_of (without number ts)
apart_without number [] apart = apart
apart_without number (u ∷ us) apart =
    apart_cond (nat_eq u.number number) u us (without number us) apart (apart_without number us apart.1) (all_without (λ y. number_of y ≢ number_of u) number us apart.0)

other_cond : (b : Bool) (number : ℕ) (u : Ticket) (us rest : List Ticket) → nat_eq u.number number ≡ b → All (λ y. number_of y ≢ number_of u) us → All (λ y. number_of y ≢ number) rest → All (λ y. number_of y ≢ number) (if b then us else u ∷ rest)
other_cond true number u us rest e apart more =
    let P : ℕ → Type 0 = λ n. All (λ y. number_of y ≢ n) us in
    subst P (eqb-true u.number number e) apart
other_cond false number u us rest e apart more = All-cons (λ y. number_of y ≢ number) u rest (λ same. absurd (apart_numbers u.number number same e)) more
  where
    apart_numbers : (m n : ℕ) → m ≡ n → nat_eq m n ≡ false → ⊥
    apart_numbers m n e f = Rattle.std.proofs.lemmas.Bool.false≢true (sym f ∙ Rattle.std.proofs.lemmas.Bool.eq-eqb m n e)

others_without : (number : ℕ) (ts : List Ticket) → AreApart number_of ts → All (λ y. number_of y ≢ number) (without number ts)
others_without number [] apart = All-nil (λ y. number_of y ≢ number)
others_without number (u ∷ us) apart = other_cond (nat_eq u.number number) number u us (without number us) refl apart.0 (others_without number us apart.1)

found_cond : (b : Bool) (u t : Ticket) (us : List Ticket) (found : Option Ticket) → (found ≡ Some t → Contains us t) → (if b then Some u else found) ≡ Some t → Contains (u ∷ us) t
found_cond true u t us found more e = let same : u ≡ t = cc in (0, omega arith, same)
found_cond false u t us found more e = there u us t (more e)

pub found_in : (number : ℕ) (ts : List Ticket) (t : Ticket) → flight_of number ts ≡ Some t → Contains ts t
found_in number [] t e = absurd (cc)
found_in number (u ∷ us) t e = found_cond (nat_eq u.number number) u t us (flight_of number us) (λ f. found_in number us t f) e

-- ---- the events

draw_orderly : (d : Part) (t : Ticket) → t.number ≡ d.drawn → IsOrderly d → IsOrderly (draw t d)
draw_orderly d t is h = record {
  flying = All-push (λ u. u.number < d.drawn + 1) d.flight t (All-weaker (λ u. u.number < d.drawn) (λ u. u.number < d.drawn + 1) (λ u below. omega (arith, below)) d.flight h.flying) (omega (arith, is));
  lying = All-weaker (λ x. x.ticket < d.drawn) (λ x. x.ticket < d.drawn + 1) (λ x below. omega (arith, below)) d.aside h.lying;
  flight = apart_push number_of d.flight t h.flight (All-weaker (λ u. u.number < d.drawn) (λ u. t.number ≢ u.number) (λ u below same. absurd (omega (arith, below, same, is))) d.flight h.flying);
  aside = h.aside;
  both = All-push (λ u. All (λ x. x.ticket ≢ u.number) d.aside) d.flight t h.both
      (All-weaker (λ x. x.ticket < d.drawn) (λ x. x.ticket ≢ t.number) (λ x below same. absurd (omega (arith, below, same, is))) d.aside h.lying);
}

land_orderly : (number : ℕ) (d e : Part) → e.flight ≡ d.flight → e.aside ≡ d.aside → e.drawn ≡ d.drawn → IsOrderly d → IsOrderly (land number e)
land_orderly number d e flight aside drawn h =
    let O : List Ticket → List Aside → ℕ → Type 0 = λ f s n. IsOrderly (record start { flight = without number f; aside = s; drawn = n }) in
    let there_now : O d.flight d.aside d.drawn = record {
      flying = all_without (λ t. t.number < d.drawn) number d.flight h.flying;
      lying = h.lying;
      flight = apart_without number d.flight h.flight;
      aside = h.aside;
      both = all_without (λ t. All (λ x. x.ticket ≢ t.number) d.aside) number d.flight h.both;
    } in
    let moved : O e.flight e.aside e.drawn = subst (λ f. O f e.aside e.drawn) (sym flight) (subst (λ s. O d.flight s e.drawn) (sym aside) (subst (λ n. O d.flight d.aside n) (sym drawn) there_now)) in
    record { flying = moved.flying; lying = moved.lying; flight = moved.flight; aside = moved.aside; both = moved.both }

aside_orderly : (number : ℕ) (d : Part) (t : Ticket) (why : Cause) → flight_of number d.flight ≡ Some t → IsOrderly d → IsOrderly (land number (set_aside t why d))
aside_orderly number d t why found h =
    let x : Aside = record { ticket = t.number; piece = t.piece; cause = why } in
    let flies : Contains d.flight t = found_in number d.flight t found in
    let same : t.number ≡ number = number_found number d.flight t found in
    let clear = All-contains (λ u. All (λ y. y.ticket ≢ u.number) d.aside) d.flight t h.both flies in
    record {
      flying = all_without (λ u. u.number < d.drawn) number d.flight h.flying;
      lying = All-push (λ y. y.ticket < d.drawn) d.aside x h.lying (All-contains (λ u. u.number < d.drawn) d.flight t h.flying flies);
      flight = apart_without number d.flight h.flight;
      aside = apart_push ticket_of d.aside x h.aside (All-weaker (λ y. y.ticket ≢ t.number) (λ y. t.number ≢ y.ticket) (λ y apart e. apart (sym e)) d.aside clear);
      both = all_both d.aside x (without number d.flight) (all_without (λ u. All (λ y. y.ticket ≢ u.number) d.aside) number d.flight h.both)
          (All-weaker (λ y. number_of y ≢ number) (λ u. t.number ≢ u.number) (λ u apart e. apart (sym e ∙ same)) (without number d.flight) (others_without number d.flight h.flight));
    }
  where
    all_both : (aside : List Aside) (x : Aside) (us : List Ticket) → All (λ u. All (λ y. y.ticket ≢ u.number) aside) us → All (λ u. x.ticket ≢ u.number) us → All (λ u. All (λ y. y.ticket ≢ u.number) (aside ++ x ∷ [])) us
    all_both aside x us old new k d inside = All-push (λ y. y.ticket ≢ (get_or us k d).number) aside x (old k d inside) (new k d inside)

outcome_orderly : (number : ℕ) (d : Part) (t : Ticket) (what : Outcome) → flight_of number d.flight ≡ Some t → IsOrderly d → IsOrderly (land number (take_outcome t what d))
outcome_orderly number d t (outcome.Cut c kept best) found h = land_orderly number d (take_cut c best d) refl refl refl h
outcome_orderly number d t (outcome.Barred lane place c best) found h = land_orderly number d (take_cut c best d) refl refl refl h
outcome_orderly number d t (outcome.Unbounded point ray) found h = land_orderly number d (take_outcome t (outcome.Unbounded point ray) d) refl refl refl h
outcome_orderly number d t (outcome.Wide at) found h = aside_orderly number d t (cause.Wide at) found h
outcome_orderly number d t (outcome.Spent at) found h = aside_orderly number d t (cause.Spent at) found h

open_orderly : (v : Option VerdictKind) (number : ℕ) (d : Part) (t : Ticket) (what : Outcome) → flight_of number d.flight ≡ Some t → IsOrderly d → IsOrderly (land number (take_open v t what d))
open_orderly None number d t what found h = outcome_orderly number d t what found h
open_orderly (Some v) number d t what found h = land_orderly number d d refl refl refl h

settle_orderly : (number : ℕ) (d : Part) (t : Ticket) (what : Outcome) → flight_of number d.flight ≡ Some t → IsOrderly d → IsOrderly (settle (flight_of number d.flight) what d)
settle_orderly number d t what found h =
    let P : Option Ticket → Type 0 = λ x. IsOrderly (settle x what d) in
    let Q : ℕ → Type 0 = λ n. IsOrderly (land n (take_open d.verdict t what d)) in
    subst P (sym found) (subst Q (sym (number_found number d.flight t found)) (open_orderly d.verdict number d t what found h))

-- the orders of two parts with the same tickets
orderly_same : (d e : Part) → e.flight ≡ d.flight → e.aside ≡ d.aside → e.drawn ≡ d.drawn → IsOrderly d → IsOrderly e
orderly_same d e flight aside drawn h =
    let O : List Ticket → List Aside → ℕ → Type 0 = λ f s n. IsOrderly (record start { flight = f; aside = s; drawn = n }) in
    let base : O d.flight d.aside d.drawn = record { flying = h.flying; lying = h.lying; flight = h.flight; aside = h.aside; both = h.both } in
    let moved : O e.flight e.aside e.drawn = subst (λ f. O f e.aside e.drawn) (sym flight) (subst (λ s. O d.flight s e.drawn) (sym aside) (subst (λ n. O d.flight d.aside n) (sym drawn) base)) in
    record { flying = moved.flying; lying = moved.lying; flight = moved.flight; aside = moved.aside; both = moved.both }

pub keeps_orderly : (a : Instance) (n : ℕ) (d : Part) (x : Event) → IsLawfulOnDesk a n d x → IsOrderly d → IsOrderly (after x d)
keeps_orderly a n d (Publish lane c) l h = h
keeps_orderly a n d (Read worker lane place) l h = h
keeps_orderly a n d (Offer worker point) l h = h
keeps_orderly a n d (Draw worker number piece) l h = draw_orderly d (record { worker = worker; number = number; piece = piece }) l.row.ticket h
keeps_orderly a n d (Absorb c) l h = orderly_same d (after (Absorb c) d) refl refl refl h
keeps_orderly a n d (Learn ng hints) l h = orderly_same d (after (Learn ng hints) d) refl refl refl h
keeps_orderly a n d (Settle worker number what) l h = settle_orderly number d l.row.0 what l.row.1 h
keeps_orderly a n d (Conclude v) l h = orderly_same d (after (Conclude v) d) refl refl refl h

leads_orderly : (a : Instance) (n : ℕ) (d : Part) (xs : List Event) (e : Part) → LeadsLawfully a n d xs e → IsOrderly d → IsOrderly e
leads_orderly a n d [] e leads h = subst IsOrderly leads h
leads_orderly a n d (x ∷ xs) e leads h = leads_orderly a n (after x d) xs e leads.1 (keeps_orderly a n d x leads.0 h)

pub carried_orderly : (a : Instance) (o : Options) (xs : List Event) (d : Part) → Carries a o xs d → IsOrderly d
carried_orderly a o xs d carries = leads_orderly a o.workers start xs d (lawfully a o start xs d carries) record {
  flying = All-nil (λ (t : Ticket). t.number < start.drawn);
  lying = All-nil (λ (x : Aside). x.ticket < start.drawn);
  flight = tt;
  aside = tt;
  both = All-nil (λ (t : Ticket). All (λ x. x.ticket ≢ t.number) start.aside);
}
