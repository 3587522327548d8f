-- What a draw and a settlement leave on the desk of one worker.
use Rattle.std.proofs.Common.{ℕ, ◌+◌, ◌-◌, ◌<◌, ◌≡◌, refl, sym, ap, ◌∙◌, subst, arith, Bool, true, false, nat_eq, List, [], ◌∷◌, ◌++◌}
use Rattle.std.specs.Prelude.{Result, Ok, Err, IfOk, All, Some, None, if◌then◌else◌}
use Rattle.std.proofs.lemmas.Bool.{eq-eqb}
use Rattle.std.proofs.lemmas.List.Elements.{All-head, All-tail}
use Rattle.lpcc_case.specs.Instance.{Instance}
use Rattle.play.specs.declared.event.Event.{Event}
use Rattle.play.specs.declared.event.Event.TheVariants.{Publish, Read, Offer, Draw, Absorb, Learn, Settle, Conclude}
use Rattle.play.specs.declared.event.Options.{Options}
use Rattle.play.specs.declared.event.Ticket.{Ticket}
use Rattle.play.specs.declared.outcome.Outcome.{Outcome}
use Rattle.play.specs.Parts.{Part, flight_of, without}
use Rattle.play.specs.Steps.{after}
use Rattle.play.specs.Records.{Leads}
use Rattle.desk_part.specs.declared.answer.Draw.{Draw as Answer}
use Rattle.desk_part.specs.declared.answer.Draw.TheVariants as draw
use Rattle.desk_part.specs.DeskParts.{Draws, DrawsOn, IsLearn, IsOver, MayBeSettled, SettlesOn, Standing}
use Rattle.play.specs.declared.ending.Ending.{Ending}
use Rattle.desk_part.specs.DeskParts.{EndingKeepsForm, IsEndingOfRecord}
use Rattle.engine.specs.Solved.{IsEnded}
use Rattle.settling.specs.Outcomes.{IsOutcomeOf}
use Rattle.engine.specs.Turns.{Holds, IsDeskOf, IsTurn, IsWaiting}

-- ---- a draw

learns_leave : (a : Instance) (o : Options) (d : Part) (xs : List Event) (e : Part) → All IsLearn xs → Leads a o d (xs ++ []) e → e.flight ≡ d.flight
learns_leave a o d [] e learns leads = ap (λ (x : Part). x.flight) (sym leads)
learns_leave a o d (Learn ng hints ∷ xs) e learns leads = learns_leave a o (after (Learn ng hints) d) xs e (All-tail IsLearn (Learn ng hints) xs learns) leads.1
learns_leave a o d (Publish lane c ∷ xs) e learns leads = absurd (All-head IsLearn (Publish lane c) xs learns)
learns_leave a o d (Read worker lane place ∷ xs) e learns leads = absurd (All-head IsLearn (Read worker lane place) xs learns)
learns_leave a o d (Offer worker point ∷ xs) e learns leads = absurd (All-head IsLearn (Offer worker point) xs learns)
learns_leave a o d (Draw worker number piece ∷ xs) e learns leads = absurd (All-head IsLearn (Draw worker number piece) xs learns)
learns_leave a o d (Absorb c ∷ xs) e learns leads = absurd (All-head IsLearn (Absorb c) xs learns)
learns_leave a o d (Settle worker number what ∷ xs) e learns leads = absurd (All-head IsLearn (Settle worker number what) xs learns)
learns_leave a o d (Conclude verdict ∷ xs) e learns leads = absurd (All-head IsLearn (Conclude verdict) xs learns)

draws_at : (a : Instance) (o : Options) (s : Standing) (t : Part) (answer : Answer) → IsDeskOf a o s → Draws s.case_of s.options 0 s.part t answer → Draws a o 0 s.part t answer
draws_at a o s t answer of h =
    let P : Instance → Type 0 = λ x. Draws x s.options 0 s.part t answer in
    let Q : Options → Type 0 = λ x. Draws a x 0 s.part t answer in
    subst Q of.options_are (subst P of.case_is h)

desk_stays : (a : Instance) (o : Options) (s u : Standing) → IsDeskOf a o s → u.case_of ≡ s.case_of → u.options ≡ s.options → IsDeskOf a o u
desk_stays a o s u of case_stays options_stay = record { case_is = case_stays ∙ of.case_is; options_are = options_stay ∙ of.options_are }

-- a piece was drawn
pub piece_held : (a : Instance) (o : Options) (s u : Standing) (t : Ticket) → IsWaiting a o s → DrawsOn 0 s u (draw.Piece t) → Holds a o t u × (u.part.drawn ≡ s.part.drawn + 1) × (s.part.drawn < o.pieces)
piece_held a o s u t waits h =
    let draws = draws_at a o s u.part (draw.Piece t) waits.of h.draws in
    let given = draws.answers in (
      record {
        of = desk_stays a o s u waits.of h.case_stays h.options_stay;
        flying = given.flight ∙ ap (λ l. l ++ t ∷ []) waits.landed;
        worker = draws.adds.0;
        piece = given.size;
      },
      given.drawn,
      given.few,
    )

-- nothing is in flight, so a draw does not pause
pub no_pause : (a : Instance) (o : Options) (s u : Standing) → IsWaiting a o s → DrawsOn 0 s u draw.Pause → ⊥
no_pause a o s u waits h =
    let draws = draws_at a o s u.part draw.Pause waits.of h.draws in
    let P : List Event → Type 0 = λ xs. Leads a o s.part (draws.learned ++ xs) u.part in
    draws.answers.flying (learns_leave a o s.part draws.learned u.part draws.learns (subst P draws.adds draws.leads) ∙ waits.landed)

pub done_over : (a : Instance) (o : Options) (s u : Standing) → IsWaiting a o s → DrawsOn 0 s u draw.Done → IsTurn a o s u false
done_over a o s u waits h = (desk_stays a o s u waits.of h.case_stays h.options_stay, (draws_at a o s u.part draw.Done waits.of h.draws).answers)

-- ---- a settlement

same_number : (n : ℕ) → nat_eq n n ≡ true
same_number n = eq-eqb n n refl

found_alone : (t : Ticket) → flight_of t.number (t ∷ []) ≡ Some t
found_alone t = ap (λ b. if b then Some t else None) (same_number t.number)

none_left : (t : Ticket) → without t.number (t ∷ []) ≡ []
none_left t = ap (λ b. if b then [] else t ∷ []) (same_number t.number)

pub settled_waits : (a : Instance) (o : Options) (t : Ticket) (what : Outcome) (s u : Standing) → Holds a o t s → SettlesOn t what s u → IsWaiting a o u × (u.part.drawn ≡ s.part.drawn)
settled_waits a o t what s u holds h = (
  record {
    of = desk_stays a o s u holds.of h.case_stays h.options_stay;
    landed = h.settles.flight ∙ ap (without t.number) holds.flying ∙ none_left t;
  },
  h.settles.drawn,
)

-- the outcome of the ticket's piece may settle it
pub may_settle : (a : Instance) (o : Options) (t : Ticket) (what : Outcome) (s : Standing) → o.workers ≡ 1 → Holds a o t s → IsOutcomeOf a o t.piece what → MayBeSettled s.case_of s.options s.part t what
may_settle a o t what s one holds h =
    let P : Instance → Type 0 = λ x. MayBeSettled x s.options s.part t what in
    let Q : Options → Type 0 = λ x. MayBeSettled a x s.part t what in
    let here : MayBeSettled a o s.part t what = record {
      known = omega (arith, holds.worker, one);
      fits = h.fits;
      flying = ap (flight_of t.number) holds.flying ∙ found_alone t;
      may = λ none. h.may t refl;
      true_outcome = h.true_outcome t refl;
    } in
    subst P (sym holds.of.case_is) (subst Q (sym holds.of.options_are) here)

-- ---- as the code has them

pub held_of : (a : Instance) (o : Options) (s u : Standing) (t : Ticket) (answer : Answer) → IsWaiting a o s → answer ≡ draw.Piece t → DrawsOn 0 s u answer → Holds a o t u
held_of a o s u t answer waits is h = (piece_held a o s u t waits (subst (DrawsOn 0 s u) is h)).0

pub turned : (a : Instance) (o : Options) (s u v : Standing) (t : Ticket) (answer : Answer) → IsWaiting a o s → answer ≡ draw.Piece t → DrawsOn 0 s u answer → IsWaiting a o v → v.part.drawn ≡ u.part.drawn → IsTurn a o s v true
turned a o s u v t answer waits is h behind same =
    let held = piece_held a o s u t waits (subst (DrawsOn 0 s u) is h) in
    (behind, held.2, same ∙ held.1)

pub done_of : (a : Instance) (o : Options) (s u : Standing) (answer : Answer) → IsWaiting a o s → answer ≡ draw.Done → DrawsOn 0 s u answer → IsTurn a o s u false
done_of a o s u answer waits is h = done_over a o s u waits (subst (DrawsOn 0 s u) is h)

pub pause_of : (a : Instance) (o : Options) (s u : Standing) (answer : Answer) → IsWaiting a o s → answer ≡ draw.Pause → DrawsOn 0 s u answer → ⊥
pause_of a o s u answer waits is h = no_pause a o s u waits (subst (DrawsOn 0 s u) is h)

-- where the run goes on, fewer draws are left
pub fewer_left : (a : Instance) (o : Options) (s u : Standing) (more : Bool) → more ≡ true → IsTurn a o s u more → o.pieces - u.part.drawn < o.pieces - s.part.drawn
fewer_left a o s u more going h =
    let made : IsTurn a o s u true = subst (IsTurn a o s u) going h in
    omega (arith, made.1, made.2)

-- where it does not, the desk can be closed
pub may_close : (a : Instance) (o : Options) (s u : Standing) (more : Bool) → more ≡ false → IsTurn a o s u more → IsOver u.case_of u.options u.part
may_close a o s u more ends h =
    let made : IsTurn a o s u false = subst (IsTurn a o s u) ends h in
    let P : Instance → Type 0 = λ x. IsOver x u.options u.part in
    let Q : Options → Type 0 = λ x. IsOver a x u.part in
    subst P (sym made.0.case_is) (subst Q (sym made.0.options_are) made.1)

-- the ending is that of this run
pub ended_here : {E : Type 0} (a : Instance) (o : Options) (s u : Standing) (more : Bool) (r : Result Ending E) → more ≡ false → IsTurn a o s u more → IfOk r (IsEndingOfRecord u.case_of u.options) → IfOk r EndingKeepsForm → IfOk r (IsEnded a o)
ended_here a o s u more (Ok end) ends h ending form =
    let made : IsTurn a o s u false = subst (IsTurn a o s u) ends h in
    let P : Instance → Type 0 = λ x. IsEndingOfRecord x u.options end in
    let Q : Options → Type 0 = λ x. IsEndingOfRecord a x end in
    (subst Q made.0.options_are (subst P made.0.case_is ending), form)
ended_here a o s u more (Err e) ends h ending form = ending
