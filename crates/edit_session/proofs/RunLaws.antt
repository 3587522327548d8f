-- How a run over kept cuts goes on at each call of its desk.
use Rattle.std.proofs.Common.{inl, inr, ℕ, ◌≡◌, refl, sym, ap, ◌∙◌, subst, arith, Bool, true, false, List, [], ◌∷◌, ◌++◌, Option, None}
use Rattle.std.specs.Prelude.{◌⊎◌, All, Contains, Result, Ok, Err, OnOk}
use Rattle.std.proofs.lemmas.List.{append-nil}
use Rattle.std.proofs.lemmas.List.Elements.{All-append, All-nil, All-push, Contains-append_left, Contains-append_right, Contains-append_cases, Contains-push}
use Rattle.lpcc_case.specs.Cases.{IsCase}
use Rattle.lpcc_case.specs.Instance.{Instance}
use Rattle.lpcc_case.specs.declared.point.Point.{Point}
use Rattle.cuts.specs.declared.cut.Cut.{Cut}
use Rattle.cuts.specs.Cuts.{Passes}
use Rattle.reasons.specs.Reasons.{IsActiveAgainst}
use Rattle.play.specs.declared.event.Event.TheVariants.{Absorb}
use Rattle.play.specs.declared.event.Options.{Options}
use Rattle.play.specs.declared.event.Ticket.{Ticket}
use Rattle.play.specs.declared.outcome.Outcome.{Outcome}
use Rattle.play.specs.declared.outcome.Outcome.TheVariants as outcome
use Rattle.play.specs.declared.ending.Ending.{Ending}
use Rattle.play.specs.Parts.{Part}
use Rattle.play.specs.Lawful.{MaySettle}
use Rattle.play.proofs.ListLaws.{front_or_rest}
use Rattle.desk_part.specs.declared.answer.Draw.{Draw as Answer}
use Rattle.desk_part.specs.Absorbing.{AbsorbsOn, EndsEach}
use Rattle.desk_part.specs.DeskParts.{DrawsOn, EndingKeepsForm, IsOver, SettlesOn, Standing, settled_events, standing}
use Rattle.settling.specs.Outcomes.{IsOutcomeOf}
use Rattle.engine.specs.Solved.{IsEnded, PiecesLast, PivotsLast, VerdictsAreShown, alone}
use Rattle.engine.proofs.Asides.{ended_pieces, ended_pivots, ended_shown}
use Rattle.engine.specs.Turns.{IsDeskOf, IsTurn, IsWaiting}
use Rattle.edit_session.specs.Answers.{AreAbsorbed, IsAnswer, SessionView, cuts_in, settled_in}
use Rattle.edit_session.specs.Rounds.{AreHeld, AreInactive, IsPlayed, IsReached, IsReady, IsRunOver}
use Rattle.edit_session.proofs.RecordLaws.{added_to, absorbed_join, conclusion_draws, conclusion_settles, leads_absorb, learned_to, reached_more, reached_quiet, settled_join}

-- ---- the desk of this run

pub desk_is : (a : Instance) (o : Options) (s : Standing) → IsDeskOf a o s → standing a o s.part ≡ s
desk_is a o s of = ap (λ x. standing x o s.part) (sym of.case_is) ∙ ap (λ x. standing s.case_of x s.part) (sym of.options_are)

desk_stays : (a : Instance) (o : Options) (s u : Standing) → IsDeskOf a o s → u.case_of ≡ s.case_of → u.options ≡ s.options → IsDeskOf a o u
desk_stays a o s u of case_stays options_stay = record { case_is = case_stays ∙ of.case_is; options_are = options_stay ∙ of.options_are }

-- ---- a draw

-- kept cuts that are active are absorbed, since those that wait are not active
ready_absorbed : (a : Instance) (o : Options) (kept : List Cut) (s : Standing) (waiting settled : List Cut) (m : Part) → IsReady a o kept s waiting settled → m.best ≡ s.part.best → m.absorbed ≡ s.part.absorbed → m.verdict ≡ s.part.verdict → m.verdict ≡ None → AreAbsorbed kept m
ready_absorbed a o kept s waiting settled m ready best absorbed verdict none c held active =
    let P : Option Point → Type 0 = λ q. IsActiveAgainst c q in
    let Q : List Cut → Type 0 = λ l. Contains l c in
    elim (ready.run.held c held) [
      | inl there ↦ subst Q (sym absorbed) there
      | inr waits ↦ absurd (ready.inactive (sym verdict ∙ none) c waits (subst P best active))
    ]

pub draw_goes_on : (a : Instance) (o : Options) (kept : List Cut) (s u : Standing) (answer : Answer) (waiting settled : List Cut) → DrawsOn 0 s u answer → IsReady a o kept s waiting settled → IsReady a o kept u waiting settled
draw_goes_on a o kept s u answer waiting settled h ready =
    let run = ready.run in
    let here_it : DrawsOn 0 (standing a o s.part) u answer = subst (λ x. DrawsOn 0 x u answer) (sym (desk_is a o s run.of)) h in
    let draws = here_it.draws in
    let to = learned_to a o kept s.part draws.learned draws.behind u.part draws.learns draws.leads in
    let more = added_to a o kept 0 answer to.middle draws.behind u.part draws.adds to.then (λ none. ready_absorbed a o kept s waiting settled to.middle ready to.best to.absorbed to.verdict none) in
    let best : u.part.best ≡ s.part.best = more.best ∙ to.best in
    record {
      run = record {
        of = desk_stays a o s u run.of h.case_stays h.options_stay;
        reached = reached_quiet a o kept s.part (draws.learned ++ draws.behind) u.part settled run.reached here_it.carries
            (absorbed_join kept a o s.part draws.learned to.middle draws.behind to.first to.draws more.draws)
            (settled_join draws.learned draws.behind ∙ ap (λ l. l ++ settled_in draws.behind) to.settles ∙ more.settles);
        held = λ c held. elim (run.held c held) [
          | inl there ↦ inl (leads_absorb a o s.part (draws.learned ++ draws.behind) u.part c draws.leads there)
          | inr waits ↦ inr waits
        ];
      };
      inactive = λ none. subst (λ (q : Option Point). AreInactive q waiting) (sym best) (ready.inactive (sym to.verdict ∙ more.verdict none));
    }

-- ---- a settlement

pub settle_goes_on : (a : Instance) (o : Options) (kept : List Cut) (s u : Standing) (t : Ticket) (what : Outcome) (waiting settled more : List Cut) → SettlesOn t what s u → more ≡ settled ++ cuts_in what → IsRunOver a o kept s waiting settled → IsRunOver a o kept u waiting more
settle_goes_on a o kept s u t what waiting settled more h is run =
    let here_it : SettlesOn t what (standing a o s.part) u = subst (λ x. SettlesOn t what x u) (sym (desk_is a o s run.of)) h in
    let xs = settled_events s.part t what in
    let cuts : settled_in xs ≡ cuts_in what = ap (λ l. cuts_in what ++ l) (conclusion_settles s.part.verdict what) ∙ append-nil (cuts_in what) in
    record {
      of = desk_stays a o s u run.of h.case_stays h.options_stay;
      reached = subst (λ l. IsReached a o kept u.part l) (ap (λ l. settled ++ l) cuts ∙ sym is)
          (reached_more a o kept s.part xs u.part settled run.reached here_it.carries (inl refl, conclusion_draws kept _ s.part.verdict what));
      held = λ c held. elim (run.held c held) [
        | inl there ↦ inl (leads_absorb a o s.part xs u.part c here_it.settles.leads there)
        | inr waits ↦ inr waits
      ];
    }

-- the cut by which a piece is settled passes
outcome_passes : (a : Instance) (t : Ticket) (what : Outcome) → MaySettle a t what → All (Passes a) (cuts_in what)
outcome_passes a t (outcome.Cut c kept best) may = All-push (Passes a) [] c (All-nil (Passes a)) may.passes
outcome_passes a t (outcome.Barred lane place c best) may = All-push (Passes a) [] c (All-nil (Passes a)) may.passes
outcome_passes a t (outcome.Unbounded point ray) may = All-nil (Passes a)
outcome_passes a t (outcome.Wide at) may = All-nil (Passes a)
outcome_passes a t (outcome.Spent at) may = All-nil (Passes a)

pub settled_pass : (a : Instance) (o : Options) (t : Ticket) (what : Outcome) (settled more : List Cut) → IsOutcomeOf a o t.piece what → more ≡ settled ++ cuts_in what → All (Passes a) settled → All (Passes a) more
settled_pass a o t what settled more h is pass =
    subst (λ l. All (Passes a) l) (sym is) (All-append (Passes a) settled (cuts_in what) pass (outcome_passes a t what (h.may t refl)))

-- ---- an absorbed cut

pub one_left : (c x : Cut) → Contains (c ∷ []) x → c ≡ x
one_left c x h = elim (front_or_rest c [] x h) [
  | inl same ↦ same
  | inr none ↦ absurd (omega (arith, none.1))
]

-- in the front list, the one behind it, or the last list
places : (front rest : List Cut) (c x : Cut) → Contains ((front ++ c ∷ []) ++ rest) x → Contains front x ⊎ ((c ≡ x) ⊎ Contains rest x)
places front rest c x h = elim (Contains-append_cases (front ++ c ∷ []) rest x h) [
  | inr later ↦ inr (inr later)
  | inl before ↦ elim (Contains-append_cases front (c ∷ []) x before) [
    | inl first ↦ inl first
    | inr one ↦ inr (inl (one_left c x one))
  ]
]

pub held_absorbed : (kept : List Cut) (d e : Part) (c : Cut) (front rest : List Cut) → e.absorbed ≡ d.absorbed ++ c ∷ [] → AreHeld kept d ((front ++ c ∷ []) ++ rest) → AreHeld kept e (front ++ rest)
held_absorbed kept d e c front rest is h x there =
    let Q : List Cut → Type 0 = λ l. Contains l x in
    elim (h x there) [
      | inl absorbed ↦ inl (subst Q (sym is) (Contains-append_left d.absorbed (c ∷ []) x absorbed))
      | inr waits ↦ elim (places front rest c x waits) [
        | inl first ↦ inr (Contains-append_left front rest x first)
        | inr later ↦ elim later [
          | inl same ↦ inl (subst (λ y. Contains e.absorbed y) same (subst (λ l. Contains l c) (sym is) (Contains-push d.absorbed c)))
          | inr last ↦ inr (Contains-append_right front rest x last)
        ]
      ]
    ]

pub held_waiting : (kept : List Cut) (d : Part) (c : Cut) (front rest : List Cut) → AreHeld kept d ((front ++ c ∷ []) ++ rest) → AreHeld kept d (front ++ (rest ++ c ∷ []))
held_waiting kept d c front rest h x there = elim (h x there) [
  | inl absorbed ↦ inl absorbed
  | inr waits ↦ elim (places front rest c x waits) [
    | inl first ↦ inr (Contains-append_left front (rest ++ c ∷ []) x first)
    | inr later ↦ inr (Contains-append_right front (rest ++ c ∷ []) x (elim later [
      | inl same ↦ subst (λ y. Contains (rest ++ c ∷ []) y) same (Contains-push rest c)
      | inr last ↦ Contains-append_left rest (c ∷ []) x last
    ]))
  ]
]

pub absorb_reaches : (a : Instance) (o : Options) (kept : List Cut) (s u : Standing) (c : Cut) (settled : List Cut) → IsDeskOf a o s → AbsorbsOn c s u → IsReached a o kept s.part settled → IsReached a o kept u.part settled
absorb_reaches a o kept s u c settled of h reached =
    let here_it : AbsorbsOn c (standing a o s.part) u = subst (λ x. AbsorbsOn c x u) (sym (desk_is a o s of)) h in
    reached_quiet a o kept s.part (Absorb c ∷ []) u.part settled reached here_it.carries (inl refl, tt) refl

pub absorb_goes_on : (a : Instance) (o : Options) (kept : List Cut) (s u : Standing) (c : Cut) (front rest settled : List Cut) → AbsorbsOn c s u → IsRunOver a o kept s ((front ++ c ∷ []) ++ rest) settled → IsRunOver a o kept u (front ++ rest) settled
absorb_goes_on a o kept s u c front rest settled h run = record {
  of = desk_stays a o s u run.of h.case_stays h.options_stay;
  reached = absorb_reaches a o kept s u c settled run.of h run.reached;
  held = held_absorbed kept s.part u.part c front rest (ap (λ (p : Part). p.absorbed) h.part_is) run.held;
}

-- ---- the end

pub answer_is : (a : Instance) (o : Options) (kept : List Cut) (s : Standing) (settled : List Cut) (end : Ending) → IsPlayed a o kept s settled → EndsEach s.case_of s.options s.part end → EndingKeepsForm end → IsAnswer a o kept end settled
answer_is a o kept s settled end played each form =
    let P : Standing → Type 0 = λ x. EndsEach x.case_of x.options x.part end in
    let here_it : P (standing a o s.part) = subst P (sym (desk_is a o s played.of)) each in
    record {
      events = played.reached.0;
      ending = here_it played.reached.0 played.reached.1;
      form = form;
      absorbed = played.reached.2;
      settled_are = played.reached.3;
    }

-- the desk that is done can be closed
pub may_close : (a : Instance) (o : Options) (kept : List Cut) (s : Standing) (settled : List Cut) → IsPlayed a o kept s settled → IsOver s.case_of s.options s.part
may_close a o kept s settled played =
    let P : Standing → Type 0 = λ x. IsOver x.case_of x.options x.part in
    subst P (desk_is a o s played.of) played.over

pub ended_of : (a : Instance) (o : Options) (kept : List Cut) (end : Ending) (settled : List Cut) → IsAnswer a o kept end settled → IsEnded a o end
ended_of a o kept end settled h = ((h.events, h.ending), h.form)

-- where turns end, the run was played
pub played : (a : Instance) (o : Options) (kept : List Cut) (s u : Standing) (more : Bool) (waiting settled : List Cut) → more ≡ false → IsTurn a o s u more → IsReady a o kept u waiting settled → IsPlayed a o kept u settled
played a o kept s u more waiting settled ends turn ready =
    let made : IsTurn a o s u false = subst (IsTurn a o s u) ends turn in
    record { of = made.0; reached = ready.run.reached; over = made.1 }

-- and where they go on, nothing is in flight
pub waits_on : (a : Instance) (o : Options) (s u : Standing) (more : Bool) → more ≡ true → IsTurn a o s u more → IsWaiting a o u
waits_on a o s u more going turn =
    let made : IsTurn a o s u true = subst (IsTurn a o s u) going turn in
    made.0

-- ---- results

pub always_ok : {T E : Type 0} {P : Type 0} (r : Result T E) → P → OnOk r P
always_ok (Ok x) p = p
always_ok (Err e) p = tt

pub err_ok : {T E : Type 0} (P : Type 0) (r : Result T E) (e : E) → r ≡ Err e → OnOk r P
err_ok P r e is = subst (λ x. OnOk x P) (sym is) tt

-- ---- the session

pub session_shown : (v s : SessionView) (a : Instance) (n : ℕ) (kept : List Cut) (end : Ending) (settled : List Cut) → v ≡ s → a ≡ v.kept.case_of → n ≡ 1 → IsCase a → IsAnswer a (record v.options { workers = n }) kept end settled → VerdictsAreShown s.kept.case_of (alone s.options) end × PiecesLast s.kept.case_of s.options end × PivotsLast s.kept.case_of s.options end
session_shown v s a n kept end settled same of one is_case h =
    let P : SessionView → Type 0 = λ x. VerdictsAreShown x.kept.case_of (alone x.options) end × PiecesLast x.kept.case_of x.options end × PivotsLast x.kept.case_of x.options end in
    let some : IsEnded a (alone v.options) end = subst (λ m. IsEnded a (record v.options { workers = m }) end) one (ended_of a (record v.options { workers = n }) kept end settled h) in
    let ended : IsEnded v.kept.case_of (alone v.options) end = subst (λ x. IsEnded x (alone v.options) end) of some in
    let there : P v = (
      ended_shown v.kept.case_of (alone v.options) end ended,
      ended_pieces v.kept.case_of (alone v.options) end ended,
      ended_pivots v.kept.case_of (alone v.options) end (subst IsCase of is_case) ended,
    ) in
    subst P same there
