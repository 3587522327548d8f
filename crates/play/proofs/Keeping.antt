-- Lawful events keep a desk part true to its best point.
use Rattle.std.proofs.Common.{inl, inr, ℕ, ◌≡◌, refl, sym, ap, ◌∙◌, subst, arith, Bool, true, false, nat_eq, List, [], ◌∷◌, ◌++◌, map, Option, Some, None}
use Rattle.std.specs.Prelude.{◌⊎◌, All, Contains, if◌then◌else◌}
use Rattle.std.proofs.lemmas.List.{append-nil}
use Rattle.std.proofs.lemmas.List.Elements.{All-push, All-weaker, Contains-append_left, Contains-append_right, Contains-append_cases}
use Rattle.nogoods.specs.declared.choice.Choice.{Choice}
use Rattle.nogoods.specs.declared.choice.Side.{Side}
use Rattle.nogoods.specs.Pieces.{Bars}
use Rattle.lpcc_case.specs.Instance.{Instance}
use Rattle.lpcc_case.specs.Pieces.{NamesPairs}
use Rattle.lpcc_case.specs.declared.point.Point.{Point}
use Rattle.lpcc_case.specs.declared.point.Ray.{Ray}
use Rattle.cuts.specs.declared.cut.Cut.{Cut}
use Rattle.cuts.specs.Cuts.{Passes, no_good_of}
use Rattle.derivation.specs.declared.step.Step.{Step}
use Rattle.derivation.specs.declared.step.Step.TheVariants.{Start, Derived}
use Rattle.derivation.specs.HintRuns.{closes}
use Rattle.derivation.specs.Logs as logs
use Rattle.derivation.specs.Logs.{IsLog, no_goods}
use Rattle.derivation.proofs.Growth.{grown}
use Rattle.search.specs.FirstPieces.{IsBarred}
use Rattle.play.specs.declared.event.Event.{Event}
use Rattle.play.specs.declared.event.Event.TheVariants.{Publish, Read, Offer, Draw, Absorb, Learn, Settle, Conclude}
use Rattle.play.specs.declared.event.Ticket.{Ticket}
use Rattle.play.specs.declared.event.VerdictKind.{VerdictKind}
use Rattle.play.specs.declared.event.VerdictKind.TheVariants as kind
use Rattle.play.specs.declared.outcome.Outcome.{Outcome}
use Rattle.play.specs.declared.outcome.Outcome.TheVariants as outcome
use Rattle.play.specs.declared.outcome.Cause.{Cause}
use Rattle.play.specs.declared.outcome.Cause.TheVariants as cause
use Rattle.play.specs.Parts.{Part, flight_of, without, barring, taken, piece_of, piece_aside}
use Rattle.reasons.specs.Reasons.{IsActiveAgainst}
use Rattle.play.specs.Points.{IsBest, lowered}
use Rattle.play.specs.Steps.{after, draw, absorb, take_cut, land, set_aside, take_outcome, take_open, settle, drawn_by}
use Rattle.play.specs.Lawful.{IsOpen, MayCut, MaySettle, MayConclude, IsLawfulOnDesk}
use Rattle.play.specs.Truth.{IsTrueToBest, IsAccounted, IsSoundCut}
use Rattle.play.proofs.ListLaws.{there, front_or_rest, any_more, any_of, in_map_front, in_map_last, map_both}
use Rattle.play.proofs.PointLaws.{backed_lowered, best_lowered}
use Rattle.play.proofs.StartLaws.{starts_start, starts_derived}

-- ---- what is accounted for stays so

pub barred_more : (d : Part) (c : Cut) (p : List Side) → IsBarred (barring d) p → IsBarred (map no_good_of (d.absorbed ++ c ∷ [])) p
barred_more d c p barred = any_more (λ ng. Bars ng p) (barring d) (map no_good_of (d.absorbed ++ c ∷ [])) (λ ng h. in_map_front no_good_of d.absorbed (c ∷ []) ng h) barred

pub barred_by_last : (d : Part) (c : Cut) (p : List Side) → Bars (no_good_of c) p → IsBarred (map no_good_of (d.absorbed ++ c ∷ [])) p
barred_by_last d c p bars = any_of (λ ng. Bars ng p) (map no_good_of (d.absorbed ++ c ∷ [])) (no_good_of c) (in_map_last no_good_of d.absorbed c) bars

taken_left : (d : Part) (p : List Side) → Contains (map piece_of d.flight) p → Contains (taken d) p
taken_left d p c = Contains-append_left (map piece_of d.flight) (map piece_aside d.aside) p c

taken_right : (d : Part) (p : List Side) → Contains (map piece_aside d.aside) p → Contains (taken d) p
taken_right d p c = Contains-append_right (map piece_of d.flight) (map piece_aside d.aside) p c

gone_cond : (b : Bool) (u t : Ticket) (us rest : List Ticket) (found : Option Ticket) (p : List Side) → (found ≡ Some t → Contains (map piece_of us) p → (t.piece ≡ p) ⊎ Contains (map piece_of rest) p) → (if b then Some u else found) ≡ Some t → Contains (map piece_of (u ∷ us)) p → (t.piece ≡ p) ⊎ Contains (map piece_of (if b then us else u ∷ rest)) p
gone_cond true u t us rest found p more e c =
    let same : u ≡ t = cc in
    elim (front_or_rest u.piece (map piece_of us) p c) [
      | inl here_is ↦ inl (ap (λ x. x.piece) (sym same) ∙ here_is)
      | inr later ↦ inr later
    ]
gone_cond false u t us rest found p more e c =
    elim (front_or_rest u.piece (map piece_of us) p c) [
      | inl here_is ↦ inr (0, omega arith, here_is)
      | inr later ↦ elim (more e later) [
        | inl it ↦ inl it
        | inr still ↦ inr (there u.piece (map piece_of rest) p still)
      ]
    ]

-- a piece in flight is that of the ticket, or stays in flight
pub gone_or_left : (number : ℕ) (ts : List Ticket) (t : Ticket) (p : List Side) → flight_of number ts ≡ Some t → Contains (map piece_of ts) p → (t.piece ≡ p) ⊎ Contains (map piece_of (without number ts)) p
gone_or_left number [] t p e c = absurd (omega (arith, c.1))
gone_or_left number (u ∷ us) t p e c = gone_cond (nat_eq u.number number) u t us (without number us) (flight_of number us) p (λ found later. gone_or_left number us t p found later) e c

number_cond : (b : Bool) (u t : Ticket) (number : ℕ) (found : Option Ticket) → nat_eq u.number number ≡ b → (found ≡ Some t → t.number ≡ number) → (if b then Some u else found) ≡ Some t → t.number ≡ number
number_cond true u t number found test more e =
    let same : u ≡ t = cc in
    ap (λ x. x.number) (sym same) ∙ Rattle.std.proofs.lemmas.Bool.eqb-true u.number number test
number_cond false u t number found test more e = more e

-- the ticket that is found has this number
pub number_found : (number : ℕ) (ts : List Ticket) (t : Ticket) → flight_of number ts ≡ Some t → t.number ≡ number
number_found number [] t e = absurd (cc)
number_found number (u ∷ us) t e = number_cond (nat_eq u.number number) u t number (flight_of number us) refl (λ found. number_found number us t found) e

-- ---- the parts of an event

none_some : {V : Type 0} {v : V} {x : Option V} → x ≡ None → x ≡ Some v → ⊥
none_some e f = cc

accounted_absorb : (d : Part) (c : Cut) (best : Option Point) (p : List Side) → IsAccounted d p → IsAccounted (take_cut c best d) p
accounted_absorb d c best p (inl still) = inl still
accounted_absorb d c best p (inr barred) = inr (barred_more d c p barred)

named_push : (a : Instance) (log : List Step) (s : Step) → All (NamesPairs a) (no_goods log) → NamesPairs a (logs.no_good_of s) → All (NamesPairs a) (no_goods (log ++ s ∷ []))
named_push a log s named here_named =
    let P : List (List Choice) → Type 0 = λ l. All (NamesPairs a) l in
    subst P (sym (map_both logs.no_good_of log (s ∷ []))) (All-push (NamesPairs a) (no_goods log) (logs.no_good_of s) named here_named)

pub absorb_true : (a : Instance) (drawn : List (List Side)) (d : Part) (c : Cut) (best : Option Point) → Passes a c → IsTrueToBest a drawn d → IsBest a best → IsActiveAgainst c (lowered d.best best) → d.verdict ≡ None → IsTrueToBest a drawn (take_cut c best d)
absorb_true a drawn d c best passes t is_best backed opened = record {
  cuts = All-push (IsSoundCut a (lowered d.best best)) d.absorbed c
      (All-weaker (IsSoundCut a d.best) (IsSoundCut a (lowered d.best best)) (λ x s. (s.0, backed_lowered a x d.best best s.0 t.best is_best (inl s.1))) d.absorbed t.cuts)
      (passes, backed);
  best = best_lowered a d.best best t.best is_best;
  unbounded = t.unbounded;
  log = grown d.log (Start (no_good_of c)) t.log tt;
  starts = starts_start d.log (no_good_of c) ∙ ap (λ l. l ++ no_good_of c ∷ []) t.starts ∙ sym (map_both no_good_of d.absorbed (c ∷ []));
  named = named_push a d.log (Start (no_good_of c)) t.named passes.indexed.pairs_named;
  drawn_pieces = λ is_open. All-weaker (IsAccounted d) (IsAccounted (take_cut c best d)) (λ p h. accounted_absorb d c best p h) drawn (t.drawn_pieces is_open);
  concluded = λ v e. absurd (none_some opened e);
}

pub learn_true : (a : Instance) (drawn : List (List Side)) (d : Part) (ng : List Choice) (hints : List ℕ) → NamesPairs a ng → closes (no_goods d.log) ng hints ≡ true → IsTrueToBest a drawn d → d.verdict ≡ None → IsTrueToBest a drawn (after (Learn ng hints) d)
learn_true a drawn d ng hints named closed t opened = record {
  cuts = t.cuts;
  best = t.best;
  unbounded = t.unbounded;
  log = grown d.log (Derived ng hints) t.log closed;
  starts = starts_derived d.log ng hints ∙ t.starts;
  named = named_push a d.log (Derived ng hints) t.named named;
  drawn_pieces = t.drawn_pieces;
  concluded = λ v e. absurd (none_some opened e);
}

accounted_draw : (d : Part) (t : Ticket) (p : List Side) → IsAccounted d p → IsAccounted (draw t d) p
accounted_draw d t p (inl still) = inl (elim (Contains-append_cases (map piece_of d.flight) (map piece_aside d.aside) p still) [
  | inl flies ↦ taken_left (draw t d) p (in_map_front piece_of d.flight (t ∷ []) p flies)
  | inr lies ↦ taken_right (draw t d) p lies
])
accounted_draw d t p (inr barred) = inr barred

pub draw_true : (a : Instance) (drawn : List (List Side)) (d : Part) (t : Ticket) → IsOpen d → IsTrueToBest a drawn d → IsTrueToBest a (drawn ++ t.piece ∷ []) (draw t d)
draw_true a drawn d t opened h = record {
  cuts = h.cuts;
  best = h.best;
  unbounded = h.unbounded;
  log = h.log;
  starts = h.starts;
  named = h.named;
  drawn_pieces = λ is_open. All-push (IsAccounted (draw t d)) drawn t.piece
      (All-weaker (IsAccounted d) (IsAccounted (draw t d)) (λ p x. accounted_draw d t p x) drawn (h.drawn_pieces opened))
      (inl (taken_left (draw t d) t.piece (in_map_last piece_of d.flight t)));
  concluded = h.concluded;
}

pub conclude_true : (a : Instance) (drawn : List (List Side)) (d : Part) (v : VerdictKind) → MayConclude d v → IsTrueToBest a drawn d → IsTrueToBest a drawn (after (Conclude v) d)
conclude_true a drawn d v may h = record {
  cuts = h.cuts;
  best = h.best;
  unbounded = h.unbounded;
  log = h.log;
  starts = h.starts;
  named = h.named;
  drawn_pieces = λ is_open. absurd (none_some is_open.0 refl);
  concluded = λ w e. same_verdict v w d may e;
}
  where
    concluding : (v : VerdictKind) (d : Part) → MayConclude d v → MayConclude (after (Conclude v) d) v
    concluding kind.Optimal d may = may
    concluding kind.Infeasible d may = may
    concluding kind.Unbounded d may = may

    concluding_w : (u v : VerdictKind) (d : Part) → MayConclude d v → MayConclude (after (Conclude u) d) v
    concluding_w u kind.Optimal d may = may
    concluding_w u kind.Infeasible d may = may
    concluding_w u kind.Unbounded d may = may

    same_verdict : (v w : VerdictKind) (d : Part) → MayConclude d v → Some v ≡ Some w → MayConclude (after (Conclude v) d) w
    same_verdict v w d may e =
        let same : v ≡ w = cc in
        let P : VerdictKind → Type 0 = λ x. MayConclude (after (Conclude v) d) x in
        subst P same (concluding v d may)

-- ---- settling

accounted_land : (d e : Part) (number : ℕ) (t : Ticket) → flight_of number d.flight ≡ Some t → e.flight ≡ d.flight → ((p : List Side) → Contains (map piece_aside d.aside) p → Contains (map piece_aside e.aside) p) → ((p : List Side) → IsBarred (barring d) p → IsBarred (barring e) p) → IsAccounted (land number e) t.piece → (p : List Side) → IsAccounted d p → IsAccounted (land number e) p
accounted_land d e number t found same_flight aside barred landed p (inr b) = inr (barred p b)
accounted_land d e number t found same_flight aside barred landed p (inl c) = elim (Contains-append_cases (map piece_of d.flight) (map piece_aside d.aside) p c) [
  | inr lies ↦ inl (taken_right (land number e) p (aside p lies))
  | inl flies ↦ elim (gone_or_left number d.flight t p found flies) [
    | inl it ↦ subst (IsAccounted (land number e)) it landed
    | inr still ↦
        let P : List Ticket → Type 0 = λ l. Contains (map piece_of (without number l)) p in
        inl (taken_left (land number e) p (subst P (sym same_flight) still))
  ]
]

-- landing keeps all but the account of the pieces
land_true : (a : Instance) (drawn : List (List Side)) (number : ℕ) (e : Part) → IsTrueToBest a [] e → (IsOpen e → All (IsAccounted (land number e)) drawn) → IsTrueToBest a drawn (land number e)
land_true a drawn number e h pieces = record {
  cuts = h.cuts;
  best = h.best;
  unbounded = h.unbounded;
  log = h.log;
  starts = h.starts;
  named = h.named;
  drawn_pieces = pieces;
  concluded = λ v f. landed e number v (h.concluded v f);
}
  where
    landed : (e : Part) (number : ℕ) (v : VerdictKind) → MayConclude e v → MayConclude (land number e) v
    landed e number kind.Optimal may = may
    landed e number kind.Infeasible may = may
    landed e number kind.Unbounded may = may

no_pieces : (a : Instance) (drawn : List (List Side)) (d : Part) → IsTrueToBest a drawn d → IsTrueToBest a [] d
no_pieces a drawn d h = record {
  cuts = h.cuts;
  best = h.best;
  unbounded = h.unbounded;
  log = h.log;
  starts = h.starts;
  named = h.named;
  drawn_pieces = λ is_open. Rattle.std.proofs.lemmas.List.Elements.All-nil (IsAccounted d);
  concluded = h.concluded;
}

settle_cut_true : (a : Instance) (drawn : List (List Side)) (d : Part) (number : ℕ) (t : Ticket) (c : Cut) (best : Option Point) → flight_of number d.flight ≡ Some t → IsTrueToBest a drawn d → d.verdict ≡ None → MayCut a t.piece c best → IsTrueToBest a drawn (land number (take_cut c best d))
settle_cut_true a drawn d number t c best found h opened may =
    land_true a drawn number (take_cut c best d)
    (absorb_true a [] d c best may.passes (no_pieces a drawn d h) may.candidate (backed_lowered a c d.best best may.passes h.best may.candidate (inr may.active)) opened)
    (λ is_open. All-weaker (IsAccounted d) (IsAccounted (land number (take_cut c best d)))
    (λ p x. accounted_land d (take_cut c best d) number t found refl (λ q y. y) (λ q y. barred_more d c q y) (inr (barred_by_last d c t.piece may.bars)) p x) drawn (h.drawn_pieces is_open))

unbounded_true : (a : Instance) (drawn : List (List Side)) (d : Part) (number : ℕ) (t : Ticket) (point : Point) (ray : Ray) → IsTrueToBest a drawn d → d.verdict ≡ None → MaySettle a t (outcome.Unbounded point ray) → IsTrueToBest a drawn (land number (take_outcome t (outcome.Unbounded point ray) d))
unbounded_true a drawn d number t point ray h opened may = record {
  cuts = h.cuts;
  best = h.best;
  unbounded = may;
  log = h.log;
  starts = h.starts;
  named = h.named;
  drawn_pieces = λ is_open. absurd (none_some is_open.1 refl);
  concluded = λ v e. absurd (none_some opened e);
}

aside_true : (a : Instance) (drawn : List (List Side)) (d : Part) (number : ℕ) (t : Ticket) (why : Cause) → flight_of number d.flight ≡ Some t → IsTrueToBest a drawn d → d.verdict ≡ None → IsTrueToBest a drawn (land number (set_aside t why d))
aside_true a drawn d number t why found h opened = record {
  cuts = h.cuts;
  best = h.best;
  unbounded = h.unbounded;
  log = h.log;
  starts = h.starts;
  named = h.named;
  drawn_pieces = λ is_open. All-weaker (IsAccounted d) (IsAccounted (land number (set_aside t why d)))
      (λ p x. accounted_land d (set_aside t why d) number t found refl (λ q y. in_map_front piece_aside d.aside _ q y) (λ q y. y)
      (inl (taken_right (land number (set_aside t why d)) t.piece (in_map_last piece_aside d.aside (record { ticket = t.number; piece = t.piece; cause = why })))) p x)
      drawn (h.drawn_pieces is_open);
  concluded = λ v e. absurd (none_some opened e);
}

outcome_true : (a : Instance) (drawn : List (List Side)) (d : Part) (number : ℕ) (t : Ticket) (what : Outcome) → flight_of number d.flight ≡ Some t → IsTrueToBest a drawn d → d.verdict ≡ None → MaySettle a t what → IsTrueToBest a drawn (land number (take_outcome t what d))
outcome_true a drawn d number t (outcome.Cut c kept best) found h opened may = settle_cut_true a drawn d number t c best found h opened may
outcome_true a drawn d number t (outcome.Barred lane place c best) found h opened may = settle_cut_true a drawn d number t c best found h opened may
outcome_true a drawn d number t (outcome.Unbounded point ray) found h opened may = unbounded_true a drawn d number t point ray h opened may
outcome_true a drawn d number t (outcome.Wide at) found h opened may = aside_true a drawn d number t (cause.Wide at) found h opened
outcome_true a drawn d number t (outcome.Spent at) found h opened may = aside_true a drawn d number t (cause.Spent at) found h opened

-- by whether there is a verdict
open_true : (a : Instance) (drawn : List (List Side)) (d : Part) (number : ℕ) (t : Ticket) (what : Outcome) (v : Option VerdictKind) → d.verdict ≡ v → flight_of number d.flight ≡ Some t → IsTrueToBest a drawn d → (d.verdict ≡ None → MaySettle a t what) → IsTrueToBest a drawn (land number (take_open v t what d))
open_true a drawn d number t what None e found h may = outcome_true a drawn d number t what found h e (may e)
open_true a drawn d number t what (Some v) e found h may =
    land_true a drawn number d (no_pieces a drawn d h) (λ is_open. absurd (none_some is_open.0 e))

settle_true : (a : Instance) (drawn : List (List Side)) (d : Part) (number : ℕ) (t : Ticket) (what : Outcome) → flight_of number d.flight ≡ Some t → IsTrueToBest a drawn d → (d.verdict ≡ None → MaySettle a t what) → IsTrueToBest a drawn (settle (flight_of number d.flight) what d)
settle_true a drawn d number t what found h may =
    let P : Option Ticket → Type 0 = λ x. IsTrueToBest a drawn (settle x what d) in
    let Q : ℕ → Type 0 = λ n. IsTrueToBest a drawn (land n (take_open d.verdict t what d)) in
    subst P (sym found) (subst Q (sym (number_found number d.flight t found)) (open_true a drawn d number t what d.verdict refl found h may))

-- ---- every event

none_drawn : (a : Instance) (drawn : List (List Side)) (d : Part) → IsTrueToBest a drawn d → IsTrueToBest a (drawn ++ []) d
none_drawn a drawn d h =
    let P : List (List Side) → Type 0 = λ l. IsTrueToBest a l d in
    subst P (sym (append-nil drawn)) h

pub keeps_true : (a : Instance) (n : ℕ) (drawn : List (List Side)) (d : Part) (x : Event) → IsLawfulOnDesk a n d x → IsTrueToBest a drawn d → IsTrueToBest a (drawn ++ drawn_by x) (after x d)
keeps_true a n drawn d (Publish lane c) l h = none_drawn a drawn d h
keeps_true a n drawn d (Read worker lane place) l h = none_drawn a drawn d h
keeps_true a n drawn d (Offer worker point) l h = none_drawn a drawn d h
keeps_true a n drawn d (Draw worker number piece) l h = draw_true a drawn d (record { worker = worker; number = number; piece = piece }) l.row.opened h
keeps_true a n drawn d (Absorb c) l h =
    none_drawn a drawn (absorb c d) (absorb_true a drawn d c None l.row.1 h tt (backed_lowered a c d.best None l.row.1 h.best tt (inl l.row.2)) l.row.0)
keeps_true a n drawn d (Learn ng hints) l h = none_drawn a drawn (after (Learn ng hints) d) (learn_true a drawn d ng hints l.fits l.row.1 h l.row.0)
keeps_true a n drawn d (Settle worker number what) l h = none_drawn a drawn (settle (flight_of number d.flight) what d) (settle_true a drawn d number l.row.0 what l.row.1 h l.row.3)
keeps_true a n drawn d (Conclude v) l h = none_drawn a drawn (after (Conclude v) d) (conclude_true a drawn d v l.row.1 h)
