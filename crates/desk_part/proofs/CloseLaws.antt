-- The ending of a desk part.
use Rattle.std.proofs.Common.{inl, inr, ℕ, ◌+◌, ◌<◌, ◌≤◌, ◌≡◌, refl, sym, ap, ◌∙◌, subst, arith, true, false, List, [], ◌++◌, length, map, take, Option, Some, None}
use Rattle.std.specs.Prelude.{◌≢◌, ◌⊎◌, ◌↔◌, ◌^◌, IsSome, is_some, All, Any, Contains, IsTrue, Result, Ok, Err, IfOk, slice_get, unsigned_abs}
use Rattle.std.proofs.lemmas.List.Elements.{All-contains, All-weaker}
use Rattle.std.proofs.lemmas.List.{take_all}
use Rattle.lp_base.specs.Sums.{dot}
use Rattle.lpcc_case.proofs.Products.{cost_small}
use Rattle.nogoods.specs.declared.choice.Choice.{Choice}
use Rattle.nogoods.specs.declared.choice.Side.{Side}
use Rattle.nogoods.specs.Choices.{pairs_ascend}
use Rattle.nogoods.specs.Pieces.{Bars}
use Rattle.lpcc_case.specs.Cases.{IsCase}
use Rattle.lpcc_case.specs.Instance.{Instance}
use Rattle.lpcc_case.specs.NarrowPoints.{IsPointOf}
use Rattle.lpcc_case.specs.Pieces.{IsPiece, NamesPairs}
use Rattle.lpcc_case.specs.declared.point.Point.{Point}
use Rattle.cuts.specs.declared.cut.Cut.{Cut}
use Rattle.cuts.specs.Cuts.{Passes, no_good_of}
use Rattle.derivation.specs.declared.step.Step.{Step}
use Rattle.derivation.specs.Logs.{no_goods}
use Rattle.search.specs.FirstPieces.{AllBlocked, IsBarred, IsFirst}
use Rattle.search.specs.declared.found.Found.{Found}
use Rattle.search.specs.declared.found.Found.TheVariants as found
use Rattle.cert_text.specs.declared.cert.Cert.{Cert}
use Rattle.cert_text.specs.declared.cert.Cert.TheVariants as cert
use Rattle.cert_text.specs.declared.cert.CertLine.{CertLine}
use Rattle.cert_text.specs.Certs.{IsNoGood}
use Rattle.play.specs.declared.event.Aside.{Aside}
use Rattle.play.specs.declared.event.Direction.{Direction}
use Rattle.play.specs.declared.event.Options.{Options}
use Rattle.play.specs.declared.event.Ticket.{Ticket}
use Rattle.play.specs.declared.event.VerdictKind.{VerdictKind}
use Rattle.play.specs.declared.event.VerdictKind.TheVariants as kind
use Rattle.play.specs.declared.ending.Ending.{Ending}
use Rattle.play.specs.declared.ending.Ending.TheVariants as ending
use Rattle.play.specs.declared.outcome.Cause.{Cause}
use Rattle.play.specs.declared.outcome.Cause.TheVariants as cause
use Rattle.play.specs.Parts.{Part, barring, piece_aside, piece_of, taken}
use Rattle.play.specs.Points.{IsBest, IsDirection, IsKept, choices_of}
use Rattle.play.specs.Lawful.{MayConclude}
use Rattle.play.specs.Steps.{drawn_in}
use Rattle.play.specs.Truth.{IsSoundCut, IsTrueToBest, starts_of}
use Rattle.play.specs.Certificates.{AreTrimmedLines, IsCertOf, cert_point, terms_from}
use Rattle.play.specs.Endings.{IsEnding, IsIdle, IsOut, IsStuck, aside_of}
use Rattle.play.proofs.Draws.{carried_standing}
use Rattle.play.proofs.Verdicts.{each_barred}
use Rattle.play.proofs.Choices.{choices_ascend, choices_named}
use Rattle.desk_part.specs.DeskParts.{EndingKeepsForm, IsCarried, IsOver, Learns, Shows}
use Rattle.desk_part.proofs.DrawLaws.{learns_carried}
use Rattle.desk_part.specs.Stuck.{IsBefore, IsBehind, IsLowest, IsStuckEnding, LowestUpto, ending_by, ending_of}

-- ---- what a part that a record leads to has

truth_of : (a : Instance) (o : Options) (d : Part) (h : IsCarried a o d) → IsTrueToBest a (drawn_in h.0) d
truth_of a o d h = (carried_standing a o h.0 d h.1).truth

pub passing_at : (a : Instance) (o : Options) (d e : Part) (slice : List Cut) → IsCarried a o e → d ≡ e → slice ≡ d.absorbed → All (Passes a) slice
passing_at a o d e slice h same is =
    let t = truth_of a o e h in
    subst (All (Passes a)) (ap (λ (x : Part). x.absorbed) (sym same) ∙ sym is) (All-weaker (IsSoundCut a e.best) (Passes a) (λ c s. s.0) e.absorbed t.cuts)

pub starts_at : (a : Instance) (o : Options) (d e : Part) (slice : List Cut) → IsCarried a o e → d ≡ e → slice ≡ d.absorbed → starts_of d.log ≡ map no_good_of slice
starts_at a o d e slice h same is =
    ap (λ (x : Part). starts_of x.log) same ∙ (truth_of a o e h).starts ∙ ap (λ (x : Part). barring x) (sym same) ∙ ap (λ l. map no_good_of l) (sym is)

pub named_at : (a : Instance) (o : Options) (d e : Part) → IsCarried a o e → d ≡ e → All (NamesPairs a) (no_goods d.log)
named_at a o d e h same = subst (λ (x : Part). All (NamesPairs a) (no_goods x.log)) (sym same) (truth_of a o e h).named

pub empty_at : (d e : Part) → Contains (no_goods e.log) [] → d ≡ e → Contains (no_goods d.log) []
empty_at d e h same = subst (λ (x : Part). Contains (no_goods x.log) []) (sym same) h

pub lines_at : {E : Type 0} (r : Result (List CertLine) E) (d e : Part) (slice : List Cut) → d ≡ e → slice ≡ d.absorbed → IfOk r (AreTrimmedLines slice d.log) → IfOk r (AreTrimmedLines e.absorbed e.log)
lines_at r d e slice same is h =
    subst (λ (x : Part). IfOk r (AreTrimmedLines x.absorbed x.log)) same (subst (λ l. IfOk r (AreTrimmedLines l d.log)) is h)

kept_point : (a : Instance) (o : Option Point) (q : Point) → IsBest a o → o ≡ Some q → IsPointOf a q
kept_point a None q h e = absurd (cc)
kept_point a (Some r) q h e =
    let same : r ≡ q = cc in
    subst (IsPointOf a) same h.of

pub best_point : (a : Instance) (o : Options) (e : Part) (q : Point) → IsCarried a o e → e.best ≡ Some q → IsPointOf a q
best_point a o e q h is = kept_point a e.best q (truth_of a o e h).best is

kept_direction : (a : Instance) (o : Option Direction) (x : Direction) → IsKept a o → o ≡ Some x → IsDirection a x
kept_direction a None x h e = absurd (cc)
kept_direction a (Some y) x h e =
    let same : y ≡ x = cc in
    subst (IsDirection a) same h

pub direction_at : (a : Instance) (o : Options) (e : Part) (x : Direction) → IsCarried a o e → e.unbounded ≡ Some x → IsDirection a x
direction_at a o e x h is = kept_direction a e.unbounded x (truth_of a o e h).unbounded is

pub may_conclude : (a : Instance) (o : Options) (e : Part) (v : VerdictKind) → IsCarried a o e → e.verdict ≡ Some v → MayConclude e v
may_conclude a o e v h is = (truth_of a o e h).concluded v is

-- ---- certificates

pub optimal_is : {E : Type 0} (r : Result Cert E) (e : Part) (q : Point) (lines : List CertLine) → e.best ≡ Some q → AreTrimmedLines e.absorbed e.log lines → IfOk r (λ c. c ≡ cert.Optimal (cert_point q) q.z lines) → IfOk r (IsCertOf e kind.Optimal)
optimal_is (Ok c) e q lines is made h =
    let P : Cert → Type 0 = λ x. IsCertOf e kind.Optimal x in
    subst P (sym h) (q, is, refl, refl, made)
optimal_is (Err x) e q lines is made h = h

pub unbounded_is : {E : Type 0} (r : Result Cert E) (e : Part) (x : Direction) → e.unbounded ≡ Some x → IfOk r (λ c. c ≡ cert.Unbounded (choices_of x.piece) (cert_point x.point) (terms_from 0 x.ray.r)) → IfOk r (IsCertOf e kind.Unbounded)
unbounded_is (Ok c) e x is h =
    let P : Cert → Type 0 = λ y. IsCertOf e kind.Unbounded y in
    subst P (sym h) (x, is, refl, refl, refl)
unbounded_is (Err y) e x is h = h

pub piece_keeps_form : (a : Instance) (sides : List Side) → length a.pairs ≤ 512 → IsPiece a sides → IsNoGood (choices_of sides)
piece_keeps_form a sides few size = record {
  ascending = choices_ascend sides;
  pairs_named = All-weaker (λ (c : Choice). c.pair < length a.pairs) (λ (c : Choice). c.pair < 512) (λ c below. omega (arith, below, few)) (choices_of sides) (choices_named a sides size);
}

pub z_small : (a : Instance) (q : Point) → IsCase a → IsPointOf a q → unsigned_abs q.z ≤ 2 ^ 126
z_small a q kept h =
    let n = a.columns in
    let costs : take n a.cost ≡ a.cost = take_all n a.cost (omega (arith, kept.cost_length)) in
    let numbers : take n q.x ≡ q.x = take_all n q.x (omega (arith, h.fits.numbers.size)) in
    let same : dot (take n a.cost) (take n q.x) ≡ q.z = ap (λ l. dot l (take n q.x)) costs ∙ ap (λ l. dot a.cost l) numbers ∙ sym h.cost in
    let small = cost_small a q.x n kept h.fits.numbers in
    omega (arith, small, ap unsigned_abs same)

-- ---- without a verdict

no_flight : (d : Part) (p : List Side) → d.flight ≡ [] → Contains (taken d) p → Contains (map piece_aside d.aside) p
no_flight d p e c =
    let P : List Ticket → Type 0 = λ l. Contains (map piece_of l ++ map piece_aside d.aside) p in
    subst P e c

none_some : {X : Type 0} {x : X} {o : Option X} → o ≡ None → o ≡ Some x → ⊥
none_some e f = cc

pub idle_of : (a : Instance) (o : Options) (d : Part) → d.verdict ≡ None → IsOver a o d → IsIdle d
idle_of a o d waiting (inl v) = absurd (none_some waiting v.1)
idle_of a o d waiting (inr x) = x.0

-- a piece that is left: all draws were made
pub left_out : (a : Instance) (o : Options) (d : Part) (left : List Side) → d.verdict ≡ None → IsOver a o d → IsFirst (length a.pairs) (barring d) (taken d) left → IsOut a o d left
left_out a o d left waiting (inl v) first = absurd (none_some waiting v.1)
left_out a o d left waiting (inr (idle, inl blocked)) first = absurd (elim (blocked.each left first.size) [
  | inl barred ↦ first.unbarred barred
  | inr lies ↦ first.free (Rattle.std.proofs.lemmas.List.Elements.Contains-append_right (map piece_of d.flight) (map piece_aside d.aside) left lies)
])
left_out a o d left waiting (inr (idle, inr out)) first =
    let T : List Ticket → Type 0 = λ l. IsFirst (length a.pairs) (barring d) (map piece_of l ++ map piece_aside d.aside) left in
    record { idle = idle; spent = out.1.spent; first = subst T idle.landed first }

-- every piece is barred: then there was a verdict
pub not_refuted : (a : Instance) (o : Options) (d : Part) → IsCarried a o d → d.verdict ≡ None → IsOver a o d → Contains (no_goods d.log) [] → ⊥
not_refuted a o d h waiting (inl v) empty = none_some waiting v.1
not_refuted a o d h waiting (inr (idle, inl blocked)) empty =
    let w = blocked.some in
    w.3 (each_barred a (drawn_in h.0) d (truth_of a o d h) empty w.0 w.1)
not_refuted a o d h waiting (inr (idle, inr out)) empty =
    out.1.first.unbarred (each_barred a (drawn_in h.0) d (truth_of a o d h) empty out.0 out.1.first.size)

-- learned steps change no ending of this kind
over_before : (a : Instance) (o : Options) (d m : Part) → m ≡ record d { log = m.log } → IsOver a o d → IsOver a o m
over_before a o d m same over =
    let there : IsOver a o (record d { log = m.log }) = again over in
    subst (IsOver a o) (sym same) there
  where
    again : IsOver a o d → IsOver a o (record d { log = m.log })
    again (inl v) = inl v
    again (inr (idle, inl blocked)) = inr (record { unconcluded = idle.unconcluded; landed = idle.landed }, inl blocked)
    again (inr (idle, inr out)) = inr (record { unconcluded = idle.unconcluded; landed = idle.landed }, inr (out.0, record { idle = record { unconcluded = out.1.idle.unconcluded; landed = out.1.idle.landed }; spent = out.1.spent; first = out.1.first }))

pub over_learned : (a : Instance) (o : Options) (d m : Part) → Learns a o d m → IsOver a o d → IsOver a o m
over_learned a o d m l over = over_before a o d m l.same over

pub waiting_learned : (a : Instance) (o : Options) (d m : Part) → Learns a o d m → d.verdict ≡ None → m.verdict ≡ None
waiting_learned a o d m l waiting = ap (λ (x : Part). x.verdict) l.same ∙ waiting

pub out_before : (a : Instance) (o : Options) (d m : Part) (left : List Side) → Learns a o d m → IsOut a o m left → IsOut a o d left
out_before a o d m left l out =
    let there : IsOut a o (record d { log = m.log }) left = subst (λ x. IsOut a o x left) l.same out in
    record { idle = record { unconcluded = there.idle.unconcluded; landed = there.idle.landed }; spent = there.spent; first = there.first }

pub pieces_ending : (a : Instance) (o : Options) (d m : Part) (left : List Side) (drawn : ℕ) → Learns a o d m → d.verdict ≡ None → IsOver a o d → Shows a m (found.Piece left) → drawn ≡ m.drawn → IsEnding a o d (ending.PiecesSpent drawn left)
pieces_ending a o d m left drawn l waiting over shows is =
    (is ∙ ap (λ (x : Part). x.drawn) l.same, out_before a o d m left l (left_out a o m left (waiting_learned a o d m l waiting) (over_learned a o d m l over) shows))

-- as the search shows it
pub refuted_not : (a : Instance) (o : Options) (d m : Part) (f : Found) → IsCarried a o d → d.verdict ≡ None → IsOver a o d → Learns a o d m → f ≡ found.Refuted → Shows a m f → ⊥
refuted_not a o d m f h waiting over l is shows = not_refuted a o m (learns_carried a o d m l h) (waiting_learned a o d m l waiting) (over_learned a o d m l over) (subst (Shows a m) is shows)

pub piece_ending_by : (a : Instance) (o : Options) (d m : Part) (f : Found) (left : List Side) (drawn : ℕ) → d.verdict ≡ None → IsOver a o d → Learns a o d m → f ≡ found.Piece left → Shows a m f → drawn ≡ m.drawn → IsEnding a o d (ending.PiecesSpent drawn left)
piece_ending_by a o d m f left drawn waiting over l is shows count = pieces_ending a o d m left drawn l waiting over (subst (Shows a m) is shows) count

pub blocked_by : (a : Instance) (m : Part) (f : Found) → f ≡ found.Blocked → Shows a m f → AllBlocked (length a.pairs) (barring m) (taken m)
blocked_by a m f is shows = subst (Shows a m) is shows

pub idle_learned : (a : Instance) (o : Options) (d m : Part) → d.verdict ≡ None → IsOver a o d → Learns a o d m → IsIdle m
idle_learned a o d m waiting over l = idle_of a o m (waiting_learned a o d m l waiting) (over_learned a o d m l over)

-- ---- the piece that the ending names

pub lowest_none : (ngs : List (List Choice)) (aside : List Aside) → LowestUpto ngs aside 0 None
lowest_none ngs aside k y below found = absurd (omega (arith, below))

in_aside : (aside : List Aside) (p : List Side) → Contains (map piece_aside aside) p → (x : Aside) × Contains aside x × (x.piece ≡ p)
in_aside aside p c = Rattle.play.proofs.ListLaws.from_map piece_aside aside p c

got : (aside : List Aside) (x : Aside) (c : Contains aside x) → slice_get aside c.0 ≡ Some x
got aside x c = Rattle.std.proofs.lemmas.Option.slice_get-get_or aside c.0 x c.1 ∙ ap (λ y. Some y) c.2

-- where a piece is set aside alone, one of them has the lowest ticket
pub some_lowest : (a : Instance) (d : Part) → IsIdle d → AllBlocked (length a.pairs) (barring d) (taken d) → LowestUpto (barring d) d.aside (length d.aside) None → ⊥
some_lowest a d idle blocked none =
    let w = blocked.some in
    let lies = in_aside d.aside w.0 (no_flight d w.0 idle.landed w.2) in
    w.3 (subst (IsBarred (barring d)) lies.2 (none lies.1.0 lies.0 lies.1.1 (got d.aside lies.0 lies.1)))

pub stuck_at : (a : Instance) (d : Part) (at : ℕ) → IsIdle d → AllBlocked (length a.pairs) (barring d) (taken d) → (h : IsLowest (barring d) d.aside (length d.aside) at) → IsStuck a d h.entry
stuck_at a d at idle blocked h = record {
  idle = idle;
  each = λ p size unbarred. elim (blocked.each p size) [
    | inl barred ↦ absurd (unbarred barred)
    | inr held ↦ no_flight d p idle.landed held
  ];
  among = (at, h.within, Rattle.std.proofs.lemmas.Option.get_or_from_slice_get d.aside at h.entry h.entry h.is_there);
  unbarred = h.unbarred;
  lowest = λ y c unbarred. h.lowest c.0 y c.1 (got d.aside y c) unbarred;
}

pub by_cause : (a : Instance) (d : Part) (ticket : ℕ) (piece : List Side) (why : Cause) → IsStuck a d (aside_of ticket piece why) → IsStuckEnding a d (ending_by piece why)
by_cause a d ticket piece (cause.Wide at) h = (ticket, h)
by_cause a d ticket piece (cause.Spent at) h = (ticket, h)

pub stuck_ending : (a : Instance) (d : Part) (at : ℕ) (x : Aside) (end : Ending) → IsIdle d → AllBlocked (length a.pairs) (barring d) (taken d) → IsLowest (barring d) d.aside (length d.aside) at → x ≡ Rattle.std.specs.Prelude.slice_index_or d.aside at x → end ≡ ending_of x → IsStuckEnding a d end
stuck_ending a d at x end idle blocked h read is =
    let same : h.entry ≡ x = sym (read ∙ Rattle.std.proofs.lemmas.Option.get_or_from_slice_get d.aside at h.entry x h.is_there) in
    let there : IsStuck a d (aside_of x.ticket x.piece x.cause) = subst (λ y. IsStuck a d (aside_of y.ticket y.piece y.cause)) same (stuck_at a d at idle blocked h) in
    subst (IsStuckEnding a d) (sym is) (by_cause a d x.ticket x.piece x.cause there)

-- as the code has it
pub stuck_none : (a : Instance) (d e : Part) (absorbed : List Cut) (aside : List Aside) → d ≡ e → absorbed ≡ d.absorbed → aside ≡ d.aside → IsIdle e → AllBlocked (length a.pairs) (barring e) (taken e) → LowestUpto (map no_good_of absorbed) aside (length aside) None → ⊥
stuck_none a d e absorbed aside same cuts_are asides_are idle blocked none =
    let P : List Cut → List Aside → Type 0 = λ x y. LowestUpto (map no_good_of x) y (length y) None in
    some_lowest a e idle blocked (subst (λ y. P e.absorbed y) (asides_are ∙ ap (λ (z : Part). z.aside) same) (subst (λ x. P x aside) (cuts_are ∙ ap (λ (z : Part). z.absorbed) same) none))

pub stuck_result : (a : Instance) (d e : Part) (absorbed : List Cut) (aside : List Aside) (at : ℕ) (x : Aside) (end : Ending) → d ≡ e → absorbed ≡ d.absorbed → aside ≡ d.aside → IsIdle e → AllBlocked (length a.pairs) (barring e) (taken e) → LowestUpto (map no_good_of absorbed) aside (length aside) (Some at) → x ≡ Rattle.std.specs.Prelude.slice_index_or d.aside at x → end ≡ ending_of x → IsStuckEnding a e end
stuck_result a d e absorbed aside at x end same cuts_are asides_are idle blocked found read is =
    let P : List Cut → List Aside → Type 0 = λ v y. LowestUpto (map no_good_of v) y (length y) (Some at) in
    stuck_ending a e at x end idle blocked (subst (λ y. P e.absorbed y) (asides_are ∙ ap (λ (z : Part). z.aside) same) (subst (λ v. P v aside) (cuts_are ∙ ap (λ (z : Part). z.absorbed) same) found))
    (read ∙ ap (λ (z : Part). Rattle.std.specs.Prelude.slice_index_or z.aside at x) same) is

stuck_again : (a : Instance) (d : Part) (log : List Step) (x : Aside) → IsStuck a (record d { log = log }) x → IsStuck a d x
stuck_again a d log x h = record { idle = record { unconcluded = h.idle.unconcluded; landed = h.idle.landed }; each = h.each; among = h.among; unbarred = h.unbarred; lowest = h.lowest }

pub is_ending : (a : Instance) (o : Options) (d : Part) (log : List Step) (end : Ending) → IsStuckEnding a (record d { log = log }) end → IsEnding a o d end
is_ending a o d log (ending.Verdict c n) h = absurd h
is_ending a o d log (ending.Overflow piece at) h = (h.0, stuck_again a d log (aside_of h.0 piece (cause.Wide at)) h.1)
is_ending a o d log (ending.PivotsSpent piece at) h = (h.0, stuck_again a d log (aside_of h.0 piece (cause.Spent at)) h.1)
is_ending a o d log (ending.PiecesSpent n l) h = absurd h
is_ending a o d log ending.NoMemory h = absurd h

pub stuck_is_ending : (a : Instance) (o : Options) (d m : Part) (end : Ending) → Learns a o d m → IsStuckEnding a m end → IsEnding a o d end
stuck_is_ending a o d m end l h = is_ending a o d m.log end (subst (λ x. IsStuckEnding a x end) l.same h)

pub stuck_keeps_form : (a : Instance) (m : Part) (end : Ending) → IsStuckEnding a m end → EndingKeepsForm end
stuck_keeps_form a m (ending.Verdict c n) h = absurd h
stuck_keeps_form a m (ending.Overflow piece at) h = tt
stuck_keeps_form a m (ending.PivotsSpent piece at) h = tt
stuck_keeps_form a m (ending.PiecesSpent n l) h = tt
stuck_keeps_form a m ending.NoMemory h = absurd h

-- ---- the better of two

pub barred_map : (cs : List Cut) (p : List Side) → Any (λ c. Bars (no_good_of c) p) cs → IsBarred (map no_good_of cs) p
barred_map cs p any = Rattle.play.proofs.ListLaws.any_of (λ ng. Bars ng p) (map no_good_of cs) (no_good_of any.1) (Rattle.play.proofs.ListLaws.in_map no_good_of cs any.1 (any.0, any.2, any.3)) any.4

pub map_barred : (cs : List Cut) (p : List Side) → IsBarred (map no_good_of cs) p → Any (λ c. Bars (no_good_of c) p) cs
map_barred cs p any =
    let from = Rattle.play.proofs.ListLaws.from_map no_good_of cs any.1 (any.0, any.2, any.3) in
    Rattle.play.proofs.ListLaws.any_of (λ c. Bars (no_good_of c) p) cs from.0 from.1 (subst (λ ng. Bars ng p) (sym from.2) any.4)

entry_at : (aside : List Aside) (at : ℕ) (x y : Aside) → x ≡ Rattle.std.specs.Prelude.slice_index_or aside at x → at < length aside → slice_get aside at ≡ Some y → y ≡ x
entry_at aside at x y read inside found = sym (read ∙ Rattle.std.proofs.lemmas.Option.get_or_from_slice_get aside at y x found)

pub lowest_stays : (cs : List Cut) (aside : List Aside) (best : Option ℕ) (at : ℕ) → IsBehind aside best at → LowestUpto (map no_good_of cs) aside at best → LowestUpto (map no_good_of cs) aside (at + 1) best
lowest_stays cs aside None at behind h = absurd behind
lowest_stays cs aside (Some best) at behind h = record {
  entry = h.entry;
  within = omega (arith, h.within);
  is_there = h.is_there;
  unbarred = h.unbarred;
  lowest = λ k y below found unbarred. elim (Rattle.std.proofs.lemmas.Bool.cases_lt k at) [
    | inl before ↦ h.lowest k y before found unbarred
    | inr past ↦
        let last : k ≡ at = omega (arith, past, below) in
        behind h.entry y h.is_there (subst (λ i. slice_get aside i ≡ Some y) last found)
  ];
}

pub behind_at : (aside : List Aside) (best at : ℕ) (b x : Aside) → best < length aside → at < length aside → b ≡ Rattle.std.specs.Prelude.slice_index_or aside best b → x ≡ Rattle.std.specs.Prelude.slice_index_or aside at x → b.ticket ≤ x.ticket → IsBehind aside (Some best) at
behind_at aside best at b x in_b in_x read_b read_x le c y found_c found_y =
    omega (arith, le, ap (λ (z : Aside). z.ticket) (entry_at aside best b c read_b in_b found_c), ap (λ (z : Aside). z.ticket) (entry_at aside at x y read_x in_x found_y))

pub before_at : (aside : List Aside) (best at : ℕ) (b x : Aside) → best < length aside → at < length aside → b ≡ Rattle.std.specs.Prelude.slice_index_or aside best b → x ≡ Rattle.std.specs.Prelude.slice_index_or aside at x → x.ticket ≤ b.ticket → IsBefore aside (Some best) at
before_at aside best at b x in_b in_x read_b read_x le c y found_c found_y =
    omega (arith, le, ap (λ (z : Aside). z.ticket) (entry_at aside best b c read_b in_b found_c), ap (λ (z : Aside). z.ticket) (entry_at aside at x y read_x in_x found_y))

pub best_inside : (ngs : List (List Choice)) (aside : List Aside) (best : Option ℕ) (at : ℕ) → at < length aside → LowestUpto ngs aside at best → Rattle.std.specs.Prelude.IfSome best (λ i. i < length aside)
best_inside ngs aside None at inside h = tt
best_inside ngs aside (Some i) at inside h = omega (arith, h.within, inside)

pub barred_stays : (cs : List Cut) (aside : List Aside) (best : Option ℕ) (at : ℕ) (x : Aside) → at < length aside → x ≡ Rattle.std.specs.Prelude.slice_index_or aside at x → Any (λ c. Bars (no_good_of c) x.piece) cs → LowestUpto (map no_good_of cs) aside at best → LowestUpto (map no_good_of cs) aside (at + 1) best
barred_stays cs aside None at x inside read any h = λ k y below found. elim (Rattle.std.proofs.lemmas.Bool.cases_lt k at) [
  | inl before ↦ h k y before found
  | inr past ↦
      let last : k ≡ at = omega (arith, past, below) in
      let here_it : y ≡ x = entry_at aside at x y read inside (subst (λ i. slice_get aside i ≡ Some y) last found) in
      subst (λ (z : Aside). IsBarred (map no_good_of cs) z.piece) (sym here_it) (barred_map cs x.piece any)
]
barred_stays cs aside (Some best) at x inside read any h = record {
  entry = h.entry;
  within = omega (arith, h.within);
  is_there = h.is_there;
  unbarred = h.unbarred;
  lowest = λ k y below found unbarred. elim (Rattle.std.proofs.lemmas.Bool.cases_lt k at) [
    | inl before ↦ h.lowest k y before found unbarred
    | inr past ↦
        let last : k ≡ at = omega (arith, past, below) in
        let here_it : y ≡ x = entry_at aside at x y read inside (subst (λ i. slice_get aside i ≡ Some y) last found) in
        absurd (unbarred (subst (λ (z : Aside). IsBarred (map no_good_of cs) z.piece) (sym here_it) (barred_map cs x.piece any)))
  ];
}

-- this one is the lowest so far: there is none before, or its ticket is above
pub lowest_new : (cs : List Cut) (aside : List Aside) (best : Option ℕ) (at : ℕ) (x : Aside) → at < length aside → x ≡ Rattle.std.specs.Prelude.slice_index_or aside at x → ¬ (Any (λ c. Bars (no_good_of c) x.piece) cs) → IsBefore aside best at → LowestUpto (map no_good_of cs) aside at best → LowestUpto (map no_good_of cs) aside (at + 1) (Some at)
lowest_new cs aside best at x inside read none lower h = record {
  entry = x;
  within = omega arith;
  is_there = Rattle.std.proofs.lemmas.Option.slice_get-get_or aside at x inside ∙ ap (λ y. Some y) (sym read);
  unbarred = λ barred. none (map_barred cs x.piece barred);
  lowest = λ k y below found unbarred. elim (Rattle.std.proofs.lemmas.Bool.cases_lt k at) [
    | inl before ↦ earlier best k y before found unbarred lower h
    | inr past ↦
        let last : k ≡ at = omega (arith, past, below) in
        let here_it : y ≡ x = entry_at aside at x y read inside (subst (λ i. slice_get aside i ≡ Some y) last found) in
        omega (arith, ap (λ (z : Aside). z.ticket) here_it)
  ];
}
  where
    earlier : (best : Option ℕ) (k : ℕ) (y : Aside) → k < at → slice_get aside k ≡ Some y → ¬ (IsBarred (map no_good_of cs) y.piece) → IsBefore aside best at → LowestUpto (map no_good_of cs) aside at best → x.ticket ≤ y.ticket
    earlier None k y before found unbarred lower h = absurd (unbarred (h k y before found))
    earlier (Some i) k y before found unbarred lower h = omega (arith, lower h.entry x h.is_there (Rattle.std.proofs.lemmas.Option.slice_get-get_or aside at x inside ∙ ap (λ z. Some z) (sym read)), h.lowest k y before found unbarred)
