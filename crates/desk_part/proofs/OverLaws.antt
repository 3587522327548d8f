-- A part is over exactly where it has an ending.
use Rattle.std.proofs.Common.{inl, inr, ℕ, zero, suc, ◌+◌, ◌<◌, ◌≤◌, ◌≡◌, refl, sym, ap, ◌∙◌, subst, arith, nat_lt, List, [], ◌∷◌, ◌++◌, length, map, Option, Some, None}
use Rattle.std.specs.Prelude.{◌⊎◌, ◌↔◌, Any, Contains, IsTrue, slice_get, slice_index_or}
use Rattle.std.proofs.lemmas.Bool.{and_from, cases_lt, lt-ltb}
use Rattle.std.proofs.lemmas.List.Elements.{All-cons, All-head, All-nil, All-tail}
use Rattle.std.proofs.lemmas.Option.{get_or_from_slice_get, slice_get_within}
use Rattle.lp_base.specs.Ascending.{ascends_by}
use Rattle.nogoods.specs.declared.choice.Choice.{Choice}
use Rattle.nogoods.specs.declared.choice.Side.{Side}
use Rattle.nogoods.specs.declared.choice.Side.TheVariants.{A, B}
use Rattle.nogoods.specs.Pieces.{Bars, IsChoiceOf}
use Rattle.lpcc_case.specs.Instance.{Instance}
use Rattle.lpcc_case.specs.Pieces.{IsPiece}
use Rattle.cuts.specs.declared.cut.Cut.{Cut}
use Rattle.cuts.specs.Cuts.{no_good_of}
use Rattle.derivation.specs.declared.step.Step.{Step}
use Rattle.derivation.specs.Logs.{IsLog, no_goods}
use Rattle.search.specs.FirstPieces.{AllBlocked, IsBarred}
use Rattle.trimming.specs.Trimmed.{AreReached, IsPath, IsReached, hints_of, step_at}
use Rattle.trimming.proofs.PathLaws.{hint_below, path_below, path_more}
use Rattle.cert_text.specs.declared.cert.Cert.TheVariants as cert
use Rattle.cert_text.specs.declared.cert.CertLine.{CertLine}
use Rattle.play.specs.declared.event.Aside.{Aside}
use Rattle.play.specs.declared.event.Event.{Event}
use Rattle.play.specs.declared.event.Event.TheVariants.{Publish, Read, Offer, Draw, Absorb, Learn, Settle, Conclude}
use Rattle.play.specs.declared.event.Options.{Options}
use Rattle.play.specs.declared.event.Ticket.{Ticket}
use Rattle.play.specs.declared.event.VerdictKind.{VerdictKind}
use Rattle.play.specs.declared.event.VerdictKind.TheVariants as kind
use Rattle.play.specs.declared.ending.Ending.{Ending}
use Rattle.play.specs.declared.ending.Ending.TheVariants as ending
use Rattle.play.specs.declared.outcome.Cause.{Cause}
use Rattle.play.specs.declared.outcome.Cause.TheVariants as cause
use Rattle.play.specs.declared.outcome.Outcome.{Outcome}
use Rattle.play.specs.declared.outcome.Outcome.TheVariants as outcome
use Rattle.play.specs.Parts.{Part, barring, flight_of, piece_aside, piece_of, start, taken}
use Rattle.play.specs.Points.{choices_of}
use Rattle.play.specs.Steps.{after, draw, land, set_aside, settle, take_open, take_outcome}
use Rattle.play.specs.Lawful.{MayConclude}
use Rattle.play.specs.Records.{Carries, IsNext, Leads}
use Rattle.play.specs.Certificates.{AreTrimmedLines, cert_point, line_at, terms_from}
use Rattle.play.specs.Endings.{IsEnding, IsIdle, IsStuck, aside_of}
use Rattle.play.proofs.Draws.{carried_standing}
use Rattle.play.proofs.ListLaws.{any_of, front_or_rest, here, in_map, in_map_cases, there}
use Rattle.play.proofs.Verdicts.{not_none}
use Rattle.desk_part.specs.DeskParts.{IsOver}
use Rattle.desk_part.specs.Stuck.{IsBefore, IsBehind, LowestUpto, ending_of}
use Rattle.desk_part.proofs.CloseLaws.{barred_map, barred_stays, by_cause, is_ending, lowest_new, lowest_none, lowest_stays, map_barred, some_lowest, stuck_at}
use Rattle.desk_part.proofs.SearchLaws.{flies, lies, piece_flies, taken_cases, was_there}

-- ---- tests that are decided

same_side : (s t : Side) → (s ≡ t) ⊎ ¬ (s ≡ t)
same_side A A = inl refl
same_side A B = inr (λ e. cc)
same_side B A = inr (λ e. cc)
same_side B B = inl refl

is_side : (o : Option Side) (s : Side) → (o ≡ Some s) ⊎ ¬ (o ≡ Some s)
is_side None s = inr (λ e. cc)
is_side (Some t) s = elim (same_side t s) [
  | inl e ↦ inl (ap (λ u. Some u) e)
  | inr apart ↦ inr (λ e. apart (some_same t s e))
]
  where
    some_same : (t s : Side) → Some t ≡ Some s → t ≡ s
    some_same t s e = cc

does_bar : (ng : List Choice) (p : List Side) → Bars ng p ⊎ ¬ (Bars ng p)
does_bar [] p = inl (All-nil (IsChoiceOf p))
does_bar (c ∷ ng) p = elim (is_side (slice_get p c.pair) c.side) [
  | inr apart ↦ inr (λ all. apart (All-head (IsChoiceOf p) c ng all))
  | inl is ↦ elim (does_bar ng p) [
    | inl rest ↦ inl (All-cons (IsChoiceOf p) c ng is rest)
    | inr not ↦ inr (λ all. not (All-tail (IsChoiceOf p) c ng all))
  ]
]

any_back : (P : List Choice → Type 0) (x : List Choice) (xs : List (List Choice)) → Any P (x ∷ xs) → P x ⊎ Any P xs
any_back P x xs any = elim (front_or_rest x xs any.1 (any.0, any.2, any.3)) [
  | inl same ↦ inl (subst P (sym same) any.4)
  | inr later ↦ inr (any_of P xs any.1 later any.4)
]

is_barred : (ngs : List (List Choice)) (p : List Side) → IsBarred ngs p ⊎ ¬ (IsBarred ngs p)
is_barred [] p = inr (λ any. absurd (omega (arith, any.2)))
is_barred (ng ∷ ngs) p = elim (does_bar ng p) [
  | inl bars ↦ inl (any_of (λ n. Bars n p) (ng ∷ ngs) ng (here ng ngs) bars)
  | inr not ↦ elim (is_barred ngs p) [
    | inl rest ↦ inl (any_of (λ n. Bars n p) (ng ∷ ngs) rest.1 (there ng ngs rest.1 (rest.0, rest.2, rest.3)) rest.4)
    | inr none ↦ inr (λ any. elim (any_back (λ n. Bars n p) ng ngs any) [
      | inl first ↦ not first
      | inr later ↦ none later
    ])
  ]
]

is_in : (xs : List ℕ) (k : ℕ) → Contains xs k ⊎ ¬ (Contains xs k)
is_in [] k = inr (λ c. absurd (omega (arith, c.1)))
is_in (x ∷ xs) k = elim (cases_lt x k) [
  | inl below ↦ elim (is_in xs k) [
    | inl rest ↦ inl (there x xs k rest)
    | inr none ↦ inr (λ c. elim (front_or_rest x xs k c) [
      | inl e ↦ absurd (omega (arith, below, e))
      | inr later ↦ none later
    ])
  ]
  | inr past ↦ elim (cases_lt k x) [
    | inl above ↦ elim (is_in xs k) [
      | inl rest ↦ inl (there x xs k rest)
      | inr none ↦ inr (λ c. elim (front_or_rest x xs k c) [
        | inl e ↦ absurd (omega (arith, above, e))
        | inr later ↦ none later
      ])
    ]
    | inr up ↦
        let same : x ≡ k = omega (arith, past, up) in
        inl (subst (λ y. Contains (x ∷ xs) y) same (here x xs))
  ]
]

-- ---- the steps that the first empty step reaches are there

-- a step among these has the hint
abbrev Points : List Step → List ℕ → ℕ → Type 0
Points log places k = (j : ℕ) × Contains places j × Contains (hints_of (step_at log j)) k

points : (log : List Step) (places : List ℕ) (k : ℕ) → Points log places k ⊎ ¬ (Points log places k)
points log [] k = inr (λ x. absurd (omega (arith, x.1.1)))
points log (p ∷ places) k = elim (is_in (hints_of (step_at log p)) k) [
  | inl has ↦ inl (p, here p places, has)
  | inr not ↦ elim (points log places k) [
    | inl rest ↦ inl (rest.0, there p places rest.0 rest.1, rest.2)
    | inr none ↦ inr (λ x. elim (front_or_rest p places x.0 x.1) [
      | inl same ↦ not (subst (λ j. Contains (hints_of (step_at log j)) k) (sym same) x.2)
      | inr later ↦ none (x.0, later, x.2)
    ])
  ]
]

-- the last hint of a path
last_hint : (log : List Step) (e : ℕ) (path : List ℕ) (k : ℕ) → IsPath log e path k → (e ≡ k) ⊎ ((j : ℕ) × IsReached log e j × Contains (hints_of (step_at log j)) k)
last_hint log e [] k p = inl p
last_hint log e (h ∷ path) k p = elim (last_hint log h path k p.1) [
  | inl same ↦ inr (e, ([], refl), subst (λ j. Contains (hints_of (step_at log e)) j) same p.0)
  | inr more ↦ inr (more.0, (h ∷ more.1.0, (p.0, more.1.1)), more.2)
]

-- the steps from number i on that step e reaches
record AreFrom (log : List Step) (e i : ℕ) (places : List ℕ) : Type 0 where
  ascending : IsTrue (ascends_by (λ k. k) places)
  least : (k : ℕ) → Contains places k → i ≤ k
  sound : (k : ℕ) → Contains places k → IsReached log e k
  complete : (k : ℕ) → i ≤ k → IsReached log e k → Contains places k

up_cons : (i : ℕ) (places : List ℕ) → ((k : ℕ) → Contains places k → i + 1 ≤ k) → IsTrue (ascends_by (λ k. k) places) → IsTrue (ascends_by (λ k. k) (i ∷ places))
up_cons i [] least up = refl
up_cons i (y ∷ ys) least up = and_from (nat_lt i y) (ascends_by (λ k. k) (y ∷ ys)) (lt-ltb i y (omega (arith, least y (here y ys)))) up

from_here : (log : List Step) (e : ℕ) → IsLog log → e < length log → AreFrom log e e (e ∷ [])
from_here log e is inside = record {
  ascending = refl;
  least = λ k c. omega (arith, only k c);
  sound = λ k c. ([], sym (only k c));
  complete = λ k le r. subst (λ j. Contains (e ∷ []) j) (sym (same k le r)) (here e []);
}
  where
    only : (k : ℕ) → Contains (e ∷ []) k → k ≡ e
    only k c = elim (front_or_rest e [] k c) [
      | inl same ↦ sym same
      | inr none ↦ absurd (omega (arith, none.1))
    ]

    same : (k : ℕ) → e ≤ k → IsReached log e k → k ≡ e
    same k le r = omega (arith, le, path_below log e r.0 k is inside r.1)

all_from : (log : List Step) (e : ℕ) → IsLog log → e < length log → (n i : ℕ) → i + n ≡ e → (places : List ℕ) × AreFrom log e i places
all_from log e is inside zero i same =
    let at : e ≡ i = omega (arith, same) in
    (e ∷ [], subst (λ j. AreFrom log e j (e ∷ [])) at (from_here log e is inside))
all_from log e is inside (suc n) i same =
    let rest = all_from log e is inside n (i + 1) (omega (arith, same)) in
    elim (points log rest.0 i) [
      | inl hinted ↦ (i ∷ rest.0, with_it rest.0 rest.1 hinted)
      | inr none ↦ (rest.0, without_it rest.0 rest.1 none)
    ]
  where
    above : (j k : ℕ) → IsReached log e j → Contains (hints_of (step_at log j)) k → k < j
    above j k r c = hint_below log j k is (omega (arith, path_below log e r.0 j is inside r.1, inside)) c

    with_it : (places : List ℕ) → AreFrom log e (i + 1) places → Points log places i → AreFrom log e i (i ∷ places)
    with_it places h x = record {
      ascending = up_cons i places h.least h.ascending;
      least = λ k c. elim (front_or_rest i places k c) [
        | inl at ↦ omega (arith, at)
        | inr later ↦ omega (arith, h.least k later)
      ];
      sound = λ k c. elim (front_or_rest i places k c) [
        | inl at ↦
            let r = h.sound x.0 x.1 in
            subst (λ j. IsReached log e j) at (r.0 ++ i ∷ [], path_more log e r.0 x.0 i r.1 x.2)
        | inr later ↦ h.sound k later
      ];
      complete = λ k le r. elim (cases_lt i k) [
        | inl below ↦ there i places k (h.complete k (omega (arith, below)) r)
        | inr past ↦
            let at : i ≡ k = omega (arith, le, past) in
            subst (λ j. Contains (i ∷ places) j) at (here i places)
      ];
    }

    without_it : (places : List ℕ) → AreFrom log e (i + 1) places → ¬ (Points log places i) → AreFrom log e i places
    without_it places h none = record {
      ascending = h.ascending;
      least = λ k c. omega (arith, h.least k c);
      sound = h.sound;
      complete = λ k le r. elim (cases_lt i k) [
        | inl below ↦ h.complete k (omega (arith, below)) r
        | inr past ↦
            let at : k ≡ i = omega (arith, le, past) in
            elim (last_hint log e r.0 k r.1) [
              | inl first ↦ absurd (omega (arith, first, at, same))
              | inr last ↦ absurd (none (last.0, h.complete last.0 (omega (arith, above last.0 k last.1 last.2, at)) last.1, subst (λ j. Contains (hints_of (step_at log last.0)) j) at last.2))
            ]
      ];
    }

first_empty : (ngs : List (List Choice)) → Contains ngs [] → (e : ℕ) × (slice_get ngs e ≡ Some []) × ((k : ℕ) → k < e → slice_get ngs k ≡ Some [] → ⊥)
first_empty [] c = absurd (omega (arith, c.1))
first_empty ([] ∷ ngs) c = (0, refl, λ k below found. absurd (omega (arith, below)))
first_empty ((x ∷ xs) ∷ ngs) c =
    let rest = first_empty ngs (later c) in
    (suc rest.0, rest.1, λ k below found. earlier rest.0 rest.2 k below found)
  where
    later : Contains ((x ∷ xs) ∷ ngs) [] → Contains ngs []
    later c = elim (front_or_rest (x ∷ xs) ngs [] c) [
      | inl same ↦ absurd (cc)
      | inr rest ↦ rest
    ]

    earlier : (e : ℕ) → ((k : ℕ) → k < e → slice_get ngs k ≡ Some [] → ⊥) → (k : ℕ) → k < suc e → slice_get ((x ∷ xs) ∷ ngs) k ≡ Some [] → ⊥
    earlier e none zero below found = cc
    earlier e none (suc k) below found = none k (omega (arith, below)) found

reached_there : (log : List Step) → IsLog log → Contains (no_goods log) [] → (places : List ℕ) × AreReached log places
reached_there log is c =
    let first = first_empty (no_goods log) c in
    let inside : first.0 < length log = omega (arith, slice_get_within (no_goods log) first.0 [] first.1, Rattle.std.proofs.lemmas.List.length-map log Rattle.derivation.specs.Logs.no_good_of) in
    let from = all_from log first.0 is inside first.0 0 (omega arith) in (
      from.0,
      record {
        first = first.0;
        empty = record { empty = first.1; first = first.2 };
        ascending = from.1.ascending;
        reached = λ k. (from.1.sound k, λ r. from.1.complete k (omega arith) r);
      },
    )

lines_there : (d : Part) → IsLog d.log → Contains (no_goods d.log) [] → (lines : List CertLine) × AreTrimmedLines d.absorbed d.log lines
lines_there d is c =
    let r = reached_there d.log is c in
    (map (line_at d.absorbed d.log r.0) r.0, record { places = r.0; kept = r.1; made = refl })

-- ---- an ending

verdict_ends : (a : Instance) (o : Options) (d : Part) (v : VerdictKind) → IsLog d.log → d.verdict ≡ Some v → MayConclude d v → (end : Ending) × IsEnding a o d end
verdict_ends a o d kind.Optimal is has may =
    let best = not_none d.best may.1 in
    let lines = lines_there d is may.0 in
    (ending.Verdict (cert.Optimal (cert_point best.0) best.0.z lines.0) d.drawn, (kind.Optimal, has, (best.0, best.1, refl, refl, lines.1), refl))
verdict_ends a o d kind.Infeasible is has may =
    let lines = lines_there d is may.0 in
    (ending.Verdict (cert.Infeasible lines.0) d.drawn, (kind.Infeasible, has, (may.1, lines.1), refl))
verdict_ends a o d kind.Unbounded is has may =
    let kept = not_none d.unbounded may in
    (ending.Verdict (cert.Unbounded (choices_of kept.0.piece) (cert_point kept.0.point) (terms_from 0 kept.0.ray.r)) d.drawn, (kind.Unbounded, has, (kept.0, kept.1, refl, refl, refl), refl))

entry_of : (aside : List Aside) (n : ℕ) → n < length aside → (x : Aside) × (slice_get aside n ≡ Some x)
entry_of [] n inside = absurd (omega (arith, inside))
entry_of (x ∷ aside) zero inside = (x, refl)
entry_of (x ∷ aside) (suc n) inside = entry_of aside n (omega (arith, inside))

order_of : (ngs : List (List Choice)) (aside : List Aside) (best : Option ℕ) (n : ℕ) (x : Aside) → slice_get aside n ≡ Some x → LowestUpto ngs aside n best → IsBehind aside best n ⊎ IsBefore aside best n
order_of ngs aside None n x found h = inr tt
order_of ngs aside (Some i) n x found h = elim (cases_lt x.ticket h.entry.ticket) [
  | inl below ↦ inr (λ b y found_b found_y. omega (arith, below, ap (λ (z : Aside). z.ticket) (one b h.entry (sym found_b ∙ h.is_there)), ap (λ (z : Aside). z.ticket) (one y x (sym found_y ∙ found))))
  | inr past ↦ inl (λ b y found_b found_y. omega (arith, past, ap (λ (z : Aside). z.ticket) (one b h.entry (sym found_b ∙ h.is_there)), ap (λ (z : Aside). z.ticket) (one y x (sym found_y ∙ found))))
]
  where
    one : (y z : Aside) → Some y ≡ Some z → y ≡ z
    one y z e = cc

lowest_there : (cs : List Cut) (aside : List Aside) (n : ℕ) → n ≤ length aside → (best : Option ℕ) × LowestUpto (map no_good_of cs) aside n best
lowest_there cs aside zero few = (None, lowest_none (map no_good_of cs) aside)
lowest_there cs aside (suc n) few =
    let before = lowest_there cs aside n (omega (arith, few)) in
    let inside : n < length aside = omega (arith, few) in
    let entry = entry_of aside n inside in
    let read : entry.0 ≡ slice_index_or aside n entry.0 = sym (get_or_from_slice_get aside n entry.0 entry.0 entry.1) in
    let next : n + 1 ≡ suc n = omega arith in
    elim (order_of (map no_good_of cs) aside before.0 n entry.0 entry.1 before.1) [
      | inl behind ↦ (before.0, subst (λ m. LowestUpto (map no_good_of cs) aside m before.0) next (lowest_stays cs aside before.0 n behind before.1))
      | inr lower ↦ elim (is_barred (map no_good_of cs) entry.0.piece) [
        | inl barred ↦ (before.0, subst (λ m. LowestUpto (map no_good_of cs) aside m before.0) next (barred_stays cs aside before.0 n entry.0 inside read (map_barred cs entry.0.piece barred) before.1))
        | inr free ↦ (Some n, subst (λ m. LowestUpto (map no_good_of cs) aside m (Some n)) next (lowest_new cs aside before.0 n entry.0 inside read (λ any. free (barred_map cs entry.0.piece any)) lower before.1))
      ]
    ]

stuck_ends : (a : Instance) (o : Options) (d : Part) (best : Option ℕ) → IsIdle d → AllBlocked (length a.pairs) (barring d) (taken d) → LowestUpto (barring d) d.aside (length d.aside) best → (end : Ending) × IsEnding a o d end
stuck_ends a o d None idle blocked none = absurd (some_lowest a d idle blocked none)
stuck_ends a o d (Some at) idle blocked h =
    let x = h.entry in
    (ending_of x, is_ending a o d d.log (ending_of x) (by_cause a d x.ticket x.piece x.cause (stuck_at a d at idle blocked h)))

blocked_taken : (a : Instance) (d : Part) → IsIdle d → AllBlocked (length a.pairs) (barring d) (map piece_aside d.aside) → AllBlocked (length a.pairs) (barring d) (taken d)
blocked_taken a d idle blocked =
    let T : List Ticket → Type 0 = λ l. AllBlocked (length a.pairs) (barring d) (map piece_of l ++ map piece_aside d.aside) in
    subst T (sym idle.landed) blocked

pub over_ends : (a : Instance) (o : Options) (xs : List Event) (d : Part) → Carries a o xs d → IsOver a o d → (end : Ending) × IsEnding a o d end
over_ends a o xs d carries (inl v) =
    let truth = (carried_standing a o xs d carries).truth in
    verdict_ends a o d v.0 truth.log v.1 (truth.concluded v.0 v.1)
over_ends a o xs d carries (inr (idle, inl blocked)) =
    let lowest = lowest_there d.absorbed d.aside (length d.aside) (omega arith) in
    stuck_ends a o d lowest.0 idle (blocked_taken a d idle blocked) lowest.1
over_ends a o xs d carries (inr (idle, inr out)) = (ending.PiecesSpent d.drawn out.0, (refl, out.1))

-- ---- pieces that are taken are pieces of the instance

abbrev AreSized : Instance → Part → Type 0
AreSized a d = (p : List Side) → Contains (taken d) p → IsPiece a p

sized_draw : (a : Instance) (d : Part) (t : Ticket) → IsPiece a t.piece → AreSized a d → AreSized a (draw t d)
sized_draw a d t size h p c = elim (taken_cases (draw t d) p c) [
  | inr lying ↦ h p (lies d p lying)
  | inl flying ↦ elim (in_map_cases piece_of d.flight t p flying) [
    | inl front ↦ h p (flies d p front)
    | inr same ↦ subst (IsPiece a) same size
  ]
]

sized_aside : (a : Instance) (d : Part) (t : Ticket) (why : Cause) → IsPiece a t.piece → AreSized a d → AreSized a (set_aside t why d)
sized_aside a d t why size h p c = elim (taken_cases (set_aside t why d) p c) [
  | inl flying ↦ h p (flies d p flying)
  | inr lying ↦ elim (in_map_cases piece_aside d.aside (record { ticket = t.number; piece = t.piece; cause = why }) p lying) [
    | inl front ↦ h p (lies d p front)
    | inr same ↦ subst (IsPiece a) same size
  ]
]

sized_outcome : (a : Instance) (d : Part) (t : Ticket) (what : Outcome) → IsPiece a t.piece → AreSized a d → AreSized a (take_outcome t what d)
sized_outcome a d t (outcome.Cut c kept best) size h = h
sized_outcome a d t (outcome.Barred lane place c best) size h = h
sized_outcome a d t (outcome.Unbounded point ray) size h = h
sized_outcome a d t (outcome.Wide at) size h = sized_aside a d t (cause.Wide at) size h
sized_outcome a d t (outcome.Spent at) size h = sized_aside a d t (cause.Spent at) size h

sized_open : (a : Instance) (d : Part) (v : Option VerdictKind) (t : Ticket) (what : Outcome) → IsPiece a t.piece → AreSized a d → AreSized a (take_open v t what d)
sized_open a d None t what size h = sized_outcome a d t what size h
sized_open a d (Some v) t what size h = h

sized_land : (a : Instance) (d : Part) (number : ℕ) → AreSized a d → AreSized a (land number d)
sized_land a d number h p c = elim (taken_cases (land number d) p c) [
  | inl flying ↦ h p (flies d p (was_there number d.flight p flying))
  | inr lying ↦ h p (lies d p lying)
]

sized_settle : (a : Instance) (d : Part) (number : ℕ) (found : Option Ticket) (what : Outcome) → flight_of number d.flight ≡ found → AreSized a d → AreSized a (settle found what d)
sized_settle a d number None what e h = h
sized_settle a d number (Some t) what e h = sized_land a (take_open d.verdict t what d) t.number (sized_open a d d.verdict t what (h t.piece (piece_flies d number t e)) h)

sized_next : (a : Instance) (o : Options) (d : Part) (x : Event) → IsNext a o d x → AreSized a d → AreSized a (after x d)
sized_next a o d (Publish lane c) n h = h
sized_next a o d (Read worker lane place) n h = h
sized_next a o d (Offer worker point) n h = h
sized_next a o d (Draw worker number piece) n h = sized_draw a d (record { worker = worker; number = number; piece = piece }) n.lawful.fits.1 h
sized_next a o d (Absorb c) n h = h
sized_next a o d (Learn ng hints) n h = h
sized_next a o d (Settle worker number what) n h = sized_settle a d number (flight_of number d.flight) what refl h
sized_next a o d (Conclude v) n h = h

sized_leads : (a : Instance) (o : Options) (d : Part) (xs : List Event) (e : Part) → Leads a o d xs e → AreSized a d → AreSized a e
sized_leads a o d [] e leads h = subst (AreSized a) leads h
sized_leads a o d (x ∷ xs) e leads h = sized_leads a o (after x d) xs e leads.1 (sized_next a o d x leads.0 h)

sized_start : (a : Instance) → AreSized a start
sized_start a p c = absurd (omega (arith, c.1))

-- ---- a part with an ending is over

stuck_over : (a : Instance) (o : Options) (d : Part) (x : Aside) → AreSized a d → IsStuck a d x → IsOver a o d
stuck_over a o d x sized s =
    let lying : Contains (map piece_aside d.aside) x.piece = in_map piece_aside d.aside x s.among in
    inr (
      s.idle,
      inl (record {
        each = λ p size. elim (is_barred (barring d) p) [
          | inl barred ↦ inl barred
          | inr free ↦ inr (s.each p size free)
        ];
        some = (x.piece, sized x.piece (lies d x.piece lying), lying, s.unbarred);
      }),
    )

ends_over : (a : Instance) (o : Options) (d : Part) (end : Ending) → AreSized a d → IsEnding a o d end → IsOver a o d
ends_over a o d (ending.Verdict c n) sized h = inl (h.0, h.1)
ends_over a o d (ending.Overflow piece at) sized h = stuck_over a o d (aside_of h.0 piece (cause.Wide at)) sized h.1
ends_over a o d (ending.PivotsSpent piece at) sized h = stuck_over a o d (aside_of h.0 piece (cause.Spent at)) sized h.1
ends_over a o d (ending.PiecesSpent n left) sized h = inr (h.1.idle, inr (left, h.1))
ends_over a o d ending.NoMemory sized h = absurd h

pub over_exactly : (a : Instance) (o : Options) (xs : List Event) (d : Part) → Carries a o xs d → IsOver a o d ↔ ((end : Ending) × IsEnding a o d end)
over_exactly a o xs d carries = (over_ends a o xs d carries, λ x. ends_over a o d x.0 (sized_leads a o start xs d carries (sized_start a)) x.1)
