-- What the changes of a desk part do to its search.
use Rattle.std.proofs.Common.{inl, inr, ℕ, ◌≡◌, refl, sym, ap, ◌∙◌, subst, arith, Bool, true, false, nat_eq, List, [], ◌∷◌, ◌++◌, map, Option, Some, None}
use Rattle.std.specs.Prelude.{◌≢◌, ◌⊎◌, ◌↔◌, if◌then◌else◌, Contains, Result, Ok, Err, OnOk, is_err, ◌+◌}
use Rattle.std.proofs.lemmas.List.{append-nil}
use Rattle.std.proofs.lemmas.List.Elements.{Contains-append_left, Contains-append_right, Contains-append_cases}
use Rattle.nogoods.specs.declared.choice.Choice.{Choice}
use Rattle.nogoods.specs.declared.choice.Side.{Side}
use Rattle.nogoods.specs.declared.choice.Side.TheVariants.{A, B}
use Rattle.nogoods.specs.Pieces.{Bars}
use Rattle.lpcc_case.specs.Instance.{Instance}
use Rattle.lpcc_case.specs.declared.point.Point.{Point}
use Rattle.cuts.specs.declared.cut.Cut.{Cut}
use Rattle.cuts.specs.Cuts.{no_good_of}
use Rattle.derivation.specs.declared.step.Step.{Step}
use Rattle.derivation.specs.declared.step.Step.TheVariants.{Start}
use Rattle.derivation.specs.Logs as logs
use Rattle.derivation.specs.Logs.{no_goods}
use Rattle.search.specs.FirstPieces.{IsBarred}
use Rattle.search.proofs.WalkLaws.{walk_later}
use Rattle.play.specs.declared.event.Aside.{Aside}
use Rattle.play.specs.declared.event.Ticket.{Ticket}
use Rattle.play.specs.declared.event.VerdictKind.{VerdictKind}
use Rattle.play.specs.declared.event.Direction.{Direction}
use Rattle.play.specs.declared.outcome.Cause.{Cause}
use Rattle.play.specs.declared.outcome.Cause.TheVariants as cause
use Rattle.play.specs.declared.outcome.Outcome.{Outcome}
use Rattle.play.specs.declared.outcome.Outcome.TheVariants as outcome
use Rattle.play.specs.Parts.{Part, barring, flight_of, piece_aside, piece_of, start, taken, without}
use Rattle.play.specs.Steps.{draw, land, set_aside, take_cut, take_outcome}
use Rattle.play.specs.Lawful.{IsOpen, MaySettle}
use Rattle.desk_part.proofs.OutcomeLaws.{outcome_flight}
use Rattle.play.proofs.ListLaws.{here, there, front_or_rest, in_map, in_map_cases, in_map_front, in_map_last, map_both}
use Rattle.play.proofs.Keeping.{barred_by_last, barred_more, gone_or_left}
use Rattle.desk_part.specs.declared.look.KeptSearch.{KeptSearch}
use Rattle.desk_part.specs.Searches.{AreSameButBarred, GoesOn, IsSearched}

-- ---- what is taken

pub taken_cases : (d : Part) (p : List Side) → Contains (taken d) p → Contains (map piece_of d.flight) p ⊎ Contains (map piece_aside d.aside) p
taken_cases d p c = Contains-append_cases (map piece_of d.flight) (map piece_aside d.aside) p c

pub flies : (d : Part) (p : List Side) → Contains (map piece_of d.flight) p → Contains (taken d) p
flies d p c = Contains-append_left (map piece_of d.flight) (map piece_aside d.aside) p c

pub lies : (d : Part) (p : List Side) → Contains (map piece_aside d.aside) p → Contains (taken d) p
lies d p c = Contains-append_right (map piece_of d.flight) (map piece_aside d.aside) p c

found_cond : (b : Bool) (u t : Ticket) (us : List Ticket) (found : Option Ticket) → (found ≡ Some t → Contains us t) → (if b then Some u else found) ≡ Some t → Contains (u ∷ us) t
found_cond true u t us found more e =
    let same : u ≡ t = cc in
    subst (λ x. Contains (u ∷ us) x) same (here u us)
found_cond false u t us found more e = there u us t (more e)

-- a ticket that is found is in flight
ticket_flies : (number : ℕ) (ts : List Ticket) (t : Ticket) → flight_of number ts ≡ Some t → Contains ts t
ticket_flies number [] t e = absurd (cc)
ticket_flies number (u ∷ us) t e = found_cond (nat_eq u.number number) u t us (flight_of number us) (λ found. ticket_flies number us t found) e

pub piece_flies : (d : Part) (number : ℕ) (t : Ticket) → flight_of number d.flight ≡ Some t → Contains (taken d) t.piece
piece_flies d number t found = flies d t.piece (in_map piece_of d.flight t (ticket_flies number d.flight t found))

still_cond : (b : Bool) (u : Ticket) (us rest : List Ticket) (p : List Side) → (Contains (map piece_of rest) p → Contains (map piece_of us) p) → Contains (map piece_of (if b then us else u ∷ rest)) p → Contains (map piece_of (u ∷ us)) p
still_cond true u us rest p more c = there u.piece (map piece_of us) p c
still_cond false u us rest p more c = elim (front_or_rest u.piece (map piece_of rest) p c) [
  | inl first ↦ subst (λ q. Contains (map piece_of (u ∷ us)) q) first (here u.piece (map piece_of us))
  | inr later ↦ there u.piece (map piece_of us) p (more later)
]

-- what is left in flight was there
pub was_there : (number : ℕ) (ts : List Ticket) (p : List Side) → Contains (map piece_of (without number ts)) p → Contains (map piece_of ts) p
was_there number [] p c = c
was_there number (u ∷ us) p c = still_cond (nat_eq u.number number) u us (without number us) p (λ later. was_there number us p later) c

-- ---- a search goes on

pub goes_on : (ngs added : List (List Choice)) (blocked later : List (List Side)) (kept : Option KeptSearch) → ((p : List Side) → Contains blocked p → Contains later p ⊎ IsBarred (ngs ++ added) p) → GoesOn ngs blocked kept → GoesOn (ngs ++ added) later kept
goes_on ngs added blocked later None put h = tt
goes_on ngs added blocked later (Some k) put h = walk_later k.pairs ngs added blocked later k.search.walk.sides.items k.search.walk.reasons.items put h

-- more pieces are blocked
goes_on_blocked : (ngs : List (List Choice)) (blocked later : List (List Side)) (kept : Option KeptSearch) → ((p : List Side) → Contains blocked p → Contains later p) → GoesOn ngs blocked kept → GoesOn ngs later kept
goes_on_blocked ngs blocked later kept put h =
    let P : List (List Choice) → Type 0 = λ l. GoesOn l later kept in
    subst P (append-nil ngs) (goes_on ngs [] blocked later kept (λ p c. inl (put p c)) h)

tail_same : (s : Side) (v w : List Side) → s ∷ v ≡ s ∷ w → v ≡ w
tail_same s v w e = cc

-- ---- each change

pub starts_searched : (blocked : List (List Side)) → blocked ≡ [] → IsSearched start blocked None
starts_searched blocked none = record {
  pieces = λ opened. record { there = λ p c. absurd (omega (arith, c.1)); back = λ p c. inl (subst (λ l. Contains l p) none c) };
  search = tt;
}

pub look_searched : (d : Part) (log : List Step) (blocked : List (List Side)) (old kept : Option KeptSearch) → IsSearched d blocked old → GoesOn (no_goods log) blocked kept → IsSearched (record d { log = log }) blocked kept
look_searched d log blocked old kept h on = record { pieces = h.pieces; search = on }

pub draw_searched : (d : Part) (t : Ticket) (blocked later : List (List Side)) (kept : Option KeptSearch) → ((p : List Side) → Contains later p ↔ ((p ≡ t.piece) ⊎ Contains blocked p)) → IsSearched d blocked kept → IsSearched (draw t d) later kept
draw_searched d t blocked later kept more h = record {
  pieces = λ opened.
      let old = h.pieces opened in
      record {
        there = λ p c. elim (taken_cases (draw t d) p c) [
          | inr lying ↦ later_of p (old.there p (lies d p lying))
          | inl flying ↦ elim (in_map_cases piece_of d.flight t p flying) [
            | inl front ↦ later_of p (old.there p (flies d p front))
            | inr same ↦ inl ((more p).1 (inl (sym same)))
          ]
        ];
        back = λ p c. elim ((more p).0 c) [
          | inl same ↦ inl (subst (λ q. Contains (taken (draw t d)) q) (sym same) (flies (draw t d) t.piece (in_map_last piece_of d.flight t)))
          | inr before ↦ elim (old.back p before) [
            | inl still ↦ inl (more_taken p still)
            | inr barred ↦ inr barred
          ]
        ];
      };
  search = goes_on_blocked (no_goods d.log) blocked later kept (λ p c. (more p).1 (inr c)) h.search;
}
  where
    later_of : (p : List Side) → Contains blocked p ⊎ IsBarred (barring d) p → Contains later p ⊎ IsBarred (barring d) p
    later_of p (inl c) = inl ((more p).1 (inr c))
    later_of p (inr b) = inr b

    more_taken : (p : List Side) → Contains (taken d) p → Contains (taken (draw t d)) p
    more_taken p c = elim (taken_cases d p c) [
      | inl flying ↦ flies (draw t d) p (in_map_front piece_of d.flight (t ∷ []) p flying)
      | inr lying ↦ lies (draw t d) p lying
    ]

-- the cut is absorbed; pieces that it bars may leave those that are blocked
pub cut_searched : (d : Part) (c : Cut) (best : Option Point) (blocked rest : List (List Side)) (kept : Option KeptSearch) → ((p : List Side) → Contains blocked p → Contains rest p ⊎ Bars (no_good_of c) p) → ((p : List Side) → Contains rest p → Contains blocked p) → IsSearched d blocked kept → IsSearched (take_cut c best d) rest kept
cut_searched d c best blocked rest kept gone was h = record {
  pieces = λ opened.
      let old = h.pieces opened in
      record {
        there = λ p in_taken. elim (old.there p in_taken) [
          | inl in_blocked ↦ elim (gone p in_blocked) [
            | inl in_rest ↦ inl in_rest
            | inr bars ↦ inr (barred_by_last d c p bars)
          ]
          | inr barred ↦ inr (barred_more d c p barred)
        ];
        back = λ p in_rest. elim (old.back p (was p in_rest)) [
          | inl still ↦ inl still
          | inr barred ↦ inr (barred_more d c p barred)
        ];
      };
  search =
      let P : List (List Choice) → Type 0 = λ l. GoesOn l rest kept in
      subst P (sym (map_both logs.no_good_of d.log (Start (no_good_of c) ∷ [])))
      (goes_on (no_goods d.log) (no_good_of c ∷ []) blocked rest kept (λ p in_blocked. by_log p (gone p in_blocked)) h.search);
}
  where
    by_log : (p : List Side) → Contains rest p ⊎ Bars (no_good_of c) p → Contains rest p ⊎ IsBarred (no_goods d.log ++ no_good_of c ∷ []) p
    by_log p (inl in_rest) = inl in_rest
    by_log p (inr bars) = inr (Rattle.play.proofs.ListLaws.any_of (λ ng. Bars ng p) (no_goods d.log ++ no_good_of c ∷ []) (no_good_of c) (Rattle.std.proofs.lemmas.List.Elements.Contains-push (no_goods d.log) (no_good_of c)) bars)

-- two lists of sides are the same or not
same_sides : (v w : List Side) → (v ≡ w) ⊎ ¬ (v ≡ w)
same_sides [] [] = inl refl
same_sides [] (t ∷ w) = inr (λ e. cc)
same_sides (s ∷ v) [] = inr (λ e. cc)
same_sides (A ∷ v) (B ∷ w) = inr (λ e. cc)
same_sides (B ∷ v) (A ∷ w) = inr (λ e. cc)
same_sides (A ∷ v) (A ∷ w) = elim (same_sides v w) [
  | inl e ↦ inl (ap (λ l. A ∷ l) e)
  | inr apart ↦ inr (λ e. apart (tail_same A v w e))
]
same_sides (B ∷ v) (B ∷ w) = elim (same_sides v w) [
  | inl e ↦ inl (ap (λ l. B ∷ l) e)
  | inr apart ↦ inr (λ e. apart (tail_same B v w e))
]

-- the cut is absorbed, and the piece that it bars leaves those that are blocked
pub taken_cut_searched : (d : Part) (c : Cut) (best : Option Point) (piece : List Side) (blocked rest : List (List Side)) (kept : Option KeptSearch) → Bars (no_good_of c) piece → ((p : List Side) → Contains rest p ↔ (Contains blocked p × ¬ (p ≡ piece))) → IsSearched d blocked kept → IsSearched (take_cut c best d) rest kept
taken_cut_searched d c best piece blocked rest kept bars removed h =
    cut_searched d c best blocked rest kept
    (λ p held. elim (same_sides p piece) [
      | inl same ↦ inr (subst (λ q. Bars (no_good_of c) q) (sym same) bars)
      | inr apart ↦ inl ((removed p).1 (held, apart))
    ])
    (λ p stays. ((removed p).0 stays).0) h

pub aside_searched : (d : Part) (t : Ticket) (why : Cause) (blocked : List (List Side)) (kept : Option KeptSearch) → flight_of t.number d.flight ≡ Some t → IsSearched d blocked kept → IsSearched (set_aside t why d) blocked kept
aside_searched d t why blocked kept found h = record {
  pieces = λ opened.
      let old = h.pieces opened in
      record {
        there = λ p c. elim (taken_cases (set_aside t why d) p c) [
          | inl flying ↦ old.there p (flies d p flying)
          | inr lying ↦ elim (in_map_cases piece_aside d.aside (record { ticket = t.number; piece = t.piece; cause = why }) p lying) [
            | inl front ↦ old.there p (lies d p front)
            | inr same ↦ old.there p (subst (λ q. Contains (taken d) q) same (piece_flies d t.number t found))
          ]
        ];
        back = λ p c. elim (old.back p c) [
          | inr barred ↦ inr barred
          | inl still ↦ elim (taken_cases d p still) [
            | inl flying ↦ inl (flies (set_aside t why d) p flying)
            | inr lying ↦ inl (lies (set_aside t why d) p (in_map_front piece_aside d.aside ((record { ticket = t.number; piece = t.piece; cause = why }) ∷ []) p lying))
          ]
        ];
      };
  search = h.search;
}

-- once an unbounded outcome is kept, no piece is drawn any more
pub unbounded_searched : (d : Part) (x : Direction) (blocked : List (List Side)) (kept : Option KeptSearch) → IsSearched d blocked kept → IsSearched (record d { unbounded = Some x }) blocked kept
unbounded_searched d x blocked kept h = record { pieces = λ opened. absurd (none (opened.1)); search = h.search }
  where
    none : Some x ≡ None → ⊥
    none e = cc

pub concluded_searched : (d : Part) (v : VerdictKind) (blocked : List (List Side)) (kept : Option KeptSearch) → IsSearched d blocked kept → IsSearched (record d { verdict = Some v }) blocked kept
concluded_searched d v blocked kept h = record { pieces = λ opened. absurd (none (opened.0)); search = h.search }
  where
    none : Some v ≡ None → ⊥
    none e = cc

-- a ticket leaves flight whose piece is set aside or barred, or behind a verdict
pub land_searched : (d : Part) (number : ℕ) (t : Ticket) (blocked : List (List Side)) (kept : Option KeptSearch) → flight_of number d.flight ≡ Some t → (IsOpen d → Contains (map piece_aside d.aside) t.piece ⊎ IsBarred (barring d) t.piece) → IsSearched d blocked kept → IsSearched (land number d) blocked kept
land_searched d number t blocked kept found left h = record {
  pieces = λ opened.
      let old = h.pieces opened in
      record {
        there = λ p c. elim (taken_cases (land number d) p c) [
          | inl flying ↦ old.there p (flies d p (was_there number d.flight p flying))
          | inr lying ↦ old.there p (lies d p lying)
        ];
        back = λ p c. elim (old.back p c) [
          | inr barred ↦ inr barred
          | inl still ↦ elim (taken_cases d p still) [
            | inr lying ↦ inl (lies (land number d) p lying)
            | inl flying ↦ elim (gone_or_left number d.flight t p found flying) [
              | inr stays ↦ inl (flies (land number d) p stays)
              | inl it ↦ elim (left opened) [
                | inl lying ↦ inl (subst (λ q. Contains (taken (land number d)) q) it (lies (land number d) t.piece lying))
                | inr barred ↦ inr (subst (λ q. IsBarred (barring d) q) it barred)
              ]
            ]
          ]
        ];
      };
  search = h.search;
}

-- what an outcome leaves of its piece
pub left_by_outcome : (a : Instance) (d : Part) (t : Ticket) (what : Outcome) → MaySettle a t what → IsOpen (take_outcome t what d) → Contains (map piece_aside (take_outcome t what d).aside) t.piece ⊎ IsBarred (barring (take_outcome t what d)) t.piece
left_by_outcome a d t (outcome.Cut c kept best) may opened = inr (barred_by_last d c t.piece may.bars)
left_by_outcome a d t (outcome.Barred lane place c best) may opened = inr (barred_by_last d c t.piece may.bars)
left_by_outcome a d t (outcome.Unbounded point ray) may opened = absurd (none opened.1)
  where
    none : {X : Type 0} {x : X} → Some x ≡ None → ⊥
    none e = cc
left_by_outcome a d t (outcome.Wide at) may opened = inl (in_map_last piece_aside d.aside (record { ticket = t.number; piece = t.piece; cause = cause.Wide at }))
left_by_outcome a d t (outcome.Spent at) may opened = inl (in_map_last piece_aside d.aside (record { ticket = t.number; piece = t.piece; cause = cause.Spent at }))

-- while pieces are drawn
pub searched_open : (d e : Part) (blocked : List (List Side)) (kept : Option KeptSearch) → d ≡ e → e.verdict ≡ None → e.unbounded ≡ None → IsSearched d blocked kept → AreSameButBarred (barring d) (taken d) blocked
searched_open d e blocked kept same waiting settled h = h.pieces (ap (λ (x : Part). x.verdict) same ∙ waiting, ap (λ (x : Part). x.unbounded) same ∙ settled)

-- ---- as the code has them

-- what a set has behind an insertion, of a copy of the piece
pub inserted_ok : {T E : Type 0} {b : Bool} (r : Result T E) (piece copy : List Side) (old new : List (List Side)) → copy ≡ piece → b ≡ false → b ≡ is_err r → OnOk r ((p : List Side) → Contains new p ↔ ((p ≡ copy) ⊎ Contains old p)) → (p : List Side) → Contains new p ↔ ((p ≡ piece) ⊎ Contains old p)
inserted_ok (Ok x) piece copy old new same not is ok = subst (λ q. (p : List Side) → Contains new p ↔ ((p ≡ q) ⊎ Contains old p)) same ok
inserted_ok (Err x) piece copy old new same not is ok = absurd (true_false (sym is ∙ not))
  where
    true_false : true ≡ false → ⊥
    true_false e = cc

pub removed_is : (piece sides : List Side) (old new : List (List Side)) → sides ≡ piece → ((p : List Side) → Contains new p ↔ (Contains old p × ¬ (p ≡ sides))) → (p : List Side) → Contains new p ↔ (Contains old p × ¬ (p ≡ piece))
removed_is piece sides old new same is = subst (λ q. (p : List Side) → Contains new p ↔ (Contains old p × ¬ (p ≡ q))) same is

pub aside_result : (b : Bool) (d e : Part) (t : Ticket) (why : Cause) (blocked : List (List Side)) (kept : Option KeptSearch) (asides : List Aside) → d ≡ e → flight_of t.number e.flight ≡ Some t → asides ≡ (if b then d.aside ++ (record { ticket = t.number; piece = t.piece; cause = why }) ∷ [] else d.aside) → IsSearched d blocked kept → IsSearched (record d { aside = asides }) blocked kept
aside_result true d e t why blocked kept asides same found is h =
    let P : List Aside → Type 0 = λ l. IsSearched (record d { aside = l }) blocked kept in
    subst P (sym is) (aside_searched d t why blocked kept (ap (λ (x : Part). flight_of t.number x.flight) same ∙ found) h)
aside_result false d e t why blocked kept asides same found is h =
    let P : List Aside → Type 0 = λ l. IsSearched (record d { aside = l }) blocked kept in
    subst P (sym is) h

pub cut_result : (d : Part) (c : Cut) (best new : Option Point) (piece : List Side) (blocked rest : List (List Side)) (kept : Option KeptSearch) (absorbed : List Cut) (log : List Step) → Bars (no_good_of c) piece → ((p : List Side) → Contains rest p ↔ (Contains blocked p × ¬ (p ≡ piece))) → absorbed ≡ d.absorbed ++ c ∷ [] → log ≡ d.log ++ Start (no_good_of c) ∷ [] → IsSearched d blocked kept → IsSearched (record d { absorbed = absorbed; log = log; best = new }) rest kept
cut_result d c best new piece blocked rest kept absorbed log bars removed is_cuts is_log h =
    let done = taken_cut_searched d c best piece blocked rest kept bars removed h in
    let P : List Cut → List Step → Type 0 = λ x y. IsSearched (record d { absorbed = x; log = y; best = new }) rest kept in
    let here_it : P (d.absorbed ++ c ∷ []) (d.log ++ Start (no_good_of c) ∷ []) = record { pieces = done.pieces; search = done.search } in
    subst (λ x. P x log) (sym is_cuts) (subst (λ y. P (d.absorbed ++ c ∷ []) y) (sym is_log) here_it)

pub draw_result : (d : Part) (t : Ticket) (blocked later : List (List Side)) (kept : Option KeptSearch) (flight : List Ticket) → flight ≡ d.flight ++ t ∷ [] → ((p : List Side) → Contains later p ↔ ((p ≡ t.piece) ⊎ Contains blocked p)) → IsSearched d blocked kept → IsSearched (record d { flight = flight; drawn = d.drawn + 1 }) later kept
draw_result d t blocked later kept flight is more h =
    let P : List Ticket → Type 0 = λ l. IsSearched (record d { flight = l; drawn = d.drawn + 1 }) later kept in
    subst P (sym is) (draw_searched d t blocked later kept more h)

-- behind a verdict
pub land_closed : (d e : Part) (number : ℕ) (t : Ticket) (blocked : List (List Side)) (kept : Option KeptSearch) (flight : List Ticket) → d ≡ e → flight_of number e.flight ≡ Some t → e.verdict ≢ None → flight ≡ without number d.flight → IsSearched d blocked kept → IsSearched (record d { flight = flight }) blocked kept
land_closed d e number t blocked kept flight same found some is h =
    let P : List Ticket → Type 0 = λ l. IsSearched (record d { flight = l }) blocked kept in
    subst P (sym is) (land_searched d number t blocked kept (ap (λ (x : Part). flight_of number x.flight) same ∙ found) (λ opened. absurd (some (ap (λ (x : Part). x.verdict) (sym same) ∙ opened.0))) h)

-- behind an outcome
pub land_open : (a : Instance) (d old e : Part) (t : Ticket) (what : Outcome) (blocked : List (List Side)) (kept : Option KeptSearch) (flight : List Ticket) → d ≡ e → e ≡ take_outcome t what old → flight_of t.number old.flight ≡ Some t → MaySettle a t what → flight ≡ without t.number d.flight → IsSearched d blocked kept → IsSearched (record d { flight = flight }) blocked kept
land_open a d old e t what blocked kept flight same made found may is h =
    let P : List Ticket → Type 0 = λ l. IsSearched (record d { flight = l }) blocked kept in
    let there_it : d ≡ take_outcome t what old = same ∙ made in
    let F : Part → Type 0 = λ x. IsOpen x → Contains (map piece_aside x.aside) t.piece ⊎ IsBarred (barring x) t.piece in
    let left : F d = subst F (sym there_it) (left_by_outcome a old t what may) in
    subst P (sym is) (land_searched d t.number t blocked kept (ap (λ (x : Part). flight_of t.number x.flight) there_it ∙ ap (λ l. flight_of t.number l) (outcome_flight old t what) ∙ found) left h)
