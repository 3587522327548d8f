-- How kept cuts are absorbed or wait.
use Rattle.std.proofs.Common.{inl, inr, ℕ, ◌+◌, ◌-◌, ◌<◌, ◌≤◌, ◌≡◌, refl, sym, ap, ◌∙◌, subst, arith, List, [], ◌∷◌, ◌++◌, length, take, get_or, Option, Some, None}
use Rattle.std.specs.Prelude.{◌⊎◌, All, Contains}
use Rattle.std.proofs.lemmas.List.{append-nil, take_more, take_all}
use Rattle.std.proofs.lemmas.List.Elements.{All-cons, All-head, All-nil, All-tail, All-push, Contains-append_left, Contains-append_cases, Contains-push}
use Rattle.lpcc_case.specs.Instance.{Instance}
use Rattle.lpcc_case.specs.declared.point.Point.{Point}
use Rattle.cuts.specs.declared.cut.Cut.{Cut}
use Rattle.cuts.specs.Cuts.{Passes}
use Rattle.reasons.specs.Reasons.{IsActiveAgainst, IsLimit}
use Rattle.play.specs.declared.event.Options.{Options}
use Rattle.play.specs.Parts.{Part, start}
use Rattle.play.specs.Points.{IsBest}
use Rattle.desk_part.specs.Absorbing.{AbsorbsOn}
use Rattle.desk_part.specs.DeskParts.{Standing, standing}
use Rattle.engine.specs.Turns.{IsDeskOf}
use Rattle.edit_session.specs.Rounds.{AreInactive, GoesOn, IsBegun, IsReached, IsReady, IsRunOver, IsSameButAbsorbed, IsSifted, IsTakenUp}
use Rattle.edit_session.proofs.RunLaws.{absorb_goes_on, absorb_reaches, held_waiting, one_left}

limit_of_best : (a : Instance) (best : Option Point) → IsBest a best → IsLimit a best
limit_of_best a None h = tt
limit_of_best a (Some q) h = h.of

pub limit_of : (a : Instance) (s : Standing) (limit : Option Point) → s.case_of ≡ a → limit ≡ s.part.best → IsBest s.case_of s.part.best → IsLimit a limit
limit_of a s limit of is best = subst (λ q. IsLimit a q) (sym is) (limit_of_best a s.part.best (subst (λ x. IsBest x s.part.best) of best))

-- ---- what stays

absorbs_same : (c : Cut) (s u : Standing) → AbsorbsOn c s u → IsSameButAbsorbed s u
absorbs_same c s u h =
    let F : Part → Type 0 = λ p. p ≡ record s.part { absorbed = p.absorbed; log = p.log } in
    let part : F u.part = subst F (sym h.part_is) refl in
    ap (λ x. standing x u.options u.part) h.case_stays ∙ ap (λ x. standing s.case_of x u.part) h.options_stay ∙ ap (λ p. standing s.case_of s.options p) part

same_join : (s t u : Standing) → IsSameButAbsorbed s t → IsSameButAbsorbed t u → IsSameButAbsorbed s u
same_join s t u first then =
    let P : Standing → Type 0 = λ x. u ≡ record x { part = record x.part { absorbed = u.part.absorbed; log = u.part.log } } in
    subst P first then

pub same_best : (s u : Standing) → IsSameButAbsorbed s u → u.part.best ≡ s.part.best
same_best s u same = ap (λ (x : Standing). x.part.best) same

pub same_verdict : (s u : Standing) → IsSameButAbsorbed s u → u.part.verdict ≡ s.part.verdict
same_verdict s u same = ap (λ (x : Standing). x.part.verdict) same

pub same_flight : (s u : Standing) → IsSameButAbsorbed s u → u.part.flight ≡ s.part.flight
same_flight s u same = ap (λ (x : Standing). x.part.flight) same

pub same_drawn : (s u : Standing) → IsSameButAbsorbed s u → u.part.drawn ≡ s.part.drawn
same_drawn s u same = ap (λ (x : Standing). x.part.drawn) same

pub same_desk : (a : Instance) (o : Options) (s u : Standing) → IsSameButAbsorbed s u → IsDeskOf a o s → IsDeskOf a o u
same_desk a o s u same of = record { case_is = ap (λ (x : Standing). x.case_of) same ∙ of.case_is; options_are = ap (λ (x : Standing). x.options) same ∙ of.options_are }

-- ---- one cut

taken_same : (c : Cut) (s u : Standing) (rest more : List Cut) → IsTakenUp c s u rest more → IsSameButAbsorbed s u
taken_same c s u rest more (inl absorbed) = absorbs_same c s u absorbed.0
taken_same c s u rest more (inr waits) = subst (λ x. IsSameButAbsorbed s x) (sym waits.0) refl

taken_pass : (a : Instance) (c : Cut) (s u : Standing) (rest more : List Cut) → Passes a c → IsTakenUp c s u rest more → All (Passes a) rest → All (Passes a) more
taken_pass a c s u rest more passes (inl absorbed) pass = subst (λ l. All (Passes a) l) (sym absorbed.1) pass
taken_pass a c s u rest more passes (inr waits) pass = subst (λ l. All (Passes a) l) (sym waits.1) (All-push (Passes a) rest c pass passes)

inactive_push : (best : Option Point) (rest : List Cut) (c : Cut) → (IsActiveAgainst c best → ⊥) → AreInactive best rest → AreInactive best (rest ++ c ∷ [])
inactive_push best rest c not others x there active = elim (Contains-append_cases rest (c ∷ []) x there) [
  | inl before ↦ others x before active
  | inr one ↦ not (subst (λ y. IsActiveAgainst y best) (sym (one_left c x one)) active)
]

taken_inactive : (c : Cut) (s u : Standing) (rest more : List Cut) → IsTakenUp c s u rest more → AreInactive s.part.best rest → AreInactive u.part.best more
taken_inactive c s u rest more taken others =
    let at_s : AreInactive s.part.best more = here_it taken in
    subst (λ (q : Option Point). AreInactive q more) (sym (same_best s u (taken_same c s u rest more taken))) at_s
  where
    here_it : IsTakenUp c s u rest more → AreInactive s.part.best more
    here_it (inl absorbed) = subst (λ l. AreInactive s.part.best l) (sym absorbed.1) others
    here_it (inr waits) = subst (λ l. AreInactive s.part.best l) (sym waits.1) (inactive_push s.part.best rest c waits.2 others)

taken_run : (a : Instance) (o : Options) (kept : List Cut) (c : Cut) (s u : Standing) (front rest more settled : List Cut) → IsTakenUp c s u rest more → IsRunOver a o kept s ((front ++ c ∷ []) ++ rest) settled → IsRunOver a o kept u (front ++ more) settled
taken_run a o kept c s u front rest more settled (inl absorbed) run =
    subst (λ l. IsRunOver a o kept u (front ++ l) settled) (sym absorbed.1) (absorb_goes_on a o kept s u c front rest settled absorbed.0 run)
taken_run a o kept c s u front rest more settled (inr waits) run =
    let P : Standing → List Cut → Type 0 = λ x l. IsRunOver a o kept x (front ++ l) settled in
    let stays : P s (rest ++ c ∷ []) = record { of = run.of; reached = run.reached; held = held_waiting kept s.part c front rest run.held } in
    subst (λ x. P x more) (sym waits.0) (subst (λ l. P s l) (sym waits.1) stays)

-- ---- those that wait

pub sift_begins : (a : Instance) (s : Standing) (waiting : List Cut) → All (Passes a) waiting → IsSifted a s waiting s waiting []
sift_begins a s waiting pass = record {
  same = refl;
  left_pass = pass;
  rest_pass = All-nil (Passes a);
  inactive = λ c there active. absurd (omega (arith, there.1));
  run = λ o kept settled run. subst (λ l. IsRunOver a o kept s l settled) (sym (append-nil waiting)) run;
}

split_pass : (a : Instance) (front : List Cut) (c : Cut) → All (Passes a) (front ++ c ∷ []) → All (Passes a) front × Passes a c
split_pass a [] c pass = (All-nil (Passes a), All-head (Passes a) c [] pass)
split_pass a (x ∷ front) c pass =
    let rest = split_pass a front c (All-tail (Passes a) x (front ++ c ∷ []) pass) in
    (All-cons (Passes a) x front (All-head (Passes a) x (front ++ c ∷ []) pass) rest.0, rest.1)

pub sift_goes_on : (a : Instance) (old : Standing) (before : List Cut) (s u : Standing) (left front : List Cut) (c : Cut) (rest more : List Cut) → left ≡ front ++ c ∷ [] → IsTakenUp c s u rest more → IsSifted a old before s left rest → IsSifted a old before u front more
sift_goes_on a old before s u left front c rest more is taken h =
    let passes = split_pass a front c (subst (λ l. All (Passes a) l) is h.left_pass) in
    record {
      same = same_join old s u h.same (taken_same c s u rest more taken);
      left_pass = passes.0;
      rest_pass = taken_pass a c s u rest more passes.1 taken h.rest_pass;
      inactive = taken_inactive c s u rest more taken h.inactive;
      run = λ o kept settled run. taken_run a o kept c s u front rest more settled taken (subst (λ l. IsRunOver a o kept s (l ++ rest) settled) is (h.run o kept settled run));
    }

-- a list from which nothing is taken is empty
pub nothing_left : (cuts behind : List Cut) (n : ℕ) → n ≡ 0 → behind ≡ take (n - 1) cuts → cuts ≡ behind ++ [] → cuts ≡ []
nothing_left cuts behind n none rest items = items ∙ append-nil behind ∙ rest ∙ ap (λ m. take (m - 1) cuts) none

pub sift_ends : (a : Instance) (old : Standing) (before : List Cut) (s : Standing) (left rest : List Cut) → left ≡ [] → IsSifted a old before s left rest → GoesOn a old before s rest
sift_ends a old before s left rest none h o kept settled run = subst (λ l. IsRunOver a o kept s (l ++ rest) settled) none (h.run o kept settled run)

-- ---- a new desk

pub begun_at : (a : Instance) (o : Options) (kept : List Cut) (s : Standing) (waiting : List Cut) → s ≡ standing a o start → waiting ≡ [] → IsBegun a o kept s [] s waiting
begun_at a o kept s waiting is none =
    let P : Standing → Type 0 = λ x. IsReached a o kept x.part [] in
    record {
      same = refl;
      pass = subst (λ l. All (Passes a) l) (sym none) (All-nil (Passes a));
      inactive = λ c there active. absurd (nothing_in c (subst (λ l. Contains l c) none there));
      reached = subst P (sym is) ([], refl, tt, refl);
      held = λ c there. absurd (nothing_in c there);
    }
  where
    nothing_in : (c : Cut) → Contains [] c → ⊥
    nothing_in c h = omega (arith, h.1)

pub begun_more : (a : Instance) (o : Options) (kept : List Cut) (old : Standing) (first : List Cut) (s u : Standing) (waiting more : List Cut) (c : Cut) → IsDeskOf a o old → Passes a c → IsTakenUp c s u waiting more → IsBegun a o kept old first s waiting → IsBegun a o kept old (first ++ c ∷ []) u more
begun_more a o kept old first s u waiting more c of passes taken h = record {
  same = same_join old s u h.same (taken_same c s u waiting more taken);
  pass = taken_pass a c s u waiting more passes taken h.pass;
  inactive = taken_inactive c s u waiting more taken h.inactive;
  reached = reached taken;
  held = λ x there. elim (Contains-append_cases first (c ∷ []) x there) [
    | inl before ↦ stays taken x (h.held x before)
    | inr one ↦ subst (λ y. Contains u.part.absorbed y ⊎ Contains more y) (one_left c x one) (newest taken)
  ];
}
  where
    reached : IsTakenUp c s u waiting more → IsReached a o kept u.part []
    reached (inl absorbed) = absorb_reaches a o kept s u c [] (same_desk a o old s h.same of) absorbed.0 h.reached
    reached (inr waits) = subst (λ (x : Standing). IsReached a o kept x.part []) (sym waits.0) h.reached

    stays : IsTakenUp c s u waiting more → (x : Cut) → Contains s.part.absorbed x ⊎ Contains waiting x → Contains u.part.absorbed x ⊎ Contains more x
    stays (inl absorbed) x (inl there) = inl (subst (λ (p : Part). Contains p.absorbed x) (sym absorbed.0.part_is) (Contains-append_left s.part.absorbed (c ∷ []) x there))
    stays (inl absorbed) x (inr there) = inr (subst (λ l. Contains l x) (sym absorbed.1) there)
    stays (inr waits) x (inl there) = inl (subst (λ (y : Standing). Contains y.part.absorbed x) (sym waits.0) there)
    stays (inr waits) x (inr there) = inr (subst (λ l. Contains l x) (sym waits.1) (Contains-append_left waiting (c ∷ []) x there))

    newest : IsTakenUp c s u waiting more → Contains u.part.absorbed c ⊎ Contains more c
    newest (inl absorbed) = inl (subst (λ (p : Part). Contains p.absorbed c) (sym absorbed.0.part_is) (Contains-push s.part.absorbed c))
    newest (inr waits) = inr (subst (λ l. Contains l c) (sym waits.1) (Contains-push waiting c))

pub begun_ready : (a : Instance) (o : Options) (kept : List Cut) (old s : Standing) (waiting : List Cut) → IsDeskOf a o old → IsBegun a o kept old kept s waiting → IsReady a o kept s waiting []
begun_ready a o kept old s waiting of h = record {
  run = record { of = same_desk a o old s h.same of; reached = h.reached; held = h.held };
  inactive = λ none. h.inactive;
}

-- ---- as the code has them

desk_of_new : (a : Instance) (s : Standing) → s ≡ standing a s.options start → IsDeskOf a s.options s
desk_of_new a s is = record { case_is = ap (λ (x : Standing). x.case_of) is; options_are = refl }

pub begun_next : (a : Instance) (kept : List Cut) (old s u : Standing) (waiting more : List Cut) (c copy : Cut) (i : ℕ) → i < length kept → c ≡ get_or kept i c → copy ≡ c → old ≡ standing a old.options start → All (Passes a) kept → IsTakenUp copy s u waiting more → IsBegun a old.options kept old (take i kept) s waiting → IsBegun a old.options kept old (take (i + 1) kept) u more
begun_next a kept old s u waiting more c copy i lt read same new_desk pass taken h =
    let front : take i kept ++ c ∷ [] ≡ take (i + 1) kept = ap (λ (x : Cut). take i kept ++ x ∷ []) read ∙ sym (take_more kept i c lt) in
    let there : IsTakenUp c s u waiting more = subst (λ x. IsTakenUp x s u waiting more) same taken in
    let passes : Passes a c = subst (Passes a) (sym read) (pass i c lt) in
    subst (λ l. IsBegun a old.options kept old l u more) front (begun_more a old.options kept old (take i kept) s u waiting more c (desk_of_new a old new_desk) passes there h)

pub begun_all : (a : Instance) (kept : List Cut) (old s : Standing) (waiting : List Cut) (i : ℕ) → length kept ≤ i → old ≡ standing a old.options start → IsBegun a old.options kept old (take i kept) s waiting → IsReady a old.options kept s waiting []
begun_all a kept old s waiting i past new_desk h =
    begun_ready a old.options kept old s waiting (desk_of_new a old new_desk) (subst (λ l. IsBegun a old.options kept old l s waiting) (take_all i kept past) h)
