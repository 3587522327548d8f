-- What a verdict on the case of a problem says of the problem.
use Rattle.std.proofs.Common.{ℕ, ◌≤◌, ◌+◌, ◌≡◌, ◌∙◌, refl, sym, ap, subst, arith, List, length, take, Option, Some, inl, inr, ℤ, pos, ◌+ℤ◌, ◌*ℤ◌, ◌<ℤ◌, ◌≤ℤ◌}
use Rattle.std.specs.Prelude.{◌↔◌, ◌⊎◌}
use Rattle.std.specs.Io.KnownBytes.{Appends}
use Rattle.std.proofs.Math.IntN.{zero-*ℤ}
use Rattle.std.proofs.lemmas.Int.{by_lt_z, ints}
use Rattle.std.proofs.lemmas.List.{take_all}
use Rattle.lp_base.specs.Sums.{dot}
use Rattle.lp_nums.specs.Fractions.{Fraction, SameValue}
use Rattle.sense.specs.Senses.{signed}
use Rattle.lpcc_case.specs.Instance.{Instance}
use Rattle.lpcc_case.specs.Points.{IsComplementary, IsFeasible, IsLower, Point, cost_at}
use Rattle.lpcc_case.specs.declared.verdict.Verdict.{Verdict}
use Rattle.lpcc_case.specs.declared.verdict.Verdict.TheVariants as verdict
use Rattle.cert_text.specs.declared.cert.Cert.{Cert}
use Rattle.cert_text.specs.declared.cert.Cert.TheVariants.{Optimal, Infeasible, Unbounded}
use Rattle.cert_text.specs.declared.cert.CertLine.{CertLine}
use Rattle.cert_text.specs.declared.cert.CertPoint.{CertPoint}
use Rattle.cert_check.specs.Acceptance.{Accepts, GivesMet, NoGoodsFail, numbers_of}
use Rattle.cert_check.specs.declared.accept.NoWhy.{NoWhy}
use Rattle.cert_check.specs.declared.accept.NoWhy.TheVariants.{ValueFails}
use Rattle.cert_check.proofs.Barred.{nothing_improves}
use Rattle.cert_check.proofs.PointLines.{point_given}
use Rattle.cert_check.proofs.Stable.{complementary_stable, same_stable}
use Rattle.decks.specs.Bounds.{default_column}
use Rattle.decks.specs.Decks.{IsDeck}
use Rattle.decks.specs.declared.deck.Deck.{Deck}
use Rattle.deck_case.specs.DeckCases.{case_of_deck}
use Rattle.deck_case.specs.DeckPoints.{row_value}
use Rattle.play.specs.declared.event.Options.{Options}
use Rattle.engine.specs.Solved.{IsShown}
use Rattle.front_deck.specs.Meanings.{spent}
use Rattle.front_deck.proofs.Costs.{bilevel_cost, lcp_cost}
use Rattle.front_text.specs.declared.problem.Bilevel.{Bilevel}
use Rattle.front_text.specs.declared.problem.Lcp.{Lcp}
use Rattle.front_text.specs.Problems.{IsBilevel, IsLcp}
use Rattle.kkt_front.specs.Decks.{bilevel_deck, lcp_deck}
use Rattle.kkt_front.specs.Solutions.{IsLeastFollower, IsSolution, IsWithMultipliers}
use Rattle.kkt_front.proofs.BilevelMeaning.{sized}
use Rattle.kkt_front.proofs.BilevelMeaning as bilevel_meaning
use Rattle.kkt_front.proofs.LcpMeaning as lcp_meaning
use Rattle.kkt_front.proofs.EntrySums.{IsSum}
use Rattle.kkt_front.proofs.Rows.{row_sum}
use Rattle.front_case.proofs.BilevelDeck as bilevel
use Rattle.front_case.proofs.LcpDeck as lcp
use Rattle.front_solving.specs.Solving.{IsBest, SaysBest, SaysFalling, SaysNone, SaysNowhere, SaysSolution, WithNumbers, bilevel_case, lcp_case}
use Rattle.front_solving.specs.Texts.{IsBilevelText, IsLcpText, optimum_text, solution_text}
use Rattle.front_solving.proofs.Costs.{cost_is}

abbrev pub CostsAreObjectives : Type 0
CostsAreObjectives = (d : Deck) (p : Point (length d.columns)) → IsDeck d → SameValue (row_value d d.objective p) (record { num = signed d.sense (cost_at (case_of_deck d) p); den = (case_of_deck d).scale *ℤ pos p.d })

-- what the crates below promise of the decks of problems and of their cases
pub record LcpLaws : Type 0 where
  pub objective : CostsAreObjectives
  pub kept : (p : Lcp) (end : ℕ) → IsLcp p → IsDeck (lcp_deck p end)
  pub solutions : (p : Lcp) (end : ℕ) (z : Point (length (lcp_deck p end).columns)) → IsLcp p → IsDeck (lcp_deck p end) → IsFeasible (case_of_deck (lcp_deck p end)) z ↔ IsSolution p z

pub record BilevelLaws : Type 0 where
  pub objective : CostsAreObjectives
  pub kept : (b : Bilevel) (bounds end : ℕ) → IsBilevel b → IsDeck (bilevel_deck b bounds end)
  pub multipliers : (b : Bilevel) (bounds end : ℕ) (p : Point (length (bilevel_deck b bounds end).columns)) → IsBilevel b → IsDeck (bilevel_deck b bounds end) → IsFeasible (case_of_deck (bilevel_deck b bounds end)) p ↔ IsWithMultipliers b p
  pub followers : (n : ℕ) (b : Bilevel) (p : Point n) → IsBilevel b → IsWithMultipliers b p → IsLeastFollower b p

-- ---- the point of an accepted certificate

-- the point that the line gives is feasible, has the cost z, and no feasible point is lower
pub record IsShownPoint (a : Instance) (line : CertPoint) (z : ℤ) (q : Point a.columns) : Type 0 where
  pub given : GivesMet a line q
  pub feasible : IsFeasible a q
  pub cost : cost_at a q ≡ z
  pub lowest : (r : Point a.columns) → IsFeasible a r → IsLower a r q → ⊥

shown_point : (a : Instance) (line : CertPoint) (z : ℤ) (lines : List CertLine) (v : Verdict) → Accepts a (Optimal line z lines) v → (q : Point a.columns) × IsShownPoint a line z q
shown_point a line z lines v h =
    let found = point_given a (IsComplementary a) line (λ why fails. h.passes 3 why (inl (refl, fails))) in
    let q = found.0 in
    let cost : cost_at a q ≡ z =
    ap (λ x. dot a.cost x) found.1.numbers ∙ sym (same_stable z (dot a.cost (numbers_of a.columns line.terms)) (λ never. h.passes 4 ValueFails (inr (inl (refl, refl, never))))) in
    let Passes : ℤ → ℤ → Type 0 = λ y d. (n : ℕ) (why : NoWhy) → NoGoodsFail a (Some (y, d)) lines 5 n why → ⊥ in
    let pass : Passes (cost_at a q) (pos q.d) = subst (λ y. Passes y (pos q.d)) (sym cost) (subst (λ d. Passes z d) (sym found.1.denominator) (λ n why fails. h.passes n why (inr (inr fails)))) in (
      q,
      record {
        given = found.1;
        feasible = record { met = found.1.met; complementary = complementary_stable a q found.2 };
        cost = cost;
        lowest = λ r feasible lower. nothing_improves a (Some q) lines 5 pass r feasible lower;
      },
    )

-- ---- complementarity problems

abbrev LcpPoint : Lcp → Type 0
LcpPoint p = Point (length (lcp_deck p 0).columns)

lcp_size : (p : Lcp) → length (lcp_deck p 0).columns ≡ p.size
lcp_size p = sized (λ j. default_column) p.size

of_case : (p : Lcp) → LcpPoint p → Point p.size
of_case p q = record { x = q.x; d = q.d; size = q.size ∙ lcp_size p; positive = q.positive }

to_case : (p : Lcp) → Point p.size → LcpPoint p
to_case p z = record { x = z.x; d = z.d; size = z.size ∙ sym (lcp_size p); positive = z.positive }

solves : (p : Lcp) (q : LcpPoint p) → IsSolution p q → IsSolution p (of_case p q)
unfolding of_case
solves p q s = record { nonnegative = s.nonnegative; met = s.met; complementary = s.complementary }

solves_case : (p : Lcp) (z : Point p.size) → IsSolution p z → IsSolution p (to_case p z)
unfolding to_case
solves_case p z s = record { nonnegative = s.nonnegative; met = s.met; complementary = s.complementary }

at_most : (a b c : ℕ) → a ≡ b → b ≡ c → a ≤ c
at_most a b c e f = omega (arith, e, f)

solution_written : (p : Lcp) (line : CertPoint) (q : LcpPoint p) (text : List ℕ) (tb tn : Option (List ℕ)) → GivesMet (lcp_case p) line q → text ≡ solution_text line.d (take p.size (numbers_of (lcp_case p).columns line.terms)) → Appends tb tn text → Appends tb tn (solution_text (pos (of_case p q).d) (of_case p q).x)
unfolding of_case
solution_written p line q text tb tn given is w =
    let whole : take p.size q.x ≡ q.x = take_all p.size q.x (at_most (length q.x) (length (lcp_deck p 0).columns) p.size q.size (lcp_size p)) in
    let numbers : take p.size (numbers_of (lcp_case p).columns line.terms) ≡ q.x = ap (take p.size) (sym given.numbers) ∙ whole in
    subst (λ (t : List ℕ). Appends tb tn t) (is ∙ ap (λ xs. solution_text line.d xs) numbers ∙ ap (λ d. solution_text d q.x) (sym given.denominator)) w

no_lcp_cost : LcpLaws → (p : Lcp) (q : LcpPoint p) → IsLcp p → cost_at (lcp_case p) q ≡ pos 0
no_lcp_cost l p q h =
    let d = lcp_deck p 0 in
    let sum : IsSum (pos 0) q.d (row_value d 0 q) = subst (λ w. IsSum w q.d (row_value d 0 q)) (lcp_cost p 0 q.x) (row_sum d 0 q (lcp_meaning.all_whole p 0)) in
    cost_is (pos 0) (cost_at (lcp_case p) q) (lcp_case p).scale q.d (row_value d 0 q) q.positive sum (lcp.scale_is p 0 h) (l.objective d q (l.kept p 0 h))

never_below : {P : Type 0} (u : ℤ) (d : ℕ) → u ≡ pos 0 → u <ℤ (pos 0 *ℤ pos d) → P
never_below u d zero below = absurd (omega (arith, ints, zero, below, zero-*ℤ (pos d)))

pub lcp_answered : LcpLaws → (p : Lcp) → IsLcp p → (o : Options) (cert : Cert) (drawn : ℕ) (text : List ℕ) (tb tn : Option (List ℕ)) → IsShown (lcp_case p) o cert drawn → IsLcpText p.size (lcp_case p) cert text → Appends tb tn text → SaysSolution p tb tn ⊎ SaysNone p tb tn
lcp_answered l p h o (Optimal line z lines) drawn text tb tn shown is w =
    let found = shown_point (lcp_case p) line z lines (verdict.Optimal is.0) (shown.accepted (verdict.Optimal is.0) is.1) in
    let solution = (l.solutions p 0 found.0 h (l.kept p 0 h)).0 found.1.feasible in
    inl (of_case p found.0, solves p found.0 solution, solution_written p line found.0 text tb tn found.1.given is.2 w)
lcp_answered l p h o (Infeasible lines) drawn text tb tn shown is w =
    let none = shown.truth verdict.Infeasible tt in
    inr ((λ z s. none (to_case p z) ((l.solutions p 0 (to_case p z) h (l.kept p 0 h)).1 (solves_case p z s))), subst (λ (t : List ℕ). Appends tb tn t) is w)
lcp_answered l p h o (Unbounded piece point ray) drawn text tb tn shown is w =
    let below = shown.truth verdict.Unbounded tt (pos 0) in
    never_below (cost_at (lcp_case p) below.0) below.0.d (no_lcp_cost l p below.0 h) below.2

-- ---- bilevel problems

abbrev CasePoint : Bilevel → Type 0
CasePoint b = Point (length (bilevel_deck b 0 0).columns)

of_bilevel : (b : Bilevel) → CasePoint b → WithNumbers b
of_bilevel b q = record { x = q.x; d = q.d; size = q.size ∙ bilevel.columns_length b 0; positive = q.positive }

to_bilevel : (b : Bilevel) → WithNumbers b → CasePoint b
to_bilevel b q = record { x = q.x; d = q.d; size = q.size ∙ sym (bilevel.columns_length b 0); positive = q.positive }

keeps : (b : Bilevel) (q : CasePoint b) → IsWithMultipliers b q → IsWithMultipliers b (of_bilevel b q)
unfolding of_bilevel
keeps b q h = record { up = h.up; low = h.low; multipliers = record { nonnegative = h.multipliers.nonnegative; sums = h.multipliers.sums; tight = h.multipliers.tight } }

keeps_case : (b : Bilevel) (q : WithNumbers b) → IsWithMultipliers b q → IsWithMultipliers b (to_bilevel b q)
unfolding to_bilevel
keeps_case b q h = record { up = h.up; low = h.low; multipliers = record { nonnegative = h.multipliers.nonnegative; sums = h.multipliers.sums; tight = h.multipliers.tight } }

spent_is : BilevelLaws → (b : Bilevel) (q : CasePoint b) → IsBilevel b → cost_at (bilevel_case b) q ≡ spent b q
spent_is l b q h =
    let d = bilevel_deck b 0 0 in
    let sum : IsSum (spent b q) q.d (row_value d 0 q) = subst (λ w. IsSum w q.d (row_value d 0 q)) (bilevel_cost b 0 0 q.x) (row_sum d 0 q (bilevel_meaning.all_whole b 0 0)) in
    cost_is (spent b q) (cost_at (bilevel_case b) q) (bilevel_case b).scale q.d (row_value d 0 q) q.positive sum (bilevel.scale_is b 0 0 h) (l.objective d q (l.kept b 0 0 h))

not_lower : (u v : ℤ) → (v <ℤ u → ⊥) → u ≤ℤ v
not_lower u v h = by_lt_z v u (λ below. absurd (h below)) (λ other. other)

-- the value over the denominator, where the objective is not scaled and has no constant
plain_value : (value : Fraction) (z y offset scale : ℤ) (d : ℕ) → SameValue value (record { num = z +ℤ (offset *ℤ y); den = scale *ℤ y }) → offset ≡ pos 0 → scale ≡ pos 1 → pos d ≡ y → SameValue value (record { num = z; den = pos d })
plain_value value z y offset scale d same none one is =
    let num : z +ℤ (offset *ℤ y) ≡ z = ap (λ o. z +ℤ (o *ℤ y)) none ∙ (let k : z +ℤ (pos 0 *ℤ y) ≡ z = omega (arith, ints, zero-*ℤ y) in k) in
    let den : scale *ℤ y ≡ pos d = ap (λ s. s *ℤ y) one ∙ (let k : pos 1 *ℤ y ≡ y = omega (arith, ints) in k) ∙ sym is in
    ap (λ m. value.num *ℤ m) (sym den) ∙ same ∙ ap (λ m. m *ℤ value.den) num

lower_case : (b : Bilevel) (q : CasePoint b) (r : WithNumbers b) → cost_at (bilevel_case b) q ≡ spent b q → cost_at (bilevel_case b) (to_bilevel b r) ≡ spent b r → (spent b r *ℤ pos q.d) <ℤ (spent b q *ℤ pos r.d) → IsLower (bilevel_case b) (to_bilevel b r) q
unfolding to_bilevel
lower_case b q r eq er lower =
    subst (λ u. (u *ℤ pos q.d) <ℤ (cost_at (bilevel_case b) q *ℤ pos r.d)) (sym er) (subst (λ v. (spent b r *ℤ pos q.d) <ℤ (v *ℤ pos r.d)) (sym eq) lower)

best : BilevelLaws → (b : Bilevel) (line : CertPoint) (z : ℤ) (q : CasePoint b) → IsBilevel b → IsShownPoint (bilevel_case b) line z q → IsBest b (of_bilevel b q)
unfolding of_bilevel to_bilevel
best l b line z q h shown =
    let kept = l.kept b 0 0 h in
    let with = keeps b q ((l.multipliers b 0 0 q h kept).0 shown.feasible) in
    record {
      multipliers = with;
      follower = l.followers (b.nx + b.ny + length b.low) b (of_bilevel b q) h with;
      lowest = λ r has.
          let s = to_bilevel b r in
          let feasible = (l.multipliers b 0 0 s h kept).1 (keeps_case b r has) in
          not_lower (spent b q *ℤ pos r.d) (spent b r *ℤ pos q.d) (λ lower. shown.lowest s feasible (lower_case b q r (spent_is l b q h) (spent_is l b s h) lower));
    }

optimum_written : (b : Bilevel) (line : CertPoint) (q : CasePoint b) (value : Fraction) (text : List ℕ) (tb tn : Option (List ℕ)) → GivesMet (bilevel_case b) line q → text ≡ optimum_text value line.d (take (b.nx + b.ny) (numbers_of (bilevel_case b).columns line.terms)) → Appends tb tn text → Appends tb tn (optimum_text value (pos (of_bilevel b q).d) (take (b.nx + b.ny) (of_bilevel b q).x))
unfolding of_bilevel
optimum_written b line q value text tb tn given is w =
    subst (λ (t : List ℕ). Appends tb tn t) (is ∙ ap (λ xs. optimum_text value line.d (take (b.nx + b.ny) xs)) (sym given.numbers) ∙ ap (λ d. optimum_text value d (take (b.nx + b.ny) q.x)) (sym given.denominator)) w

pub bilevel_answered : BilevelLaws → (b : Bilevel) → IsBilevel b → (o : Options) (cert : Cert) (drawn : ℕ) (text : List ℕ) (tb tn : Option (List ℕ)) → IsShown (bilevel_case b) o cert drawn → IsBilevelText (b.nx + b.ny) (bilevel_case b) cert text → Appends tb tn text → SaysBest b tb tn ⊎ SaysNowhere b tb tn ⊎ SaysFalling b tb tn
unfolding of_bilevel to_bilevel
bilevel_answered l b h o (Optimal line z lines) drawn text tb tn shown is w =
    let found = shown_point (bilevel_case b) line z lines (verdict.Optimal is.0) (shown.accepted (verdict.Optimal is.0) is.1) in
    let q = found.0 in
    let same = plain_value is.0 z line.d (bilevel_case b).offset (bilevel_case b).scale q.d is.1.same (bilevel.offset_is b 0 0 h) (bilevel.scale_is b 0 0 h) found.1.given.denominator in
    let cost : z ≡ spent b q = sym found.1.cost ∙ spent_is l b q h in
    inl (of_bilevel b q, best l b line z q h found.1, is.0, record { lowest = is.1.lowest; same = subst (λ y. SameValue is.0 (record { num = y; den = pos q.d })) cost same }, optimum_written b line q is.0 text tb tn found.1.given is.2 w)
bilevel_answered l b h o (Infeasible lines) drawn text tb tn shown is w =
    let none = shown.truth verdict.Infeasible tt in
    inr (inl ((λ q has. none (to_bilevel b q) ((l.multipliers b 0 0 (to_bilevel b q) h (l.kept b 0 0 h)).1 (keeps_case b q has))), subst (λ (t : List ℕ). Appends tb tn t) is w))
bilevel_answered l b h o (Unbounded piece point ray) drawn text tb tn shown is w =
    let falls = shown.truth verdict.Unbounded tt in
    inr (inr (
      (λ bound.
          let below = falls bound in
          (of_bilevel b below.0, keeps b below.0 ((l.multipliers b 0 0 below.0 h (l.kept b 0 0 h)).0 below.1), subst (λ u. u <ℤ (bound *ℤ pos below.0.d)) (spent_is l b below.0 h) below.2)),
      subst (λ (t : List ℕ). Appends tb tn t) is w,
    ))
