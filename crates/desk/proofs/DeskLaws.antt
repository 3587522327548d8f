-- What the calls of a desk take from those of its part.
use Rattle.std.proofs.Common.{ℕ, ◌≡◌, ◌≢◌, ◌∙◌, inl, inr, refl, sym, subst, List, [], ◌∷◌}
use Rattle.std.proofs.lemmas.List.Elements.{All-nil}
use Rattle.std.specs.Prelude.{All, Option, Some, None, ◌⊎◌}
use Rattle.cut_pool.specs.Reaches.{ReachView}
use Rattle.play.specs.declared.event.Event.{Event}
use Rattle.play.specs.declared.event.Ticket.{Ticket}
use Rattle.play.specs.declared.event.VerdictKind.{VerdictKind}
use Rattle.play.specs.declared.outcome.Outcome.{Outcome}
use Rattle.play.specs.Causes.{IsTrueOutcome}
use Rattle.play.specs.Lawful.{MaySettle, OutcomeFits}
use Rattle.play.specs.Truth.{AreApart, number_of}
use Rattle.desk_part.specs.declared.answer.Draw.TheVariants as part
use Rattle.desk_part.specs.DeskParts.{DrawsOn, IsLearn, IsOver, MayBeSettled, Standing}
use Rattle.desk_part.proofs.DrawLaws.{carries_more}
use Rattle.desk.specs.declared.answer.Draw.{Draw}
use Rattle.desk.specs.declared.answer.Draw.TheVariants as draw
use Rattle.desk.specs.Desks.{DeskView, Draws, DrawsFrom, Fits, HasEnding, IsLeft, abandoned, abandoned_by}
use Rattle.desk.proofs.HeldLaws.{one_flying}

verdict_there : (v : Option VerdictKind) → v ≢ None → (k : VerdictKind) × (v ≡ Some k)
verdict_there None some = absurd (some refl)
verdict_there (Some k) some = (k, refl)

-- behind a verdict a draw changes nothing
drawn_again : (worker : ℕ) (s : Standing) → IsOver s.case_of s.options s.part → DrawsOn worker s s part.Done
drawn_again worker s over = record {
  case_stays = refl;
  options_stay = refl;
  draws = record { learned = []; behind = []; learns = All-nil IsLearn; adds = inl refl; leads = refl; answers = over };
  carries = carries_more s.case_of s.options s.part [] s.part refl;
}

pub done_again : (worker : ℕ) (d s : DeskView) → d ≡ s → d.run.part.verdict ≢ None → Draws worker s s draw.Done
done_again worker d s is some =
    let P : DeskView → Type 0 = λ x. x.run.part.verdict ≢ None in
    let there = subst P is some in
    let v = verdict_there s.run.part.verdict there in
    let present : ¬ (IsLeft s) = λ left. there left.1 in
    let over : IsOver s.run.case_of s.run.options s.run.part = inl v in
    (record { present = present; run = drawn_again worker s.run over; shelf = refl; abandoned = refl; refuted = refl }, (present, over))

pub may_settle : (d s : DeskView) → d ≡ s → (r : ReachView) (t : Ticket) (what : Outcome) → AreApart number_of d.run.part.flight → Fits s t.worker r (Some t) → OutcomeFits s.run.case_of s.run.options.workers what → MaySettle s.run.case_of t what → IsTrueOutcome s.run.case_of s.run.options t what → MayBeSettled d.run.case_of d.run.options d.run.part t what
may_settle d s is r t what apart fits parts may truth =
    let F : DeskView → Type 0 = λ x. Fits x t.worker r (Some t) in
    let O : DeskView → Type 0 = λ x. OutcomeFits x.run.case_of x.run.options.workers what in
    let M : DeskView → Type 0 = λ x. MaySettle x.run.case_of t what in
    let T : DeskView → Type 0 = λ x. IsTrueOutcome x.run.case_of x.run.options t what in
    let here = subst F (sym is) fits in
    record {
      known = here.known;
      fits = subst O (sym is) parts;
      flying = one_flying t.worker d.run.part.flight t apart here.holds;
      may = λ none. subst M (sym is) may;
      true_outcome = subst T (sym is) truth;
    }

pub over_of : (d s : DeskView) → d ≡ s → HasEnding s → IsOver d.run.case_of d.run.options d.run.part
over_of d s is h = subst (λ (x : DeskView). IsOver x.run.case_of x.run.options x.run.part) (sym is) h.1

-- ---- an end

no_verdict : {k : VerdictKind} → Some k ≡ None → ⊥
no_verdict e = cc

abandoned_by_ends : (v : Option VerdictKind) (d : DeskView) → d.run.part.verdict ≡ v → HasEnding (abandoned_by v d) ⊎ IsLeft (abandoned_by v d)
abandoned_by_ends None d is = inr (refl, is)
abandoned_by_ends (Some k) d is = inl ((λ left. no_verdict (sym is ∙ left.1)), inl (k, is))

-- a desk that was abandoned is left, or has an ending by its verdict
pub abandoned_ends : (d s : DeskView) → s ≡ abandoned d → HasEnding s ⊎ IsLeft s
abandoned_ends d s is = subst (λ (x : DeskView). HasEnding x ⊎ IsLeft x) (sym is) (abandoned_by_ends d.run.part.verdict d refl)

-- so it is where a draw tells that nothing is to be drawn any more
pub done_ends : (worker : ℕ) (d s : DeskView) (answer : Draw) → answer ≡ draw.Done → Draws worker d s answer → HasEnding s ⊎ IsLeft s
done_ends worker d s answer is h =
    let made : Draws worker d s draw.Done = subst (Draws worker d s) is h in
    inl made.1

pub left_ends : (worker : ℕ) (d s : DeskView) (answer : Draw) → answer ≡ draw.Left → Draws worker d s answer → HasEnding s ⊎ IsLeft s
left_ends worker d s answer is h =
    let made : Draws worker d s draw.Left = subst (Draws worker d s) is h in
    inr (subst IsLeft (sym made.1) made.0)

-- from a desk that was left nothing is drawn
pub left_is_not_done : (worker : ℕ) (d s : DeskView) (answer : Draw) → answer ≡ draw.Done → Draws worker d s answer → IsLeft d → ⊥
left_is_not_done worker d s answer is h left =
    let made : Draws worker d s draw.Done = subst (Draws worker d s) is h in
    made.0.present left
