-- Sound logs with one step more.
use Rattle.std.proofs.Common.{ℕ, ◌≡◌, arith, refl, sym, ap, ◌∙◌, subst, true, List, [], ◌∷◌, ◌++◌, Option}
use Rattle.std.specs.Prelude.{All}
use Rattle.std.proofs.lemmas.List.Elements.{All-nil, All-push}
use Rattle.std.proofs.lemmas.Option.{slice_get_within}
use Rattle.nogoods.specs.declared.choice.Choice.{Choice}
use Rattle.lpcc_case.specs.Instance.{Instance}
use Rattle.lpcc_case.specs.Pieces.{NamesPairs}
use Rattle.lpcc_case.specs.declared.point.Point.{Point}
use Rattle.cuts.specs.declared.cut.Cut.{Cut}
use Rattle.cuts.specs.Cuts as cuts
use Rattle.derivation.specs.declared.step.Step.{Step}
use Rattle.derivation.specs.declared.step.Step.TheVariants.{Start, Derived}
use Rattle.derivation.specs.HintRuns.{closes}
use Rattle.derivation.specs.Logs.{Follows, IsLog, no_good_of, no_goods}
use Rattle.cert_parts.specs.Lines.{IsSoundCut, IsSoundLog}
use Rattle.cert_parts.proofs.StepLaws.{starts_derived, starts_start}
use Rattle.tree_engine.proofs.Lists.{each_more, map_push}

log_more : (log : List Step) (s : Step) → IsLog log → Follows (no_goods log) s → IsLog (log ++ s ∷ [])
log_more log s is follows = each_more (λ earlier x. Follows (no_goods earlier) x) log s is follows

named_more : (a : Instance) (log : List Step) (s : Step) → All (NamesPairs a) (no_goods log) → NamesPairs a (no_good_of s) → All (NamesPairs a) (no_goods (log ++ s ∷ []))
named_more a log s named last = subst (All (NamesPairs a)) (sym (map_push no_good_of log s)) (All-push (NamesPairs a) (no_goods log) (no_good_of s) named last)

start_more : (a : Instance) (best : Option Point) (known : List Cut) (log : List Step) (c : Cut) → IsSoundLog a best known log → IsSoundCut a best c → NamesPairs a (cuts.no_good_of c) → IsSoundLog a best (known ++ c ∷ []) (log ++ Start (cuts.no_good_of c) ∷ [])
start_more a best known log c h sound named = record {
  sound = All-push (IsSoundCut a best) known c h.sound sound;
  starts = starts_start log (cuts.no_good_of c) ∙ ap (λ l. l ++ cuts.no_good_of c ∷ []) h.starts ∙ sym (map_push cuts.no_good_of known c);
  is_log = log_more log (Start (cuts.no_good_of c)) h.is_log tt;
  named = named_more a log (Start (cuts.no_good_of c)) h.named named;
}

-- a cut more, and its no-good
pub sound_start : (a : Instance) (best : Option Point) (known new_known : List Cut) (log new_log : List Step) (c : Cut) → IsSoundLog a best known log → IsSoundCut a best c → NamesPairs a (cuts.no_good_of c) → new_known ≡ known ++ c ∷ [] → new_log ≡ log ++ Start (cuts.no_good_of c) ∷ [] → IsSoundLog a best new_known new_log
sound_start a best known new_known log new_log c h sound named more pushed =
    subst (λ k. IsSoundLog a best k new_log) (sym more) (subst (λ l. IsSoundLog a best (known ++ c ∷ []) l) (sym pushed) (start_more a best known log c h sound named))

-- a no-good more that follows
pub sound_derived : (a : Instance) (best : Option Point) (known : List Cut) (log new_log : List Step) (ng : List Choice) (hints : List ℕ) → IsSoundLog a best known log → closes (no_goods log) ng hints ≡ true → NamesPairs a ng → new_log ≡ log ++ Derived ng hints ∷ [] → IsSoundLog a best known new_log
sound_derived a best known log new_log ng hints h follows named pushed =
    subst (λ l. IsSoundLog a best known l) (sym pushed) (record {
      sound = h.sound;
      starts = starts_derived log ng hints ∙ h.starts;
      is_log = log_more log (Derived ng hints) h.is_log follows;
      named = named_more a log (Derived ng hints) h.named named;
    })

pub sound_empty : (a : Instance) (best : Option Point) → IsSoundLog a best [] []
sound_empty a best = record {
  sound = All-nil (IsSoundCut a best);
  starts = refl;
  is_log = λ k s found. absurd (omega (arith, slice_get_within [] k s found));
  named = All-nil (NamesPairs a);
}
