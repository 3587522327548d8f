-- What an absorbed cut leaves of a desk part, and which endings a closed part has.
use Rattle.std.proofs.Common.{inl, ◌≡◌, refl, sym, ap, ◌∙◌, subst, List, [], ◌∷◌, ◌++◌, Option}
use Rattle.std.specs.Prelude.{Result, Ok, Err, IfOk, OnOk, OnErr, None}
use Rattle.nogoods.specs.declared.choice.Side.{Side}
use Rattle.lpcc_case.specs.Instance.{Instance}
use Rattle.cuts.specs.declared.cut.Cut.{Cut}
use Rattle.cuts.specs.Cuts.{no_good_of}
use Rattle.derivation.specs.declared.step.Step.{Step}
use Rattle.derivation.specs.declared.step.Step.TheVariants.{Start}
use Rattle.play.specs.declared.ending.Ending.{Ending}
use Rattle.play.specs.declared.event.Event.TheVariants.{Absorb}
use Rattle.play.specs.declared.event.Options.{Options}
use Rattle.play.specs.Endings.{IsEnding}
use Rattle.play.specs.Parts.{Part}
use Rattle.play.specs.Points.{IsBest}
use Rattle.play.specs.Records.{IsNext, Leads}
use Rattle.play.specs.Steps.{absorb}
use Rattle.play.proofs.Draws.{carried_standing}
use Rattle.desk_part.specs.declared.look.KeptSearch.{KeptSearch}
use Rattle.desk_part.specs.Searches.{IsSearched}
use Rattle.desk_part.specs.DeskParts.{IsCarried, IsSettled, Standing, standing}
use Rattle.desk_part.specs.Absorbing.{AbsorbsOn, EndsEach, MayBeAbsorbed}
use Rattle.desk_part.proofs.SearchLaws.{cut_searched}
use Rattle.desk_part.proofs.DrawLaws.{carried_more, carries_more}

-- ---- the search goes on

absorbed_searched : (d : Part) (c : Cut) (blocked : List (List Side)) (kept : Option KeptSearch) → IsSearched d blocked kept → IsSearched (absorb c d) blocked kept
absorbed_searched d c blocked kept h =
    let done = cut_searched d c None blocked blocked kept (λ p held. inl held) (λ p held. held) h in
    record { pieces = done.pieces; search = done.search }

pub absorb_result : {T E : Type 0} (r : Result T E) (d : Part) (c : Cut) (blocked : List (List Side)) (kept : Option KeptSearch) (absorbed : List Cut) (log : List Step) → OnOk r (absorbed ≡ d.absorbed ++ c ∷ []) → OnOk r (log ≡ d.log ++ Start (no_good_of c) ∷ []) → OnErr r (absorbed ≡ d.absorbed) → OnErr r (log ≡ d.log) → IsSearched d blocked kept → IsSearched (record d { absorbed = absorbed; log = log }) blocked kept
absorb_result (Ok u) d c blocked kept absorbed log cuts start same_cuts same_log h =
    let P : List Cut → List Step → Type 0 = λ x y. IsSearched (record d { absorbed = x; log = y }) blocked kept in
    subst (λ x. P x log) (sym cuts) (subst (λ y. P (d.absorbed ++ c ∷ []) y) (sym start) (absorbed_searched d c blocked kept h))
absorb_result (Err e) d c blocked kept absorbed log cuts start same_cuts same_log h =
    let P : List Cut → List Step → Type 0 = λ x y. IsSearched (record d { absorbed = x; log = y }) blocked kept in
    subst (λ x. P x log) (sym same_cuts) (subst (λ y. P d.absorbed y) (sym same_log) h)

-- ---- the record

next_absorb : (a : Instance) (o : Options) (d : Part) (c : Cut) → MayBeAbsorbed a d c → IsNext a o d (Absorb c)
next_absorb a o d c may = record {
  lawful = record { fits = may.passes.indexed.pairs_named; row = (may.waiting, may.passes, may.active) };
  recorded = tt;
}

pub absorb_leads : (a : Instance) (o : Options) (d e : Part) (c : Cut) → MayBeAbsorbed a d c → e ≡ absorb c d → Leads a o d (Absorb c ∷ []) e
absorb_leads a o d e c may same = (next_absorb a o d c may, sym same)

may_at : (s t : Standing) (c : Cut) → s ≡ t → MayBeAbsorbed t.case_of t.part c → MayBeAbsorbed s.case_of s.part c
may_at s t c same may = subst (λ x. MayBeAbsorbed x.case_of x.part c) (sym same) may

-- the part that is there before and behind
pub absorb_keeps : {T E : Type 0} (r : Result T E) (s t : Standing) (e : Part) (c : Cut) → s ≡ t → MayBeAbsorbed t.case_of t.part c → OnOk r (e ≡ absorb c s.part) → OnErr r (e ≡ s.part) → IsCarried s.case_of s.options s.part × IsSettled s.part → IsCarried s.case_of s.options e × IsSettled e
absorb_keeps (Ok u) s t e c same may ok err h = (
  carried_more s.case_of s.options s.part (Absorb c ∷ []) e (absorb_leads s.case_of s.options s.part e c (may_at s t c same may) ok) h.0,
  subst IsSettled (sym ok) h.1,
)
absorb_keeps (Err x) s t e c same may ok err h = subst (λ p. IsCarried s.case_of s.options p × IsSettled p) (sym err) h

pub absorbed_on : {T E : Type 0} (r : Result T E) (s t : Standing) (e : Part) (c : Cut) → s ≡ t → MayBeAbsorbed t.case_of t.part c → OnOk r (e ≡ absorb c s.part) → OnOk r (AbsorbsOn c t (standing s.case_of s.options e))
absorbed_on (Ok u) s t e c same may ok =
    let P : Standing → Type 0 = λ x. AbsorbsOn c x (standing s.case_of s.options e) in
    subst P same (record {
      case_stays = refl;
      options_stay = refl;
      part_is = ok;
      carries = carries_more s.case_of s.options s.part (Absorb c ∷ []) e (absorb_leads s.case_of s.options s.part e c (may_at s t c same may) ok);
    })
absorbed_on (Err x) s t e c same may ok = ok

pub unabsorbed_on : {T E : Type 0} (r : Result T E) (s t : Standing) (e : Part) → s ≡ t → OnErr r (e ≡ s.part) → OnErr r (standing s.case_of s.options e ≡ t)
unabsorbed_on (Ok u) s t e same err = err
unabsorbed_on (Err x) s t e same err = ap (λ p. standing s.case_of s.options p) err ∙ same

-- ---- the best point, and the endings

pub best_of : (s t : Standing) → s ≡ t → IsCarried s.case_of s.options s.part × IsSettled s.part → IsBest t.case_of t.part.best
best_of s t same h = subst (λ x. IsBest x.case_of x.part.best) same (carried_standing s.case_of s.options h.0.0 s.part h.0.1).truth.best

pub closed_each : {E : Type 0} (s t : Standing) (r : Result Ending E) → s ≡ t → IsSettled s.part → IfOk r (IsEnding s.case_of s.options s.part) → IfOk r (EndsEach t.case_of t.options t.part)
closed_each s t (Ok end) same settled is =
    subst (λ x. EndsEach x.case_of x.options x.part end) same (λ events carries. record { part = s.part; carries = carries; settled = settled; row = is })
closed_each s t (Err x) same settled is = is
