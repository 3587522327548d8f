-- Reasons that last where choices are dropped.
use Rattle.std.proofs.Common.{◌≡◌, ℕ, ◌+◌, ◌<◌, List, [], ◌∷◌, ◌++◌, length, get_or, take, inl, inr, Option, Some, sym, ap, ◌∙◌, arith, subst}
use Rattle.std.specs.Prelude.{IfSome, slice_get}
use Rattle.std.proofs.lemmas.List.{length-append, map-append, take_more}
use Rattle.nogoods.specs.declared.choice.Choice.{Choice}
use Rattle.cuts.specs.declared.reason.Reason.{Reason}
use Rattle.reasons.specs.Reasons.{choice_kept}
use Rattle.shrink.specs.Trials.{AreCarried, AreKept, IsLasting, reason_kept}
use Rattle.shrink.proofs.Places.{at_end, at_left, push_cases}

-- ---- the reasons that are carried over, one choice more

pub carried_push : (old new : List Choice) (found now made : List (Option Reason)) (c : Choice) (o : Option Reason) → AreCarried old new found made
    → ((k : ℕ) (r : Reason) → slice_get now k ≡ Some (Some r) → slice_get found k ≡ Some (Some r))
    → IfSome o (λ r. IsLasting r × (p : ℕ) × (slice_get old p ≡ Some c) × (slice_get now p ≡ Some (Some r))) → AreCarried old (new ++ c ∷ []) found (made ++ o ∷ [])
carried_push old new found now made c o so_far rest taken = record {
  size = omega (arith, length-append made (o ∷ []), length-append new (c ∷ []), so_far.size);
  origin = λ k r here. elim (push_cases made o (Some r) k here) [
    | inl before ↦ let from = so_far.origin k r before in (from.0, from.1, from.2, from.3, at_left new (c ∷ []) from.2 k from.4, from.5)
    | inr last ↦
        let from = subst (λ (x : Option Reason). IfSome x (λ r. IsLasting r × (p : ℕ) × (slice_get old p ≡ Some c) × (slice_get now p ≡ Some (Some r)))) last.1 taken in
        let place : k ≡ length new = last.0 ∙ so_far.size in
        (from.0, from.1, c, from.2, subst (λ j. slice_get (new ++ c ∷ []) j ≡ Some c) (sym place) (at_end new c), rest from.1 r from.3)
  ];
}

pub carried_more : (old all : List Choice) (i : ℕ) (d : Choice) (found now made after : List (Option Reason)) (o : Option Reason) → i < length all → AreCarried old (take i all) found made
    → ((k : ℕ) (r : Reason) → slice_get now k ≡ Some (Some r) → slice_get found k ≡ Some (Some r))
    → IfSome o (λ r. IsLasting r × (p : ℕ) × (slice_get old p ≡ Some (get_or all i d)) × (slice_get now p ≡ Some (Some r))) → after ≡ made ++ o ∷ [] → AreCarried old (take (i + 1) all) found after
carried_more old all i d found now made after o lt so_far rest taken e =
    subst (λ (xs : List (Option Reason)). AreCarried old (take (i + 1) all) found xs) (sym e)
    (subst (λ (cs : List Choice). AreCarried old cs found (made ++ o ∷ [])) (sym (take_more all i d lt)) (carried_push old (take i all) found now made (get_or all i d) o so_far rest taken))

-- ---- each choice with its reason, one choice more

pub kept_push : (ng : List Choice) (found : List (Option Reason)) (kept : List (Choice × Reason)) (c : Choice) (r : Reason) → AreKept ng found kept → AreKept (ng ++ c ∷ []) (found ++ Some r ∷ []) (kept ++ (c, r) ∷ [])
kept_push ng found kept c r so_far = record {
  names = map-append choice_kept kept ((c, r) ∷ []) ∙ ap (λ (cs : List Choice). cs ++ c ∷ []) so_far.names;
  reasons = map-append reason_kept kept ((c, r) ∷ []) ∙ ap (λ (rs : List (Option Reason)). rs ++ Some r ∷ []) so_far.reasons;
}

pub kept_more : (ng : List Choice) (found : List (Option Reason)) (kept after : List (Choice × Reason)) (k : ℕ) (d : Choice) (n : Option Reason) (r : Reason) → k < length ng → k < length found → get_or found k n ≡ Some r → AreKept (take k ng) (take k found) kept → after ≡ kept ++ (get_or ng k d, r) ∷ [] → AreKept (take (k + 1) ng) (take (k + 1) found) after
kept_more ng found kept after k d n r lt lf here so_far e =
    let pushed = kept_push (take k ng) (take k found) kept (get_or ng k d) r so_far in
    let names : take (k + 1) ng ≡ take k ng ++ get_or ng k d ∷ [] = take_more ng k d lt in
    let reasons : take (k + 1) found ≡ take k found ++ Some r ∷ [] = take_more found k n lf ∙ ap (λ (x : Option Reason). take k found ++ x ∷ []) here in
    rw (names, reasons, e) pushed
