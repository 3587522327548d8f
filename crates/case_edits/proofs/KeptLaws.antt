-- Which cuts are kept.
use Rattle.std.proofs.Common.{ℕ, ◌+◌, ◌<◌, ◌≤◌, ◌≡◌, refl, sym, ◌∙◌, ap, subst, inl, inr, append-nil, Bool, true, false, Option, Some, None, List, [], ◌∷◌, ◌++◌, length, get_or, take}
use Rattle.std.specs.Prelude.{All, if◌then◌else◌}
use Rattle.std.specs.Option.{option_to_list}
use Rattle.std.proofs.lemmas.List.{take_more, take_all}
use Rattle.std.proofs.lemmas.List.Elements.{All-append, All-cons, All-nil}
use Rattle.lpcc_case.specs.Instance.{Instance}
use Rattle.cuts.specs.declared.cut.Cut.{Cut}
use Rattle.cuts.specs.Cuts.{Passes}
use Rattle.case_edits.specs.Kept.{AreKept, Becomes}

-- ---- one cut more

dropped_last : (a : Instance) (cuts kept : List Cut) (c : Cut) → AreKept a cuts kept → Becomes a c None → AreKept a (cuts ++ c ∷ []) kept
dropped_last a [] kept c are gone = inl (gone, are)
dropped_last a (x ∷ cuts) kept c are gone =
    elim are [
      | inl h ↦ inl (h.0, dropped_last a cuts kept c h.1 gone)
      | inr h ↦ inr (h.0, h.1, h.2, h.3, dropped_last a cuts h.1 c h.4 gone)
    ]

kept_last : (a : Instance) (cuts kept : List Cut) (c d : Cut) → AreKept a cuts kept → Becomes a c (Some d) → AreKept a (cuts ++ c ∷ []) (kept ++ d ∷ [])
kept_last a [] kept c d are here = inr (d, [], here, ap (λ (k : List Cut). k ++ d ∷ []) are, refl)
kept_last a (x ∷ cuts) kept c d are here =
    elim are [
      | inl h ↦ inl (h.0, kept_last a cuts kept c d h.1 here)
      | inr h ↦ inr (h.0, h.1 ++ d ∷ [], h.2, ap (λ (k : List Cut). k ++ d ∷ []) h.3, kept_last a cuts h.1 c d h.4 here)
    ]

-- what becomes of the next one
next_last : (a : Instance) (cuts made : List Cut) (c : Cut) (found : Option Cut) → AreKept a cuts made → Becomes a c found → AreKept a (cuts ++ c ∷ []) (made ++ option_to_list found)
next_last a cuts made c None before here = subst (AreKept a (cuts ++ c ∷ [])) (sym (append-nil made)) (dropped_last a cuts made c before here)
next_last a cuts made c (Some d) before here = kept_last a cuts made c d before here

pub next_kept : (a : Instance) (cuts made later : List Cut) (i : ℕ) (c : Cut) (found : Option Cut) → i < length cuts → c ≡ get_or cuts i c → later ≡ made ++ option_to_list found → AreKept a (take i cuts) made → Becomes a c found → AreKept a (take (i + 1) cuts) later
next_kept a cuts made later i c found lt read more before here =
    let front : take i cuts ++ c ∷ [] ≡ take (i + 1) cuts = ap (λ (x : Cut). take i cuts ++ x ∷ []) read ∙ sym (take_more cuts i c lt) in
    subst (AreKept a (take (i + 1) cuts)) (sym more) (subst (λ (xs : List Cut). AreKept a xs (made ++ option_to_list found)) front (next_last a (take i cuts) made c found before here))

pub kept_all : (a : Instance) (cuts made : List Cut) (i : ℕ) → length cuts ≤ i → AreKept a (take i cuts) made → AreKept a cuts made
kept_all a cuts made i past before = subst (λ (xs : List Cut). AreKept a xs made) (take_all i cuts past) before

-- ---- what is kept passes

pub kept_pass : (a : Instance) (cuts kept : List Cut) → AreKept a cuts kept → All (Passes a) kept
kept_pass a [] kept are = rw are (All-nil (Passes a))
kept_pass a (c ∷ cuts) kept are =
    elim are [
      | inl h ↦ kept_pass a cuts kept h.1
      | inr h ↦ rw h.3 (All-cons (Passes a) h.0 h.1 (rw (h.2.1) h.2.0) (kept_pass a cuts h.1 h.4))
    ]

-- cuts that are kept behind the others, unless memory is short
pub all_appended : (a : Instance) (b : Bool) (xs ys zs : List Cut) → zs ≡ (if b then xs ++ ys else xs) → All (Passes a) xs → All (Passes a) ys → All (Passes a) zs
all_appended a true xs ys zs e h more = subst (All (Passes a)) (sym e) (All-append (Passes a) xs ys h more)
all_appended a false xs ys zs e h more = subst (All (Passes a)) (sym e) h
