-- What a closed run says of the pieces that a no-good bars.
use Rattle.std.proofs.Common.{inl, inr, ℕ, ◌<◌, ◌≡◌, refl, sym, ap, ◌∙◌, List, [], ◌∷◌, length, get_or, Bool, true, Some}
use Rattle.std.specs.Prelude.{All, Any, ◌⊎◌}
use Rattle.std.specs.List.{AllByRecursion, list_all, list_any}
use Rattle.std.proofs.lemmas.Bool.{false≢true, and_parts, and_from, cases_Bool}
use Rattle.std.proofs.lemmas.List.Elements.{recursion_from_All, All-from_recursion, All-weaker, All-contains}
use Rattle.std.proofs.lemmas.List.Folds.{Any-from_list_any, list_any_at}
use Rattle.std.proofs.lemmas.Option.{get_or_from_slice_get, slice_get-get_or}
use Rattle.nogoods.specs.declared.choice.Choice.{Choice}
use Rattle.nogoods.specs.declared.choice.Side.{Side}
use Rattle.nogoods.specs.declared.choice.Side.TheVariants.{A, B}
use Rattle.nogoods.specs.Choices.{same_side, other_side, other}
use Rattle.nogoods.specs.Pieces.{IsChoiceOf, Bars}
use Rattle.derivation.specs.HintRuns.{NamesBelow, closes}
use Rattle.derivation.proofs.Soundness.{same_side-true, Fails, closes_sound}

-- whether the piece has this side for the pair; past the last pair each piece has A
abbrev pub keeps : List Side → Choice → Bool
keeps sides c = same_side (get_or sides c.pair A) c.side

abbrev pub Kept : List Side → Choice → Type 0
Kept sides c = keeps sides c ≡ true

either_side : (s t : Side) → (same_side s t ≡ true) ⊎ (same_side s (other_side t) ≡ true)
either_side A A = inl refl
either_side A B = inr refl
either_side B A = inr refl
either_side B B = inl refl

pub either : (sides : List Side) (c : Choice) → Kept sides c ⊎ Kept sides (other c)
either sides c = either_side (get_or sides c.pair A) c.side

same_side-self : (s : Side) → same_side s s ≡ true
same_side-self A = refl
same_side-self B = refl

kept_from_choice : (sides : List Side) (c : Choice) → IsChoiceOf sides c → Kept sides c
kept_from_choice sides c is = ap (λ s. same_side s c.side) (get_or_from_slice_get sides c.pair c.side A is) ∙ same_side-self c.side

pub kept_from_Bars : (sides : List Side) (ng : List Choice) → Bars ng sides → AllByRecursion (Kept sides) ng
kept_from_Bars sides ng bars = recursion_from_All (Kept sides) ng (All-weaker (IsChoiceOf sides) (Kept sides) (kept_from_choice sides) ng bars)

choice_from_kept : (sides : List Side) (c : Choice) → c.pair < length sides → Kept sides c → IsChoiceOf sides c
choice_from_kept sides c named kept = slice_get-get_or sides c.pair A named ∙ ap (λ s. Some s) (same_side-true (get_or sides c.pair A) c.side kept)

pub Bars_from_kept : (sides : List Side) (ng : List Choice) → NamesBelow (length sides) ng → AllByRecursion (Kept sides) ng → Bars ng sides
Bars_from_kept sides ng named kept k d inside =
    choice_from_kept sides (get_or ng k d) (named k d inside) (All-from_recursion (Kept sides) ng kept k d inside)

-- the test of a whole no-good
pub test_from_kept : (sides : List Side) (ng : List Choice) → AllByRecursion (Kept sides) ng → list_all (keeps sides) ng ≡ true
test_from_kept sides [] all = refl
test_from_kept sides (c ∷ cs) all = and_from (keeps sides c) (list_all (keeps sides) cs) all.0 (test_from_kept sides cs all.1)

pub kept_from_test : (sides : List Side) (ng : List Choice) → list_all (keeps sides) ng ≡ true → AllByRecursion (Kept sides) ng
kept_from_test sides [] e = tt
kept_from_test sides (c ∷ cs) e =
    let both = and_parts (keeps sides c) (list_all (keeps sides) cs) e in
    (both.0, kept_from_test sides cs both.1)

pub closed-bars : (earlier : List (List Choice)) (ng : List Choice) (hints : List ℕ) (sides : List Side) → All (NamesBelow (length sides)) earlier → closes earlier ng hints ≡ true → Bars ng sides → Any (λ e. Bars e sides) earlier
closed-bars earlier ng hints sides named closed bars = elim (cases_Bool (list_any (list_all (keeps sides)) earlier)) [
  | inl some ↦
      let found = Any-from_list_any (list_all (keeps sides)) earlier some in
      let here : NamesBelow (length sides) found.1 = All-contains (NamesBelow (length sides)) earlier found.1 named (found.0, found.2, found.3) in
      (found.0, found.1, found.2, found.3, Bars_from_kept sides found.1 here (kept_from_test sides found.1 found.4))
  | inr none ↦
      let fails : All (Fails (Kept sides)) earlier = λ k d inside kept. false≢true (sym none ∙ list_any_at (list_all (keeps sides)) earlier k d inside (test_from_kept sides (get_or earlier k d) kept)) in
      absurd (closes_sound (Kept sides) (either sides) earlier fails hints ng (kept_from_Bars sides ng bars) closed)
]
