-- Why a hint run that closes is a proof.
use Rattle.std.proofs.Common.{inl, inr, ℕ, ◌≡◌, refl, ap, ◌∙◌, subst, List, [], ◌∷◌, length, get_or, Bool, true, false, cond}
use Rattle.std.specs.Prelude.{All, ◌⊎◌}
use Rattle.std.specs.List.{AllByRecursion}
use Rattle.std.proofs.lemmas.Bool.{false≢true, eqb-true, ltb-true, and_parts, or_cases}
use Rattle.std.proofs.lemmas.List.Elements.{All-get_or}
use Rattle.nogoods.specs.declared.choice.Choice.{Choice}
use Rattle.nogoods.specs.declared.choice.Side.{Side}
use Rattle.nogoods.specs.declared.choice.Side.TheVariants.{A, B}
use Rattle.nogoods.specs.Choices.{same_side, same_choice, other}
use Rattle.derivation.specs.HintRuns.{is_assumed, unassumed, is_last, hint_run, closes}

pub same_side-true : (s t : Side) → same_side s t ≡ true → s ≡ t
same_side-true A A e = refl
same_side-true A B e = absurd (false≢true e)
same_side-true B A e = absurd (false≢true e)
same_side-true B B e = refl

same_choice-true : (c d : Choice) → same_choice c d ≡ true → c ≡ d
same_choice-true c d e =
    let both = and_parts _ _ e in
    let made : ℕ → Side → Choice = λ k s. record { pair = k; side = s } in
    ap (λ k. made k c.side) (eqb-true c.pair d.pair both.0) ∙ ap (λ s. made d.pair s) (same_side-true c.side d.side both.1)

-- an assumed choice holds where all assumed choices do
assumed_holds : (P : Choice → Type 0) (assumed : List Choice) (c : Choice) → AllByRecursion P assumed → is_assumed assumed c ≡ true → P c
assumed_holds P [] c all e = absurd (false≢true e)
assumed_holds P (d ∷ ds) c all e = elim (or_cases (same_choice d c) (is_assumed ds c) e) [
  | inl same ↦ subst P (same_choice-true d c same) all.0
  | inr more ↦ assumed_holds P ds c all.1 more
]

cond_parts : (P : Choice → Type 0) (c : Choice) (rest : List Choice) (b : Bool) → AllByRecursion P (cond b rest (c ∷ rest)) → (b ≡ true → P c) → P c × AllByRecursion P rest
cond_parts P c rest true all here = (here refl, all)
cond_parts P c rest false all here = all

-- choices hold where the assumed ones and those that are not assumed do
all_hold : (P : Choice → Type 0) (assumed cs : List Choice) → AllByRecursion P assumed → AllByRecursion P (unassumed assumed cs) → AllByRecursion P cs
all_hold P assumed [] all left = tt
all_hold P assumed (c ∷ cs) all left =
    let parts = cond_parts P c (unassumed assumed cs) (is_assumed assumed c) left (λ e. assumed_holds P assumed c all e) in
    (parts.0, all_hold P assumed cs all parts.1)

abbrev pub Fails : (Choice → Type 0) → List Choice → Type 0
Fails P cs = AllByRecursion P cs → ⊥

hint_sound : (P : Choice → Type 0) (sides : (c : Choice) → P c ⊎ P (other c)) (left assumed : List Choice) (last : Bool) (go_on : List Choice → Bool) → Fails P left → ((more : List Choice) → AllByRecursion P more → go_on more ≡ true → ⊥) → AllByRecursion P assumed → hint_run left assumed last go_on ≡ true → ⊥
hint_sound P sides [] assumed last go_on fails next all e = fails tt
hint_sound P sides (c ∷ []) assumed last go_on fails next all e = elim (sides c) [
  | inl here ↦ fails (here, tt)
  | inr there ↦ next (other c ∷ assumed) (there, all) ((and_parts _ _ e).1)
]
hint_sound P sides (c ∷ d ∷ cs) assumed last go_on fails next all e = false≢true e

-- Where of each choice or its other side one holds, and in each earlier no-good some choice does not, the assumed
-- choices of a run that closes do not all hold.
pub closes_sound : (P : Choice → Type 0) (sides : (c : Choice) → P c ⊎ P (other c)) (earlier : List (List Choice)) → All (Fails P) earlier → (hints : List ℕ) (assumed : List Choice) → AllByRecursion P assumed → closes earlier assumed hints ≡ true → ⊥
closes_sound P sides earlier fails [] assumed all e = false≢true e
closes_sound P sides earlier fails (h ∷ hints) assumed all e =
    let both = and_parts _ _ e in
    let ng = get_or earlier h [] in
    let here : Fails P ng = All-get_or (Fails P) earlier h [] (ltb-true h (length earlier) both.0) fails in
    hint_sound P sides (unassumed assumed ng) assumed (is_last hints) (λ more. closes earlier more hints)
    (λ left. here (all_hold P assumed ng all left))
    (λ more held go. closes_sound P sides earlier fails hints more held go)
    all both.1
