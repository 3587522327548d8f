-- What holds of the choices that are not assumed.
use Rattle.std.proofs.Common.{◌≡◌, subst, ◌<◌, Bool, true, false, cond, List, [], ◌∷◌}
use Rattle.std.specs.List.{AllByRecursion}
use Rattle.std.proofs.lemmas.List.Elements.{recursion_from_All}
use Rattle.nogoods.specs.declared.choice.Choice.{Choice}
use Rattle.nogoods.specs.Choices.{other}
use Rattle.derivation.specs.HintRuns.{NamesBelow, is_assumed, unassumed}

cond_keeps : (R : Choice → Type 0) (c : Choice) (rest : List Choice) (b : Bool) → R c → AllByRecursion R rest → AllByRecursion R (cond b rest (c ∷ rest))
cond_keeps R c rest true here all = all
cond_keeps R c rest false here all = (here, all)

-- what holds of each choice holds of those that are not assumed
pub unassumed_keeps : (R : Choice → Type 0) (assumed cs : List Choice) → AllByRecursion R cs → AllByRecursion R (unassumed assumed cs)
unassumed_keeps R assumed [] all = tt
unassumed_keeps R assumed (c ∷ cs) all = cond_keeps R c (unassumed assumed cs) (is_assumed assumed c) all.0 (unassumed_keeps R assumed cs all.1)

-- the choice that a hint makes assumed names a pair of its no-good
pub implied_named : (assumed cs : List Choice) (c d : Choice) → NamesBelow 512 cs → unassumed assumed cs ≡ c ∷ [] → d ≡ other c → d.pair < 512
implied_named assumed cs c d few left is =
    let R : Choice → Type 0 = λ x. x.pair < 512 in
    let P : List Choice → Type 0 = AllByRecursion R in
    let all : P (c ∷ []) = subst P left (unassumed_keeps R assumed cs (recursion_from_All R cs few)) in
    rw is all.0
