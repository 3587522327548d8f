-- What tests over a whole log say.
use Rattle.std.proofs.Common.{ℕ, ◌<◌, ◌≤◌, sym, ◌∙◌, subst, arith, List, [], length, get_or}
use Rattle.std.proofs.lemmas.List.{get_or_default}
use Rattle.nogoods.specs.declared.choice.Choice.{Choice}
use Rattle.nogoods.specs.declared.choice.Side.{Side}
use Rattle.nogoods.specs.Pieces.{Bars}
use Rattle.search.specs.FirstPieces.{IsBarred}

pub none_bars : (ngs : List (List Choice)) (sides : List Side) (n : ℕ) → length ngs ≤ n → ((k : ℕ) → k < n → ¬ (Bars (get_or ngs k []) sides)) → ¬ (IsBarred ngs sides)
none_bars ngs sides n all none found =
    let P : List Choice → Type 0 = λ ng. Bars ng sides in
    none found.0 (omega arith) (subst P (sym found.3 ∙ get_or_default ngs found.0 found.1 [] found.2) found.4)
