-- Numbers of pages, lane by lane.
use Rattle.std.proofs.Common.{ℕ, zero, suc, ◌<◌, ◌≡◌, ◌∙◌, refl, ap, arith, List, [], ◌∷◌, length, get_or, map}
use Rattle.cut_pool.specs.Lanes.{LaneView}
use Rattle.cut_pool.specs.Reaches.{no_lane}
use Rattle.cut_pool.specs.Shelves.{page_count}

pub counts_same : (ls : List LaneView) (hs : List ℕ) → length hs ≡ length ls → ((j : ℕ) → j < length hs → page_count (get_or ls j no_lane) ≡ get_or hs j 0) → map page_count ls ≡ hs
counts_same [] [] e h = refl
counts_same [] (n ∷ hs) e h = absurd (omega arith)
counts_same (l ∷ ls) [] e h = absurd (omega arith)
counts_same (l ∷ ls) (n ∷ hs) e h =
    let here : page_count l ≡ n = h 0 (omega arith) in
    let rest : map page_count ls ≡ hs = counts_same ls hs (omega arith) (λ j lt. h (suc j) (omega arith)) in
    λ i. here i ∷ rest i

pub counts_at : (ls : List LaneView) (hs : List ℕ) (j : ℕ) → map page_count ls ≡ hs → j < length ls → page_count (get_or ls j no_lane) ≡ get_or hs j 0
counts_at ls hs j e lt = go ls j lt ∙ ap (λ (t : List ℕ). get_or t j 0) e
  where
    go : (ls : List LaneView) (j : ℕ) → j < length ls → page_count (get_or ls j no_lane) ≡ get_or (map page_count ls) j 0
    go [] j lt = absurd (omega arith)
    go (l ∷ ls) zero lt = refl
    go (l ∷ ls) (suc j) lt = go ls j (omega arith)
