-- What contracts see of the pages that a reach holds, and of the order in which a lane's items are given.
use Rattle.std.specs.Prelude.{◌≡◌, ◌<◌, ◌^◌, ℕ, zero, suc, List, [], ◌∷◌, ◌++◌, length}
use Rattle.lpcc_case.specs.Instance.{Instance}
use Rattle.page.specs.declared.rule.Look.{Look}

-- a page of a lane, with what the read pass has seen of it and its last look
pub record PageView : Type 0 where
  pub case : Instance
  pub room : ℕ
  pub seen : List (List ℕ)
  pub look : Look

-- the items that were given, in the order of the pages
abbrev pub given_of : List PageView → List (List ℕ)
given_of [] = []
given_of (p ∷ ps) = p.seen ++ given_of ps

abbrev pub IsSized : PageView → Type 0
IsSized p = (0 < p.room) × (p.room < 2 ^ 32)

abbrev pub IsUsedUp : PageView → Type 0
IsUsedUp p = length p.seen ≡ p.room

-- nothing was seen of these pages
abbrev pub AreFresh : List PageView → Type 0
AreFresh [] = Unit {0}
AreFresh (p ∷ ps) = IsSized p × (p.seen ≡ []) × AreFresh ps

-- the pages before this one are used up, so much was seen of it, and nothing of those behind it
abbrev pub IsAt : List PageView → ℕ → ℕ → Type 0
IsAt [] at place = (at ≡ 0) × (place ≡ 0)
IsAt (p ∷ ps) zero place = IsSized p × (length p.seen ≡ place) × (place < p.room) × AreFresh ps
IsAt (p ∷ ps) (suc at) place = IsSized p × IsUsedUp p × IsAt ps at place
