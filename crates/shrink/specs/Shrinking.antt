-- A cut without the choices that it does not need, and why it needs the others.
use Rattle.std.specs.Prelude.{ℕ, Option, All, Contains}
use Rattle.lpcc_case.specs.Instance.{Instance}
use Rattle.lpcc_case.specs.declared.point.Point.{Point}
use Rattle.cuts.specs.declared.cut.Cut.{Cut}
use Rattle.cuts.specs.Cuts.{Passes, no_good_of}
use Rattle.reasons.specs.Reasons.{AreReasons, IsActiveAgainst}
use Rattle.shrink.specs.declared.shrunk.Shrunk.{Shrunk}

-- the cut passes and is active against the limit, its choices are among the old ones, and each is kept for a true reason
pub record IsShrunk (a : Instance) (budget : ℕ) (limit : Option Point) (old : Cut) (s : Shrunk) : Type 0 where
  pub passes : Passes a s.cut
  pub active : IsActiveAgainst s.cut limit
  pub choices : All (Contains (no_good_of old)) (no_good_of s.cut)
  pub kept : AreReasons a budget limit (no_good_of s.cut) s.kept
