-- What a worker knows of a case, as contracts see it.
use Rattle.std.specs.Prelude.{List, [], Option, Some, None, All}
use Rattle.lpcc_case.specs.Instance.{Instance}
use Rattle.lpcc_case.specs.declared.point.Point.{Point}
use Rattle.cuts.specs.declared.cut.Cut.{Cut}
use Rattle.cuts.specs.Cuts.{Passes}
use Rattle.play.specs.Points.{IsBest}
use Rattle.own_order.specs.Searching.{Found, IsTrueOf}

-- the best point so far, cuts for a search that has not begun, and what the search has found
pub record Known : Type 0 where
  pub incumbent : Option Point
  pub cuts : List Cut
  pub found : Option Found

abbrev pub nothing_known : Known
nothing_known = record { incumbent = None; cuts = []; found = None }

-- the cuts of a search, none where it has not begun
abbrev pub searched : Option Found → List Cut
searched None = []
searched (Some f) = f.cuts

-- what a search has found, where it has begun, is true of the instance
abbrev pub IsTrueSearch : Instance → Option Found → Type 0
IsTrueSearch a None = Unit {0}
IsTrueSearch a (Some f) = IsTrueOf a f

-- the incumbent is feasible, and each cut passes
pub record IsTrueKnowledge (a : Instance) (k : Known) : Type 0 where
  pub best : IsBest a k.incumbent
  pub cuts : All (Passes a) k.cuts
  pub found : IsTrueSearch a k.found
