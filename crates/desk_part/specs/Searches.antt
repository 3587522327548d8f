-- What the search of a desk part goes on with.
use Rattle.std.specs.Prelude.{◌⊎◌, ℕ, Contains, List, Option, Some, None}
use Rattle.nogoods.specs.declared.choice.Choice.{Choice}
use Rattle.nogoods.specs.declared.choice.Side.{Side}
use Rattle.lpcc_case.specs.declared.point.Point.{Point}
use Rattle.cuts.specs.declared.cut.Cut.{Cut}
use Rattle.derivation.specs.declared.step.Step.{Step}
use Rattle.derivation.specs.Logs.{no_goods}
use Rattle.search.specs.FirstPieces.{IsBarred}
use Rattle.search.specs.Kept.{Keeps}
use Rattle.play.specs.declared.event.Aside.{Aside}
use Rattle.play.specs.declared.event.Direction.{Direction}
use Rattle.play.specs.declared.event.Ticket.{Ticket}
use Rattle.play.specs.declared.event.VerdictKind.{VerdictKind}
use Rattle.play.specs.Parts.{Part, barring, taken}
use Rattle.play.specs.Lawful.{IsOpen}
use Rattle.desk_part.specs.declared.look.KeptSearch.{KeptSearch}

-- the same pieces stand in both lists, but for pieces that are barred
pub record AreSameButBarred (ngs : List (List Choice)) (left right : List (List Side)) : Type 0 where
  pub there : (p : List Side) → Contains left p → Contains right p ⊎ IsBarred ngs p
  pub back : (p : List Side) → Contains right p → Contains left p ⊎ IsBarred ngs p

-- a kept search, if there is one, goes on with this log and these blocked pieces
abbrev pub GoesOn : List (List Choice) → List (List Side) → Option KeptSearch → Type 0
GoesOn ngs blocked None = Unit {0}
GoesOn ngs blocked (Some kept) = Keeps kept.pairs ngs blocked kept.search

-- while pieces are drawn, those that are blocked are the ones in flight and those set aside, but for barred ones
pub record IsSearched (d : Part) (blocked : List (List Side)) (kept : Option KeptSearch) : Type 0 where
  pub pieces : IsOpen d → AreSameButBarred (barring d) (taken d) blocked
  pub search : GoesOn (no_goods d.log) blocked kept

-- the desk part of these parts
abbrev pub part_of : List Cut → List Step → List Ticket → List Aside → ℕ → Option Point → Option Direction → Option VerdictKind → Part
part_of absorbed log flight aside drawn best unbounded verdict = record { absorbed = absorbed; log = log; flight = flight; aside = aside; drawn = drawn; best = best; unbounded = unbounded; verdict = verdict }
