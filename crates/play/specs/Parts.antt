-- The state of a run: the desk part, which alone carries the verdict, and the outer part round it.
use Rattle.std.specs.Prelude.{ℕ, ℤ, nat_eq, if◌then◌else◌, List, [], ◌∷◌, ◌++◌, map, Option, Some, None}
use Rattle.nogoods.specs.declared.choice.Choice.{Choice}
use Rattle.nogoods.specs.declared.choice.Side.{Side}
use Rattle.lpcc_case.specs.declared.point.Point.{Point}
use Rattle.cuts.specs.declared.cut.Cut.{Cut}
use Rattle.cuts.specs.declared.cut.Cut.TheVariants as cut
use Rattle.cuts.specs.Cuts.{no_good_of}
use Rattle.derivation.specs.declared.step.Step.{Step}
use Rattle.play.specs.declared.event.Ticket.{Ticket}
use Rattle.play.specs.declared.event.Aside.{Aside}
use Rattle.play.specs.declared.event.Direction.{Direction}
use Rattle.play.specs.declared.event.VerdictKind.{VerdictKind}

pub record Part : Type 0 where
  -- the absorbed cuts in order; the log has their no-goods as its starts
  pub absorbed : List Cut
  pub log : List Step
  -- the pieces that workers have, and those that were set aside
  pub flight : List Ticket
  pub aside : List Aside
  -- the number of draws
  pub drawn : ℕ
  pub best : Option Point
  -- the kept unbounded outcome with its piece
  pub unbounded : Option Direction
  pub verdict : Option VerdictKind

-- nothing has happened
abbrev pub start : Part
start = record { absorbed = []; log = []; flight = []; aside = []; drawn = 0; best = None; unbounded = None; verdict = None }

-- the ticket of this number
abbrev pub flight_of : ℕ → List Ticket → Option Ticket
flight_of number [] = None
flight_of number (t ∷ ts) = if nat_eq t.number number then Some t else flight_of number ts

-- without the ticket of this number
abbrev pub without : ℕ → List Ticket → List Ticket
without number [] = []
without number (t ∷ ts) = if nat_eq t.number number then ts else t ∷ without number ts

abbrev pub piece_of : Ticket → List Side
piece_of t = t.piece

abbrev pub piece_aside : Aside → List Side
piece_aside x = x.piece

-- none of a ray cut, and the factor and the bound of a point cut
abbrev pub kind_of : Cut → Option (ℤ × ℤ)
kind_of (cut.Ray ng mult) = None
kind_of (cut.Point ng mult e v) = Some (e, v)

-- the no-goods of the absorbed cuts
abbrev pub barring : Part → List (List Choice)
barring d = map no_good_of d.absorbed

-- the pieces that a worker has or that were set aside
abbrev pub taken : Part → List (List Side)
taken d = map piece_of d.flight ++ map piece_aside d.aside

-- the outer part: the lanes, for each worker and lane the number of items read, and a record of turns
pub record Outer : Type 0 where
  pub lanes : List (List Cut)
  pub read : List (List ℕ)
  pub turns : List (Option Point)

pub record Machine : Type 0 where
  pub part : Part
  pub outer : Outer
