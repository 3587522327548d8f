-- The whole machine: what each event changes outside the desk part, and the falling history of the turns.
use Rattle.std.specs.Prelude.{◌≡◌, ◌⊎◌, ◌+◌, ℕ, if◌then◌else◌, List, [], ◌∷◌, ◌++◌, Option, Some, None, length, replicate, slice_set, slice_index_or}
use Rattle.lpcc_case.specs.Instance.{Instance}
use Rattle.lpcc_case.specs.NarrowPoints.{IsBelow}
use Rattle.lpcc_case.specs.declared.point.Point.{Point}
use Rattle.play.specs.declared.event.Event.{Event}
use Rattle.play.specs.declared.event.Event.TheVariants.{Publish, Read, Offer, Draw, Absorb, Learn, Settle, Conclude}
use Rattle.play.specs.declared.event.Lawful.{Lawful}
use Rattle.play.specs.declared.event.Lawful.TheVariants.{Yes, No}
use Rattle.play.specs.Parts.{Machine, Outer, start}
use Rattle.play.specs.Points.{is_below}
use Rattle.play.specs.Steps.{after}
use Rattle.play.specs.Lawful.{IsLawful, lane_at, read_by}

-- so many workers, each with an empty lane, of which nothing was read
abbrev pub outer_start : ℕ → Outer
outer_start n = record { lanes = replicate n []; read = replicate n (replicate n 0); turns = [] }

-- so many workers, and nothing has happened
abbrev pub beginning : ℕ → Machine
beginning n = record { part = start; outer = outer_start n }

abbrev pub workers_of : Machine → ℕ
workers_of m = length m.outer.lanes

abbrev pub outer_after : Event → Outer → Outer
outer_after (Publish lane c) o = record o { lanes = slice_set o.lanes lane (lane_at o lane ++ c ∷ []) }
outer_after (Read worker lane place) o = record o { read = slice_set o.read worker (slice_set (slice_index_or o.read worker []) lane (read_by o worker lane + 1)) }
outer_after (Offer worker point) o = record o { turns = o.turns ++ point ∷ [] }
outer_after (Draw worker number piece) o = o
outer_after (Absorb c) o = o
outer_after (Learn ng hints) o = o
outer_after (Settle worker number what) o = o
outer_after (Conclude verdict) o = o

-- the step of a lawful event
abbrev pub step : Event → Machine → Machine
step x m = record { part = after x m.part; outer = outer_after x m.outer }

-- an event that is lawful makes its step, and every other one changes nothing
abbrev pub IsStep : Instance → Machine → Event → Machine → Lawful → Type 0
IsStep a m x e Yes = IsLawful a (workers_of m) m x × (e ≡ step x m)
IsStep a m x e No = (IsLawful a (workers_of m) m x → ⊥) × (e ≡ m)

abbrev pub MachineLeads : Instance → ℕ → Machine → List Event → Machine → Type 0
MachineLeads a n m [] e = m ≡ e
MachineLeads a n m (x ∷ xs) e = IsLawful a n m x × MachineLeads a n (step x m) xs e

-- the newest entry first; an offer joins where it is below the newest, or there is none
abbrev pub joined : List Point → Option Point → List Point
joined entries None = entries
joined [] (Some q) = q ∷ []
joined (r ∷ entries) (Some q) = if is_below q r then q ∷ r ∷ entries else r ∷ entries

-- the history that turns make on these entries
abbrev pub history : List Point → List (Option Point) → List Point
history entries [] = entries
history entries (t ∷ turns) = history (joined entries t) turns

abbrev pub Falls : List Point → Type 0
Falls [] = Unit {0}
Falls (q ∷ []) = Unit {0}
Falls (q ∷ r ∷ rest) = IsBelow q r × Falls (r ∷ rest)

abbrev pub IsUnderOld : Option Point → Point → Type 0
IsUnderOld None q = Unit {0}
IsUnderOld (Some r) q = IsBelow q r

-- the point is the same; or another one, lower where there was one
abbrev pub FallsTo : Option Point → Option Point → Type 0
FallsTo old new = (new ≡ old) ⊎ ((q : Point) × (new ≡ Some q) × IsUnderOld old q)
