-- Which tickets a worker holds.
use Rattle.std.specs.Prelude.{◌≡◌, ℕ, nat_eq, if◌then◌else◌, List, [], ◌∷◌, Option, Some, None}
use Rattle.play.specs.declared.event.Ticket.{Ticket}
use Rattle.play.specs.Lawful.{IsFree}

-- the tickets in flight for this worker
abbrev pub tickets_of : ℕ → List Ticket → List Ticket
tickets_of worker [] = []
tickets_of worker (t ∷ ts) = if nat_eq t.worker worker then t ∷ tickets_of worker ts else tickets_of worker ts

abbrev pub listed : Option Ticket → List Ticket
listed None = []
listed (Some t) = t ∷ []

-- the worker holds no ticket, or just this one
abbrev pub Holds : ℕ → List Ticket → Option Ticket → Type 0
Holds worker flight None = IsFree worker flight
Holds worker flight (Some t) = tickets_of worker flight ≡ t ∷ []
