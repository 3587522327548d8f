-- Records: the lists of events that lead to a desk part, with first pieces and true outcomes.
use Rattle.std.specs.Prelude.{◌≡◌, ◌<◌, ℕ, List, [], ◌∷◌, length, Some}
use Rattle.lpcc_case.specs.Instance.{Instance}
use Rattle.search.specs.FirstPieces.{IsFirst}
use Rattle.play.specs.declared.event.Event.{Event}
use Rattle.play.specs.declared.event.Event.TheVariants.{Publish, Read, Offer, Draw, Absorb, Learn, Settle, Conclude}
use Rattle.play.specs.declared.event.Ticket.{Ticket}
use Rattle.play.specs.declared.event.Options.{Options}
use Rattle.play.specs.Parts.{Part, start, flight_of, barring, taken}
use Rattle.play.specs.Lawful.{IsLawfulOnDesk}
use Rattle.play.specs.Steps.{after}
use Rattle.play.specs.Causes.{IsTrueOutcome}

-- what a record asks besides
abbrev pub IsRecorded : Instance → Options → Part → Event → Type 0
IsRecorded a o d (Publish lane c) = ⊥
IsRecorded a o d (Read worker lane place) = ⊥
IsRecorded a o d (Offer worker point) = ⊥
IsRecorded a o d (Draw worker number piece) = (d.drawn < o.pieces) × IsFirst (length a.pairs) (barring d) (taken d) piece
IsRecorded a o d (Absorb c) = Unit {0}
IsRecorded a o d (Learn ng hints) = Unit {0}
IsRecorded a o d (Settle worker number what) = (t : Ticket) → flight_of number d.flight ≡ Some t → IsTrueOutcome a o t what
IsRecorded a o d (Conclude verdict) = Unit {0}

pub record IsNext (a : Instance) (o : Options) (d : Part) (x : Event) : Type 0 where
  pub lawful : IsLawfulOnDesk a o.workers d x
  pub recorded : IsRecorded a o d x

-- these events lead from d to e
abbrev pub Leads : Instance → Options → Part → List Event → Part → Type 0
Leads a o d [] e = d ≡ e
Leads a o d (x ∷ xs) e = IsNext a o d x × Leads a o (after x d) xs e

-- the record is one of this part
abbrev pub Carries : Instance → Options → List Event → Part → Type 0
Carries a o events d = Leads a o start events d

-- lawful events lead from d to e, whatever else a record asks
abbrev pub LeadsLawfully : Instance → ℕ → Part → List Event → Part → Type 0
LeadsLawfully a n d [] e = d ≡ e
LeadsLawfully a n d (x ∷ xs) e = IsLawfulOnDesk a n d x × LeadsLawfully a n (after x d) xs e
