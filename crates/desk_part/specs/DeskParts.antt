-- A desk part, and what its calls add to a record.
use Rattle.std.specs.Prelude.{Bool, true, false, ◌≡◌, ◌≢◌, ◌<◌, ◌≤◌, ◌⊎◌, ◌+◌, ℕ, All, Contains, List, [], ◌∷◌, ◌++◌, length, map, Option, Some, None}
use Rattle.nogoods.specs.declared.choice.Side.{Side}
use Rattle.lpcc_case.specs.Instance.{Instance}
use Rattle.lpcc_case.specs.Pieces.{IsPiece}
use Rattle.nogoods.specs.Pieces.{Bars}
use Rattle.cuts.specs.Cuts.{no_good_of}
use Rattle.derivation.specs.Logs.{no_goods}
use Rattle.search.specs.FirstPieces.{IsBarred, IsFirst, AllBlocked}
use Rattle.search.specs.declared.found.Found.{Found}
use Rattle.search.specs.declared.found.Found.TheVariants as found
use Rattle.play.specs.declared.event.Event.{Event}
use Rattle.play.specs.declared.event.Event.TheVariants as event
use Rattle.play.specs.declared.event.Options.{Options}
use Rattle.play.specs.declared.event.Ticket.{Ticket}
use Rattle.play.specs.declared.event.VerdictKind.{VerdictKind}
use Rattle.play.specs.declared.event.VerdictKind.TheVariants as kind
use Rattle.lpcc_case.specs.declared.point.Point.{Point}
use Rattle.play.specs.declared.outcome.Cause.{Cause}
use Rattle.play.specs.declared.outcome.Cause.TheVariants as cause
use Rattle.play.specs.declared.outcome.Outcome.{Outcome}
use Rattle.play.specs.declared.outcome.Outcome.TheVariants as outcome
use Rattle.play.specs.Parts.{Part, barring, taken, piece_aside, flight_of, without}
use Rattle.play.specs.Lawful.{MaySettle, OutcomeFits}
use Rattle.play.specs.Causes.{IsTrueOutcome}
use Rattle.play.specs.Records.{Leads, Carries}
use Rattle.play.specs.declared.ending.Ending.{Ending}
use Rattle.play.specs.declared.ending.Ending.TheVariants as ending
use Rattle.cert_text.specs.Certs.{KeepsForm}
use Rattle.play.specs.Endings.{IsEnding, IsIdle, IsOut}
use Rattle.desk_part.specs.declared.answer.Draw.{Draw}
use Rattle.desk_part.specs.declared.answer.Draw.TheVariants as draw

-- the case, the options and the part
pub record Standing : Type 0 where
  pub case_of : Instance
  pub options : Options
  pub part : Part

abbrev pub standing : Instance → Options → Part → Standing
standing a o d = record { case_of = a; options = o; part = d }

-- there is a record that leads to the part
abbrev pub IsCarried : Instance → Options → Part → Type 0
IsCarried a o d = (record_of : List Event) × Carries a o record_of d

-- an unbounded outcome is kept only with its verdict
abbrev pub IsSettled : Part → Type 0
IsSettled d = d.verdict ≡ None → d.unbounded ≡ None

abbrev pub IsLearn : Event → Type 0
IsLearn (event.Publish lane c) = ⊥
IsLearn (event.Read worker lane place) = ⊥
IsLearn (event.Offer worker point) = ⊥
IsLearn (event.Draw worker number piece) = ⊥
IsLearn (event.Absorb c) = ⊥
IsLearn (event.Learn ng hints) = Unit {0}
IsLearn (event.Settle worker number what) = ⊥
IsLearn (event.Conclude verdict) = ⊥

-- steps are learned, and nothing else changes
pub record Learns (a : Instance) (o : Options) (old new : Part) : Type 0 where
  pub learned : List Event
  pub learns : All IsLearn learned
  pub leads : Leads a o old learned new
  pub same : new ≡ record old { log = new.log }

-- what a draw adds behind what is learned
abbrev pub AddedBy : ℕ → Draw → List Event → Type 0
AddedBy worker (draw.Piece t) xs = (t.worker ≡ worker) × (xs ≡ event.Draw t.worker t.number t.piece ∷ [])
AddedBy worker draw.Pause xs = xs ≡ []
AddedBy worker draw.Done xs = (xs ≡ []) ⊎ ((v : VerdictKind) × (xs ≡ event.Conclude v ∷ []))

-- there is a verdict; or nothing is in flight, and each piece that is not barred is set aside, or the last draw was made
abbrev pub IsOver : Instance → Options → Part → Type 0
IsOver a o d = ((v : VerdictKind) × (d.verdict ≡ Some v)) ⊎ (IsIdle d × (AllBlocked (length a.pairs) (barring d) (map piece_aside d.aside) ⊎ ((left : List Side) × IsOut a o d left)))

-- something is in flight, and nothing is to be drawn
pub record IsPausing (a : Instance) (o : Options) (d : Part) : Type 0 where
  pub unconcluded : d.verdict ≡ None
  pub flying : d.flight ≢ []
  pub none : ((p : List Side) → IsPiece a p → IsBarred (barring d) p ⊎ Contains (taken d) p) ⊎ (o.pieces ≤ d.drawn)

-- a piece is given: its ticket has the number of draws so far, and stands in flight behind the others
pub record IsGiven (a : Instance) (o : Options) (old new : Part) (t : Ticket) : Type 0 where
  pub number : t.number ≡ old.drawn
  pub few : old.drawn < o.pieces
  pub drawn : new.drawn ≡ old.drawn + 1
  pub flight : new.flight ≡ old.flight ++ t ∷ []
  pub best : new.best ≡ old.best
  pub unconcluded : new.verdict ≡ None
  pub size : IsPiece a t.piece
  pub unbarred : IsBarred (barring new) t.piece → ⊥

abbrev pub AnswersBy : Instance → Options → Part → Part → Draw → Type 0
AnswersBy a o old new (draw.Piece t) = IsGiven a o old new t
AnswersBy a o old new draw.Pause = IsPausing a o new
AnswersBy a o old new draw.Done = IsOver a o new

-- a draw with this answer
pub record Draws (a : Instance) (o : Options) (worker : ℕ) (old new : Part) (answer : Draw) : Type 0 where
  pub learned : List Event
  pub behind : List Event
  pub learns : All IsLearn learned
  pub adds : AddedBy worker answer behind
  pub leads : Leads a o old (learned ++ behind) new
  pub answers : AnswersBy a o old new answer

-- what a search says of the part
abbrev pub Shows : Instance → Part → Found → Type 0
Shows a d (found.Piece p) = IsFirst (length a.pairs) (barring d) (taken d) p
Shows a d found.Refuted = Contains (no_goods d.log) []
Shows a d found.Blocked = AllBlocked (length a.pairs) (barring d) (taken d)

-- every record that the old part carries is carried by the new one, with these events behind it
abbrev pub CarriesMore : Instance → Options → Part → List Event → Part → Type 0
CarriesMore a o old added new = (record_of : List Event) → Carries a o record_of old → Carries a o (record_of ++ added) new

-- ---- settling

-- an unbounded outcome on a part without a verdict gives the verdict
abbrev pub conclusion : Option VerdictKind → Outcome → List Event
conclusion (Some v) what = []
conclusion None (outcome.Cut c kept best) = []
conclusion None (outcome.Barred lane place c best) = []
conclusion None (outcome.Unbounded point ray) = event.Conclude kind.Unbounded ∷ []
conclusion None (outcome.Wide at) = []
conclusion None (outcome.Spent at) = []

abbrev pub settled_events : Part → Ticket → Outcome → List Event
settled_events d t what = event.Settle t.worker t.number what ∷ conclusion d.verdict what

-- the conditions of a settlement
pub record MayBeSettled (a : Instance) (o : Options) (d : Part) (t : Ticket) (what : Outcome) : Type 0 where
  pub known : t.worker < o.workers
  pub fits : OutcomeFits a o.workers what
  pub flying : flight_of t.number d.flight ≡ Some t
  pub may : d.verdict ≡ None → MaySettle a t what
  pub true_outcome : IsTrueOutcome a o t what

-- the cut of an outcome, if it has one, bars the ticket's piece
abbrev pub CutBars : Ticket → Outcome → Type 0
CutBars t (outcome.Cut c kept best) = Bars (no_good_of c) t.piece
CutBars t (outcome.Barred lane place c best) = Bars (no_good_of c) t.piece
CutBars t (outcome.Unbounded point ray) = Unit {0}
CutBars t (outcome.Wide at) = Unit {0}
CutBars t (outcome.Spent at) = Unit {0}

-- a settlement that was made: the ticket has left flight
pub record Settles (a : Instance) (o : Options) (old : Part) (t : Ticket) (what : Outcome) (new : Part) : Type 0 where
  pub leads : Leads a o old (settled_events old t what) new
  pub flight : new.flight ≡ without t.number old.flight
  pub drawn : new.drawn ≡ old.drawn

-- a ticket and its outcome are handed back
abbrev pub IsBack : Ticket → Outcome → Ticket × Outcome → Type 0
IsBack t what back = (back.0 ≡ t) × (back.1 ≡ what)

-- the best point of an outcome
abbrev pub best_in : Outcome → Option Point
best_in (outcome.Cut c kept best) = best
best_in (outcome.Barred lane place c best) = best
best_in (outcome.Unbounded point ray) = None
best_in (outcome.Wide at) = None
best_in (outcome.Spent at) = None

abbrev pub outcome_of : Cause → Outcome
outcome_of (cause.Wide at) = outcome.Wide at
outcome_of (cause.Spent at) = outcome.Spent at

abbrev pub is_unbounded : Outcome → Bool
is_unbounded (outcome.Cut c kept best) = false
is_unbounded (outcome.Barred lane place c best) = false
is_unbounded (outcome.Unbounded point ray) = true
is_unbounded (outcome.Wide at) = false
is_unbounded (outcome.Spent at) = false

-- a draw on a part with its case and options: the case and the options stay, every record that it carried is carried with what is added
pub record DrawsOn (worker : ℕ) (old new : Standing) (answer : Draw) : Type 0 where
  pub case_stays : new.case_of ≡ old.case_of
  pub options_stay : new.options ≡ old.options
  pub draws : Draws old.case_of old.options worker old.part new.part answer
  pub carries : CarriesMore old.case_of old.options old.part (draws.learned ++ draws.behind) new.part

-- without memory a draw may have learned steps
pub record LearnsOn (old new : Standing) : Type 0 where
  pub case_stays : new.case_of ≡ old.case_of
  pub options_stay : new.options ≡ old.options
  pub learns : Learns old.case_of old.options old.part new.part

-- a settlement on a part with its case and options
pub record SettlesOn (t : Ticket) (what : Outcome) (old new : Standing) : Type 0 where
  pub case_stays : new.case_of ≡ old.case_of
  pub options_stay : new.options ≡ old.options
  pub settles : Settles old.case_of old.options old.part t what new.part
  pub carries : CarriesMore old.case_of old.options old.part (settled_events old.part t what) new.part

-- the certificate of a verdict keeps the rules of its form, and there is an ending
abbrev pub EndingKeepsForm : Ending → Type 0
EndingKeepsForm (ending.Verdict cert drawn) = KeepsForm cert
EndingKeepsForm (ending.Overflow piece at) = Unit {0}
EndingKeepsForm (ending.PivotsSpent piece at) = Unit {0}
EndingKeepsForm (ending.PiecesSpent drawn left) = Unit {0}
EndingKeepsForm ending.NoMemory = ⊥

-- the ending of this record
pub record IsEndingOf (a : Instance) (o : Options) (events : List Event) (end : Ending) : Type 0 where
  pub part : Part
  pub carries : Carries a o events part
  pub settled : IsSettled part
  pub row : IsEnding a o part end

-- the ending of some record
abbrev pub IsEndingOfRecord : Instance → Options → Ending → Type 0
IsEndingOfRecord a o end = (events : List Event) × IsEndingOf a o events end
