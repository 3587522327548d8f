-- What calls answer for the fault of a line.
use Rattle.std.specs.Prelude.{◌≡◌, Option, Some, None, Result, Ok, Err}
use Rattle.lp_base.specs.Answers.{UnlessShort}
use Rattle.decks.specs.declared.fault.DeckWhy.{DeckWhy}
use Rattle.mps_tables.specs.declared.fault.Fault.{Fault}
use Rattle.mps_tables.specs.declared.fault.Fault.TheVariants.{Memory, Of}

-- where a check goes well there is no fault; else it names the fault
abbrev pub Checks : {X : Type 0} → Result X DeckWhy → Option DeckWhy → Type 0
Checks (Ok x) o = o ≡ None
Checks (Err w) o = o ≡ Some w

-- the fault that a call names, none where memory is short
abbrev pub why_of : Fault → Option DeckWhy
why_of Memory = None
why_of (Of w) = Some w

-- a call's fault is the fault of a line, unless memory is short
abbrev pub Tells : Fault → Option DeckWhy → Type 0
Tells fault o = UnlessShort why_of (λ w. o ≡ Some w) fault

-- where a call goes well, there is no fault
abbrev pub Judges : {X : Type 0} → Result X Fault → Option DeckWhy → Type 0
Judges (Ok x) o = o ≡ None
Judges (Err fault) o = Tells fault o
