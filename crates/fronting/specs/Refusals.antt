-- The texts and statuses of the refusals of the text of a problem.
use Rattle.std.specs.Prelude.{ℕ, List, [], ◌∷◌, ◌++◌, codes}
use Rattle.std.specs.Fmt.{decimal}
use Rattle.front_text.specs.Names.{name_of}
use Rattle.front_text.specs.declared.fault.FrontFault.{FrontFault}
use Rattle.front_text.specs.declared.fault.FrontFault.TheVariants as fault
use Rattle.fronting.specs.declared.refusal.FrontRefusal.{FrontRefusal}
use Rattle.fronting.specs.declared.refusal.FrontRefusal.TheVariants.{ReadFault, TooLong, Problem, NoMemory}

-- the one line of a refusal
abbrev pub line_of : FrontRefusal → List ℕ
line_of ReadFault = codes "read fault"
line_of TooLong = codes "front: too long"
line_of (Problem line why) = codes "front: line " ++ decimal line ++ codes ": " ++ name_of why
line_of NoMemory = codes "no memory"

abbrev pub text_of : FrontRefusal → List ℕ
text_of refusal = line_of refusal ++ 10 ∷ []

abbrev pub status_of : FrontRefusal → ℕ
status_of TooLong = 3
status_of (Problem line why) = 3
status_of ReadFault = 4
status_of NoMemory = 6

-- the refusals that go with the faults of a text
abbrev pub of_fault : FrontFault → FrontRefusal
of_fault (fault.NoMemory error) = NoMemory
of_fault (fault.At line why) = Problem line why
