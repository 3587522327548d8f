-- The texts and statuses of the refusals of a certificate alone.
use Rattle.std.specs.Prelude.{ℕ, List, [], ◌∷◌, ◌++◌, codes}
use Rattle.cert_text.specs.Names.{name_of}
use Rattle.cert_text.specs.declared.fault.CertFault.{CertFault}
use Rattle.cert_text.specs.declared.fault.CertFault.TheVariants as fault
use Rattle.verifier.specs.Answers.{no_line}
use Rattle.converting.specs.declared.refusal.Refusal.{Refusal}
use Rattle.converting.specs.declared.refusal.Refusal.TheVariants.{ReadFault, TooLong, Line, NoMemory}

-- the one line of a refusal
abbrev pub line_of : Refusal → List ℕ
line_of ReadFault = codes "read fault"
line_of TooLong = codes "certificate: too long"
line_of (Line line why) = no_line line (name_of why)
line_of NoMemory = codes "no memory"

abbrev pub text_of : Refusal → List ℕ
text_of refusal = line_of refusal ++ 10 ∷ []

abbrev pub status_of : Refusal → ℕ
status_of (Line line why) = 1
status_of TooLong = 3
status_of ReadFault = 4
status_of NoMemory = 6

-- the refusal that goes with a fault of the reader
abbrev pub of_fault : CertFault → Refusal
of_fault (fault.NoMemory error) = NoMemory
of_fault (fault.At line why) = Line line why
