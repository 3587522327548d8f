-- What is read of a certificate alone, by the definition of certificates alone.
use Rattle.std.specs.Prelude.{◌<◌, ℕ, List, Result, Ok, Err, length}
use Rattle.cert2_text.specs.declared.cert2.AnyCert.{AnyCert}
use Rattle.cert2_text.specs.declared.cert2.AnyCert.TheVariants.{One, Two}
use Rattle.cert2_text.specs.declared.cert2.Cert2.{Cert2}
use Rattle.cert2_text.specs.Texts2.{SpellsAny, FailsAny}
use Rattle.migrating.specs.Migration.{migrated}
use Rattle.command.specs.Inputs.{IsTaken}
use Rattle.verifier.specs.declared.judging.TheConstants.{MOST_BYTES}
use Rattle.converting.specs.declared.refusal.Refusal.{Refusal}
use Rattle.converting.specs.declared.refusal.Refusal.TheVariants.{ReadFault, TooLong, Line, NoMemory}

-- the bytes are the cause of this refusal; a read fault and want of memory have none there
abbrev pub IsRefusal : List ℕ → Refusal → Type 0
IsRefusal bytes ReadFault = ⊥
IsRefusal bytes TooLong = MOST_BYTES < length bytes
IsRefusal bytes (Line line why) = IsTaken MOST_BYTES bytes × FailsAny bytes line why
IsRefusal bytes NoMemory = ⊥

-- what is read of the bytes: the certificate, or the refusal
abbrev pub IsRead : List ℕ → Result AnyCert Refusal → Type 0
IsRead bytes (Ok cert) = IsTaken MOST_BYTES bytes × SpellsAny bytes cert
IsRead bytes (Err refusal) = IsRefusal bytes refusal

-- the certificate in form 2; one of this form stays as it is
abbrev pub in_form_2 : AnyCert → Cert2
in_form_2 (One cert) = migrated cert
in_form_2 (Two cert) = cert
