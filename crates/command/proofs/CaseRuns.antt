-- What is known of a run of a command that reads a deck alone.
use Rattle.std.proofs.Common.{ℕ, ◌≡◌, refl, subst, arith, List, Option, Some, ◌⊎◌, inl, inr}
use Rattle.std.specs.Prelude.{Result, Ok, Err}
use Rattle.std.specs.Io.KnownBytes.{Appends}
use Rattle.lpcc_case.specs.Instance.{Instance}
use Rattle.command.specs.Answers.{IsOnly, IsWritten}
use Rattle.command.specs.Inputs.{IsReadAlone}
use Rattle.command.specs.Refusals.{status_of, text_of}
use Rattle.command.specs.Runs.{IsRightCase, IsRun, IsWrittenFor}
use Rattle.command.specs.declared.reading.TheConstants.{MOST_DECK_BYTES}
use Rattle.command.specs.declared.refusal.Refusal.{Refusal}
use Rattle.command.specs.declared.refusal.Refusal.TheVariants.{Deck, NoMemory, ReadFault, RowWide, TooLong, TooMany}

-- ---- making one

out_of_memory : (left : Option (List ℕ)) (before now : ℕ) → IsRightCase left before now (Err NoMemory)
out_of_memory left before now = record { counted = λ same. absurd (cc same); right = λ bytes told. inr (inl refl) }

-- the command was done for what was read, or memory ran out
pub run_of : (Says : Instance → List ℕ → ℕ → Type 0) (left : Option (List ℕ)) (rb rn : ℕ) (tb tn : Option (List ℕ)) (wb wn status : ℕ) (read : Result Instance Refusal) → IsRightCase left rb rn read → IsWrittenFor Says read tb tn wb wn status ⊎ IsWrittenFor Says (Err NoMemory) tb tn wb wn status → IsRun Says left rb rn tb tn wb wn status
run_of Says left rb rn tb tn wb wn status read right (inl w) = record { read = read; right = right; written = w }
run_of Says left rb rn tb tn wb wn status read right (inr w) = record { read = Err NoMemory; right = out_of_memory left rb rn; written = w }

given_by : (Says : Instance → List ℕ → ℕ → Type 0) (tb tn : Option (List ℕ)) (wb wn status : ℕ) (refusal given : Refusal) → (given ≡ refusal) ⊎ (given ≡ NoMemory) → IsWritten tb tn wb wn (text_of given) (status_of given) status → IsWrittenFor Says (Err refusal) tb tn wb wn status ⊎ IsWrittenFor Says (Err NoMemory) tb tn wb wn status
given_by Says tb tn wb wn status refusal given (inl same) w = inl (subst (λ (r : Refusal). IsWritten tb tn wb wn (text_of r) (status_of r) status) same w)
given_by Says tb tn wb wn status refusal given (inr none) w = inr (subst (λ (r : Refusal). IsWritten tb tn wb wn (text_of r) (status_of r) status) none w)

-- the refusal was written, or that memory ran out
pub refused : (Says : Instance → List ℕ → ℕ → Type 0) (left : Option (List ℕ)) (rb rn : ℕ) (tb tn : Option (List ℕ)) (wb wn status : ℕ) (refusal : Refusal) → IsRightCase left rb rn (Err refusal) → (given : Refusal) × ((given ≡ refusal) ⊎ (given ≡ NoMemory)) × IsWritten tb tn wb wn (text_of given) (status_of given) status → IsRun Says left rb rn tb tn wb wn status
refused Says left rb rn tb tn wb wn status refusal right given =
    run_of Says left rb rn tb tn wb wn status (Err refusal) right (given_by Says tb tn wb wn status refusal given.0 given.1 given.2)

-- ---- the status of a run whose case is known

-- the input is this case's deck alone, and this text of it was written
pub record Told (Says : Instance → List ℕ → ℕ → Type 0) (bytes : List ℕ) (tb tn : Option (List ℕ)) (status : ℕ) : Type 0 where
  pub a : Instance
  pub cause : IsReadAlone MOST_DECK_BYTES bytes (Ok a)
  pub text : List ℕ
  pub meant : ℕ
  pub says : Says a text meant
  pub status_is : status ≡ meant
  pub written : Appends tb tn text

-- no refusal has this status
abbrev pub IsOther : ℕ → Type 0
IsOther status = (status ≡ 5 → ⊥) × ((r : Refusal) → status ≡ status_of r → ⊥)

pub zero_is_other : IsOther 0
zero_is_other = (λ five. omega arith, not_refused)
  where
    not_refused : (r : Refusal) → 0 ≡ status_of r → ⊥
    not_refused ReadFault e = omega arith
    not_refused TooLong e = omega arith
    not_refused (Deck line why) e = omega arith
    not_refused (RowWide line) e = omega arith
    not_refused (TooMany line) e = omega arith
    not_refused NoMemory e = omega arith

pub eight_is_other : IsOther 8
eight_is_other = (λ five. omega arith, not_refused)
  where
    not_refused : (r : Refusal) → 8 ≡ status_of r → ⊥
    not_refused ReadFault e = omega arith
    not_refused TooLong e = omega arith
    not_refused (Deck line why) e = omega arith
    not_refused (RowWide line) e = omega arith
    not_refused (TooMany line) e = omega arith
    not_refused NoMemory e = omega arith

refused_status : (tb tn : Option (List ℕ)) (wb wn status : ℕ) (r : Refusal) → IsOther status → IsWritten tb tn wb wn (text_of r) (status_of r) status → ⊥
refused_status tb tn wb wn status r other (inl w) = other.1 r w.0
refused_status tb tn wb wn status r other (inr w) = other.0 w.0

written_of : (tb tn : Option (List ℕ)) (wb wn : ℕ) (text : List ℕ) (meant status : ℕ) → (status ≡ 5 → ⊥) → IsWritten tb tn wb wn text meant status → (status ≡ meant) × Appends tb tn text
written_of tb tn wb wn text meant status other (inl w) = w
written_of tb tn wb wn text meant status other (inr w) = absurd (other w.0)

-- either free answer, or the bytes are the only cause
abbrev Three : List ℕ → Result Instance Refusal → Type 0
Three bytes read = (read ≡ Err ReadFault) ⊎ (read ≡ Err NoMemory) ⊎ IsOnly (IsReadAlone MOST_DECK_BYTES) bytes read

cause_of : (bytes : List ℕ) (a : Instance) → Three bytes (Ok a) → IsReadAlone MOST_DECK_BYTES bytes (Ok a)
cause_of bytes a (inl e) = absurd (cc e)
cause_of bytes a (inr (inl e)) = absurd (cc e)
cause_of bytes a (inr (inr h)) = h.cause

told_by : (Says : Instance → List ℕ → ℕ → Type 0) (left : Option (List ℕ)) (rb rn : ℕ) (tb tn : Option (List ℕ)) (wb wn status : ℕ) (bytes : List ℕ) (read : Result Instance Refusal) → IsRightCase left rb rn read → IsWrittenFor Says read tb tn wb wn status → left ≡ Some bytes → IsOther status → Told Says bytes tb tn status
told_by Says left rb rn tb tn wb wn status bytes (Ok a) right w told other =
    let done = written_of tb tn wb wn w.0 w.1 status other.0 w.3 in
    record { a = a; cause = cause_of bytes a (right.right bytes told); text = w.0; meant = w.1; says = w.2; status_is = done.0; written = done.1 }
told_by Says left rb rn tb tn wb wn status bytes (Err r) right w told other = absurd (refused_status tb tn wb wn status r other w)

pub told : (Says : Instance → List ℕ → ℕ → Type 0) (left : Option (List ℕ)) (rb rn : ℕ) (tb tn : Option (List ℕ)) (wb wn status : ℕ) (bytes : List ℕ) → IsRun Says left rb rn tb tn wb wn status → left ≡ Some bytes → IsOther status → Told Says bytes tb tn status
told Says left rb rn tb tn wb wn status bytes run is other = told_by Says left rb rn tb tn wb wn status bytes run.read run.right run.written is other
