-- A run over the text of a problem, from what was read and what was written.
use Rattle.std.proofs.Common.{ℕ, ◌≡◌, ◌∙◌, refl, sym, subst, arith, List, Option, Some, inl, inr}
use Rattle.std.specs.Prelude.{◌⊎◌, Result, Ok, Err}
use Rattle.std.specs.Io.KnownBytes.{Appends}
use Rattle.command.specs.Answers.{IsOnly, IsWritten}
use Rattle.command.specs.declared.reading.TheConstants.{MOST_DECK_BYTES}
use Rattle.front_text.specs.declared.fault.FrontWhy.{FrontWhy}
use Rattle.fronting.specs.Inputs.{IsRead}
use Rattle.fronting.specs.Refusals.{status_of, text_of}
use Rattle.fronting.specs.Runs.{IsFrontRun, IsDeckWritten, IsRightProblem, IsWrittenFor}
use Rattle.fronting.specs.declared.refusal.FrontRefusal.{FrontRefusal}
use Rattle.fronting.specs.declared.refusal.FrontRefusal.TheVariants.{ReadFault, TooLong, Problem, NoMemory}

abbrev pub Spelling : Type 0 → Type 1
Spelling P = List ℕ → P → Type 0

abbrev pub Failing : Type 1
Failing = List ℕ → ℕ → FrontWhy → Type 0

abbrev pub Saying : Type 0 → Type 1
Saying P = P → List ℕ → ℕ → Type 0

-- ---- making one

out_of_memory : {P : Type 0} (Spells : Spelling P) (Fails : Failing) (left : Option (List ℕ)) (before now : ℕ) → IsRightProblem Spells Fails left before now (Err NoMemory)
out_of_memory Spells Fails left before now = record { counted = λ same. absurd (cc same); right = λ bytes told. inr (inl refl) }

-- the command was done for what was read, or memory ran out
pub run_of : {P : Type 0} (Spells : Spelling P) (Fails : Failing) (Says : Saying P) (left : Option (List ℕ)) (rb rn : ℕ) (tb tn : Option (List ℕ)) (wb wn status : ℕ) (read : Result P FrontRefusal) → IsRightProblem Spells Fails left rb rn read → IsWrittenFor Says read tb tn wb wn status ⊎ IsWrittenFor Says (Err NoMemory) tb tn wb wn status → IsFrontRun Spells Fails Says left rb rn tb tn wb wn status
run_of Spells Fails Says left rb rn tb tn wb wn status read right (inl w) = record { read = read; right = right; written = w }
run_of Spells Fails Says left rb rn tb tn wb wn status read right (inr w) = record { read = Err NoMemory; right = out_of_memory Spells Fails left rb rn; written = w }

given_by : {P : Type 0} (Says : Saying P) (tb tn : Option (List ℕ)) (wb wn status : ℕ) (refusal given : FrontRefusal) → (given ≡ refusal) ⊎ (given ≡ NoMemory) → IsWritten tb tn wb wn (text_of given) (status_of given) status → IsWrittenFor Says (Err refusal) tb tn wb wn status ⊎ IsWrittenFor Says (Err NoMemory) tb tn wb wn status
given_by Says tb tn wb wn status refusal given (inl same) w = inl (subst (λ (r : FrontRefusal). IsWritten tb tn wb wn (text_of r) (status_of r) status) same w)
given_by Says tb tn wb wn status refusal given (inr none) w = inr (subst (λ (r : FrontRefusal). IsWritten tb tn wb wn (text_of r) (status_of r) status) none w)

-- the refusal was written, or that memory ran out
pub refused : {P : Type 0} (Spells : Spelling P) (Fails : Failing) (Says : Saying P) (left : Option (List ℕ)) (rb rn : ℕ) (tb tn : Option (List ℕ)) (wb wn status : ℕ) (refusal : FrontRefusal) → IsRightProblem Spells Fails left rb rn (Err refusal) → (given : FrontRefusal) × ((given ≡ refusal) ⊎ (given ≡ NoMemory)) × IsWritten tb tn wb wn (text_of given) (status_of given) status → IsFrontRun Spells Fails Says left rb rn tb tn wb wn status
refused Spells Fails Says left rb rn tb tn wb wn status refusal right given =
    run_of Spells Fails Says left rb rn tb tn wb wn status (Err refusal) right (given_by Says tb tn wb wn status refusal given.0 given.1 given.2)

-- ---- status 0

-- the input spells this problem, and this text of it was written
pub record Told {P : Type 0} (Spells : Spelling P) (Says : Saying P) (bytes : List ℕ) (tb tn : Option (List ℕ)) : Type 0 where
  pub p : P
  pub spelled : Spells bytes p
  pub text : List ℕ
  pub meant : ℕ
  pub says : Says p text meant
  pub zero : meant ≡ 0
  pub written : Appends tb tn text

refusal_is_not_zero : (r : FrontRefusal) → 0 ≡ status_of r → ⊥
refusal_is_not_zero ReadFault e = omega arith
refusal_is_not_zero TooLong e = omega arith
refusal_is_not_zero (Problem line why) e = omega arith
refusal_is_not_zero NoMemory e = omega arith

written_with : (tb tn : Option (List ℕ)) (wb wn : ℕ) (text : List ℕ) (meant status : ℕ) → status ≡ 0 → IsWritten tb tn wb wn text meant status → (meant ≡ 0) × Appends tb tn text
written_with tb tn wb wn text meant status zero (inl w) = (sym w.0 ∙ zero, w.1)
written_with tb tn wb wn text meant status zero (inr w) = absurd (omega (arith, zero, w.0))

-- either free answer, or the bytes are the only cause
abbrev Three : {P : Type 0} → Spelling P → Failing → List ℕ → Result P FrontRefusal → Type 0
Three Spells Fails bytes read = (read ≡ Err ReadFault) ⊎ (read ≡ Err NoMemory) ⊎ IsOnly (IsRead Spells Fails MOST_DECK_BYTES) bytes read

spelled_by : {P : Type 0} (Spells : Spelling P) (Fails : Failing) (bytes : List ℕ) (p : P) → Three Spells Fails bytes (Ok p) → Spells bytes p
spelled_by Spells Fails bytes p (inl e) = absurd (cc e)
spelled_by Spells Fails bytes p (inr (inl e)) = absurd (cc e)
spelled_by Spells Fails bytes p (inr (inr h)) = h.cause.1

told_by : {P : Type 0} (Spells : Spelling P) (Fails : Failing) (Says : Saying P) (left : Option (List ℕ)) (rb rn : ℕ) (tb tn : Option (List ℕ)) (wb wn status : ℕ) (bytes : List ℕ) (read : Result P FrontRefusal) → IsRightProblem Spells Fails left rb rn read → IsWrittenFor Says read tb tn wb wn status → left ≡ Some bytes → status ≡ 0 → Told Spells Says bytes tb tn
told_by Spells Fails Says left rb rn tb tn wb wn status bytes (Ok p) right w told zero =
    let done = written_with tb tn wb wn w.0 w.1 status zero w.3 in
    record { p = p; spelled = spelled_by Spells Fails bytes p (right.right bytes told); text = w.0; meant = w.1; says = w.2; zero = done.0; written = done.1 }
told_by Spells Fails Says left rb rn tb tn wb wn status bytes (Err r) right w told zero =
    absurd (refusal_is_not_zero r (sym (written_with tb tn wb wn (text_of r) (status_of r) status zero w).0))

pub told : {P : Type 0} (Spells : Spelling P) (Fails : Failing) (Says : Saying P) (left : Option (List ℕ)) (rb rn : ℕ) (tb tn : Option (List ℕ)) (wb wn status : ℕ) (bytes : List ℕ) → IsFrontRun Spells Fails Says left rb rn tb tn wb wn status → left ≡ Some bytes → status ≡ 0 → Told Spells Says bytes tb tn
told Spells Fails Says left rb rn tb tn wb wn status bytes run is zero = told_by Spells Fails Says left rb rn tb tn wb wn status bytes run.read run.right run.written is zero

-- ---- the deck is printed

pub printed : {P : Type 0} (Spells : Spelling P) (Fails : Failing) (deck_text : P → List ℕ) (IsDeckOf : List ℕ → P → Type 0) → ((text : List ℕ) (p : P) → Spells text p → IsDeckOf (deck_text p) p) → (left : Option (List ℕ)) (rb rn : ℕ) (tb tn : Option (List ℕ)) (wb wn status : ℕ) (bytes : List ℕ) → IsFrontRun Spells Fails (λ p text meant. (text ≡ deck_text p) × (meant ≡ 0)) left rb rn tb tn wb wn status → left ≡ Some bytes → status ≡ 0 → IsDeckWritten Spells deck_text IsDeckOf bytes tb tn
printed Spells Fails deck_text IsDeckOf law left rb rn tb tn wb wn status bytes run is zero =
    let t = told Spells Fails (λ p text meant. (text ≡ deck_text p) × (meant ≡ 0)) left rb rn tb tn wb wn status bytes run is zero in
    record { p = t.p; spelled = t.spelled; written = subst (λ (x : List ℕ). Appends tb tn x) t.says.0 t.written; means = law bytes t.p t.spelled }
