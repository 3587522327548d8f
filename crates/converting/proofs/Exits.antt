-- What a run of the command comes to.
use Rattle.std.proofs.Common.{ℕ, ◌≡◌, refl, sym, subst, List, Option, Some, Result, Ok, Err, arith, ◌∙◌, ◌⊎◌, inl, inr}
use Rattle.cert_text.specs.declared.fault.CertFault.{CertFault}
use Rattle.cert_text.specs.declared.fault.CertFault.TheVariants as fault
use Rattle.cert2_text.specs.declared.cert2.AnyCert.{AnyCert}
use Rattle.cert2_text.specs.Spelling2.{spelling2}
use Rattle.cert2_text.specs.Texts2.{FailsAnyAs, SpellsAny}
use Rattle.command.specs.Answers.{IsOnly, IsWritten}
use Rattle.command.specs.Inputs.{IsTaken}
use Rattle.verifier.specs.declared.judging.TheConstants.{MOST_BYTES}
use Rattle.converting.specs.declared.refusal.Refusal.{Refusal}
use Rattle.converting.specs.declared.refusal.Refusal.TheVariants.{ReadFault, TooLong, Line, NoMemory}
use Rattle.converting.specs.Refusals as refusals
use Rattle.converting.specs.Refusals.{of_fault}
use Rattle.converting.specs.Readings.{IsRead, IsRefusal, in_form_2}
use Rattle.converting.specs.Runs.{IsRight, IsConverted, SaysConverted, text_of, status_of}

pub of_failed : (bytes : List ℕ) (f : CertFault) (r : Refusal) → r ≡ of_fault f → IsTaken MOST_BYTES bytes → FailsAnyAs f bytes → (r ≡ NoMemory) ⊎ IsRefusal bytes r
of_failed bytes (fault.NoMemory error) r e taken fails = inl e
of_failed bytes (fault.At line why) r e taken fails = inr (subst (λ (x : Refusal). IsRefusal bytes x) (sym e) (taken, fails))

abbrev Reading : Type 0
Reading = Result AnyCert Refusal

abbrev no_memory : Reading
no_memory = Err NoMemory

abbrev read_fault : Reading
read_fault = Err ReadFault

-- the certificate was written in form 2
pub given_text : (tb tn : Option (List ℕ)) (wb wn status : ℕ) (text : List ℕ) (cert : AnyCert) → text ≡ spelling2 (in_form_2 cert) → IsWritten tb tn wb wn text 0 status
    → (given : Reading) × ((given ≡ Ok cert) ⊎ (given ≡ no_memory)) × IsWritten tb tn wb wn (text_of given) (status_of given) status
given_text tb tn wb wn status text cert is written = (Ok cert, inl refl, subst (λ (t : List ℕ). IsWritten tb tn wb wn t 0 status) is written)

-- the refusal was written
pub given_refusal : (tb tn : Option (List ℕ)) (wb wn status : ℕ) (text : List ℕ) (meant : ℕ) (r : Refusal) → text ≡ refusals.text_of r → meant ≡ refusals.status_of r → IsWritten tb tn wb wn text meant status
    → (given : Reading) × ((given ≡ Err r) ⊎ (given ≡ no_memory)) × IsWritten tb tn wb wn (text_of given) (status_of given) status
given_refusal tb tn wb wn status text meant r is means written =
    (Err r, inl refl, subst (λ (m : ℕ). IsWritten tb tn wb wn (refusals.text_of r) m status) means (subst (λ (t : List ℕ). IsWritten tb tn wb wn t meant status) is written))

given_right : (left : Option (List ℕ)) (before now : ℕ) (x given : Reading) → (given ≡ x) ⊎ (given ≡ no_memory) → IsRight left before now x → IsRight left before now given
given_right left before now x given (inl same) right = subst (λ (y : Reading). IsRight left before now y) (sym same) right
given_right left before now x given (inr none) right = record {
  counted = λ fault. absurd (cc (none, fault));
  right = λ bytes told. inr (inl none);
}

pub converted : (left : Option (List ℕ)) (rb rn : ℕ) (tb tn : Option (List ℕ)) (wb wn status : ℕ) (x : Reading) → IsRight left rb rn x
    → (given : Reading) × ((given ≡ x) ⊎ (given ≡ no_memory)) × IsWritten tb tn wb wn (text_of given) (status_of given) status → IsConverted left rb rn tb tn wb wn status
converted left rb rn tb tn wb wn status x right given = record {
  read = given.0;
  right = given_right left rb rn x given.0 given.1 right;
  written = given.2;
}

-- ---- status 0

refusal_is_not_zero : (r : Refusal) → 0 ≡ refusals.status_of r → ⊥
refusal_is_not_zero ReadFault e = omega arith
refusal_is_not_zero TooLong e = omega arith
refusal_is_not_zero (Line line why) e = omega arith
refusal_is_not_zero NoMemory e = omega arith

-- either free answer, or the bytes are the only cause
abbrev Three : List ℕ → Reading → Type 0
Three bytes read = (read ≡ read_fault) ⊎ (read ≡ no_memory) ⊎ IsOnly IsRead bytes read

spelled_by : (bytes : List ℕ) (cert : AnyCert) → Three bytes (Ok cert) → SpellsAny bytes cert
spelled_by bytes cert (inl e) = absurd (cc e)
spelled_by bytes cert (inr (inl e)) = absurd (cc e)
spelled_by bytes cert (inr (inr h)) = h.cause.1

said_by : (left : Option (List ℕ)) (rb rn : ℕ) (tb tn : Option (List ℕ)) (wb wn status : ℕ) (bytes : List ℕ) (read : Reading) → IsRight left rb rn read → IsWritten tb tn wb wn (text_of read) (status_of read) status → status ≡ 0 → left ≡ Some bytes → SaysConverted bytes tb tn
said_by left rb rn tb tn wb wn status bytes (Ok cert) right (inl w) zero told = record { cert = cert; spelled = spelled_by bytes cert (right.right bytes told); written = w.1 }
said_by left rb rn tb tn wb wn status bytes (Ok cert) right (inr w) zero told = absurd (omega (arith, zero, w.0))
said_by left rb rn tb tn wb wn status bytes (Err r) right (inl w) zero told = absurd (refusal_is_not_zero r (sym zero ∙ w.0))
said_by left rb rn tb tn wb wn status bytes (Err r) right (inr w) zero told = absurd (omega (arith, zero, w.0))

pub said : (left : Option (List ℕ)) (rb rn : ℕ) (tb tn : Option (List ℕ)) (wb wn status : ℕ) (bytes : List ℕ) → IsConverted left rb rn tb tn wb wn status → status ≡ 0 → left ≡ Some bytes → SaysConverted bytes tb tn
said left rb rn tb tn wb wn status bytes run zero told = said_by left rb rn tb tn wb wn status bytes run.read run.right run.written zero told
