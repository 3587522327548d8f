-- What the status of a run says of its input.
use Rattle.std.proofs.Common.{ℕ, ◌≡◌, ◌∙◌, refl, sym, ap, subst, arith, List, Option, Some, ◌⊎◌, inl, inr}
use Rattle.std.specs.Io.KnownBytes.{Appends}
use Rattle.lp_io.specs.Faults.{Rose}
use Rattle.lpcc_case.specs.declared.verdict.Verdict.{Verdict}
use Rattle.cert_text.specs.declared.fault.CertWhy.{CertWhy}
use Rattle.cert_check.specs.declared.accept.NoWhy.{NoWhy}
use Rattle.command.specs.Answers.{IsOnly, IsWritten}
use Rattle.command.specs.Inputs.{IsRefusal, IsTrueOfBytes}
use Rattle.command.specs.Refusals as refusals
use Rattle.command.specs.declared.extent.Extent.TheVariants.{Prefix}
use Rattle.command.specs.declared.refusal.Refusal.{Refusal}
use Rattle.command.specs.declared.refusal.Refusal.TheVariants.{ReadFault, TooLong, Deck, RowWide, TooMany, NoMemory}
use Rattle.verifier.specs.declared.judging.TheConstants.{MOST_BYTES}
use Rattle.verifier.specs.declared.answer.Answer.{Answer}
use Rattle.verifier.specs.declared.answer.Answer.TheVariants.{Refused, Certificate, No, Yes}
use Rattle.verifier.specs.Answers.{status_of, text_of}
use Rattle.verifier.specs.Causes.{HasCertificateFault, HasFailingLine, IsAccepted, IsCause}
use Rattle.verifier.specs.Runs.{IsChecked, IsRight, SaysYes}

-- ---- which answer has a status

refusal_not_zero : (r : Refusal) → refusals.status_of r ≡ 0 → ⊥
refusal_not_zero ReadFault e = omega arith
refusal_not_zero TooLong e = omega arith
refusal_not_zero (Deck line why) e = omega arith
refusal_not_zero (RowWide line) e = omega arith
refusal_not_zero (TooMany line) e = omega arith
refusal_not_zero NoMemory e = omega arith

refusal_not_one : (r : Refusal) → refusals.status_of r ≡ 1 → ⊥
refusal_not_one ReadFault e = omega arith
refusal_not_one TooLong e = omega arith
refusal_not_one (Deck line why) e = omega arith
refusal_not_one (RowWide line) e = omega arith
refusal_not_one (TooMany line) e = omega arith
refusal_not_one NoMemory e = omega arith

refusal_not_two : (r : Refusal) → refusals.status_of r ≡ 2 → ⊥
refusal_not_two ReadFault e = omega arith
refusal_not_two TooLong e = omega arith
refusal_not_two (Deck line why) e = omega arith
refusal_not_two (RowWide line) e = omega arith
refusal_not_two (TooMany line) e = omega arith
refusal_not_two NoMemory e = omega arith

refusal_four : (r : Refusal) → refusals.status_of r ≡ 4 → r ≡ ReadFault
refusal_four ReadFault e = refl
refusal_four TooLong e = absurd (omega arith)
refusal_four (Deck line why) e = absurd (omega arith)
refusal_four (RowWide line) e = absurd (omega arith)
refusal_four (TooMany line) e = absurd (omega arith)
refusal_four NoMemory e = absurd (omega arith)

refusal_not_five : (r : Refusal) → refusals.status_of r ≡ 5 → ⊥
refusal_not_five ReadFault e = omega arith
refusal_not_five TooLong e = omega arith
refusal_not_five (Deck line why) e = omega arith
refusal_not_five (RowWide line) e = omega arith
refusal_not_five (TooMany line) e = omega arith
refusal_not_five NoMemory e = omega arith

zero_is_yes : (x : Answer) → status_of x ≡ 0 → (v : Verdict) × (x ≡ Yes v)
zero_is_yes (Refused r) e = absurd (refusal_not_zero r e)
zero_is_yes (Certificate line why) e = absurd (omega arith)
zero_is_yes (No line why) e = absurd (omega arith)
zero_is_yes (Yes v) e = (v, refl)

one_is_no : (x : Answer) → status_of x ≡ 1 → ((line : ℕ) × (why : CertWhy) × (x ≡ Certificate line why)) ⊎ ((line : ℕ) × (why : NoWhy) × (x ≡ No line why))
one_is_no (Refused r) e = absurd (refusal_not_one r e)
one_is_no (Certificate line why) e = inl (line, why, refl)
one_is_no (No line why) e = inr (line, why, refl)
one_is_no (Yes v) e = absurd (omega arith)

two_is_none : (x : Answer) → status_of x ≡ 2 → ⊥
two_is_none (Refused r) e = refusal_not_two r e
two_is_none (Certificate line why) e = omega arith
two_is_none (No line why) e = omega arith
two_is_none (Yes v) e = omega arith

three_is_refused : (x : Answer) → status_of x ≡ 3 → (r : Refusal) × (x ≡ Refused r)
three_is_refused (Refused r) e = (r, refl)
three_is_refused (Certificate line why) e = absurd (omega arith)
three_is_refused (No line why) e = absurd (omega arith)
three_is_refused (Yes v) e = absurd (omega arith)

four_is_fault : (x : Answer) → status_of x ≡ 4 → x ≡ Refused ReadFault
four_is_fault (Refused r) e = ap (λ s. Refused s) (refusal_four r e)
four_is_fault (Certificate line why) e = absurd (omega arith)
four_is_fault (No line why) e = absurd (omega arith)
four_is_fault (Yes v) e = absurd (omega arith)

five_is_none : (x : Answer) → status_of x ≡ 5 → ⊥
five_is_none (Refused r) e = refusal_not_five r e
five_is_none (Certificate line why) e = omega arith
five_is_none (No line why) e = omega arith
five_is_none (Yes v) e = omega arith

-- ---- causes

-- the answer is free, or the bytes are its only cause
abbrev pub Three : List ℕ → Answer → Type 0
Three bytes x = (x ≡ Refused ReadFault) ⊎ (x ≡ Refused NoMemory) ⊎ IsOnly IsCause bytes x

-- no other answer has the status of a free one
caused : (bytes : List ℕ) (x : Answer) (n : ℕ) → Three bytes x → status_of x ≡ n → (n ≡ 4 → ⊥) → (n ≡ 6 → ⊥) → IsCause bytes x
caused bytes x n (inl fault) s four six = absurd (four (sym s ∙ ap status_of fault))
caused bytes x n (inr (inl none)) s four six = absurd (six (sym s ∙ ap status_of none))
caused bytes x n (inr (inr h)) s four six = h.cause

-- what is written where the status is not 5
abbrev pub Told : Option (List ℕ) → Option (List ℕ) → ℕ → Answer → Type 0
Told before now status x = (status ≡ status_of x) × Appends before now (text_of x)

written : (before now : Option (List ℕ)) (faults later : ℕ) (x : Answer) (status : ℕ) → IsWritten before now faults later (text_of x) (status_of x) status → (status ≡ 5 → ⊥) → Told before now status x
written before now faults later x status (inl w) other = w
written before now faults later x status (inr w) other = absurd (other w.0)

pub is_told : (left : Option (List ℕ)) (rb rn : ℕ) (tb tn : Option (List ℕ)) (wb wn status : ℕ) → IsChecked left rb rn tb tn wb wn status → (status ≡ 5 → ⊥) → (x : Answer) × (status ≡ status_of x) × Appends tb tn (text_of x)
is_told left rb rn tb tn wb wn status run other =
    let w = written tb tn wb wn run.answer status run.written other in
    (run.answer, w.0, w.1)

-- ---- the laws

pub says_yes : ((bytes : List ℕ) (v : Verdict) → IsAccepted bytes v → IsTrueOfBytes bytes v) → (left : Option (List ℕ)) (rb rn : ℕ) (tb tn : Option (List ℕ)) (wb wn status : ℕ) (bytes : List ℕ) → IsChecked left rb rn tb tn wb wn status → left ≡ Some bytes → status ≡ 0 → SaysYes bytes tb tn
says_yes law left rb rn tb tn wb wn status bytes run told zero =
    let w = written tb tn wb wn run.answer status run.written (λ five. omega arith) in
    let s : status_of run.answer ≡ 0 = sym w.0 ∙ zero in
    let found = zero_is_yes run.answer s in
    let accepted : IsAccepted bytes found.0 = subst (λ (x : Answer). IsCause bytes x) found.1 (caused bytes run.answer 0 (run.right.right bytes told) s (λ e. omega arith) (λ e. omega arith)) in
    record {
      verdict = found.0;
      accepted = accepted;
      is_true = law bytes found.0 accepted;
      written = subst (λ (x : Answer). Appends tb tn (text_of x)) found.1 w.1;
    }

pub four_rose : (left : Option (List ℕ)) (rb rn : ℕ) (tb tn : Option (List ℕ)) (wb wn status : ℕ) → IsChecked left rb rn tb tn wb wn status → status ≡ 4 → Rose rb rn
four_rose left rb rn tb tn wb wn status run four =
    let w = written tb tn wb wn run.answer status run.written (λ five. omega arith) in
    run.right.counted (four_is_fault run.answer (sym w.0 ∙ four))

five_rose_by : (tb tn : Option (List ℕ)) (wb wn : ℕ) (x : Answer) (status : ℕ) → IsWritten tb tn wb wn (text_of x) (status_of x) status → status ≡ 5 → Rose wb wn
five_rose_by tb tn wb wn x status (inl w) five = absurd (five_is_none x (sym w.0 ∙ five))
five_rose_by tb tn wb wn x status (inr w) five = w.1

pub five_rose : (left : Option (List ℕ)) (rb rn : ℕ) (tb tn : Option (List ℕ)) (wb wn status : ℕ) → IsChecked left rb rn tb tn wb wn status → status ≡ 5 → Rose wb wn
five_rose left rb rn tb tn wb wn status run five = five_rose_by tb tn wb wn run.answer status run.written five

pub not_two : (left : Option (List ℕ)) (rb rn : ℕ) (tb tn : Option (List ℕ)) (wb wn status : ℕ) → IsChecked left rb rn tb tn wb wn status → status ≡ 2 → ⊥
not_two left rb rn tb tn wb wn status run two =
    let w = written tb tn wb wn run.answer status run.written (λ five. omega arith) in
    two_is_none run.answer (sym w.0 ∙ two)

abbrev pub NoCause : List ℕ → Type 0
NoCause bytes = ((line : ℕ) × (why : CertWhy) × HasCertificateFault bytes line why) ⊎ ((line : ℕ) × (why : NoWhy) × HasFailingLine bytes line why)

no_cause : (bytes : List ℕ) (x : Answer) → IsCause bytes x → ((line : ℕ) × (why : CertWhy) × (x ≡ Certificate line why)) ⊎ ((line : ℕ) × (why : NoWhy) × (x ≡ No line why)) → NoCause bytes
no_cause bytes x cause (inl h) = inl (h.0, h.1, subst (λ (y : Answer). IsCause bytes y) h.2 cause)
no_cause bytes x cause (inr h) = inr (h.0, h.1, subst (λ (y : Answer). IsCause bytes y) h.2 cause)

pub one_no : (left : Option (List ℕ)) (rb rn : ℕ) (tb tn : Option (List ℕ)) (wb wn status : ℕ) (bytes : List ℕ) → IsChecked left rb rn tb tn wb wn status → left ≡ Some bytes → status ≡ 1 → NoCause bytes
one_no left rb rn tb tn wb wn status bytes run told one =
    let w = written tb tn wb wn run.answer status run.written (λ five. omega arith) in
    let s : status_of run.answer ≡ 1 = sym w.0 ∙ one in
    no_cause bytes run.answer (caused bytes run.answer 1 (run.right.right bytes told) s (λ e. omega arith) (λ e. omega arith)) (one_is_no run.answer s)

pub three_refused : (left : Option (List ℕ)) (rb rn : ℕ) (tb tn : Option (List ℕ)) (wb wn status : ℕ) (bytes : List ℕ) → IsChecked left rb rn tb tn wb wn status → left ≡ Some bytes → status ≡ 3 → (r : Refusal) × IsRefusal MOST_BYTES Prefix bytes r
three_refused left rb rn tb tn wb wn status bytes run told three =
    let w = written tb tn wb wn run.answer status run.written (λ five. omega arith) in
    let s : status_of run.answer ≡ 3 = sym w.0 ∙ three in
    let refused = three_is_refused run.answer s in
    (refused.0, subst (λ (y : Answer). IsCause bytes y) refused.1 (caused bytes run.answer 3 (run.right.right bytes told) s (λ e. omega arith) (λ e. omega arith)))

answered_by : (bytes : List ℕ) (x expected : Answer) → Three bytes x → IsCause bytes expected → (x ≡ expected) ⊎ (x ≡ Refused ReadFault) ⊎ (x ≡ Refused NoMemory)
answered_by bytes x expected (inl fault) cause = inr (inl fault)
answered_by bytes x expected (inr (inl none)) cause = inr (inr none)
answered_by bytes x expected (inr (inr h)) cause = inl (sym (h.only expected cause))

pub answered : (left : Option (List ℕ)) (before now : ℕ) (x expected : Answer) (bytes : List ℕ) → IsRight left before now x → left ≡ Some bytes → IsCause bytes expected → (x ≡ expected) ⊎ (x ≡ Refused ReadFault) ⊎ (x ≡ Refused NoMemory)
answered left before now x expected bytes right told cause = answered_by bytes x expected (right.right bytes told) cause

abbrev pub YesOrFault : Option (List ℕ) → Option (List ℕ) → Verdict → ℕ → Type 0
YesOrFault before now v status = ((status ≡ 0) × Appends before now (text_of (Yes v))) ⊎ (status ≡ 4) ⊎ (status ≡ 5) ⊎ (status ≡ 6)

yes_by : (tb tn : Option (List ℕ)) (wb wn : ℕ) (x : Answer) (status : ℕ) (v : Verdict) → IsWritten tb tn wb wn (text_of x) (status_of x) status → (x ≡ Yes v) ⊎ (x ≡ Refused ReadFault) ⊎ (x ≡ Refused NoMemory) → YesOrFault tb tn v status
yes_by tb tn wb wn x status v (inl w) (inl same) = inl (w.0 ∙ ap status_of same, subst (λ (y : Answer). Appends tb tn (text_of y)) same w.1)
yes_by tb tn wb wn x status v (inl w) (inr (inl fault)) = inr (inl (w.0 ∙ ap status_of fault))
yes_by tb tn wb wn x status v (inl w) (inr (inr none)) = inr (inr (inr (w.0 ∙ ap status_of none)))
yes_by tb tn wb wn x status v (inr w) given = inr (inr (inl w.0))

pub accepted_yes : (left : Option (List ℕ)) (rb rn : ℕ) (tb tn : Option (List ℕ)) (wb wn status : ℕ) (bytes : List ℕ) (v : Verdict) → IsChecked left rb rn tb tn wb wn status → left ≡ Some bytes → IsAccepted bytes v → YesOrFault tb tn v status
accepted_yes left rb rn tb tn wb wn status bytes v run told accepted =
    yes_by tb tn wb wn run.answer status v run.written (answered left rb rn run.answer (Yes v) bytes run.right told accepted)

-- ---- where there is no memory for the text

pub given_right : (left : Option (List ℕ)) (before now : ℕ) (x given : Answer) → (given ≡ x) ⊎ (given ≡ Refused NoMemory) → IsRight left before now x → IsRight left before now given
given_right left before now x given (inl same) right = subst (λ (y : Answer). IsRight left before now y) (sym same) right
given_right left before now x given (inr none) right = record {
  counted = λ fault. absurd (cc (none, fault));
  right = λ bytes told. inr (inl none);
}

pub checked : (left : Option (List ℕ)) (rb rn : ℕ) (tb tn : Option (List ℕ)) (wb wn status : ℕ) (x : Answer) → IsRight left rb rn x → (given : Answer) × ((given ≡ x) ⊎ (given ≡ Refused NoMemory)) × IsWritten tb tn wb wn (text_of given) (status_of given) status → IsChecked left rb rn tb tn wb wn status
checked left rb rn tb tn wb wn status x right given = record {
  answer = given.0;
  right = given_right left rb rn x given.0 given.1 right;
  written = given.2;
}
