-- What the reader of either form says of texts.
use Rattle.std.proofs.Common.{◌≡◌, ℕ, Bool, true, false, List, [], Result, Ok, Err, Option, Some, None, refl, sym, ap, subst, ◌∙◌, ◌⊎◌, inl, inr}
use Rattle.std.specs.Prelude.{IfOk, IfErr}
use Rattle.lp_base.specs.Answers.{Gives, Refuses}
use Rattle.cert_text.specs.declared.cert.Cert.{Cert}
use Rattle.cert_text.specs.declared.cert.Cert.TheVariants.{Optimal, Infeasible, Unbounded}
use Rattle.cert_text.specs.declared.fault.CertWhy.{CertWhy}
use Rattle.cert_text.specs.declared.fault.CertFault.{CertFault}
use Rattle.cert_text.specs.declared.fault.CertFault.TheVariants.{NoMemory, At}
use Rattle.cert_text.specs.Spelling.{cert_lines}
use Rattle.cert_text.specs.Lines.{content, is_cut}
use Rattle.cert_text.specs.Steps.{Finds, all_lines}
use Rattle.cert_text.specs.Texts.{Spells, FailsBy, Fails, FailsAs, found_by}
use Rattle.cert_text.proofs.Results.{same_ok, same_err, apart}
use Rattle.cert_text.proofs.Relations.{first_fault, fault_found, found_fails, same_fault}
use Rattle.cert_text.proofs.Judging.{Wholly}
use Rattle.cert_text.proofs.Clauses as one
use Rattle.cert2_text.specs.declared.cert2.AnyCert.{AnyCert}
use Rattle.cert2_text.specs.declared.cert2.AnyCert.TheVariants.{One, Two}
use Rattle.cert2_text.specs.declared.cert2.Cert2.{Cert2}
use Rattle.cert2_text.specs.Faults2.{fault2_of}
use Rattle.cert2_text.specs.Texts2.{Spells2, begins_two, is_two, SpellsAny, FailsAny, FailsAnyAs}
use Rattle.cert2_text.specs.Steps2.{cert2_at, as_one, as_two}
use Rattle.cert2_text.proofs.Certificates2.{read_is_spelled, spelled_is_read, spelled_is_two}
use Rattle.cert2_text.proofs.Frames2.{cert2_wholly}

abbrev Answer : Type 0
Answer = Result Cert2 (ℕ × CertWhy)

abbrev answer : List ℕ → Answer
answer text = cert2_at (all_lines text)

abbrev is_refused : ℕ × CertWhy → Answer
is_refused x = Err x

abbrev found : List ℕ → Option (ℕ × CertWhy)
found text = first_fault fault2_of (is_cut text) [] (content text)

wholly : (text : List ℕ) (r : Answer) → is_two text ≡ true → answer text ≡ r → Wholly (found text) r
wholly text r two e = subst (λ (a : Answer). Wholly (found text) a) e (cert2_wholly (all_lines text) refl two)

fault_of_answer : (text : List ℕ) (n : ℕ) (w : CertWhy) (r : Answer) → found text ≡ Some (n, w) → Wholly (found text) r → r ≡ is_refused (n, w)
fault_of_answer text n w (Ok c) f h = absurd (some_apart (n, w) (found text) h f)
  where
    some_apart : (x : ℕ × CertWhy) (o : Option (ℕ × CertWhy)) → o ≡ None → o ≡ Some x → ⊥
    some_apart x (Some y) e h = absurd cc
    some_apart x None e h = absurd cc
fault_of_answer text n w (Err x) f h = let s = same_fault x.0 n x.1 w (sym h ∙ f) in ap (λ (m : ℕ). is_refused (m, x.1)) s.0 ∙ ap (λ (v : CertWhy). is_refused (n, v)) s.1

failed_is_refused : (text : List ℕ) (n : ℕ) (w : CertWhy) → is_two text ≡ true → FailsBy fault2_of text n w → answer text ≡ is_refused (n, w)
failed_is_refused text n w two f = fault_of_answer text n w (answer text) (fault_found fault2_of text n w f) (wholly text (answer text) two refl)

refused_fails : (text : List ℕ) (n : ℕ) (w : CertWhy) → is_two text ≡ true → answer text ≡ is_refused (n, w) → FailsBy fault2_of text n w
refused_fails text n w two e = found_fails fault2_of text n w (wholly text (is_refused (n, w)) two e)

-- ---- the head tells the form

one_begins : (c : Cert) → begins_two (cert_lines c) ≡ false
one_begins (Optimal p z xs) = refl
one_begins (Infeasible xs) = refl
one_begins (Unbounded ng p ray) = refl

spelled_is_one : (text : List ℕ) (c : Cert) → Spells text c → is_two text ≡ false
spelled_is_one text c h = ap begins_two h.lines ∙ one_begins c

both : (t : Bool) → t ≡ true → t ≡ false → ⊥
both true e h = absurd cc
both false e h = absurd cc

not_both_forms : (text : List ℕ) (c : Cert) (d : Cert2) → Spells text c → Spells2 text d → ⊥
not_both_forms text c d s t = both (is_two text) (spelled_is_two text d t) (spelled_is_one text c s)

-- ---- the clauses of the reader at a text of form 1

pub one_spelled : (text : List ℕ) (r : Result Cert CertFault) (a : Result AnyCert CertFault) → a ≡ as_one r → IfOk r (λ c. Spells text c) → IfOk a (λ c. SpellsAny text c)
one_spelled text r a e h = subst (λ (b : Result AnyCert CertFault). IfOk b (λ c. SpellsAny text c)) (sym e) (by_result r h)
  where
    by_result : (r : Result Cert CertFault) → IfOk r (λ c. Spells text c) → IfOk (as_one r) (λ c. SpellsAny text c)
    by_result (Ok c) h = h
    by_result (Err f) h = tt

pub one_only : (text : List ℕ) (r : Result Cert CertFault) (a : Result AnyCert CertFault) → a ≡ as_one r → is_two text ≡ false → ((c : Cert) → Spells text c → Gives found_by c r)
    → (x : AnyCert) → SpellsAny text x → Gives found_by x a
one_only text r a e t only x s = subst (λ (b : Result AnyCert CertFault). Gives found_by x b) (sym e) (by_result r only x s)
  where
    by_result : (r : Result Cert CertFault) → ((c : Cert) → Spells text c → Gives found_by c r) → (x : AnyCert) → SpellsAny text x → Gives found_by x (as_one r)
    by_result (Ok c) only (One d) s = ap (λ (k : Cert). One k) (only d s)
    by_result (Ok c) only (Two d) s = absurd (both (is_two text) (spelled_is_two text d s) t)
    by_result (Err f) only (One d) s = only d s
    by_result (Err f) only (Two d) s = absurd (both (is_two text) (spelled_is_two text d s) t)

pub one_fails : (text : List ℕ) (r : Result Cert CertFault) (a : Result AnyCert CertFault) → a ≡ as_one r → is_two text ≡ false → IfErr r (λ f. FailsAs f text) → IfErr a (λ f. FailsAnyAs f text)
one_fails text r a e t h = subst (λ (b : Result AnyCert CertFault). IfErr b (λ f. FailsAnyAs f text)) (sym e) (by_result r h)
  where
    by_result : (r : Result Cert CertFault) → IfErr r (λ f. FailsAs f text) → IfErr (as_one r) (λ f. FailsAnyAs f text)
    by_result (Ok c) h = tt
    by_result (Err (NoMemory m)) h = tt
    by_result (Err (At line why)) h = inr (t, h)

pub one_only_fails : (text : List ℕ) (r : Result Cert CertFault) (a : Result AnyCert CertFault) → a ≡ as_one r → is_two text ≡ false
    → ((line : ℕ) (why : CertWhy) → Fails text line why → Refuses found_by (line, why) r) → (line : ℕ) (why : CertWhy) → FailsAny text line why → Refuses found_by (line, why) a
one_only_fails text r a e t only line why f = subst (λ (b : Result AnyCert CertFault). Refuses found_by (line, why) b) (sym e) (by_result r (only line why) f)
  where
    by_result : (r : Result Cert CertFault) → (Fails text line why → Refuses found_by (line, why) r) → FailsAny text line why → Refuses found_by (line, why) (as_one r)
    by_result r only (inl f) = absurd (both (is_two text) f.0 t)
    by_result (Ok c) only (inr f) = only f.1
    by_result (Err w) only (inr f) = only f.1

-- ---- the clauses of the reader at a text of form 2

abbrev Found : Result Cert2 CertFault → List ℕ → Type 0
Found r text = Finds (λ cert. cert) r (answer text)

pub two_spelled : (text : List ℕ) (r : Result Cert2 CertFault) (a : Result AnyCert CertFault) → a ≡ as_two r → is_two text ≡ true → Found r text → IfOk a (λ c. SpellsAny text c)
two_spelled text r a e t h = subst (λ (b : Result AnyCert CertFault). IfOk b (λ c. SpellsAny text c)) (sym e) (by_result r h)
  where
    by_result : (r : Result Cert2 CertFault) → Found r text → IfOk (as_two r) (λ c. SpellsAny text c)
    by_result (Ok c) h = read_is_spelled text c t h
    by_result (Err f) h = tt

pub two_only : (text : List ℕ) (r : Result Cert2 CertFault) (a : Result AnyCert CertFault) → a ≡ as_two r → is_two text ≡ true → Found r text → (x : AnyCert) → SpellsAny text x → Gives found_by x a
two_only text r a e t h x s = subst (λ (b : Result AnyCert CertFault). Gives found_by x b) (sym e) (by_result r h x s)
  where
    by_result : (r : Result Cert2 CertFault) → Found r text → (x : AnyCert) → SpellsAny text x → Gives found_by x (as_two r)
    by_result r h (One d) s = absurd (both (is_two text) t (spelled_is_one text d s))
    by_result (Ok c) h (Two d) s = ap (λ (k : Cert2). Two k) (same_ok c d (sym h ∙ spelled_is_read text d s))
    by_result (Err (NoMemory m)) h (Two d) s = tt
    by_result (Err (At line why)) h (Two d) s = apart d (line, why) (sym (spelled_is_read text d s) ∙ h)

pub two_fails : (text : List ℕ) (r : Result Cert2 CertFault) (a : Result AnyCert CertFault) → a ≡ as_two r → is_two text ≡ true → Found r text → IfErr a (λ f. FailsAnyAs f text)
two_fails text r a e t h = subst (λ (b : Result AnyCert CertFault). IfErr b (λ f. FailsAnyAs f text)) (sym e) (by_result r h)
  where
    by_result : (r : Result Cert2 CertFault) → Found r text → IfErr (as_two r) (λ f. FailsAnyAs f text)
    by_result (Ok c) h = tt
    by_result (Err (NoMemory m)) h = tt
    by_result (Err (At line why)) h = inl (t, refused_fails text line why t h)

pub two_only_fails : (text : List ℕ) (r : Result Cert2 CertFault) (a : Result AnyCert CertFault) → a ≡ as_two r → is_two text ≡ true → Found r text
    → (line : ℕ) (why : CertWhy) → FailsAny text line why → Refuses found_by (line, why) a
two_only_fails text r a e t h line why f = subst (λ (b : Result AnyCert CertFault). Refuses found_by (line, why) b) (sym e) (by_result r h f)
  where
    by_result : (r : Result Cert2 CertFault) → Found r text → FailsAny text line why → Refuses found_by (line, why) (as_two r)
    by_result r h (inr f) = absurd (both (is_two text) t f.0)
    by_result (Ok c) h (inl f) = apart c (line, why) (sym h ∙ failed_is_refused text line why t f.1)
    by_result (Err (NoMemory m)) h (inl f) = tt
    by_result (Err (At n w)) h (inl f) = same_err (n, w) (line, why) (sym h ∙ failed_is_refused text line why t f.1)

-- ---- laws

pub one_certificate : (text : List ℕ) (x y : AnyCert) → SpellsAny text x → SpellsAny text y → x ≡ y
one_certificate text (One c) (One d) s t = ap (λ (k : Cert). One k) (one.one_certificate text c d s t)
one_certificate text (One c) (Two d) s t = absurd (not_both_forms text c d s t)
one_certificate text (Two c) (One d) s t = absurd (not_both_forms text d c t s)
one_certificate text (Two c) (Two d) s t = ap (λ (k : Cert2). Two k) (same_ok c d (sym (spelled_is_read text c s) ∙ spelled_is_read text d t))

pub not_both : (text : List ℕ) (x : AnyCert) (line : ℕ) (why : CertWhy) → SpellsAny text x → FailsAny text line why → ⊥
not_both text (One c) line why s (inl f) = both (is_two text) f.0 (spelled_is_one text c s)
not_both text (One c) line why s (inr f) = one.not_both text c line why s f.1
not_both text (Two c) line why s (inl f) = apart c (line, why) (sym (spelled_is_read text c s) ∙ failed_is_refused text line why f.0 f.1)
not_both text (Two c) line why s (inr f) = both (is_two text) (spelled_is_two text c s) f.0

pub one_fault : (text : List ℕ) (m n : ℕ) (v w : CertWhy) → FailsAny text m v → FailsAny text n w → (m ≡ n) × (v ≡ w)
one_fault text m n v w (inl f) (inl g) = same_fault m n v w (sym (fault_found fault2_of text m v f.1) ∙ fault_found fault2_of text n w g.1)
one_fault text m n v w (inl f) (inr g) = absurd (both (is_two text) f.0 g.0)
one_fault text m n v w (inr f) (inl g) = absurd (both (is_two text) g.0 f.0)
one_fault text m n v w (inr f) (inr g) = one.one_fault text m n v w f.1 g.1

abbrev OneOfBoth : List ℕ → Type 0
OneOfBoth text = ((x : AnyCert) × SpellsAny text x) ⊎ ((line : ℕ) × (why : CertWhy) × FailsAny text line why)

pub one_of_both : (text : List ℕ) → OneOfBoth text
one_of_both text = by_head (is_two text) refl
  where
    by_answer : (a : Answer) → is_two text ≡ true → answer text ≡ a → OneOfBoth text
    by_answer (Ok c) t e = inl (Two c, read_is_spelled text c t e)
    by_answer (Err x) t e = inr (x.0, x.1, inl (t, refused_fails text x.0 x.1 t e))

    by_one : is_two text ≡ false → ((c : Cert) × Spells text c) ⊎ ((line : ℕ) × (why : CertWhy) × Fails text line why) → OneOfBoth text
    by_one t (inl s) = inl (One s.0, s.1)
    by_one t (inr f) = inr (f.0, f.1, inr (t, f.2))

    by_head : (b : Bool) → is_two text ≡ b → OneOfBoth text
    by_head true t = by_answer (answer text) t refl
    by_head false t = by_one t (one.one_of_both text)
