-- The clauses of the reader, and the laws.
use Rattle.std.proofs.Common.{◌≡◌, ℕ, ◌⊎◌, inl, inr, List, [], Option, Some, None, Result, Ok, Err, refl, sym, ap, subst, ◌∙◌}
use Rattle.std.specs.Prelude.{IfOk, IfErr}
use Rattle.lp_base.specs.Answers.{Gives, Refuses}
use Rattle.cert_text.specs.declared.cert.Cert.{Cert}
use Rattle.cert_text.specs.declared.fault.CertWhy.{CertWhy}
use Rattle.cert_text.specs.declared.fault.CertFault.{CertFault}
use Rattle.cert_text.specs.declared.fault.CertFault.TheVariants.{NoMemory, At}
use Rattle.cert_text.specs.Lines.{content, is_cut}
use Rattle.cert_text.specs.Faults.{fault_of}
use Rattle.cert_text.specs.Steps.{Finds, all_lines, cert_at}
use Rattle.cert_text.specs.Texts.{Spells, Fails, FailsAs, found_by}
use Rattle.cert_text.proofs.Results.{same_ok, same_err, apart}
use Rattle.cert_text.proofs.Relations.{first_fault, fault_found, found_fails, same_fault}
use Rattle.cert_text.proofs.Certificates.{read_is_spelled, spelled_is_read}
use Rattle.cert_text.proofs.Judging.{Wholly}
use Rattle.cert_text.proofs.Frames.{cert_wholly}

abbrev Answer : Type 0
Answer = Result Cert (ℕ × CertWhy)

abbrev answer : List ℕ → Answer
answer text = cert_at (all_lines text)

abbrev is_read : Cert → Answer
is_read c = Ok c

abbrev is_refused : ℕ × CertWhy → Answer
is_refused x = Err x

abbrev found : List ℕ → Option (ℕ × CertWhy)
found text = first_fault fault_of (is_cut text) [] (content text)

wholly : (text : List ℕ) (r : Answer) → answer text ≡ r → Wholly (found text) r
wholly text r e = subst (λ (a : Answer). Wholly (found text) a) e (cert_wholly (all_lines text) refl)

some_apart : (x : ℕ × CertWhy) (o : Option (ℕ × CertWhy)) → o ≡ None → o ≡ Some x → ⊥
some_apart x (Some y) e h = absurd cc
some_apart x None e h = absurd cc

fault_of_answer : (text : List ℕ) (n : ℕ) (w : CertWhy) (r : Answer) → found text ≡ Some (n, w) → Wholly (found text) r → r ≡ is_refused (n, w)
fault_of_answer text n w (Ok c) f h = absurd (some_apart (n, w) (found text) h f)
fault_of_answer text n w (Err x) f h = let s = same_fault x.0 n x.1 w (sym h ∙ f) in ap (λ (m : ℕ). is_refused (m, x.1)) s.0 ∙ ap (λ (v : CertWhy). is_refused (n, v)) s.1

-- a first fault is answered
failed_is_refused : (text : List ℕ) (n : ℕ) (w : CertWhy) → Fails text n w → answer text ≡ is_refused (n, w)
failed_is_refused text n w f = fault_of_answer text n w (answer text) (fault_found fault_of text n w f) (wholly text (answer text) refl)

refused_fails : (text : List ℕ) (n : ℕ) (w : CertWhy) → answer text ≡ is_refused (n, w) → Fails text n w
refused_fails text n w e = found_fails fault_of text n w (wholly text (is_refused (n, w)) e)

-- ---- the clauses of the reader

abbrev Found : Result Cert CertFault → List ℕ → Type 0
Found r text = Finds (λ cert. cert) r (answer text)

pub given_spelled : (r : Result Cert CertFault) (text : List ℕ) → Found r text → IfOk r (λ c. Spells text c)
given_spelled (Ok c) text h = read_is_spelled text c h
given_spelled (Err fault) text h = tt

pub given_only : (r : Result Cert CertFault) (text : List ℕ) → Found r text → (c : Cert) → Spells text c → Gives found_by c r
given_only (Ok found) text h c s = same_ok found c (sym h ∙ spelled_is_read text c s)
given_only (Err (NoMemory e)) text h c s = tt
given_only (Err (At line why)) text h c s = apart c (line, why) (sym (spelled_is_read text c s) ∙ h)

pub given_fails : (r : Result Cert CertFault) (text : List ℕ) → Found r text → IfErr r (λ fault. FailsAs fault text)
given_fails (Ok c) text h = tt
given_fails (Err (NoMemory e)) text h = tt
given_fails (Err (At line why)) text h = refused_fails text line why h

pub given_only_fails : (r : Result Cert CertFault) (text : List ℕ) → Found r text → (line : ℕ) (why : CertWhy) → Fails text line why → Refuses found_by (line, why) r
given_only_fails (Ok found) text h line why f = apart found (line, why) (sym h ∙ failed_is_refused text line why f)
given_only_fails (Err (NoMemory e)) text h line why f = tt
given_only_fails (Err (At n w)) text h line why f = same_err (n, w) (line, why) (sym h ∙ failed_is_refused text line why f)

-- ---- laws

pub one_certificate : (text : List ℕ) (one other : Cert) → Spells text one → Spells text other → one ≡ other
one_certificate text one other h k = same_ok one other (sym (spelled_is_read text one h) ∙ spelled_is_read text other k)

pub one_fault : (text : List ℕ) (m n : ℕ) (one other : CertWhy) → Fails text m one → Fails text n other → (m ≡ n) × (one ≡ other)
one_fault text m n one other f g = same_fault m n one other (sym (fault_found fault_of text m one f) ∙ fault_found fault_of text n other g)

pub not_both : (text : List ℕ) (c : Cert) (line : ℕ) (why : CertWhy) → Spells text c → Fails text line why → ⊥
not_both text c line why s f = apart c (line, why) (sym (spelled_is_read text c s) ∙ failed_is_refused text line why f)

pub one_of_both : (text : List ℕ) → ((c : Cert) × Spells text c) ⊎ ((line : ℕ) × (why : CertWhy) × Fails text line why)
one_of_both text = by_answer (answer text) refl
  where
    by_answer : (a : Answer) → answer text ≡ a → ((c : Cert) × Spells text c) ⊎ ((line : ℕ) × (why : CertWhy) × Fails text line why)
    by_answer (Ok c) e = inl (c, read_is_spelled text c e)
    by_answer (Err x) e = inr (x.0, x.1, refused_fails text x.0 x.1 e)
