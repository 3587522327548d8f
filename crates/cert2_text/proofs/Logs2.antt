-- How the lines of form 2 are read one by one.
use Rattle.std.proofs.Common.{◌≡◌, ℕ, ◌+◌, ◌<◌, List, [], ◌∷◌, ◌++◌, length, Option, Some, None, Ok, Err, refl, sym, ap, subst, ◌∙◌}
use Rattle.std.proofs.lemmas.List.{append-nil}
use Rattle.lp_base.specs.Answers.{UnlessShort}
use Rattle.cert_text.specs.declared.fault.CertFault.{CertFault}
use Rattle.cert_text.specs.declared.fault.CertFault.TheVariants.{NoMemory, At}
use Rattle.cert_text.specs.Reading.{◌>>=◌, Reading}
use Rattle.cert_text.specs.Texts.{found_by}
use Rattle.cert_text.specs.Steps.{Found, Left, behind, at, first_of, whole_line}
use Rattle.cert_text.proofs.Results.{bind_ok, same_ok}
use Rattle.cert_text.proofs.Going.{onto_first, onto_first_push}
use Rattle.cert_text.proofs.Logs.{first_shorter}
use Rattle.cert2_text.specs.declared.cert2.Cert2Line.{Cert2Line}
use Rattle.cert2_text.specs.Certs2.{counted}
use Rattle.cert2_text.specs.Steps2.{entry2_at, entry2_step, or_more2, log2_from, log2_step}

abbrev Log : Type 0
Log = List Cert2Line × Left

abbrev goes_on : ℕ → Option Cert2Line × Left → Found Log
goes_on n x = or_more2 x.0 (Ok ([], x.1)) (λ entry. log2_step (n + counted entry) x.1 >>= λ log. Ok (entry ∷ log.0, log.1))

same_step : (n line : ℕ) (left : Left) (r : Reading (Option Cert2Line))
    → (at line r >>= λ entry. or_more2 entry (Ok ([], left)) (λ x. log2_step (n + counted x) left >>= λ log. Ok (x ∷ log.0, log.1)))
    ≡ ((at line r >>= λ entry. Ok (entry, left)) >>= goes_on n)
same_step n line left (Ok entry) = refl
same_step n line left (Err why) = refl

log_by : (n : ℕ) (left : Left) (ls : List (List ℕ)) → log2_from n left ls ≡ ((first_of left ls >>= λ line. at line.1.taken (entry2_at n line.0) >>= λ entry. Ok (entry, line.1)) >>= goes_on n)
unfolding log2_from log2_step
log_by n left [] = refl
log_by n left (l ∷ ls) = same_step n (left.taken + 1) (behind left ls) (entry2_at n l)

log_is : (n : ℕ) (left : Left) → log2_step n left ≡ (entry2_step n left >>= goes_on n)
unfolding log2_step entry2_step whole_line
log_is n left = log_by n left left.lines

log_at : (before : List Cert2Line) (n : ℕ) (left : Left) (r : Found (Option Cert2Line × Left)) (all : Found Log) → entry2_step n left ≡ r
    → onto_first before (log2_step n left) ≡ all → all ≡ onto_first before (r >>= goes_on n)
log_at before n left r all e so_far =
    sym so_far ∙ ap (onto_first before) (log_is n left) ∙ ap (λ (x : Found (Option Cert2Line × Left)). onto_first before (x >>= goes_on n)) e

pub log_refused : (fault : CertFault) (before : List Cert2Line) (n : ℕ) (left : Left) (all : Found Log)
    → UnlessShort found_by (λ why. entry2_step n left ≡ Err why) fault → onto_first before (log2_step n left) ≡ all → UnlessShort found_by (λ why. all ≡ Err why) fault
log_refused (NoMemory e) before n left all h so_far = tt
log_refused (At line why) before n left all h so_far = log_at before n left (Err (line, why)) all h so_far

pub log_ends : (before : List Cert2Line) (n : ℕ) (left behind : Left) (entry : Option Cert2Line) (all : Found Log)
    → entry2_step n left ≡ Ok (entry, behind) → entry ≡ None → onto_first before (log2_step n left) ≡ all → all ≡ Ok (before, behind)
log_ends before n left behind entry all e none so_far =
    log_at before n left (Ok (None, behind)) all (e ∙ ap (λ (x : Option Cert2Line). Ok (x, behind)) none) so_far ∙ ap (λ (xs : List Cert2Line). Ok (xs, behind)) (append-nil before)

pub log_goes_on : (before : List Cert2Line) (n m : ℕ) (left behind : Left) (entry : Option Cert2Line) (x : Cert2Line) (now : List Cert2Line) (all : Found Log) → m ≡ n + counted x
    → entry2_step n left ≡ Ok (entry, behind) → entry ≡ Some x → now ≡ before ++ x ∷ [] → onto_first before (log2_step n left) ≡ all → onto_first now (log2_step m behind) ≡ all
log_goes_on before n m left behind entry x now all k e some j so_far =
    ap (λ (i : ℕ). onto_first now (log2_step i behind)) k ∙ ap (λ (xs : List Cert2Line). onto_first xs (log2_step (n + counted x) behind)) j
    ∙ onto_first_push before x (log2_step (n + counted x) behind)
    ∙ sym (log_at before n left (Ok (Some x, behind)) all (e ∙ ap (λ (y : Option Cert2Line). Ok (y, behind)) some) so_far)

pub entry_shorter : (n : ℕ) (left behind : Left) (entry : Option Cert2Line) → entry2_step n left ≡ Ok (entry, behind) → length behind.lines < length left.lines
unfolding entry2_step whole_line
entry_shorter n left behind entry e =
    let x : Option Cert2Line × Left = (entry, behind) in
    let line = bind_ok (first_of left left.lines) (λ line. at line.1.taken (entry2_at n line.0) >>= λ entry. Ok (entry, line.1)) x e in
    let found = bind_ok (at line.0.1.taken (entry2_at n line.0.0)) (λ entry. Ok (entry, line.0.1)) x line.2 in
    subst (λ (y : Option Cert2Line × Left). length y.1.lines < length left.lines) {x = (found.0, line.0.1)} (same_ok (found.0, line.0.1) x found.2) (first_shorter left left.lines line.0 line.1)
