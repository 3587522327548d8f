-- How the no-good lines are read one by one.
use Rattle.std.proofs.Common.{◌≡◌, ℕ, ◌+◌, ◌<◌, List, [], ◌∷◌, ◌++◌, length, Option, Some, None, Ok, Err, refl, sym, ap, subst, ◌∙◌, arith}
use Rattle.std.proofs.lemmas.List.{append-nil, length_push}
use Rattle.cert_text.specs.declared.cert.CertLine.{CertLine}
use Rattle.cert_text.specs.declared.fault.CertFault.{CertFault}
use Rattle.cert_text.specs.declared.fault.CertFault.TheVariants.{NoMemory, At}
use Rattle.cert_text.specs.Reading.{◌>>=◌, Reading}
use Rattle.lp_base.specs.Answers.{UnlessShort}
use Rattle.cert_text.specs.Texts.{found_by}
use Rattle.cert_text.specs.Steps.{Found, Left, behind, at, first_of, whole_line, entry_at, entry_step, or_more, log_from, log_step}
use Rattle.cert_text.proofs.Results.{bind_ok, same_ok}
use Rattle.cert_text.proofs.Going.{onto_first, onto_first_push}

abbrev Log : Type 0
Log = List CertLine × Left

abbrev goes_on : ℕ → Option CertLine × Left → Found Log
goes_on n x = or_more x.0 (Ok ([], x.1)) (λ entry. log_step (n + 1) x.1 >>= λ log. Ok (entry ∷ log.0, log.1))

same_step : (n line : ℕ) (left : Left) (r : Reading (Option CertLine))
    → (at line r >>= λ entry. or_more entry (Ok ([], left)) (λ x. log_step (n + 1) left >>= λ log. Ok (x ∷ log.0, log.1)))
    ≡ ((at line r >>= λ entry. Ok (entry, left)) >>= goes_on n)
same_step n line left (Ok entry) = refl
same_step n line left (Err why) = refl

log_by : (n : ℕ) (left : Left) (ls : List (List ℕ)) → log_from n left ls ≡ ((first_of left ls >>= λ line. at line.1.taken (entry_at n line.0) >>= λ entry. Ok (entry, line.1)) >>= goes_on n)
unfolding log_from log_step
log_by n left [] = refl
log_by n left (l ∷ ls) = same_step n (left.taken + 1) (behind left ls) (entry_at n l)

log_is : (n : ℕ) (left : Left) → log_step n left ≡ (entry_step n left >>= goes_on n)
unfolding log_step entry_step whole_line
log_is n left = log_by n left left.lines

log_at_entry : (before : List CertLine) (left : Left) (all : Found Log) → onto_first before (log_step (length before) left) ≡ all → all ≡ onto_first before (entry_step (length before) left >>= goes_on (length before))
log_at_entry before left all so_far = sym so_far ∙ ap (onto_first before) (log_is (length before) left)

log_at : (before : List CertLine) (n : ℕ) (left : Left) (r : Found (Option CertLine × Left)) (all : Found Log) → n ≡ length before → entry_step n left ≡ r
    → onto_first before (log_step (length before) left) ≡ all → all ≡ onto_first before (r >>= goes_on (length before))
log_at before n left r all k e so_far =
    log_at_entry before left all so_far ∙ ap (λ (x : Found (Option CertLine × Left)). onto_first before (x >>= goes_on (length before))) (sym (ap (λ (m : ℕ). entry_step m left) k) ∙ e)

pub log_refused : (fault : CertFault) (before : List CertLine) (n : ℕ) (left : Left) (all : Found Log) → n ≡ length before
    → UnlessShort found_by (λ why. entry_step n left ≡ Err why) fault → onto_first before (log_step (length before) left) ≡ all → UnlessShort found_by (λ why. all ≡ Err why) fault
log_refused (NoMemory e) before n left all k h so_far = tt
log_refused (At line why) before n left all k h so_far = log_at before n left (Err (line, why)) all k h so_far

pub log_ends : (before : List CertLine) (n : ℕ) (left behind : Left) (entry : Option CertLine) (all : Found Log) → n ≡ length before
    → entry_step n left ≡ Ok (entry, behind) → entry ≡ None → onto_first before (log_step (length before) left) ≡ all → all ≡ Ok (before, behind)
log_ends before n left behind entry all k e none so_far =
    log_at before n left (Ok (None, behind)) all k (e ∙ ap (λ (x : Option CertLine). Ok (x, behind)) none) so_far ∙ ap (λ (xs : List CertLine). Ok (xs, behind)) (append-nil before)

pub log_goes_on : (before : List CertLine) (n : ℕ) (left behind : Left) (entry : Option CertLine) (x : CertLine) (now : List CertLine) (all : Found Log) → n ≡ length before
    → entry_step n left ≡ Ok (entry, behind) → entry ≡ Some x → now ≡ before ++ x ∷ [] → onto_first before (log_step (length before) left) ≡ all → onto_first now (log_step (length now) behind) ≡ all
log_goes_on before n left behind entry x now all k e some m so_far =
    let longer : length now ≡ length before + 1 = ap length m ∙ length_push before x in
    ap (λ (j : ℕ). onto_first now (log_step j behind)) longer ∙ ap (λ (xs : List CertLine). onto_first xs (log_step (length before + 1) behind)) m
    ∙ onto_first_push before x (log_step (length before + 1) behind)
    ∙ sym (log_at before n left (Ok (Some x, behind)) all k (e ∙ ap (λ (y : Option CertLine). Ok (y, behind)) some) so_far)

pub first_shorter : (left : Left) (ls : List (List ℕ)) (x : List ℕ × Left) → first_of left ls ≡ Ok x → length x.1.lines < length ls
first_shorter left [] x e = absurd cc
first_shorter left (l ∷ ls) x e = subst (λ (y : List ℕ × Left). length y.1.lines < length (l ∷ ls)) {x = (l, behind left ls)} (same_ok (l, behind left ls) x e) (omega arith)

pub entry_shorter : (n : ℕ) (left behind : Left) (entry : Option CertLine) → entry_step n left ≡ Ok (entry, behind) → length behind.lines < length left.lines
unfolding entry_step whole_line
entry_shorter n left behind entry e =
    let x : Option CertLine × Left = (entry, behind) in
    let line = bind_ok (first_of left left.lines) (λ line. at line.1.taken (entry_at n line.0) >>= λ entry. Ok (entry, line.1)) x e in
    let found = bind_ok (at line.0.1.taken (entry_at n line.0.0)) (λ entry. Ok (entry, line.0.1)) x line.2 in
    subst (λ (y : Option CertLine × Left). length y.1.lines < length left.lines) {x = (found.0, line.0.1)} (same_ok (found.0, line.0.1) x found.2) (first_shorter left left.lines line.0 line.1)
