-- Reading a certificate of either form line by line.
use Rattle.std.specs.Prelude.{◌+◌, ℕ, if◌then◌else◌, List, [], ◌∷◌, Option, Some, None, Result, Ok, Err}
use Rattle.cert_text.specs.declared.cert.Cert.{Cert}
use Rattle.cert_text.specs.declared.fault.CertFault.{CertFault}
use Rattle.cert_text.specs.declared.fault.CertWhy.TheVariants.{NotEnded}
use Rattle.cert_text.specs.declared.read.Kind.{Kind}
use Rattle.cert_text.specs.declared.read.Kind.TheVariants as kinds
use Rattle.cert_text.specs.Reading.{Reading, ◌>>=◌, point_at, value_at, piece_at, ray_at, end_at}
use Rattle.cert_text.specs.Faults.{words, is_last}
use Rattle.cert_text.specs.Steps.{Found, Left, behind, at, whole_line, line_as, kind_step, last_step, behind_end}
use Rattle.cert2_text.specs.declared.cert2.AnyCert.{AnyCert}
use Rattle.cert2_text.specs.declared.cert2.AnyCert.TheVariants.{One, Two}
use Rattle.cert2_text.specs.declared.cert2.Cert2.{Cert2}
use Rattle.cert2_text.specs.declared.cert2.Cert2.TheVariants.{Optimal, Infeasible, Unbounded}
use Rattle.cert2_text.specs.declared.cert2.Cert2Line.{Cert2Line}
use Rattle.cert2_text.specs.Certs2.{counted}
use Rattle.cert2_text.specs.Reading2.{line2_at}

-- one more line behind n no-good lines, or none at the last line
unfoldable pub entry2_at : ℕ → List ℕ → Reading (Option Cert2Line)
entry2_at n line =
    if is_last line then (end_at n (words line) >>= λ k. Ok None)
    else (line2_at (words line) >>= λ x. Ok (Some x))

unfoldable pub entry2_step : ℕ → Left → Found (Option Cert2Line × Left)
entry2_step n left = do
  line ← whole_line left
  entry ← at line.1.taken (entry2_at n line.0)
  Ok (entry, line.1)

abbrev pub or_more2 : {X : Type 0} → Option Cert2Line → X → (Cert2Line → X) → X
or_more2 None last more = last
or_more2 (Some x) last more = more x

-- the lines up to the last line, behind n no-good lines, and what is left behind it
unfoldable pub log2_from : ℕ → Left → List (List ℕ) → Found (List Cert2Line × Left)
log2_from n left [] = Err (left.taken + 1, NotEnded)
log2_from n left (line ∷ lines) =
    at (left.taken + 1) (entry2_at n line) >>= λ entry.
    or_more2 entry (Ok ([], behind left lines)) (λ x. log2_from (n + counted x) (behind left lines) lines >>= λ log. Ok (x ∷ log.0, log.1))

unfoldable pub log2_step : ℕ → Left → Found (List Cert2Line × Left)
log2_step n left = log2_from n left left.lines

unfoldable pub optimal2_step : Left → Found (Cert2 × Left)
optimal2_step left = do
  point ← line_as point_at left
  z ← line_as value_at point.1
  log ← log2_step 0 z.1
  Ok (Optimal point.0 z.0 log.0, log.1)

unfoldable pub infeasible2_step : Left → Found (Cert2 × Left)
infeasible2_step left = do
  log ← log2_step 0 left
  Ok (Infeasible log.0, log.1)

unfoldable pub unbounded2_step : Left → Found (Cert2 × Left)
unbounded2_step left = do
  piece ← line_as piece_at left
  point ← line_as point_at piece.1
  ray ← line_as ray_at point.1
  last ← last_step ray.1
  Ok (Unbounded piece.0 point.0 ray.0, last.1)

abbrev pub step2_of : Kind → Left → Found (Cert2 × Left)
step2_of kinds.Optimal left = optimal2_step left
step2_of kinds.Infeasible left = infeasible2_step left
step2_of kinds.Unbounded left = unbounded2_step left

-- the first line is the head of form 2
unfoldable pub cert2_at : Left → Found Cert2
cert2_at left = do
  head ← whole_line left
  kind ← kind_step head.1
  cert ← step2_of kind.0 kind.1
  _ ← behind_end cert.1
  Ok cert.0

-- ---- a certificate of either form

abbrev pub as_one : Result Cert CertFault → Result AnyCert CertFault
as_one (Ok cert) = Ok (One cert)
as_one (Err fault) = Err fault

abbrev pub as_two : Result Cert2 CertFault → Result AnyCert CertFault
as_two (Ok cert) = Ok (Two cert)
as_two (Err fault) = Err fault
