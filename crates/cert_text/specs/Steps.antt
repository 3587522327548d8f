-- Reading a certificate line by line, and what calls give of it.
use Rattle.std.specs.Prelude.{◌≡◌, ◌<◌, ◌+◌, ℕ, Bool, true, false, if◌then◌else◌, List, [], ◌∷◌, length, Option, Some, None, Result, Ok, Err, codes, bytes_eq}
use Rattle.lp_base.specs.Answers.{UnlessShort}
use Rattle.cert_text.specs.declared.cert.Cert.{Cert}
use Rattle.cert_text.specs.declared.cert.Cert.TheVariants.{Optimal as OptimalCert, Infeasible as InfeasibleCert, Unbounded as UnboundedCert}
use Rattle.cert_text.specs.declared.cert.CertLine.{CertLine}
use Rattle.cert_text.specs.declared.fault.CertWhy.{CertWhy}
use Rattle.cert_text.specs.declared.fault.CertWhy.TheVariants.{BadHead, NotEnded, AfterEnd}
use Rattle.cert_text.specs.declared.fault.CertFault.{CertFault}
use Rattle.cert_text.specs.declared.fault.CertFault.TheVariants.{NoMemory, At}
use Rattle.cert_text.specs.declared.words.Fault.{Fault}
use Rattle.cert_text.specs.declared.words.Fault.TheVariants.{Memory, Of}
use Rattle.cert_text.specs.declared.lines.Next.{Next}
use Rattle.cert_text.specs.declared.lines.Next.TheVariants.{Whole, Cut, Over}
use Rattle.cert_text.specs.declared.read.Kind.{Kind}
use Rattle.cert_text.specs.declared.read.Kind.TheVariants.{Optimal, Infeasible, Unbounded}
use Rattle.cert_text.specs.Spelling.{Word}
use Rattle.cert_text.specs.Lines.{content, is_cut}
use Rattle.cert_text.specs.Faults.{words, is_last}
use Rattle.cert_text.specs.Texts.{found_by}
use Rattle.cert_text.specs.Reading.{Reading, ◌>>=◌, kind_at, point_at, value_at, piece_at, ray_at, line_at, end_at}

-- ---- what calls give: the value or the reason that reading gives, unless memory is short

-- the reason of a fault, none where memory is short
abbrev pub why_of : Fault → Option CertWhy
why_of (Memory e) = None
why_of (Of why) = Some why

abbrev pub Reads : {X Y : Type 0} → (X → Y) → Result X Fault → Reading Y → Type 0
Reads view (Ok x) read = read ≡ Ok (view x)
Reads view (Err fault) read = UnlessShort why_of (λ why. read ≡ Err why) fault

-- a value, or the number of a content line with its fault
abbrev pub Found : Type 0 → Type 0
Found X = Result X (ℕ × CertWhy)

abbrev pub Finds : {X Y : Type 0} → (X → Y) → Result X CertFault → Found Y → Type 0
Finds view (Ok x) found = found ≡ Ok (view x)
Finds view (Err fault) found = UnlessShort found_by (λ why. found ≡ Err why) fault

-- ---- the content lines that are left, behind those that were taken

pub record Left : Type 0 where
  pub taken : ℕ
  pub lines : List (List ℕ)
  pub cut : Bool

abbrev pub all_lines : List ℕ → Left
all_lines text = record { taken = 0; lines = content text; cut = is_cut text }

-- without its first line
abbrev pub behind : Left → List (List ℕ) → Left
behind left lines = record { taken = left.taken + 1; lines = lines; cut = left.cut }

-- what comes next in a text, and what is left of the text behind it
abbrev pub NextIn : Next → List ℕ → List ℕ → Type 0
NextIn (Whole line) text rest = (content text ≡ line.now ∷ content rest) × (is_cut rest ≡ is_cut text) × (length rest < length text)
NextIn Cut text rest = (content text ≡ []) × (is_cut text ≡ true) × (rest ≡ text)
NextIn Over text rest = (content text ≡ []) × (is_cut text ≡ false) × (rest ≡ text)

abbrev pub NextIs : Next → Left → Left → Type 0
NextIs (Whole line) old new = (old.lines ≡ line.now ∷ new.lines) × (new ≡ behind old new.lines)
NextIs Cut old new = (old.lines ≡ []) × (old.cut ≡ true) × (new ≡ old)
NextIs Over old new = (old.lines ≡ []) × (old.cut ≡ false) × (new ≡ old)

-- what was read, with the number of its line
abbrev pub at : {X : Type 0} → ℕ → Reading X → Found X
at line (Ok x) = Ok x
at line (Err why) = Err (line, why)

abbrev pub placed_fault : ℕ → Fault → CertFault
placed_fault line (Memory e) = NoMemory e
placed_fault line (Of why) = At line why

abbrev pub placed : {X : Type 0} → ℕ → Result X Fault → Result X CertFault
placed line (Ok x) = Ok x
placed line (Err fault) = Err (placed_fault line fault)

-- ---- lines

abbrev pub first_of : Left → List (List ℕ) → Found (List ℕ × Left)
first_of left [] = Err (left.taken + 1, NotEnded)
first_of left (line ∷ lines) = Ok (line, behind left lines)

unfoldable pub whole_line : Left → Found (List ℕ × Left)
whole_line left = first_of left left.lines

-- a line that is read so, and what is left behind it
unfoldable pub line_as : {X : Type 0} → (List Word → Reading X) → Left → Found (X × Left)
line_as read left = do
  line ← whole_line left
  x ← at line.1.taken (read (words line.0))
  Ok (x, line.1)

abbrev pub head_of : Left → List (List ℕ) → Found Left
head_of left [] = Err (left.taken + 1, if left.cut then NotEnded else BadHead)
head_of left (line ∷ lines) = if bytes_eq line (codes "lpcc-certificate 1") then Ok (behind left lines) else Err (left.taken + 1, BadHead)

unfoldable pub head_step : Left → Found Left
head_step left = head_of left left.lines

unfoldable pub kind_step : Left → Found (Kind × Left)
kind_step left = do
  line ← whole_line left
  kind ← at line.1.taken (kind_at line.0)
  Ok (kind, line.1)

-- one more no-good line behind n of them, or none at the last line
unfoldable pub entry_at : ℕ → List ℕ → Reading (Option CertLine)
entry_at n line =
    if is_last line then (end_at n (words line) >>= λ k. Ok None)
    else (line_at (words line) >>= λ x. Ok (Some x))

unfoldable pub entry_step : ℕ → Left → Found (Option CertLine × Left)
entry_step n left = do
  line ← whole_line left
  entry ← at line.1.taken (entry_at n line.0)
  Ok (entry, line.1)

abbrev pub or_more : {X : Type 0} → Option CertLine → X → (CertLine → X) → X
or_more None last more = last
or_more (Some x) last more = more x

-- the no-good lines up to the last line, and what is left behind it
unfoldable pub log_from : ℕ → Left → List (List ℕ) → Found (List CertLine × Left)
log_from n left [] = Err (left.taken + 1, NotEnded)
log_from n left (line ∷ lines) =
    at (left.taken + 1) (entry_at n line) >>= λ entry.
    or_more entry (Ok ([], behind left lines)) (λ x. log_from (n + 1) (behind left lines) lines >>= λ log. Ok (x ∷ log.0, log.1))

unfoldable pub log_step : ℕ → Left → Found (List CertLine × Left)
log_step n left = log_from n left left.lines

unfoldable pub last_step : Left → Found (ℕ × Left)
last_step left = line_as (end_at 0) left

-- ---- the text

unfoldable pub optimal_step : Left → Found (Cert × Left)
optimal_step left = do
  point ← line_as point_at left
  z ← line_as value_at point.1
  log ← log_step 0 z.1
  Ok (OptimalCert point.0 z.0 log.0, log.1)

unfoldable pub infeasible_step : Left → Found (Cert × Left)
infeasible_step left = do
  log ← log_step 0 left
  Ok (InfeasibleCert log.0, log.1)

unfoldable pub unbounded_step : Left → Found (Cert × Left)
unbounded_step left = do
  piece ← line_as piece_at left
  point ← line_as point_at piece.1
  ray ← line_as ray_at point.1
  last ← last_step ray.1
  Ok (UnboundedCert piece.0 point.0 ray.0, last.1)

abbrev pub step_of : Kind → Left → Found (Cert × Left)
step_of Optimal left = optimal_step left
step_of Infeasible left = infeasible_step left
step_of Unbounded left = unbounded_step left

-- no content is left
abbrev pub over_of : Left → List (List ℕ) → Found Left
over_of left [] = if left.cut then Err (left.taken + 1, AfterEnd) else Ok left
over_of left (line ∷ lines) = Err (left.taken + 1, AfterEnd)

unfoldable pub behind_end : Left → Found Left
behind_end left = over_of left left.lines

unfoldable pub cert_at : Left → Found Cert
cert_at left = do
  head ← head_step left
  kind ← kind_step head
  cert ← step_of kind.0 kind.1
  _ ← behind_end cert.1
  Ok cert.0
