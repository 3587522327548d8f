-- The lines of a certificate, from the trimmed log.
use Rattle.std.specs.Prelude.{◌≡◌, ◌<◌, ◌+◌, ℕ, All, List, length, map, take, slice_index_or}
use Rattle.lpcc_case.specs.Instance.{Instance}
use Rattle.lpcc_case.specs.Cases.{IsCase}
use Rattle.lpcc_case.specs.Pieces.{NamesPairs}
use Rattle.cuts.specs.declared.cut.Cut.{Cut}
use Rattle.cuts.specs.Cuts.{Passes, no_good_of}
use Rattle.derivation.specs.declared.step.Step.{Step}
use Rattle.derivation.specs.declared.step.Step.TheVariants.{Start, Derived}
use Rattle.derivation.specs.Logs.{IsLog, no_goods}
use Rattle.trimming.specs.Trimmed.{AreReached, kept_steps}
use Rattle.cert_text.specs.declared.cert.CertLine.{CertLine}
use Rattle.cert_text.specs.declared.cert.CertLine.TheVariants as line
use Rattle.cert_parts.specs.Lines.{line_of_cut, starts_of}

-- the line of a step of the trimmed log, whose hints are renumbered; that of a start has its cut
abbrev pub line_by : Cut → Step → CertLine
line_by c (Start ng) = line_of_cut c
line_by c (Derived ng hints) = line.Derived ng hints

-- for each number below n, how many of the first so many steps are starts
pub record AreCounted (log : List Step) (n : ℕ) (numbers : List ℕ) : Type 0 where
  pub size : length numbers ≡ n
  pub counts : (k : ℕ) → k < n → slice_index_or numbers k 0 ≡ length (starts_of (take k log))

-- all that the lines are made of
pub record AreReady (a : Instance) (known : List Cut) (log : List Step) (places : List ℕ) (trimmed : List Step) (numbers : List ℕ) : Type 0 where
  pub is_case : IsCase a
  pub passing : All (Passes a) known
  pub starts : starts_of log ≡ map no_good_of known
  pub named : All (NamesPairs a) (no_goods log)
  pub is_log : IsLog log
  pub reached : AreReached log places
  pub trimmed_is : trimmed ≡ kept_steps log places places
  pub trimmed_log : IsLog trimmed
  pub counted : AreCounted log (length log + 1) numbers
