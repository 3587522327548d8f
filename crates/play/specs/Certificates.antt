-- The certificate of a part that has concluded.
use Rattle.std.specs.Prelude.{◌≡◌, ◌+◌, ℕ, ℤ, nat_eq, unsigned_abs, if◌then◌else◌, Contains, true, List, [], ◌∷◌, length, map, take, Some, None, slice_get, slice_index_or}
use Rattle.nogoods.specs.declared.choice.Choice.{Choice}
use Rattle.lpcc_case.specs.declared.point.Point.{Point}
use Rattle.cuts.specs.declared.cut.Cut.{Cut}
use Rattle.cuts.specs.declared.cut.Cut.TheVariants as cut
use Rattle.derivation.specs.declared.step.Step.{Step}
use Rattle.derivation.specs.declared.step.Step.TheVariants.{Start, Derived}
use Rattle.derivation.specs.HintRuns.{closes}
use Rattle.trimming.specs.Trimmed.{AreReached, place_of, step_at}
use Rattle.lpcc_case.specs.Instance.{Instance}
use Rattle.lpcc_case.specs.Pieces.{NamesPairs}
use Rattle.cert_text.specs.Certs as certs
use Rattle.cert_check.specs.Acceptance.{EndsEmpty}
use Rattle.cert_text.specs.declared.cert.Cert.{Cert}
use Rattle.cert_text.specs.declared.cert.Cert.TheVariants as cert
use Rattle.cert_text.specs.declared.cert.CertPoint.{CertPoint}
use Rattle.cert_text.specs.declared.cert.CertLine.{CertLine}
use Rattle.cert_text.specs.declared.cert.CertLine.TheVariants as line
use Rattle.play.specs.declared.event.Direction.{Direction}
use Rattle.play.specs.declared.event.VerdictKind.{VerdictKind}
use Rattle.play.specs.declared.event.VerdictKind.TheVariants as kind
use Rattle.play.specs.Parts.{Part}
use Rattle.play.specs.Points.{choices_of}
use Rattle.play.specs.Truth.{starts_of}

-- ---- points by their columns that are not zero

abbrev pub with_term : ℕ → ℤ → List (ℕ × ℤ) → List (ℕ × ℤ)
with_term i z terms = if nat_eq (unsigned_abs z) 0 then terms else (i, z) ∷ terms

abbrev pub terms_from : ℕ → List ℤ → List (ℕ × ℤ)
terms_from i [] = []
terms_from i (z ∷ zs) = with_term i z (terms_from (i + 1) zs)

abbrev pub cert_point : Point → CertPoint
cert_point q = record { d = q.d; terms = terms_from 0 q.x }

-- ---- lines

abbrev pub line_of_cut : Cut → CertLine
line_of_cut (cut.Ray ng mult) = line.Ray ng mult
line_of_cut (cut.Point ng mult e v) = line.Point ng e mult

-- the absorbed cut whose start is step k
abbrev pub cut_at : List Cut → List Step → ℕ → Cut
cut_at absorbed log k = slice_index_or absorbed (length (starts_of (take k log))) (cut.Ray [] [])

abbrev pub line_of : Cut → List ℕ → Step → CertLine
line_of c places (Start ng) = line_of_cut c
line_of c places (Derived ng hints) = line.Derived ng (map (place_of places) hints)

abbrev pub line_at : List Cut → List Step → List ℕ → ℕ → CertLine
line_at absorbed log places k = line_of (cut_at absorbed log k) places (step_at log k)

-- the steps that the first empty step reaches, in their order, with their cuts and the hints numbered anew
pub record AreTrimmedLines (absorbed : List Cut) (log : List Step) (lines : List CertLine) : Type 0 where
  pub places : List ℕ
  pub kept : AreReached log places
  pub made : lines ≡ map (line_at absorbed log places) places

-- ---- lines that pass

-- the line of an absorbed cut, or one that follows from those before it
abbrev pub IsBackedLine : Instance → Part → List (List Choice) → CertLine → Type 0
IsBackedLine a d earlier (line.Ray ng mult) = Contains d.absorbed (cut.Ray ng mult)
IsBackedLine a d earlier (line.Point ng e mult) = (v : ℤ) × Contains d.absorbed (cut.Point ng mult e v)
IsBackedLine a d earlier (line.Derived ng hints) = NamesPairs a ng × (closes earlier ng hints ≡ true)

pub record AreBacked (a : Instance) (d : Part) (lines : List CertLine) : Type 0 where
  pub each : (k : ℕ) (l : CertLine) → slice_get lines k ≡ Some l → IsBackedLine a d (map certs.no_good_of (take k lines)) l
  pub ends : EndsEmpty lines

-- ---- the certificate, by what is asked of its lines

abbrev pub IsCertBy : (List CertLine → Type 0) → Part → VerdictKind → Cert → Type 0
IsCertBy Lines d kind.Optimal (cert.Optimal point z lines) = (q : Point) × (d.best ≡ Some q) × (point ≡ cert_point q) × (z ≡ q.z) × Lines lines
IsCertBy Lines d kind.Optimal (cert.Infeasible lines) = ⊥
IsCertBy Lines d kind.Optimal (cert.Unbounded piece point ray) = ⊥
IsCertBy Lines d kind.Infeasible (cert.Optimal point z lines) = ⊥
IsCertBy Lines d kind.Infeasible (cert.Infeasible lines) = (d.best ≡ None) × Lines lines
IsCertBy Lines d kind.Infeasible (cert.Unbounded piece point ray) = ⊥
IsCertBy Lines d kind.Unbounded (cert.Optimal point z lines) = ⊥
IsCertBy Lines d kind.Unbounded (cert.Infeasible lines) = ⊥
IsCertBy Lines d kind.Unbounded (cert.Unbounded piece point ray) = (x : Direction) × (d.unbounded ≡ Some x) × (piece ≡ choices_of x.piece) × (point ≡ cert_point x.point) × (ray ≡ terms_from 0 x.ray.r)

abbrev pub IsCertOf : Part → VerdictKind → Cert → Type 0
IsCertOf d v c = IsCertBy (AreTrimmedLines d.absorbed d.log) d v c

abbrev pub IsBackedCert : Instance → Part → VerdictKind → Cert → Type 0
IsBackedCert a d v c = IsCertBy (AreBacked a d) d v c
