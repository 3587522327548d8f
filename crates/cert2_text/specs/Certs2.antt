-- Certificates of form 2, and the rules of their form.
use Rattle.std.specs.Prelude.{◌≤ℤ◌, ◌<◌, ◌≤◌, ◌+◌, ◌^◌, ℕ, pos, unsigned_abs, List, [], ◌∷◌, All, IsTrue, Option, Some, None, length}
use Rattle.lp_base.specs.Ascending.{ascends_by}
use Rattle.lp_base.specs.Numbers.{IsNarrow}
use Rattle.lp_base.specs.declared.limits.TheConstants.{LARGEST_WORD}
use Rattle.cert_text.specs.Certs.{IsNoGood, AreTerms, IsPoint}
use Rattle.cert2_text.specs.declared.cert2.Cert2.{Cert2}
use Rattle.cert2_text.specs.declared.cert2.Cert2.TheVariants.{Optimal, Infeasible, Unbounded}
use Rattle.cert2_text.specs.declared.cert2.Cert2Line.{Cert2Line}
use Rattle.cert2_text.specs.declared.cert2.Cert2Line.TheVariants.{Shared, Ray, Point, Derived, Forget}

-- the lines behind those of the kind, the point and the value, and before the last one
abbrev pub lines2_of : Cert2 → List Cert2Line
lines2_of (Optimal point z lines) = lines
lines2_of (Infeasible lines) = lines
lines2_of (Unbounded piece point ray) = []

-- 1 for a no-good line; a list, or a line that drops others, is none
abbrev pub counted : Cert2Line → ℕ
counted (Shared mult) = 0
counted (Ray ng list mult) = 1
counted (Point ng e list mult) = 1
counted (Derived ng hints) = 1
counted (Forget lines) = 0

-- how many no-good lines there are
abbrev pub count_of : List Cert2Line → ℕ
count_of [] = 0
count_of (line ∷ lines) = counted line + count_of lines

abbrev pub IsListNumber : Option ℕ → Type 0
IsListNumber None = Unit {0}
IsListNumber (Some h) = h < LARGEST_WORD

-- at least one number of a line, and they ascend strictly
pub record AreDropped (lines : List ℕ) : Type 0 where
  pub some : 0 < length lines
  pub ascending : IsTrue (ascends_by (λ n. n) lines)
  pub numbers : All (λ h. h < LARGEST_WORD) lines

abbrev pub IsLine2 : Cert2Line → Type 0
IsLine2 (Shared mult) = AreTerms mult
IsLine2 (Ray ng list mult) = IsNoGood ng × IsListNumber list × AreTerms mult
IsLine2 (Point ng e list mult) = IsNoGood ng × (pos 1 ≤ℤ e) × IsNarrow e × IsListNumber list × AreTerms mult
IsLine2 (Derived ng hints) = IsNoGood ng × All (λ h. h < LARGEST_WORD) hints
IsLine2 (Forget lines) = AreDropped lines

-- the rules of the form: where the numbers of a certificate lie, and their order
abbrev pub KeepsForm2 : Cert2 → Type 0
KeepsForm2 (Optimal point z lines) = IsPoint point × (unsigned_abs z ≤ 2 ^ 126) × All IsLine2 lines
KeepsForm2 (Infeasible lines) = All IsLine2 lines
KeepsForm2 (Unbounded piece point ray) = IsNoGood piece × IsPoint point × AreTerms ray
