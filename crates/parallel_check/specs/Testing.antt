-- What is known of cuts that were tested, and what judging lines of form 1 answers.
use Rattle.std.specs.Prelude.{◌≡◌, ◌↔◌, ℕ, ℤ, Bool, true, false, List, [], IsTrue, Option, Some, length, map, slice_get, slice_index_or, take}
use Rattle.lpcc_case.specs.Instance.{Instance}
use Rattle.cert_text.specs.declared.cert.CertLine.{CertLine}
use Rattle.cert_text.specs.declared.cert.CertLine.TheVariants.{Ray, Point, Derived}
use Rattle.cert_text.specs.Certs.{no_good_of}
use Rattle.cert_check.specs.declared.accept.NoWhy.{NoWhy}
use Rattle.cert_check.specs.Acceptance.{NoGoodFails, EndsEmpty}
use Rattle.cert_check.specs.Barring.{FirstPass}
use Rattle.cert2_text.specs.declared.cert2.Cert2Line.{Cert2Line}
use Rattle.cert2_text.specs.declared.cert2.Cert2Line.TheVariants as line2
use Rattle.cert2_check.specs.declared.lines2.Found.{Found}
use Rattle.cert2_check.specs.declared.lines2.Found.TheVariants.{Fails, Passes}
use Rattle.cert2_check.specs.Results2.{Before}

abbrev pub HasOnlyLists : Before → Type 0
HasOnlyLists e = (e.no_goods ≡ []) × (e.dropped ≡ [])

abbrev pub is_cut : Cert2Line → Bool
is_cut (line2.Shared mult) = false
is_cut (line2.Ray ng list mult) = true
is_cut (line2.Point ng e list mult) = true
is_cut (line2.Derived ng hints) = false
is_cut (line2.Forget lines) = false

-- a line of form 1 is a cut, and does not fail
abbrev pub CutPasses1 : Instance → Option (ℤ × ℤ) → CertLine → Type 0
CutPasses1 a value (Ray ng mult) = (why : NoWhy) → NoGoodFails a value [] (Ray ng mult) why → ⊥
CutPasses1 a value (Point ng e mult) = (why : NoWhy) → NoGoodFails a value [] (Point ng e mult) why → ⊥
CutPasses1 a value (Derived ng hints) = ⊥

-- each line that is marked is such a cut
abbrev pub AreTested1 : Instance → Option (ℤ × ℤ) → List CertLine → List Bool → Type 0
AreTested1 a value lines tested = (k : ℕ) (x : CertLine) → slice_get lines k ≡ Some x → slice_index_or tested k false ≡ true → CutPasses1 a value x

-- the line at this place fails for this reason and none before it fails; or none fails, and this tells whether the last
-- no-good is empty
abbrev pub FindsFirst1 : Instance → Option (ℤ × ℤ) → List CertLine → Found → Type 0
FindsFirst1 a value lines (Fails at why) =
    ((x : CertLine) × (slice_get lines at ≡ Some x) × NoGoodFails a value (map no_good_of (take at lines)) x why) × FirstPass a value lines at
FindsFirst1 a value lines (Passes empty) = FirstPass a value lines (length lines) × (IsTrue empty ↔ EndsEmpty lines)
