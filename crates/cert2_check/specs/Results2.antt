-- What the parts of acceptance answer.
use Rattle.std.specs.Prelude.{◌≡◌, ◌↔◌, ◌+◌, ◌<◌, ℕ, ℤ, Bool, true, false, List, [], ◌∷◌, ◌++◌, All, IsTrue, Option, Some, None, length, slice_get, slice_index_or, slice_set, take}
use Rattle.lp_base.specs.Ascending.{ascends_by, number_of}
use Rattle.lp_base.specs.declared.limits.TheConstants.{MOST_PAIRS}
use Rattle.nogoods.specs.declared.choice.Choice.{Choice}
use Rattle.lpcc_case.specs.Instance.{Instance}
use Rattle.lpcc_case.specs.Values.{IsValue}
use Rattle.lp_nums.specs.Fractions.{Fraction}
use Rattle.lpcc_case.specs.Points.{IsComplementary}
use Rattle.derivation.specs.HintRuns.{NamesBelow}
use Rattle.cert_text.specs.declared.cert.CertPoint.{CertPoint}
use Rattle.cert_check.specs.declared.accept.NoWhy.{NoWhy}
use Rattle.cert_check.specs.Acceptance.{PointLineFails, HasCost}
use Rattle.cert2_text.specs.declared.cert2.Cert2Line.{Cert2Line}
use Rattle.cert2_text.specs.declared.cert2.Cert2Line.TheVariants.{Shared, Ray, Point, Derived, Forget}
use Rattle.cert2_text.specs.declared.cert2.Cert2.{Cert2}
use Rattle.cert2_text.specs.declared.cert2.Cert2.TheVariants.{Optimal, Infeasible, Unbounded}
use Rattle.cert2_text.specs.Wholes.{Terms, Said, said_by, lists_of, is_dropped, together}
use Rattle.cert2_check.specs.declared.lines2.Found.{Found}
use Rattle.cert2_check.specs.declared.lines2.Found.TheVariants.{Fails, Passes}
use Rattle.cert2_check.specs.Acceptance2.{Line2Fails, EndsEmpty2}

-- the term stands first in both lists together, and this is left of each
pub record IsNextTerm (list own : Terms) (term : ℕ × ℤ) (list_left own_left : Terms) : Type 0 where
  pub first : together list own ≡ term ∷ together list_left own_left
  pub list_ascends : IsTrue (ascends_by number_of list_left)
  pub own_ascends : IsTrue (ascends_by number_of own_left)
  pub shorter : length list_left + length own_left < length list + length own

-- what the code keeps of the lines before one: for each no-good line whether it is dropped
pub record Before : Type 0 where
  pub lists : List Terms
  pub no_goods : List (List Choice)
  pub dropped : List Bool

abbrev pub Flags : List Bool → List ℕ → Type 0
Flags flags dropped = (h : ℕ) → slice_index_or flags h false ≡ is_dropped dropped h

pub record Shows (e : Before) (said : Said) : Type 0 where
  pub lists : e.lists ≡ said.lists
  pub no_goods : e.no_goods ≡ said.no_goods
  pub size : length e.dropped ≡ length e.no_goods
  pub flags : Flags e.dropped said.dropped

-- the lists ascend, and the no-goods name one of at most 512 pairs
pub record AreGood (e : Before) : Type 0 where
  pub lists : All (λ l. IsTrue (ascends_by number_of l)) e.lists
  pub no_goods : All (NamesBelow MOST_PAIRS) e.no_goods

-- none of the first n lines fails over those before it
abbrev pub FirstPass2 : Instance → Option (ℤ × ℤ) → List Cert2Line → ℕ → Type 0
FirstPass2 a value lines n =
    (k : ℕ) (x : Cert2Line) (why : NoWhy) → k < n → slice_get lines k ≡ Some x → Line2Fails a value (said_by (take k lines)) x why → ⊥

-- ---- cuts that were tested before

abbrev pub named_list : Cert2Line → Option ℕ
named_list (Shared mult) = None
named_list (Ray ng list mult) = list
named_list (Point ng e list mult) = list
named_list (Derived ng hints) = None
named_list (Forget lines) = None

abbrev pub only_lists : List Terms → Said
only_lists lists = record { lists = lists; no_goods = []; dropped = [] }

-- the line is a cut, and does not fail over these lists
abbrev pub CutPasses : Instance → Option (ℤ × ℤ) → List Terms → Cert2Line → Type 0
CutPasses a value lists (Shared mult) = ⊥
CutPasses a value lists (Ray ng list mult) = (why : NoWhy) → Line2Fails a value (only_lists lists) (Ray ng list mult) why → ⊥
CutPasses a value lists (Point ng e list mult) = (why : NoWhy) → Line2Fails a value (only_lists lists) (Point ng e list mult) why → ⊥
CutPasses a value lists (Derived ng hints) = ⊥
CutPasses a value lists (Forget dropped) = ⊥

-- each line that is marked is a cut which does not fail over the lists of all lines
abbrev pub AreTested : Instance → Option (ℤ × ℤ) → List Cert2Line → List Bool → Type 0
AreTested a value lines tested =
    (k : ℕ) (x : Cert2Line) → slice_get lines k ≡ Some x → slice_index_or tested k false ≡ true → CutPasses a value (lists_of lines) x

-- the same of a certificate
abbrev pub AreTestedIn : Instance → Cert2 → List Bool → Type 0
AreTestedIn a (Optimal point z lines) tested = AreTested a (Some (z, point.d)) lines tested
AreTestedIn a (Infeasible lines) tested = AreTested a None lines tested
AreTestedIn a (Unbounded piece point ray) tested = Unit {0}

-- the point and value of a certificate are right, and this is the value with offset, scale and sense
pub record FrontPasses (a : Instance) (line : CertPoint) (z : ℤ) (v : Fraction) : Type 0 where
  pub point : (why : NoWhy) → PointLineFails a (IsComplementary a) line why → ⊥
  pub cost : HasCost a line z
  pub value : IsValue a z line.d v

-- ---- one line more

abbrev pub marked : List Bool → List ℕ → List Bool
marked flags [] = flags
marked flags (h ∷ lines) = marked (slice_set flags h true) lines

abbrev pub with_list : Before → Terms → Before
with_list e mult = record { lists = e.lists ++ mult ∷ []; no_goods = e.no_goods; dropped = e.dropped }

abbrev pub with_lists : Before → List Terms → Before
with_lists e lists = record { lists = e.lists ++ lists; no_goods = e.no_goods; dropped = e.dropped }

abbrev pub with_no_good : Before → List Choice → Before
with_no_good e ng = record { lists = e.lists; no_goods = e.no_goods ++ ng ∷ []; dropped = e.dropped ++ false ∷ [] }

abbrev pub with_dropped : Before → List ℕ → Before
with_dropped e lines = record { lists = e.lists; no_goods = e.no_goods; dropped = marked e.dropped lines }

abbrev pub with_line : Before → Cert2Line → Before
with_line e (Shared mult) = with_list e mult
with_line e (Ray ng list mult) = with_no_good e ng
with_line e (Point ng k list mult) = with_no_good e ng
with_line e (Derived ng hints) = with_no_good e ng
with_line e (Forget lines) = with_dropped e lines

-- ---- answers

-- the line at this place fails for this reason and none before it fails; or none fails, and this tells whether the last
-- no-good is empty
abbrev pub FindsFirst2 : Instance → Option (ℤ × ℤ) → List Cert2Line → Found → Type 0
FindsFirst2 a value lines (Fails at why) =
    ((x : Cert2Line) × (slice_get lines at ≡ Some x) × Line2Fails a value (said_by (take at lines)) x why) × FirstPass2 a value lines at
FindsFirst2 a value lines (Passes empty) = FirstPass2 a value lines (length lines) × (IsTrue empty ↔ EndsEmpty2 lines)
