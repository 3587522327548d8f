-- The rows of a dictionary, each with its own denominator.
use Rattle.std.specs.Prelude.{◌≡◌, ◌<◌, ℕ, ◌+◌, ℤ, pos, ◌+ℤ◌, ◌*ℤ◌, ◌<ℤ◌, List, [], ◌∷◌, unsigned_abs, nat_eq, if◌then◌else◌}
use Rattle.std.specs.List.{AllByRecursion}
use Prim.Native.Nat.{◌∣◌}
use Rattle.lpcc_case.specs.Points.{coefficient}
use Rattle.dict.specs.Terms.{weigh, AreTerms}

-- den times a form is the sum of the entries times the nonbasic forms, and the constant
pub record Equation : Type 0 where
  pub den : ℤ
  pub constant : ℤ
  pub entries : List (ℕ × ℤ)

abbrev pub equation : ℤ → ℤ → List (ℕ × ℤ) → Equation
equation den constant entries = record { den = den; constant = constant; entries = entries }

-- it holds where the form is worth f, the nonbasic form at place j is worth v j, and 1 is worth one
abbrev pub Holds : Equation → ℤ → (ℕ → ℤ) → ℤ → Type 0
Holds q f v one = q.den *ℤ f ≡ weigh q.entries v +ℤ (q.constant *ℤ one)

-- over so many places, with a positive denominator and numbers below the bound in size
pub record IsRow (bound places : ℕ) (q : Equation) : Type 0 where
  pub positive : pos 0 <ℤ q.den
  pub den : unsigned_abs q.den < bound
  pub constant : unsigned_abs q.constant < bound
  pub entries : AreTerms bound 0 places q.entries

-- d divides the number of each term
abbrev pub DividesEach : ℕ → List (ℕ × ℤ) → Type 0
DividesEach d ts = AllByRecursion (λ t. d ∣ unsigned_abs t.1) ts

-- d is a common divisor of all numbers
pub record Divides (d : ℕ) (q : Equation) : Type 0 where
  pub den : d ∣ unsigned_abs q.den
  pub constant : d ∣ unsigned_abs q.constant
  pub entries : DividesEach d q.entries

-- without a common divisor above 1
abbrev pub IsReduced : Equation → Type 0
IsReduced q = (d : ℕ) → Divides d q → d ≡ 1

-- g is the greatest common divisor
abbrev pub IsCommon : ℕ → Equation → Type 0
IsCommon g q = Divides g q × ((d : ℕ) → Divides d q → d ∣ g)

-- each number times g
abbrev pub scale : ℤ → List (ℕ × ℤ) → List (ℕ × ℤ)
scale g [] = []
scale g (t ∷ ts) = (t.0, t.1 *ℤ g) ∷ scale g ts

abbrev pub scaled : ℤ → Equation → Equation
scaled g q = equation (q.den *ℤ g) (q.constant *ℤ g) (scale g q.entries)

-- made is raw divided by its greatest common divisor
pub record IsReducedOf (raw made : Equation) : Type 0 where
  pub g : ℕ
  pub positive : 0 < g
  pub exact : scaled (pos g) made ≡ raw
  pub reduced : IsReduced made

-- the number at a place: the entry below the number of places, then the constant, then the denominator
abbrev pub number_at : ℕ → Equation → ℕ → ℤ
number_at places q at = if nat_eq at places then q.constant else (if nat_eq at (places + 1) then q.den else coefficient q.entries at)

-- m has the numbers of q, each times one whole number of at least 1
pub record IsMultiple (q m : Equation) : Type 0 where
  pub factor : ℕ
  pub positive : 0 < factor
  pub den : m.den ≡ q.den *ℤ pos factor
  pub constant : m.constant ≡ q.constant *ℤ pos factor
  pub entries : (j : ℕ) → coefficient m.entries j ≡ coefficient q.entries j *ℤ pos factor
