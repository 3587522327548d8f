-- What is read off a dictionary for the columns, as fractions in lowest terms: the point at which all nonbasic forms are 0, or the direction in which one of them goes by 1.
use Rattle.std.specs.Prelude.{◌≡◌, ◌<◌, ◌∷◌, ℕ, ℤ, pos, ◌*ℤ◌, ◌≤ℤ◌, Bool, List, length, Option, Some, None, slice_index_or, unsigned_abs}
use Rattle.lp_base.specs.Numbers.{IsNarrow}
use Rattle.lp_nums.specs.Fractions.{Fraction, IsReduced, SameValue}
use Rattle.lpcc_case.specs.declared.form.Form.TheVariants.{Col}
use Rattle.lpcc_case.specs.Instance.{Instance}
use Rattle.dict.specs.Terms.{only}
use Rattle.dict.specs.Dictionaries.{Dictionary, row_at, form_at, entry_at}
use Rattle.dict.specs.Exchanges.{turn}
use Rattle.walks.specs.Divisors.{AreCoprime}
use Rattle.basic_solutions.specs.Solutions.{number_in}

abbrev pub fraction : ℤ → ℤ → Fraction
fraction num den = record { num = num; den = den }

abbrev pub value_in : List Fraction → ℕ → Fraction
value_in values c = slice_index_or values c (fraction (pos 0) (pos 1))

abbrev pub size_in : List Fraction → ℕ → ℕ
size_in values c = unsigned_abs (value_in values c).num

abbrev pub den_in : List Fraction → ℕ → ℕ
den_in values c = unsigned_abs (value_in values c).den

-- f is w / den in lowest terms, its two numbers narrow
pub record IsFractionOf (w den : ℤ) (f : Fraction) : Type 0 where
  pub lowest : IsReduced f
  pub narrow_num : IsNarrow f.num
  pub narrow_den : IsNarrow f.den
  pub same : SameValue f (fraction w den)

-- the form of row i goes by this number over the row's denominator: it is the row's constant, or its entry at the place of the form that goes up, or down
abbrev pub weight : Dictionary → Option (ℕ × Bool) → ℕ → ℤ
weight d None i = (row_at d.rows i).constant
weight d (Some go) i = turn go.1 (entry_at d i go.0)

-- nonbasic form j goes by this number
abbrev pub shift : Option (ℕ × Bool) → ℕ → ℤ
shift None j = pos 0
shift (Some go) j = turn go.1 (only go.0 j)

-- each column's fraction, as far as it is nonbasic or stands in one of the first n rows
pub record AreReadUpto (a : Instance) (d : Dictionary) (go : Option (ℕ × Bool)) (values : List Fraction) (n : ℕ) : Type 0 where
  pub size : length values ≡ a.columns
  pub basic : (i c : ℕ) → i < n → form_at d.basic i ≡ Col c → IsFractionOf (weight d go i) (row_at d.rows i).den (value_in values c)
  pub nonbasic : (j c : ℕ) → j < length d.nonbasic → form_at d.nonbasic j ≡ Col c → IsFractionOf (shift go j) (pos 1) (value_in values c)

-- each column's fraction
abbrev pub AreReadings : Instance → Dictionary → Option (ℕ × Bool) → List Fraction → Type 0
AreReadings a d go values = AreReadUpto a d go values (length d.rows)

-- the form of row i has its fraction, where it is a column; the others are as before
pub record IsRowRead (d : Dictionary) (go : Option (ℕ × Bool)) (i : ℕ) (before after : List Fraction) : Type 0 where
  pub size : length after ≡ length before
  pub here : (c : ℕ) → form_at d.basic i ≡ Col c → IsFractionOf (weight d go i) (row_at d.rows i).den (value_in after c)
  pub others : (c : ℕ) → (form_at d.basic i ≡ Col c → ⊥) → value_in after c ≡ value_in before c

-- each fraction has narrow numbers
abbrev pub AreNarrowFractions : List Fraction → Type 0
AreNarrowFractions values = (c : ℕ) → c < length values → IsReduced (value_in values c) × IsNarrow (value_in values c).num × IsNarrow (value_in values c).den

-- xs has d / g times the first n fractions, narrow numbers
pub record AreNumbersUpto (values : List Fraction) (g d : ℕ) (xs : List ℤ) (n : ℕ) : Type 0 where
  pub size : length xs ≡ n
  pub narrow : (c : ℕ) → c < n → IsNarrow (number_in xs c)
  pub exact : (c : ℕ) → c < n → (number_in xs c *ℤ pos g) *ℤ (value_in values c).den ≡ (value_in values c).num *ℤ pos d

-- the fractions over one denominator, in lowest terms and narrow
pub record AreOver (values : List Fraction) (d : ℤ) (xs : List ℤ) : Type 0 where
  pub positive : pos 1 ≤ℤ d
  pub narrow : IsNarrow d
  pub numbers : AreNumbersUpto values 1 (unsigned_abs d) xs (length values)
  pub lowest : AreCoprime (d ∷ xs)

-- whole numbers along the fractions, in lowest terms and narrow
pub record AreAlong (values : List Fraction) (xs : List ℤ) : Type 0 where
  pub g : ℕ
  pub some : 0 < g
  pub d : ℕ
  pub positive : 0 < d
  pub numbers : AreNumbersUpto values g d xs (length values)
  pub lowest : AreCoprime xs
