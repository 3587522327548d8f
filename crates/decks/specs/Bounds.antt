-- Under `yes`: the bounds of columns, by the lines of BOUNDS.
use Rattle.std.specs.Prelude.{ℕ, Bool, true, false, ◌&&◌, ◌==◌, min, if◌then◌else◌, List, [], ◌∷◌, map, filter, fold, Option, Some, None, codes}
use Rattle.std.specs.List.{flat_map}
use Rattle.std.specs.Str.{bytes_eq}
use Rattle.lp_nums.specs.Fractions.{Fraction}
use Rattle.mps_lex.specs.Kinds.{Name}
use Rattle.mps_lex.specs.Lines.{Line}
use Rattle.decks.specs.declared.deck.Bound.{Bound}
use Rattle.decks.specs.declared.deck.Column.{Column}
use Rattle.decks.specs.declared.bounds.BoundKind.{BoundKind}
use Rattle.decks.specs.declared.bounds.BoundKind.TheVariants.{Up, Lo, Fx, Fr, Mi, Pl}
use Rattle.decks.specs.Decks.{zero}
use Rattle.decks.specs.Names.{each_once}
use Rattle.decks.specs.Numbers.{value_of, is_negative, upper_end, lower_end}

unfoldable pub bound_kind : Name → Option BoundKind
bound_kind w =
    if bytes_eq w (codes "UP") then Some Up else
    if bytes_eq w (codes "LO") then Some Lo else
    if bytes_eq w (codes "FX") then Some Fx else
    if bytes_eq w (codes "FR") then Some Fr else
    if bytes_eq w (codes "MI") then Some Mi else
    if bytes_eq w (codes "PL") then Some Pl else None

abbrev pub takes_value : BoundKind → Bool
takes_value Up = true
takes_value Lo = true
takes_value Fx = true
takes_value kind = false

-- what stands behind the kind: a set, a column and a value. A missing set is the empty name, which no field is, and so
-- is a value that is not read
pub record BoundWords : Type 0 where
  pub set : Name
  pub column : Name
  pub value : Name

-- the set may be missing; where a kind takes no value, one that stands there is not read
abbrev pub bound_words : Bool → List Name → Option BoundWords
bound_words true (c ∷ v ∷ []) = Some (record { set = []; column = c; value = v })
bound_words true (t ∷ c ∷ v ∷ []) = Some (record { set = t; column = c; value = v })
bound_words false (c ∷ []) = Some (record { set = []; column = c; value = [] })
bound_words false (t ∷ c ∷ []) = Some (record { set = t; column = c; value = [] })
bound_words false (t ∷ c ∷ v ∷ []) = Some (record { set = t; column = c; value = [] })
bound_words takes fs = None

-- what a line of BOUNDS says
pub record Setting : Type 0 where
  pub kind : BoundKind
  pub line : ℕ
  pub column : Name
  pub value : Fraction

abbrev pub bound_value : Bool → Name → Fraction
bound_value true v = value_of v
bound_value false v = zero

abbrev pub setting_with : BoundKind → ℕ → Option BoundWords → List Setting
setting_with k number None = []
setting_with k number (Some w) = record { kind = k; line = number; column = w.column; value = bound_value (takes_value k) w.value } ∷ []

abbrev pub setting_of_kind : Option BoundKind → ℕ → List Name → List Setting
setting_of_kind None number fs = []
setting_of_kind (Some k) number fs = setting_with k number (bound_words (takes_value k) fs)

abbrev pub setting_on : ℕ → List Name → List Setting
setting_on number [] = []
setting_on number (k ∷ fs) = setting_of_kind (bound_kind k) number fs

abbrev pub settings_in : List Line → List Setting
settings_in ls = flat_map (λ l. setting_on l.number l.fields) ls

abbrev pub set_in : Option BoundWords → Name
set_in None = []
set_in (Some w) = w.set

abbrev pub set_with : Option BoundKind → List Name → Name
set_with None fs = []
set_with (Some k) fs = set_in (bound_words (takes_value k) fs)

-- the set that a line of BOUNDS names
abbrev pub bound_set : List Name → Name
bound_set [] = []
bound_set (k ∷ fs) = set_with (bound_kind k) fs

-- ---- the bounds of a column: what a kind does to each, which is nothing, or to set it to this end or to none

-- LO and FX set the lower bound, FR and MI remove it
abbrev pub lower_by : BoundKind → Fraction → Option (Option Fraction)
lower_by Up v = None
lower_by Lo v = Some (lower_end v)
lower_by Fx v = Some (Some v)
lower_by Fr v = Some None
lower_by Mi v = Some None
lower_by Pl v = None

-- UP and FX set the upper bound, FR and PL remove it
abbrev pub upper_by : BoundKind → Fraction → Option (Option Fraction)
upper_by Up v = Some (upper_end v)
upper_by Lo v = None
upper_by Fx v = Some (Some v)
upper_by Fr v = Some None
upper_by Mi v = None
upper_by Pl v = Some None

abbrev pub is_fx : BoundKind → Bool
is_fx Fx = true
is_fx kind = false

-- a bound behind a line that leaves it or sets it
abbrev pub bound_behind : ℕ → Bound → Option (Option Fraction) → Bound
bound_behind line bound None = bound
bound_behind line bound (Some end) = record { value = end; line = line }

-- a column that no line names
abbrev pub default_column : Column
default_column = record { lower = record { value = Some zero; line = 0 }; upper = record { value = None; line = 0 }; fixed = false }

-- a column behind a line that names it. It is fixed where the last such line is of the kind FX.
abbrev pub set_by : Column → Setting → Column
set_by c s = record {
  lower = bound_behind s.line c.lower (lower_by s.kind s.value);
  upper = bound_behind s.line c.upper (upper_by s.kind s.value);
  fixed = is_fx s.kind;
}

abbrev pub settings_of : Name → List Setting → List Setting
settings_of c ss = filter (λ s. bytes_eq c s.column) ss

-- a column has the lower bound 0 and no upper bound, unless lines say otherwise, of which a later one replaces an earlier one
abbrev pub column_bounds : List Setting → Name → Column
column_bounds ss c = fold set_by default_column (settings_of c ss)

-- ---- upper bounds below 0

-- the upper bound is below 0, and no line has set or removed the lower one
abbrev pub is_below_zero : Column → Bool
is_below_zero c = c.lower.line == 0 && is_negative c.upper.value

-- the columns that lines of BOUNDS name
abbrev pub bounded : List Setting → List Name
bounded ss = each_once (map (λ s. s.column) ss)

abbrev pub lesser : Option ℕ → ℕ → Option ℕ
lesser None n = Some n
lesser (Some m) n = Some (min m n)

abbrev pub least : List ℕ → Option ℕ
least ns = fold lesser None ns

-- the least line that set such an upper bound
abbrev pub below_zero_line : List Column → Option ℕ
below_zero_line cs = least (map (λ c. c.upper.line) (filter is_below_zero cs))

abbrev pub upper_below_zero : List Setting → Option ℕ
upper_below_zero ss = below_zero_line (map (column_bounds ss) (bounded ss))
