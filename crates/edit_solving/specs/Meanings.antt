-- Which edit a command of a script means: columns and constraints are counted from 1 there.
use Rattle.std.specs.Prelude.{◌≡◌, ◌≢◌, ◌<◌, ◌+◌, ℕ, ℤ, pos, neg_ℤ, List, map, All, Option, None, Some}
use Rattle.lp_base.specs.Numbers.{IsNarrow}
use Rattle.lpcc_case.specs.Instance.{Instance}
use Rattle.lpcc_case.specs.declared.constraint.Kind.{Kind}
use Rattle.lpcc_case.specs.declared.constraint.Kind.TheVariants as kind
use Rattle.cert_check.specs.Acceptance.{numbers_of}
use Rattle.edit_text.specs.Scripts.{Terms}
use Rattle.edit_text.specs.declared.script.Command.{Command}
use Rattle.edit_text.specs.declared.script.Command.TheVariants as command
use Rattle.edit_text.specs.declared.script.Relation.{Relation}
use Rattle.edit_text.specs.declared.script.Relation.TheVariants.{Ge, Le, Eq}
use Rattle.case_edits.specs.Edits.{AreTerms, HasParts, IsRefusedBy}
use Rattle.case_edits.specs.declared.edit.Edit.{Edit}
use Rattle.case_edits.specs.declared.edit.Edit.TheVariants.{Add, Tighten, Cost}
use Rattle.case_edits.specs.declared.edit.EditFault.TheVariants as fault
use Rattle.editing.specs.declared.refusal.EditWhy.{EditWhy}
use Rattle.editing.specs.declared.refusal.EditWhy.TheVariants.{Text, NoSuch, Loosens, Limit}

-- a constraint with `at most` is kept with all signs changed
abbrev pub kind_of : Relation → Kind
kind_of Ge = kind.Ge
kind_of Le = kind.Ge
kind_of Eq = kind.Eq

abbrev pub signed : Relation → ℤ → ℤ
signed Ge z = z
signed Le z = neg_ℤ z
signed Eq z = z

-- the terms of the script name these columns, with these coefficients but for their signs
abbrev pub AreNamed : Relation → Terms → List (ℕ × ℤ) → Type 0
AreNamed relation terms named = terms ≡ map (λ t. (pos (t.0 + 1), signed relation t.1)) named

-- they are columns of so many, and no coefficient is 0 or past a narrow number
pub record AreOwn (columns : ℕ) (relation : Relation) (terms : Terms) (named : List (ℕ × ℤ)) : Type 0 where
  pub names : AreNamed relation terms named
  pub parts : All (λ t. (t.0 < columns) × (t.1 ≢ pos 0)) named
  pub narrow : All (λ t. IsNarrow t.1) named

-- a cost has a number for each column, 0 where no term names it
abbrev pub IsCostOf : ℕ → Terms → List ℤ → Type 0
IsCostOf columns terms cost = (named : List (ℕ × ℤ)) × AreNamed Ge terms named × AreTerms columns named × (cost ≡ numbers_of columns named)

-- over so many columns
abbrev pub IsMeant : ℕ → Command → Edit → Type 0
IsMeant columns (command.Add relation rhs terms) (Add c) = (c.kind ≡ kind_of relation) × (c.rhs ≡ signed relation rhs) × AreNamed relation terms c.terms
IsMeant columns (command.Add relation rhs terms) (Tighten con right) = ⊥
IsMeant columns (command.Add relation rhs terms) (Cost cost) = ⊥
IsMeant columns (command.Tighten number rhs) (Add c) = ⊥
IsMeant columns (command.Tighten number rhs) (Tighten con right) = (number ≡ pos (con + 1)) × (right ≡ rhs)
IsMeant columns (command.Tighten number rhs) (Cost cost) = ⊥
IsMeant columns (command.Cost terms) (Add c) = ⊥
IsMeant columns (command.Cost terms) (Tighten con right) = ⊥
IsMeant columns (command.Cost terms) (Cost cost) = IsCostOf columns terms cost
IsMeant columns command.Solve (Add c) = ⊥
IsMeant columns command.Solve (Tighten con right) = ⊥
IsMeant columns command.Solve (Cost cost) = ⊥

-- the edit that the command means, with its parts in the case; none where there is no such
abbrev pub IsOwnEdit : Instance → Command → Option Edit → Type 0
IsOwnEdit a c None = (edit : Edit) → IsMeant a.columns c edit → HasParts a edit → ⊥
IsOwnEdit a c (Some edit) = IsMeant a.columns c edit × HasParts a edit

-- no edit that the command means has its parts in the case; or it has, and is refused
abbrev pub IsRefusedAs : Instance → Command → EditWhy → Type 0
IsRefusedAs a c (Text why) = ⊥
IsRefusedAs a c NoSuch = IsOwnEdit a c None
IsRefusedAs a c Loosens = (edit : Edit) × IsMeant a.columns c edit × IsRefusedBy a edit fault.Loosens
IsRefusedAs a c Limit = (edit : Edit) × IsMeant a.columns c edit × IsRefusedBy a edit fault.Limit
