-- Bounds are numbers of a deck, and a fixed column has one number as both.
use Rattle.std.proofs.Common.{ℕ, ◌≡◌, Bool, true, false, cond, List, [], ◌∷◌, Option, Some, None, refl}
use Rattle.std.specs.Prelude.{IfSome, fold}
use Rattle.std.specs.List.{AllByRecursion}
use Rattle.std.specs.Str.{bytes_eq}
use Rattle.lp_nums.specs.Fractions.{Fraction}
use Rattle.mps_lex.specs.Kinds.{Name}
use Rattle.mps_lex.specs.Lines.{Line}
use Rattle.decks.specs.declared.deck.Bound.{Bound}
use Rattle.decks.specs.declared.deck.Column.{Column}
use Rattle.decks.specs.declared.bounds.BoundKind.{BoundKind}
use Rattle.decks.specs.declared.bounds.BoundKind.TheVariants.{Up, Lo, Fx, Fr, Mi, Pl}
use Rattle.decks.specs.declared.fault.DeckWhy.TheVariants.{UnknownName}
use Rattle.decks.specs.Decks.{IsDeckNumber, IsColumn}
use Rattle.decks.specs.Numbers.{value_of}
use Rattle.decks.specs.Bounds.{bound_kind, takes_value, BoundWords, bound_words, bound_value, Setting, setting_with, setting_of_kind, setting_on, settings_in, lower_by, upper_by, is_fx, bound_behind, default_column, set_by, settings_of, column_bounds}
use Rattle.decks.specs.Faults.{◌or◌, fault_if, set_fault, bound_value_fault, bound_words_fault, bound_kind_fault, bound_fault}
use Rattle.decks.proofs.KeptParts.{second_none, all_flat}
use Rattle.decks.proofs.KeptNumbers.{number_kept, nought_kept}
use Rattle.decks.proofs.KeptSlices.{IsRightBy, bounds_fault, each_line}

-- ---- a line

-- what a kind sets a bound to
abbrev pub Sets : Option (Option Fraction) → Type 0
Sets None = Unit {0}
Sets (Some end) = IfSome end IsDeckNumber

pub record GivesNumbers (kind : BoundKind) (v : Fraction) : Type 0 where
  pub lower : Sets (lower_by kind v)
  pub upper : Sets (upper_by kind v)

unless_far : (far : Bool) (f : Fraction) → IsDeckNumber f → IfSome (cond far None (Some f)) IsDeckNumber
unless_far true f h = tt
unless_far false f h = h

gives : (kind : BoundKind) (v : Name) → bound_value_fault (takes_value kind) v ≡ None → GivesNumbers kind (bound_value (takes_value kind) v)
gives Up v e = record { lower = tt; upper = unless_far _ (value_of v) (number_kept v e) }
gives Lo v e = record { lower = unless_far _ (value_of v) (number_kept v e); upper = tt }
gives Fx v e = record { lower = number_kept v e; upper = number_kept v e }
gives Fr v e = record { lower = tt; upper = tt }
gives Mi v e = record { lower = tt; upper = tt }
gives Pl v e = record { lower = tt; upper = tt }

abbrev pub IsSetting : Setting → Type 0
IsSetting s = GivesNumbers s.kind s.value

words_kept : (columns : List Name) (set : Option Name) (kind : BoundKind) (number : ℕ) (o : Option BoundWords) → bound_words_fault columns set (takes_value kind) o ≡ None → AllByRecursion IsSetting (setting_with kind number o)
words_kept columns set kind number None e = absurd cc
words_kept columns set kind number (Some w) e =
    let unknown = fault_if _ UnknownName in
    let value = bound_value_fault (takes_value kind) w.value in
    (gives kind w.value (second_none unknown value (second_none (set_fault set w.set) (unknown or value) e)), tt)

kind_kept : (columns : List Name) (set : Option Name) (k : Name) (o : Option BoundKind) (number : ℕ) (fs : List Name) → bound_kind_fault columns set k o fs ≡ None → AllByRecursion IsSetting (setting_of_kind o number fs)
kind_kept columns set k None number fs e = tt
kind_kept columns set k (Some kind) number fs e = words_kept columns set kind number (bound_words (takes_value kind) fs) e

abbrev HaveSettings : List Name → Type 0
HaveSettings fs = (number : ℕ) → AllByRecursion IsSetting (setting_on number fs)

sets : (columns : List Name) (set : Option Name) (fs : List Name) → bound_fault columns set fs ≡ None → HaveSettings fs
sets columns set [] e = absurd cc
sets columns set (k ∷ fs) e = λ number. kind_kept columns set k (bound_kind k) number fs e

abbrev pub SettingsKept : List Setting → Type 0
SettingsKept ss = AllByRecursion IsSetting ss

pub settings_kept : (columns ls : List Line) → IsRightBy (bounds_fault columns) [] ls → SettingsKept (settings_in ls)
settings_kept columns ls h = all_flat (λ (l : Line). HaveSettings l.fields) IsSetting (λ (l : Line). setting_on l.number l.fields) (λ l q. q l.number) ls (each_line (bounds_fault columns) HaveSettings (λ before fs e. sets _ _ fs e) [] ls h)

-- ---- the bounds of a column

own_kept : (b : Bool) (s : Setting) (ss : List Setting) → IsSetting s → SettingsKept ss → SettingsKept (cond b (s ∷ ss) ss)
own_kept true s ss h k = (h, k)
own_kept false s ss h k = k

settings_of_kept : (c : Name) (ss : List Setting) → SettingsKept ss → SettingsKept (settings_of c ss)
settings_of_kept c [] h = tt
settings_of_kept c (s ∷ ss) h = own_kept (bytes_eq c s.column) s (settings_of c ss) h.0 (settings_of_kept c ss h.1)

bound_kept : (line : ℕ) (bound : Bound) (o : Option (Option Fraction)) → IfSome bound.value IsDeckNumber → Sets o → IfSome (bound_behind line bound o).value IsDeckNumber
bound_kept line bound None b h = b
bound_kept line bound (Some end) b h = h

-- FX gives both bounds one number
one_number : (kind : BoundKind) (line : ℕ) (l u : Bound) (v : Fraction) → is_fx kind ≡ true
    → (w : Fraction) × ((bound_behind line l (lower_by kind v)).value ≡ Some w) × ((bound_behind line u (upper_by kind v)).value ≡ Some w)
one_number Up line l u v e = absurd cc
one_number Lo line l u v e = absurd cc
one_number Fx line l u v e = (v, refl, refl)
one_number Fr line l u v e = absurd cc
one_number Mi line l u v e = absurd cc
one_number Pl line l u v e = absurd cc

set_kept : (c : Column) (s : Setting) → IsColumn c → IsSetting s → IsColumn (set_by c s)
set_kept c s k h = record {
  lower = bound_kept s.line c.lower (lower_by s.kind s.value) k.lower h.lower;
  upper = bound_kept s.line c.upper (upper_by s.kind s.value) k.upper h.upper;
  fixed = one_number s.kind s.line c.lower c.upper s.value;
}

all_set : (c : Column) (ss : List Setting) → IsColumn c → SettingsKept ss → IsColumn (fold set_by c ss)
all_set c [] k h = k
all_set c (s ∷ ss) k h = all_set (set_by c s) ss (set_kept c s k h.0) h.1

default_kept : IsColumn default_column
default_kept = record { lower = nought_kept; upper = tt; fixed = λ e. absurd cc }

pub column_is : (ss : List Setting) → SettingsKept ss → (c : Name) → IsColumn (column_bounds ss c)
column_is ss h c = all_set default_column (settings_of c ss) default_kept (settings_of_kept c ss h)
