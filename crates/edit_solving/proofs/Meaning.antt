-- From the terms of a command to its edit.
use Rattle.std.proofs.Common.{ℕ, ◌+◌, ◌<◌, ◌≤◌, ◌≡◌, refl, sym, ◌∙◌, ap, subst, arith, ℤ, pos, inl, inr, ◌⊎◌, List, length}
use Rattle.std.specs.Prelude.{Option, None, Some}
use Rattle.std.proofs.lemmas.Int.{ints}
use Rattle.std.proofs.lemmas.List.FromFn.{length-map-range_with_len}
use Rattle.lpcc_case.specs.Instance.{Instance}
use Rattle.lpcc_case.specs.Points.{coefficient}
use Rattle.lpcc_case.specs.declared.constraint.Constraint.{Constraint}
use Rattle.cert_check.specs.Acceptance.{numbers_of}
use Rattle.command.specs.declared.refusal.Refusal.TheVariants.{NoMemory as short}
use Rattle.edit_text.specs.Scripts.{Terms}
use Rattle.edit_text.specs.declared.script.Command.{Command}
use Rattle.edit_text.specs.declared.script.Command.TheVariants as command
use Rattle.edit_text.specs.declared.script.Relation.{Relation}
use Rattle.edit_text.specs.declared.script.Relation.TheVariants.{Ge}
use Rattle.case_edits.specs.Edits.{AreTerms, HasParts, IsRefusedBy}
use Rattle.case_edits.specs.declared.edit.Edit.{Edit}
use Rattle.case_edits.specs.declared.edit.Edit.TheVariants.{Add, Tighten, Cost}
use Rattle.case_edits.specs.declared.edit.EditFault.{EditFault}
use Rattle.case_edits.specs.declared.edit.EditFault.TheVariants as fault
use Rattle.editing.specs.declared.refusal.EditRefusal.{EditRefusal}
use Rattle.editing.specs.declared.refusal.EditRefusal.TheVariants.{Input, Script}
use Rattle.editing.specs.declared.refusal.EditWhy.{EditWhy}
use Rattle.editing.specs.declared.refusal.EditWhy.TheVariants.{NoSuch, Loosens, Limit}
use Rattle.edit_solving.specs.Meanings.{AreNamed, AreOwn, IsMeant, IsOwnEdit, IsRefusedAs, kind_of, signed}
use Rattle.edit_solving.specs.Scripts.{refusal_of}

abbrev pub AreNone : ℕ → Relation → Terms → Type 0
AreNone columns relation terms = (ts : List (ℕ × ℤ)) → AreNamed relation terms ts → AreTerms columns ts → ⊥

pub no_addition : (a : Instance) (columns : ℕ) (relation : Relation) (rhs : ℤ) (terms : Terms) → columns ≡ a.columns → AreNone columns relation terms → IsOwnEdit a (command.Add relation rhs terms) None
no_addition a columns relation rhs terms e none (Add c) meant parts = none c.terms meant.2 (subst (λ (n : ℕ). AreTerms n c.terms) (sym e) parts)
no_addition a columns relation rhs terms e none (Tighten con right) meant parts = meant
no_addition a columns relation rhs terms e none (Cost cost) meant parts = meant

pub no_tightening : (a : Instance) (count : ℕ) (number rhs : ℤ) → length a.constraints ≤ count → ((k : ℕ) → number ≡ pos (k + 1) → k < count → ⊥) → IsOwnEdit a (command.Tighten number rhs) None
no_tightening a count number rhs many none (Add c) meant parts = meant
no_tightening a count number rhs many none (Tighten con right) meant parts = none con meant.0 (omega (arith, many, parts))
no_tightening a count number rhs many none (Cost cost) meant parts = meant

pub no_costing : (a : Instance) (columns : ℕ) (terms : Terms) → columns ≡ a.columns → AreNone columns Ge terms → IsOwnEdit a (command.Cost terms) None
no_costing a columns terms e none (Add c) meant parts = meant
no_costing a columns terms e none (Tighten con right) meant parts = meant
no_costing a columns terms e none (Cost cost) meant parts = none meant.0 meant.1 (subst (λ (n : ℕ). AreTerms n meant.0) (sym e) meant.2)

pub no_solving : (a : Instance) → IsOwnEdit a command.Solve None
no_solving a (Add c) meant parts = meant
no_solving a (Tighten con right) meant parts = meant
no_solving a (Cost cost) meant parts = meant

pub costing : (a : Instance) (columns : ℕ) (terms : Terms) (named list : List (ℕ × ℤ)) (cost : List ℤ) → columns ≡ a.columns → AreNamed Ge terms named → AreTerms columns named → list ≡ named → cost ≡ numbers_of columns list → IsOwnEdit a (command.Cost terms) (Some (Cost cost))
costing a columns terms named list cost e names right same is =
    let there : AreTerms a.columns named = subst (λ (n : ℕ). AreTerms n named) e right in
    let made : cost ≡ numbers_of a.columns named = is ∙ ap (λ (n : ℕ). numbers_of n list) e ∙ ap (numbers_of a.columns) same in
    ((named, names, there, made), ap length made ∙ length-map-range_with_len (coefficient named) 0 a.columns)

-- an edit that has its parts is refused for another reason
pub refused_by : (a : Instance) (c : Command) (edit : Edit) (f : EditFault) (line : ℕ) → IsOwnEdit a c (Some edit) → IsRefusedBy a edit f
    → (refusal_of line f ≡ Input short) ⊎ ((why : EditWhy) × IsRefusedAs a c why × (refusal_of line f ≡ Script line why))
refused_by a c edit fault.NoSuch line own refused = absurd (refused own.1)
refused_by a c edit fault.Loosens line own refused = inr (Loosens, (edit, own.0, refused), refl)
refused_by a c edit fault.Limit line own refused = inr (Limit, (edit, own.0, refused), refl)
refused_by a c edit (fault.NoMemory error) line own refused = inl refl
