-- Which cuts outlast an edit.
use Rattle.std.specs.Prelude.{◌≡◌, ◌⊎◌, List, [], ◌∷◌, Option, Some, None}
use Rattle.lpcc_case.specs.Instance.{Instance}
use Rattle.cuts.specs.declared.cut.Cut.{Cut}
use Rattle.cuts.specs.declared.cut.Cut.TheVariants.{Ray, Point}
use Rattle.cuts.specs.Cuts.{Passes, right_sum}
use Rattle.case_edits.specs.declared.edit.Edit.{Edit}
use Rattle.case_edits.specs.Edits.{MayBeMade, edited}

-- the value of a point cut made anew: the weighed right sides
abbrev pub renewed : Instance → Cut → Cut
renewed a (Ray ng mult) = Ray ng mult
renewed a (Point ng mult e v) = Point ng mult e (right_sum a mult)

-- a cut that passes so is kept
abbrev pub Becomes : Instance → Cut → Option Cut → Type 0
Becomes a c None = ¬ (Passes a (renewed a c))
Becomes a c (Some kept) = Passes a (renewed a c) × (kept ≡ renewed a c)

-- of a list of cuts these are kept, in their order
abbrev pub AreKept : Instance → List Cut → List Cut → Type 0
AreKept a [] kept = kept ≡ []
AreKept a (c ∷ cuts) kept = (Becomes a c None × AreKept a cuts kept)
    ⊎ ((first : Cut) × (rest : List Cut) × Becomes a c (Some first) × (kept ≡ first ∷ rest) × AreKept a cuts rest)

-- a case with the cuts that are kept for it
pub record KeptView : Type 0 where
  pub case_of : Instance
  pub cuts : List Cut

-- the instance behind an edit that may be made, and the cuts that outlast it
pub record IsEditedAs (edit : Edit) (a : Instance) (cuts : List Cut) (b : Instance) (kept : List Cut) : Type 0 where
  pub may : MayBeMade a edit
  pub case_is : b ≡ edited edit a
  pub kept_are : AreKept b cuts kept

abbrev pub IsEdited : Edit → KeptView → KeptView → Type 0
IsEdited edit old new = IsEditedAs edit old.case_of old.cuts new.case_of new.cuts
