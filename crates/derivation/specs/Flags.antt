-- The assumed choices as flags.
use Rattle.std.specs.Prelude.{◌≡◌, ◌<◌, ◌≤◌, Bool, false, List, [], ◌∷◌, length, slice_index_or}
use Rattle.nogoods.specs.declared.choice.Choice.{Choice}
use Rattle.nogoods.specs.declared.choice.Side.{Side}
use Rattle.nogoods.specs.declared.choice.Side.TheVariants.{A, B}
use Rattle.lp_base.specs.declared.limits.TheConstants.{MOST_PAIRS}
use Rattle.derivation.specs.declared.assumed.Assumed.{Assumed}
use Rattle.derivation.specs.declared.hint_run.Left.{Left}
use Rattle.derivation.specs.declared.hint_run.Left.TheVariants.{None, One, More}
use Rattle.derivation.specs.HintRuns.{is_assumed}

abbrev pub flags_of : Assumed → Side → List Bool
flags_of s A = s.a
flags_of s B = s.b

abbrev pub flag_of : Assumed → Choice → Bool
flag_of s c = slice_index_or (flags_of s c.side) c.pair false

-- the flags of as many pairs as a case may have show exactly these choices
abbrev pub Shows : Assumed → List Choice → Type 0
Shows s assumed = (c : Choice) → c.pair < MOST_PAIRS → flag_of s c ≡ is_assumed assumed c

-- none, this one, or at least two
abbrev pub IsLeft : Left → List Choice → Type 0
IsLeft None choices = choices ≡ []
IsLeft (One c) choices = choices ≡ c ∷ []
IsLeft More choices = 2 ≤ length choices
