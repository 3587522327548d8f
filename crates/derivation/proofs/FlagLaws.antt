-- Flags of assumed choices.
use Rattle.std.proofs.Common.{ℕ, zero, suc, ◌≡◌, refl, false, get_or, replicate}
use Rattle.nogoods.specs.declared.choice.Side.{Side}
use Rattle.nogoods.specs.declared.choice.Side.TheVariants.{A, B}
use Rattle.derivation.specs.Flags.{flags_of}

no_flag : (n i : ℕ) → get_or (replicate n false) i false ≡ false
no_flag zero i = refl
no_flag (suc n) zero = refl
no_flag (suc n) (suc i) = no_flag n i

-- with no flag set no choice is assumed
pub none_flagged : (n : ℕ) (side : Side) (pair : ℕ) → get_or (flags_of record { a = replicate n false; b = replicate n false } side) pair false ≡ false
none_flagged n A pair = no_flag n pair
none_flagged n B pair = no_flag n pair
