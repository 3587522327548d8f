-- What the struct `Significand` says of a list of digits.
use Rattle.std.specs.Prelude.{◌≡◌, ℕ, ◌*◌, ◌^◌, ◌<◌, ◌≤◌, List}
use Rattle.std.specs.Str.Parse.{digits_value}
use Rattle.lp_nums.specs.declared.scan.Significand.{Significand}
use Rattle.lp_nums.specs.Decimals.{width, back_zeros}

pub record IsSignificand (ds : List ℕ) (s : Significand) : Type 0 where
  pub width_is : s.width ≡ width ds
  pub zeros_is : s.zeros ≡ back_zeros ds
  pub value_is : s.width ≤ 18 → s.value * 10 ^ s.zeros ≡ digits_value 10 ds
  pub small : s.width ≤ 18 → s.value < 10 ^ s.width
