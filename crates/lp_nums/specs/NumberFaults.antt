-- Under `yes`: which texts are refused as numbers, and why.
use Rattle.std.specs.Prelude.{ℕ, cond, List, Option, Some, None}
use Rattle.lp_nums.specs.declared.decimals.NumberFault.{NumberFault}
use Rattle.lp_nums.specs.declared.decimals.NumberFault.TheVariants.{NumberText, NumberWide}
use Rattle.lp_nums.specs.Decimals.{is_decimal, is_wide}

abbrev pub number_fault : List ℕ → Option NumberFault
number_fault text = cond (is_decimal text) (cond (is_wide text) (Some NumberWide) None) (Some NumberText)
