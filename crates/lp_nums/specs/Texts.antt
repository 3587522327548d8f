-- Under `yes`: fractions as texts.
use Rattle.std.specs.Prelude.{ℕ, List, ◌++◌, cond, pos, codes}
use Rattle.std.specs.Ordering.{int_eq}
use Rattle.std.specs.Fmt.{signed_decimal}
use Rattle.lp_nums.specs.Fractions.{Fraction}

-- the numerator, and behind a slash the denominator where that is not 1
abbrev pub fraction_text : Fraction → List ℕ
fraction_text f = cond (int_eq f.den (pos 1)) (signed_decimal f.num) (signed_decimal f.num ++ codes "/" ++ signed_decimal f.den)
