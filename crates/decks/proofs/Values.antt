-- The value of a decimal text is the one fraction in lowest terms of its value.
use Rattle.std.proofs.Common.{◌≡◌, sym, List, ℕ}
use Rattle.lp_nums.specs.Fractions.{Fraction, IsReduced, SameValue}
use Rattle.lp_nums.specs.Decimals.{spelled}
use Rattle.lp_nums.proofs.FractionLaws.{unique}
use Rattle.lp_nums.proofs.DecimalLaws.{SameValue-trans}
use Rattle.decks.specs.Numbers.{value_of}
use Rattle.decks.proofs.KeptNumbers.{IsLowest, lowest_is, positive_den}

lowest : (w : List ℕ) → IsLowest (spelled w) (value_of w)
lowest w = lowest_is (spelled w) (positive_den _ _)

pub value_same : (w : List ℕ) → SameValue (value_of w) (spelled w)
value_same w = (lowest w).same

pub value_reduced : (w : List ℕ) → IsReduced (value_of w)
value_reduced w = (lowest w).reduced

pub value_is : (w : List ℕ) (f : Fraction) → IsReduced f → SameValue f (spelled w) → f ≡ value_of w
value_is w f reduced same = unique f (value_of w) reduced (value_reduced w) (SameValue-trans f (spelled w) (value_of w) (positive_den _ _) same (sym (value_same w)))
