use Rattle.std.proofs.Common.{rules, arith, sym, subst, All, List, ℕ, ℤ}
use Rattle.cut_words.specs.Reading.{AreMultiplierWords, IsNarrowWord}
use Rattle.cut_words.proofs.Readings.{multipliers_are}
use Rattle.cut_words.proofs.read.read_multipliers.Goals as goal

pub returns-clause-read : goal.returns-clause-read
returns-clause-read c =
    let narrow : All IsNarrowWord c.args.words.now = search rules in
    (omega (arith, c.list_multipliers.ensures.count, c.requires.room), subst (λ (mult : List (ℕ × ℤ)). AreMultiplierWords c.args.words.now mult) (sym c.list_multipliers.ensures.list) (multipliers_are c.args.words.now narrow))
