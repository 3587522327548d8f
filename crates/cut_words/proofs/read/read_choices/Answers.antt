use Rattle.std.proofs.Common.{rules, arith, sym, subst, ◌≤◌, All, List}
use Rattle.nogoods.specs.declared.choice.Choice.{Choice}
use Rattle.cut_words.specs.Reading.{AreChoiceWords}
use Rattle.cut_words.proofs.Readings.{choices_are}
use Rattle.cut_words.proofs.read.read_choices.Goals as goal

pub returns-clause-read : goal.returns-clause-read
returns-clause-read c =
    let sides : All (λ w. w ≤ 2) c.args.words.now = search rules in
    (omega (arith, c.list_choices.ensures.count, c.requires.room), subst (λ (ng : List Choice). AreChoiceWords c.args.words.now ng) (sym c.list_choices.ensures.list) (choices_are c.args.words.now sides))
