use Rattle.std.proofs.Common.{rules, ◌≡◌, length, take, ap, ◌∙◌, ℕ, ℤ, List}
use Rattle.nogoods.specs.declared.choice.Choice.{Choice}
use Rattle.lpcc_case.specs.Instance.{Instance}
use Rattle.cut_words.specs.Reading.{AreChoiceWords, AreMultiplierWords, pair_words, constraint_words, kind_words}
use Rattle.cut_words.proofs.Readings.{none_by_kind}
use Rattle.cut_words.proofs.read.read_parts.Goals as goal

pub returns-in_default-clause-read : goal.returns-in_default-clause-read
returns-in_default-clause-read c =
    let a : Instance = c.args.case.now in
    let words : List ℕ = c.args.words.now in
    let ng : List Choice = take c.in_ok-count.count c.read_choices.new.into in
    let mult : List (ℕ × ℤ) = take c.in_ok-multipliers.multipliers c.read_multipliers.new.into in
    let C : AreChoiceWords (pair_words a words) ng = search rules in
    let M : AreMultiplierWords (constraint_words a words) mult = search rules in
    let size : length ng ≡ c.in_ok-count.count = search rules in
    let front : c.split_at.result.0.now ≡ take 5 words = search rules in
    none_by_kind a words ng mult C M (λ kind H. c.in_default.ensures kind (record { words = front ∙ H.words ∙ ap (kind_words kind) size; parts = H.parts }))
