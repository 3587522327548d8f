-- The words of a cut, in which it is handed from one worker to another.
use Rattle.std.specs.Prelude.{◌≡◌, ◌≢◌, ◌<◌, ◌+◌, ◌/◌, ◌%◌, ◌^◌, ℕ, ℤ, pos, List, [], ◌∷◌, IsTrue, length, take, nat_eq, if◌then◌else◌, slice_index}
use Rattle.std.specs.Int.{cast_unsigned}
use mir.Syntax.{w64, w128}
use Rattle.lp_base.specs.Ascending.{number_of}
use Rattle.lp_base.specs.Numbers.{IsNarrow}
use Rattle.nogoods.specs.declared.choice.Choice.{Choice}
use Rattle.nogoods.specs.declared.choice.Side.{Side}
use Rattle.nogoods.specs.declared.choice.Side.TheVariants.{A, B}
use Rattle.nogoods.specs.Choices.{pair_of, pairs_ascend}
use Rattle.lpcc_case.specs.Instance.{Instance}
use Rattle.cuts.specs.declared.cut.Cut.{Cut}
use Rattle.cuts.specs.declared.cut.Cut.TheVariants.{Ray, Point}
use Rattle.cuts.specs.Cuts.{no_good_of, multipliers_of, right_sum, IsIndexed, Passes}

-- a head of five words, a word for each pair and one for each constraint
abbrev pub item_length : Instance → ℕ
item_length a = 5 + length a.pairs + length a.constraints

-- the word of the first element with this key, or 0 where there is none
abbrev pub word_at : {T : Type 0} → (T → ℕ) → (T → ℕ) → List T → ℕ → ℕ
word_at key word [] k = 0
word_at key word (x ∷ xs) k = if nat_eq (key x) k then word x else word_at key word xs k

abbrev pub side_word : Side → ℕ
side_word A = 1
side_word B = 2

-- the word of a pair: its side, or 0 without a choice
abbrev pub choice_word : List Choice → ℕ → ℕ
choice_word ng k = word_at pair_of (λ c. side_word c.side) ng k

-- the word of a constraint: its multiplier in two's complement, or 0 without one
abbrev pub multiplier_word : List (ℕ × ℤ) → ℕ → ℕ
multiplier_word mult k = word_at number_of (λ m. cast_unsigned w64 m.1) mult k

-- the kind, e, the low and the high half of v, and the number of choices, with numbers in two's complement
abbrev pub head_words : Cut → List ℕ
head_words (Ray ng mult) = 1 ∷ 0 ∷ 0 ∷ 0 ∷ length ng ∷ []
head_words (Point ng mult e v) = 2 ∷ cast_unsigned w64 e ∷ cast_unsigned w128 v % 2 ^ 64 ∷ cast_unsigned w128 v / 2 ^ 64 ∷ length ng ∷ []

pub record AreWordsOf (a : Instance) (cut : Cut) (words : List ℕ) : Type 0 where
  pub size : length words ≡ item_length a
  pub head : take 5 words ≡ head_words cut
  pub choices : (k : ℕ) → k < length a.pairs → slice_index words (5 + k) ≡ choice_word (no_good_of cut) k
  pub multipliers : (k : ℕ) → k < length a.constraints → slice_index words (5 + length a.pairs + k) ≡ multiplier_word (multipliers_of cut) k

-- e is narrow and not zero, and v is the weighed right side
abbrev pub HasParts : Instance → Cut → Type 0
HasParts a (Ray ng mult) = Unit {0}
HasParts a (Point ng mult e v) = IsNarrow e × (e ≢ pos 0) × (right_sum a mult ≡ v)

-- a cut whose parts are in place, whether or not it passes the test
pub record IsInPlace (a : Instance) (cut : Cut) : Type 0 where
  pub ascending : IsTrue (pairs_ascend (no_good_of cut))
  pub indexed : IsIndexed a (no_good_of cut) (multipliers_of cut)
  pub parts : HasParts a cut

-- the words of a cut whose parts are in place
abbrev pub SpellsCut : Instance → List ℕ → Type 0
SpellsCut a words = (cut : Cut) × IsInPlace a cut × AreWordsOf a cut words

-- the words of a cut that passes the test
abbrev pub SpellsPassing : Instance → List ℕ → Type 0
SpellsPassing a words = (cut : Cut) × IsInPlace a cut × AreWordsOf a cut words × Passes a cut
