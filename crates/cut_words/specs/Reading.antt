-- The parts of an item, as they are read.
use Rattle.std.specs.Prelude.{◌≡◌, ◌≢◌, ◌<◌, ◌≤◌, ◌%◌, ◌/◌, ◌^◌, ℕ, zero, suc, ℤ, List, [], ◌∷◌, All, IsTrue, length, nat_eq, if◌then◌else◌, slice_index, take, drop}
use Rattle.std.specs.Int.{cast_signed, cast_unsigned}
use mir.Syntax.{w64, w128}
use Rattle.lp_base.specs.Ascending.{ascends_by, number_of}
use Rattle.nogoods.specs.declared.choice.Choice.{Choice}
use Rattle.nogoods.specs.declared.choice.Side.{Side}
use Rattle.nogoods.specs.declared.choice.Side.TheVariants.{A, B}
use Rattle.nogoods.specs.Choices.{pairs_ascend}
use Rattle.lpcc_case.specs.Instance.{Instance}
use Rattle.cuts.specs.declared.cut.Cut.{Cut}
use Rattle.cuts.specs.declared.cut.Cut.TheVariants.{Ray, Point}
use Rattle.cuts.specs.Cuts.{IsMultiplier, right_sum}
use Rattle.cut_words.specs.declared.read.Kind.{Kind}
use Rattle.cut_words.specs.declared.read.Kind.TheVariants as kinds
use Rattle.cut_words.specs.declared.read.Parts.{Parts}
use Rattle.cut_words.specs.Words.{choice_word, multiplier_word, IsInPlace, AreWordsOf}

-- the words that are not 0, each with its number, from the number k on
abbrev pub elements : {T : Type 0} → (ℕ → ℕ → T) → ℕ → List ℕ → List T
elements make k [] = []
elements make k (zero ∷ ws) = elements make (suc k) ws
elements make k (suc w ∷ ws) = make k (suc w) ∷ elements make (suc k) ws

abbrev pub side_of : ℕ → Side
side_of w = if nat_eq w 1 then A else B

abbrev pub choice_of : ℕ → ℕ → Choice
choice_of k w = record { pair = k; side = side_of w }

abbrev pub multiplier_of : ℕ → ℕ → ℕ × ℤ
multiplier_of k w = (k, cast_signed w64 w)

-- a word that is not that of the least number
abbrev pub IsNarrowWord : ℕ → Type 0
IsNarrowWord w = (w < 2 ^ 64) × (w ≢ 2 ^ 63)

-- choices that ascend, and whose words these are, one for each pair
pub record AreChoiceWords (words : List ℕ) (ng : List Choice) : Type 0 where
  pub ascending : IsTrue (pairs_ascend ng)
  pub pairs_named : All (λ c. c.pair < length words) ng
  pub spelled : (k : ℕ) → k < length words → slice_index words k ≡ choice_word ng k

-- multipliers that ascend, are narrow and not 0, and whose words these are, one for each constraint
pub record AreMultiplierWords (words : List ℕ) (mult : List (ℕ × ℤ)) : Type 0 where
  pub ascending : IsTrue (ascends_by number_of mult)
  pub constraints_named : All (λ m. m.0 < length words) mult
  pub numbers : All (λ m. IsMultiplier m.1) mult
  pub spelled : (k : ℕ) → k < length words → slice_index words k ≡ multiplier_word mult k

-- the words of the pairs, and those of the constraints
abbrev pub pair_words : Instance → List ℕ → List ℕ
pair_words a words = take (length a.pairs) (drop 5 words)

abbrev pub constraint_words : Instance → List ℕ → List ℕ
constraint_words a words = drop (length a.pairs) (drop 5 words)

-- the cut of this kind
abbrev pub cut_of : Kind → List Choice → List (ℕ × ℤ) → Cut
cut_of kinds.Ray ng mult = Ray ng mult
cut_of (kinds.Point e v) ng mult = Point ng mult e v

-- the head of a cut of this kind with so many choices
abbrev pub kind_words : Kind → ℕ → List ℕ
kind_words kinds.Ray count = 1 ∷ 0 ∷ 0 ∷ 0 ∷ count ∷ []
kind_words (kinds.Point e v) count = 2 ∷ cast_unsigned w64 e ∷ cast_unsigned w128 v % 2 ^ 64 ∷ cast_unsigned w128 v / 2 ^ 64 ∷ count ∷ []

-- e is narrow and not zero, and v is the weighed right side
abbrev pub HasKind : Instance → List (ℕ × ℤ) → Kind → Type 0
HasKind a mult kinds.Ray = Unit {0}
HasKind a mult (kinds.Point e v) = IsMultiplier e × (right_sum a mult ≡ v)

pub record IsHead (a : Instance) (head : List ℕ) (kind : Kind) (count : ℕ) (mult : List (ℕ × ℤ)) : Type 0 where
  pub words : head ≡ kind_words kind count
  pub parts : HasKind a mult kind

-- what was read, in tables of choices and multipliers, are the parts of the cut with these words
pub record AreParts (a : Instance) (words : List ℕ) (p : Parts) (choices : List Choice) (mult : List (ℕ × ℤ)) : Type 0 where
  pub choices_within : p.choices ≤ length choices
  pub multipliers_within : p.multipliers ≤ length mult
  pub in_place : IsInPlace a (cut_of p.kind (take p.choices choices) (take p.multipliers mult))
  pub spelled : AreWordsOf a (cut_of p.kind (take p.choices choices) (take p.multipliers mult)) words
