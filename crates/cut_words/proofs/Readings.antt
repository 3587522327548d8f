-- What is read from the words of an item, and what words of a cut give.
use Rattle.std.proofs.Common.{ℕ, ℤ, ◌+◌, ◌<◌, ◌≤◌, ◌≡◌, ◌≢◌, ⊎_elim, refl, sym, ap, ◌∙◌, subst, arith, List, [], ◌∷◌, length, get_or, take, drop, IsTrue, eqb, eq-eqb, ne_eqb}
use Rattle.std.specs.Prelude.{All}
use Rattle.std.specs.List.{AllByRecursion}
use Rattle.std.specs.Int.{cast_signed, cast_unsigned}
use Rattle.std.proofs.lemmas.Bool.{cases_eq, cond-true, cond-false}
use Rattle.std.proofs.lemmas.List.{get_or-drop, get_or-take, length-take, length-drop}
use Rattle.std.proofs.lemmas.List.Elements.{All-from_recursion, recursion_from_All, All-from_get_or}
use Rattle.std.proofs.lemmas.Int.{of_z-to_z}
use mir.Syntax.{w64}
use Rattle.lp_base.specs.Ascending.{number_of}
use Rattle.nogoods.specs.declared.choice.Choice.{Choice}
use Rattle.nogoods.specs.declared.choice.Side.{Side}
use Rattle.nogoods.specs.declared.choice.Side.TheVariants.{A, B}
use Rattle.nogoods.specs.Choices.{pair_of, pairs_ascend}
use Rattle.lpcc_case.specs.Instance.{Instance}
use Rattle.cuts.specs.declared.cut.Cut.{Cut}
use Rattle.cuts.specs.declared.cut.Cut.TheVariants.{Ray, Point}
use Rattle.cuts.specs.Cuts.{no_good_of, multipliers_of, IsMultiplier, right_sum, Passes}
use Rattle.cut_words.specs.declared.read.Kind.{Kind}
use Rattle.cut_words.specs.declared.read.Kind.TheVariants as kinds
use Rattle.cut_words.specs.Words.{item_length, side_word, choice_word, multiplier_word, head_words, AreWordsOf, HasParts, IsInPlace, SpellsCut, SpellsPassing}
use Rattle.cut_words.specs.Reading.{elements, side_of, choice_of, multiplier_of, IsNarrowWord, AreChoiceWords, AreMultiplierWords, pair_words, constraint_words, cut_of, kind_words, HasKind, IsHead}
use Rattle.cut_words.proofs.Elements.{AreRead, below, valids, ascending, spelled, unique, word_kept, all_map}
use Rattle.cut_words.proofs.Casts.{narrow_back, word_multiplier, nonzero_word, narrow_word}

-- ---- choices

abbrev is_side : ℕ → Type 0
is_side w = w ≤ 2

abbrev word_of_choice : Choice → ℕ
word_of_choice c = side_word c.side

abbrev any_choice : Choice → Type 0
any_choice c = Unit {0}

side_again : (w : ℕ) → w ≤ 2 → w ≢ 0 → side_word (side_of w) ≡ w
side_again w h n = ⊎_elim
    (λ (e : w ≡ 1). ap side_word (cond-true (eqb w 1) A B (eq-eqb w 1 e)) ∙ sym e)
    (λ (d : w ≢ 1). ap side_word (cond-false (eqb w 1) A B (ne_eqb w 1 d)) ∙ two w h n d)
    (cases_eq w 1)
  where
    two : (w : ℕ) → w ≤ 2 → w ≢ 0 → w ≢ 1 → 2 ≡ w
    two w h n d = omega (arith, h, n, d)

side_back : (s : Side) → side_of (side_word s) ≡ s
side_back A = refl
side_back B = refl

side_nonzero : (s : Side) → side_word s ≢ 0
side_nonzero A e = absurd (omega (arith, e))
side_nonzero B e = absurd (omega (arith, e))

side_small : (s : Side) → side_word s ≤ 2
side_small A = omega arith
side_small B = omega arith

choices_read : AreRead pair_of word_of_choice choice_of any_choice is_side
choices_read = record {
  keyed = λ k w. refl;
  worded = λ k w h n. side_again w h n;
  valid = λ k w h n. tt;
  back = λ c v. λ i. record { pair = c.pair; side = side_back c.side i };
  nonzero = λ c v. side_nonzero c.side;
  spells = λ c v. side_small c.side;
}

any : (cs : List Choice) → AllByRecursion any_choice cs
any [] = tt
any (c ∷ cs) = (tt, any cs)

pub choices_are : (words : List ℕ) → All is_side words → AreChoiceWords words (elements choice_of 0 words)
choices_are words h = record {
  ascending = ascending pair_of word_of_choice choice_of any_choice is_side choices_read 0 words;
  pairs_named = All-from_recursion (λ c. c.pair < length words) (elements choice_of 0 words) (below pair_of word_of_choice choice_of any_choice is_side choices_read 0 (length words) words (omega arith));
  spelled = λ k lt. sym (spelled pair_of word_of_choice choice_of any_choice is_side choices_read 0 k k words (omega arith) (recursion_from_All is_side words h) lt);
}

all_from_0 : {T : Type 0} (key : T → ℕ) (ts : List T) → AllByRecursion (λ t. 0 ≤ key t) ts
all_from_0 key [] = tt
all_from_0 key (t ∷ ts) = (omega arith, all_from_0 key ts)

pub choices_unique : (words : List ℕ) (ng : List Choice) → AreChoiceWords words ng → ng ≡ elements choice_of 0 words
choices_unique words ng h = unique pair_of word_of_choice choice_of any_choice is_side choices_read ng 0 words h.ascending (all_from_0 pair_of ng)
    (all_map (λ c. c.pair < length words) (λ c. c.pair < 0 + length words) ng (λ c lt. omega (arith, lt)) (recursion_from_All (λ c. c.pair < length words) ng h.pairs_named))
    (any ng) (λ i lt. h.spelled i lt ∙ ap (choice_word ng) (omega arith))

pub choices_sides : (words : List ℕ) (ng : List Choice) → AreChoiceWords words ng → All is_side words
choices_sides words ng h = All-from_get_or is_side words 0 (λ i lt. subst is_side (sym (h.spelled i lt)) (word_kept pair_of word_of_choice any_choice is_side ng i (λ c v. side_small c.side) (omega arith) (any ng)))

-- ---- multipliers

abbrev word_of_multiplier : ℕ × ℤ → ℕ
word_of_multiplier m = cast_unsigned w64 m.1

abbrev is_number : ℕ × ℤ → Type 0
is_number m = IsMultiplier m.1

multipliers_read : AreRead number_of word_of_multiplier multiplier_of is_number IsNarrowWord
multipliers_read = record {
  keyed = λ k w. refl;
  worded = λ k w h n. of_z-to_z w64 w h.0;
  valid = λ k w h n. word_multiplier w h n;
  back = λ m v. λ i. (m.0, narrow_back m.1 v.0 i);
  nonzero = λ m v. nonzero_word m.1 v.0 v.1;
  spells = λ m v. narrow_word m.1 v.0;
}

pub multipliers_are : (words : List ℕ) → All IsNarrowWord words → AreMultiplierWords words (elements multiplier_of 0 words)
multipliers_are words all =
    record {
      ascending = ascending number_of word_of_multiplier multiplier_of is_number IsNarrowWord multipliers_read 0 words;
      constraints_named = All-from_recursion (λ m. m.0 < length words) (elements multiplier_of 0 words) (below number_of word_of_multiplier multiplier_of is_number IsNarrowWord multipliers_read 0 (length words) words (omega arith));
      numbers = All-from_recursion is_number (elements multiplier_of 0 words) (valids number_of word_of_multiplier multiplier_of is_number IsNarrowWord multipliers_read 0 words (recursion_from_All IsNarrowWord words all));
      spelled = λ k lt. sym (spelled number_of word_of_multiplier multiplier_of is_number IsNarrowWord multipliers_read 0 k k words (omega arith) (recursion_from_All IsNarrowWord words all) lt);
    }

pub multipliers_unique : (words : List ℕ) (mult : List (ℕ × ℤ)) → AreMultiplierWords words mult → mult ≡ elements multiplier_of 0 words
multipliers_unique words mult h = unique number_of word_of_multiplier multiplier_of is_number IsNarrowWord multipliers_read mult 0 words h.ascending (all_from_0 number_of mult)
    (all_map (λ m. m.0 < length words) (λ m. m.0 < 0 + length words) mult (λ m lt. omega (arith, lt)) (recursion_from_All (λ m. m.0 < length words) mult h.constraints_named))
    (recursion_from_All is_number mult h.numbers) (λ i lt. h.spelled i lt ∙ ap (multiplier_word mult) (omega arith))

pub multipliers_narrow : (words : List ℕ) (mult : List (ℕ × ℤ)) → AreMultiplierWords words mult → All IsNarrowWord words
multipliers_narrow words mult h = All-from_get_or IsNarrowWord words 0 (λ i lt. subst IsNarrowWord (sym (h.spelled i lt)) (word_kept number_of word_of_multiplier is_number IsNarrowWord mult i (λ m v. narrow_word m.1 v.0) zero_word (recursion_from_All is_number mult h.numbers)))
  where
    zero_word : IsNarrowWord 0
    zero_word = (omega arith, λ e. absurd (omega (arith, e)))

-- ---- a whole item

pairs_size : (a : Instance) (words : List ℕ) → length words ≡ item_length a → length (pair_words a words) ≡ length a.pairs
pairs_size a words e = omega (arith, length-take (length a.pairs) (drop 5 words), length-drop 5 words, e)

constraints_size : (a : Instance) (words : List ℕ) → length words ≡ item_length a → length (constraint_words a words) ≡ length a.constraints
constraints_size a words e = omega (arith, length-drop (length a.pairs) (drop 5 words), length-drop 5 words, e)

pair_at_place : (a : Instance) (words : List ℕ) (k : ℕ) → k < length a.pairs → get_or (pair_words a words) k 0 ≡ get_or words (5 + k) 0
pair_at_place a words k h = get_or-take (length a.pairs) (drop 5 words) k 0 h ∙ get_or-drop 5 words k 0

constraint_at_place : (a : Instance) (words : List ℕ) (k : ℕ) → get_or (constraint_words a words) k 0 ≡ get_or words (5 + length a.pairs + k) 0
constraint_at_place a words k = get_or-drop (length a.pairs) (drop 5 words) k 0 ∙ get_or-drop 5 words (length a.pairs + k) 0 ∙ ap (λ (j : ℕ). get_or words j 0) (omega arith)

the_choices : (kind : Kind) (ng : List Choice) (mult : List (ℕ × ℤ)) → no_good_of (cut_of kind ng mult) ≡ ng
the_choices kinds.Ray ng mult = refl
the_choices (kinds.Point e v) ng mult = refl

the_multipliers : (kind : Kind) (ng : List Choice) (mult : List (ℕ × ℤ)) → multipliers_of (cut_of kind ng mult) ≡ mult
the_multipliers kinds.Ray ng mult = refl
the_multipliers (kinds.Point e v) ng mult = refl

-- the parts that were read make a cut with these words
pub is_cut : (a : Instance) (words : List ℕ) (kind : Kind) (ng : List Choice) (mult : List (ℕ × ℤ)) → length words ≡ item_length a → AreChoiceWords (pair_words a words) ng → AreMultiplierWords (constraint_words a words) mult → IsHead a (take 5 words) kind (length ng) mult → IsInPlace a (cut_of kind ng mult) × AreWordsOf a (cut_of kind ng mult) words
is_cut a words kind ng mult size C M head =
    let p = pairs_size a words size in
    let n = constraints_size a words size in (
      record {
        ascending = subst (λ (l : List Choice). IsTrue (pairs_ascend l)) (sym (the_choices kind ng mult)) C.ascending;
        indexed = rw (the_choices kind ng mult, the_multipliers kind ng mult) (record {
          multipliers = record {
            ascending = M.ascending;
            constraints_named = subst (λ (k : ℕ). All (λ m. m.0 < k) mult) n M.constraints_named;
            numbers = M.numbers;
          };
          pairs_named = subst (λ (k : ℕ). All (λ c. c.pair < k) ng) p C.pairs_named;
        });
        parts = the_parts kind head.parts;
      },
      record {
        size = size;
        head = head.words ∙ the_head kind;
        choices = λ k lt. sym (pair_at_place a words k lt) ∙ C.spelled k (omega (arith, lt, p)) ∙ ap (λ (l : List Choice). choice_word l k) (sym (the_choices kind ng mult));
        multipliers = λ k lt. sym (constraint_at_place a words k) ∙ M.spelled k (omega (arith, lt, n)) ∙ ap (λ (l : List (ℕ × ℤ)). multiplier_word l k) (sym (the_multipliers kind ng mult));
      },
    )
  where
    the_parts : (kind : Kind) → HasKind a mult kind → HasParts a (cut_of kind ng mult)
    the_parts kinds.Ray h = tt
    the_parts (kinds.Point e v) h = (h.0.0, h.0.1, h.1)

    the_head : (kind : Kind) → kind_words kind (length ng) ≡ head_words (cut_of kind ng mult)
    the_head kinds.Ray = refl
    the_head (kinds.Point e v) = refl

pub choices_of_cut : (a : Instance) (cut : Cut) (words : List ℕ) → IsInPlace a cut → AreWordsOf a cut words → AreChoiceWords (pair_words a words) (no_good_of cut)
choices_of_cut a cut words P S =
    let p = pairs_size a words S.size in
    record {
      ascending = P.ascending;
      pairs_named = subst (λ (k : ℕ). All (λ c. c.pair < k) (no_good_of cut)) (sym p) P.indexed.pairs_named;
      spelled = λ k lt. pair_at_place a words k (omega (arith, lt, p)) ∙ S.choices k (omega (arith, lt, p));
    }

pub multipliers_of_cut : (a : Instance) (cut : Cut) (words : List ℕ) → IsInPlace a cut → AreWordsOf a cut words → AreMultiplierWords (constraint_words a words) (multipliers_of cut)
multipliers_of_cut a cut words P S =
    let n = constraints_size a words S.size in
    record {
      ascending = P.indexed.multipliers.ascending;
      constraints_named = subst (λ (k : ℕ). All (λ m. m.0 < k) (multipliers_of cut)) (sym n) P.indexed.multipliers.constraints_named;
      numbers = P.indexed.multipliers.numbers;
      spelled = λ k lt. constraint_at_place a words k ∙ S.multipliers k (omega (arith, lt, n));
    }

-- the head says of which kind the cut is
pub head_of_cut : (a : Instance) (cut : Cut) (words : List ℕ) → IsInPlace a cut → AreWordsOf a cut words → (kind : Kind) × (cut ≡ cut_of kind (no_good_of cut) (multipliers_of cut)) × IsHead a (take 5 words) kind (length (no_good_of cut)) (multipliers_of cut)
head_of_cut a (Ray ng mult) words P S = (kinds.Ray, refl, record { words = S.head; parts = tt })
head_of_cut a (Point ng mult e v) words P S = (kinds.Point e v, refl, record { words = S.head; parts = ((P.parts.0, P.parts.1), P.parts.2) })

-- ---- the head

second : (kind : Kind) (e v : ℤ) (head : List ℕ) (count : ℕ) → kind ≡ kinds.Point e v → head ≡ kind_words kind count → get_or head 1 0 ≡ cast_unsigned w64 e
second kind e v head count same h = ap (λ (l : List ℕ). get_or l 1 0) h ∙ ap (λ (k : Kind). get_or (kind_words k count) 1 0) same

-- a head that is not a ray's, and whose second word is not that of a narrow number but 0
pub no_kind : (a : Instance) (head : List ℕ) (count : ℕ) (mult : List (ℕ × ℤ)) (e : ℤ) → (head ≡ 1 ∷ 0 ∷ 0 ∷ 0 ∷ count ∷ [] → ⊥) → e ≡ cast_signed w64 (get_or head 1 0) → (IsMultiplier e → ⊥) → (kind : Kind) → IsHead a head kind count mult → ⊥
no_kind a head count mult e ray same bad kinds.Ray H = ray H.words
no_kind a head count mult e ray same bad (kinds.Point f v) H =
    let back : e ≡ f = same ∙ ap (cast_signed w64) (second (kinds.Point f v) f v head count refl H.words) ∙ narrow_back f H.parts.0.0 in
    bad (subst IsMultiplier (sym back) H.parts.0)

-- a head that is neither a ray's nor that of a point cut with this bound
pub other_kind : (a : Instance) (head : List ℕ) (count : ℕ) (mult : List (ℕ × ℤ)) (e v : ℤ) → (head ≡ 1 ∷ 0 ∷ 0 ∷ 0 ∷ count ∷ [] → ⊥) → e ≡ cast_signed w64 (get_or head 1 0) → v ≡ right_sum a mult → (head ≡ kind_words (kinds.Point e v) count → ⊥) → (kind : Kind) → IsHead a head kind count mult → ⊥
other_kind a head count mult e v ray same sum point kinds.Ray H = ray H.words
other_kind a head count mult e v ray same sum point (kinds.Point f u) H =
    let back : e ≡ f = same ∙ ap (cast_signed w64) (second (kinds.Point f u) f u head count refl H.words) ∙ narrow_back f H.parts.0.0 in
    point (H.words ∙ λ i. kind_words (kinds.Point (sym back i) (sym (sum ∙ H.parts.1) i)) count)

-- ---- words that are no cut's

pub none_by_size : (a : Instance) (words : List ℕ) → length words ≢ item_length a → SpellsCut a words → ⊥
none_by_size a words n S = n S.2.size

pub none_by_choices : (a : Instance) (words : List ℕ) → ((ng : List Choice) → AreChoiceWords (pair_words a words) ng → ⊥) → SpellsCut a words → ⊥
none_by_choices a words n S = n (no_good_of S.0) (choices_of_cut a S.0 words S.1 S.2)

pub none_by_multipliers : (a : Instance) (words : List ℕ) → ((mult : List (ℕ × ℤ)) → AreMultiplierWords (constraint_words a words) mult → ⊥) → SpellsCut a words → ⊥
none_by_multipliers a words n S = n (multipliers_of S.0) (multipliers_of_cut a S.0 words S.1 S.2)

same_choices : (a : Instance) (cut : Cut) (words : List ℕ) (ng : List Choice) → IsInPlace a cut → AreWordsOf a cut words → AreChoiceWords (pair_words a words) ng → no_good_of cut ≡ ng
same_choices a cut words ng P S C = choices_unique (pair_words a words) (no_good_of cut) (choices_of_cut a cut words P S) ∙ sym (choices_unique (pair_words a words) ng C)

same_multipliers : (a : Instance) (cut : Cut) (words : List ℕ) (mult : List (ℕ × ℤ)) → IsInPlace a cut → AreWordsOf a cut words → AreMultiplierWords (constraint_words a words) mult → multipliers_of cut ≡ mult
same_multipliers a cut words mult P S M = multipliers_unique (constraint_words a words) (multipliers_of cut) (multipliers_of_cut a cut words P S) ∙ sym (multipliers_unique (constraint_words a words) mult M)

pub none_by_kind : (a : Instance) (words : List ℕ) (ng : List Choice) (mult : List (ℕ × ℤ)) → AreChoiceWords (pair_words a words) ng → AreMultiplierWords (constraint_words a words) mult → ((kind : Kind) → IsHead a (take 5 words) kind (length ng) mult → ⊥) → SpellsCut a words → ⊥
none_by_kind a words ng mult C M n S =
    let h = head_of_cut a S.0 words S.1 S.2 in
    n h.0 (subst (λ (l : List (ℕ × ℤ)). IsHead a (take 5 words) h.0 (length ng) l) (same_multipliers a S.0 words mult S.1 S.2 M)
    (subst (λ (l : List Choice). IsHead a (take 5 words) h.0 (length l) (multipliers_of S.0)) (same_choices a S.0 words ng S.1 S.2 C) h.2))

pub ruleset nones = (none_by_size, none_by_choices, none_by_multipliers, none_by_kind)

-- ---- words are of one cut

same_kind : (j k : Kind) (count : ℕ) (a : Instance) (mult : List (ℕ × ℤ)) → kind_words j count ≡ kind_words k count → HasKind a mult j → HasKind a mult k → j ≡ k
same_kind kinds.Ray kinds.Ray count a mult e g h = refl
same_kind kinds.Ray (kinds.Point f u) count a mult e g h = absurd (omega (arith, ap (λ (l : List ℕ). get_or l 0 0) e))
same_kind (kinds.Point f u) kinds.Ray count a mult e g h = absurd (omega (arith, ap (λ (l : List ℕ). get_or l 0 0) e))
same_kind (kinds.Point f u) (kinds.Point d v) count a mult e g h =
    let words : cast_unsigned w64 f ≡ cast_unsigned w64 d = ap (λ (l : List ℕ). get_or l 1 0) e in
    let first : f ≡ d = sym (narrow_back f g.0.0) ∙ ap (cast_signed w64) words ∙ narrow_back d h.0.0 in
    let then : u ≡ v = sym g.1 ∙ h.1 in
    λ i. kinds.Point (first i) (then i)

pub one_cut : (a : Instance) (c d : Cut) (words : List ℕ) → IsInPlace a c → AreWordsOf a c words → IsInPlace a d → AreWordsOf a d words → c ≡ d
one_cut a c d words P S Q U =
    let h = head_of_cut a c words P S in
    let k = head_of_cut a d words Q U in
    let ng : no_good_of c ≡ no_good_of d = same_choices a c words (no_good_of d) P S (choices_of_cut a d words Q U) in
    let mult : multipliers_of c ≡ multipliers_of d = same_multipliers a c words (multipliers_of d) P S (multipliers_of_cut a d words Q U) in
    let kind : h.0 ≡ k.0 = same_kind h.0 k.0 (length (no_good_of d)) a (multipliers_of d) (ap (λ (l : List Choice). kind_words h.0 (length l)) (sym ng) ∙ sym h.2.words ∙ k.2.words) (subst (λ (l : List (ℕ × ℤ)). HasKind a l h.0) mult h.2.parts) k.2.parts in
    h.1 ∙ (λ i. cut_of (kind i) (ng i) (mult i)) ∙ sym k.1

-- words of a cut that passes are those of no other cut
pub passing_same : (a : Instance) (cut : Cut) (words : List ℕ) → IsInPlace a cut → AreWordsOf a cut words → SpellsPassing a words → Passes a cut
passing_same a cut words P S T = subst (Passes a) (one_cut a T.0 cut words T.1 T.2 P S) T.3

pub passing_spells : (a : Instance) (words : List ℕ) → (SpellsCut a words → ⊥) → SpellsPassing a words → ⊥
passing_spells a words n T = n (T.0, T.1, T.2)
