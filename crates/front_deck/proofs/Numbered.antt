-- Names of a letter and a number: distinct, and each in its place.
use Rattle.std.proofs.Common.{ℕ, zero, suc, ◌+◌, ◌^◌, ◌<◌, ◌≤◌, ◌≡◌, false, eqb, List, [], ◌∷◌, ◌++◌, map, refl, ap, ◌∙◌, append_assoc, arith}
use Rattle.std.specs.Fmt.{decimal}
use Rattle.std.specs.List.{AllByRecursion, range_with_len}
use Rattle.std.specs.Str.{bytes_eq}
use Rattle.std.proofs.lemmas.Bool.{and_left, or_from}
use Rattle.std.proofs.lemmas.List.Folds.{list_any-append}
use Rattle.mps_lex.specs.Kinds.{Name}
use Rattle.decks.specs.Names.{has}
use Rattle.kkt_front.specs.Decks.{listed}
use Rattle.deck_print.specs.Printed.{AreDistinct, line_text, numbered_name}
use Rattle.deck_print.proofs.NumberedNames.{numbered_apart}

-- names from this number on
abbrev named_from : ℕ → ℕ → ℕ → List Name
named_from c a n = map (numbered_name c) (range_with_len a n)

abbrev pub names : ℕ → ℕ → List Name
names c n = listed (numbered_name c) n

later_apart : (c i a n : ℕ) → i < a → a + n ≤ 2 ^ 60 → has (named_from c a n) (numbered_name c i) ≡ false
later_apart c i a zero l few = refl
later_apart c i a (suc n) l few =
    or_from (bytes_eq (numbered_name c i) (numbered_name c a)) (has (named_from c (a + 1) n) (numbered_name c i)) (numbered_apart c i a (omega (arith, l, few)) (omega (arith, few)) (λ e. omega (arith, e, l)))
    (later_apart c i (a + 1) n (omega (arith, l)) (omega (arith, few)))

distinct_from : (c a n : ℕ) → a + n ≤ 2 ^ 60 → AreDistinct (named_from c a n)
distinct_from c a zero few = tt
distinct_from c a (suc n) few = (later_apart c a (a + 1) n (omega arith) (omega (arith, few)), distinct_from c (a + 1) n (omega (arith, few)))

pub distinct_names : (c n : ℕ) → n ≤ 2 ^ 60 → AreDistinct (names c n)
distinct_names c n few = distinct_from c 0 n (omega (arith, few))

-- a name that begins with another letter
pub first_apart : (c d : ℕ) (v w : List ℕ) → eqb d c ≡ false → bytes_eq (d ∷ v) (c ∷ w) ≡ false
first_apart c d v w e = and_left (eqb d c) (bytes_eq v w) e

other_from : (c d a n : ℕ) (w : List ℕ) → eqb d c ≡ false → has (named_from c a n) (d ∷ w) ≡ false
other_from c d a zero w e = refl
other_from c d a (suc n) w e = or_from (bytes_eq (d ∷ w) (numbered_name c a)) (has (named_from c (a + 1) n) (d ∷ w)) (first_apart c d w (decimal (a + 1)) e) (other_from c d (a + 1) n w e)

pub other_letter : (c d n : ℕ) (w : List ℕ) → eqb d c ≡ false → has (names c n) (d ∷ w) ≡ false
other_letter c d n w e = other_from c d 0 n w e

-- ---- lists of names

-- none of these is among those
abbrev pub AreNotIn : List Name → List Name → Type 0
AreNotIn ns ms = AllByRecursion (λ m. has ns m ≡ false) ms

pub not_in_both : (ms ns : List Name) (n : Name) → has ms n ≡ false → has ns n ≡ false → has (ms ++ ns) n ≡ false
not_in_both ms ns n h k = list_any-append (bytes_eq n) ms ns ∙ or_from (has ms n) (has ns n) h k

pub distinct_and : (ms ns : List Name) → AreDistinct ms → AreDistinct ns → AreNotIn ns ms → AreDistinct (ms ++ ns)
distinct_and [] ns d e f = e
distinct_and (m ∷ ms) ns d e f = (not_in_both ms ns m d.0 f.0, distinct_and ms ns d.1 e f.1)

-- ---- the texts of lines

pub three_words : (a b c : Name) → ((32 ∷ a) ++ (32 ∷ b)) ++ ((32 ∷ c) ++ 10 ∷ []) ≡ line_text (a ∷ b ∷ c ∷ [])
three_words a b c = ap (λ t. 32 ∷ t) (append_assoc a (32 ∷ b) (32 ∷ c ++ 10 ∷ []))

pub four_parts : (a b c d : List ℕ) → ((a ++ b) ++ c) ++ d ≡ a ++ (b ++ (c ++ d))
four_parts a b c d = append_assoc (a ++ b) c d ∙ append_assoc a b (c ++ d)
