-- Facts on whole numbers that cannot fail hold.
use Rattle.std.proofs.Common.{ℕ, ◌<◌, ◌≡◌, refl, ap, ◌∙◌, arith, ℤ, ◌≤ℤ◌, ◌<ℤ◌, List, [], ◌∷◌, get_or, ◌⊎◌, inl, inr}
use Rattle.std.specs.Prelude.{All}
use Rattle.std.proofs.lemmas.Int.{ints, by_lt_z}
use Rattle.std.proofs.lemmas.Bool.{cases_lt, cases_eq}
use Rattle.nogoods.specs.declared.choice.Choice.{Choice}
use Rattle.lpcc_case.specs.declared.constraint.Kind.{Kind}
use Rattle.lpcc_case.specs.declared.constraint.Kind.TheVariants.{Ge, Eq}
use Rattle.lpcc_case.specs.Instance.{Instance, constraint_at, chosen}
use Rattle.lpcc_case.specs.Points.{Point, Relates, IsTight, IsTightAt, IsComplementary}

-- it cannot fail
abbrev pub Holds : Type 0 → Type 0
Holds P = (P → ⊥) → ⊥

pub same_or_not : (a b : ℤ) → (a ≡ b) ⊎ (a ≡ b → ⊥)
same_or_not a b =
    by_lt_z a b (λ lt. inr (λ e. omega (arith, ints, e, lt)))
    (λ le. by_lt_z b a (λ lt. inr (λ e. omega (arith, ints, e, lt))) (λ ge. inl (omega (arith, ints, le, ge))))

pub same_stable : (a b : ℤ) → Holds (a ≡ b) → a ≡ b
same_stable a b h = elim (same_or_not a b) [
  | inl same ↦ same
  | inr not ↦ absurd (h not)
]

pub le_stable : (a b : ℤ) → Holds (a ≤ℤ b) → a ≤ℤ b
le_stable a b h = by_lt_z b a (λ lt. absurd (h (λ le. omega (arith, ints, lt, le)))) (λ le. le)

pub lt_stable : (a b : ℤ) → Holds (a <ℤ b) → a <ℤ b
lt_stable a b h = by_lt_z a b (λ lt. lt) (λ le. absurd (h (λ lt. omega (arith, ints, lt, le))))

pub below_stable : (m n : ℕ) → Holds (m < n) → m < n
below_stable m n h = elim (cases_lt m n) [
  | inl lt ↦ lt
  | inr le ↦ absurd (h (λ lt. omega arith))
]

pub relates_stable : (k : Kind) (a b : ℤ) → Holds (Relates k a b) → Relates k a b
relates_stable Ge a b h = le_stable b a h
relates_stable Eq a b h = same_stable a b h

-- what holds of each element, where each may be concluded
pub all_stable : {T : Type 0} (P : T → Type 0) (xs : List T) → ((x : T) → Holds (P x) → P x) → Holds (All P xs) → All P xs
all_stable P xs stable h k d inside = stable (get_or xs k d) (λ never. h (λ all. never (all k d inside)))

either_stable : (a b c d : ℤ) → Holds ((a ≡ b) ⊎ (c ≡ d)) → (a ≡ b) ⊎ (c ≡ d)
either_stable a b c d h = elim (same_or_not a b) [
  | inl first ↦ inl first
  | inr differ ↦ inr (same_stable c d (λ never. h (λ one. elim one [
    | inl first ↦ differ first
    | inr second ↦ never second
  ])))
]

pub complementary_stable : (a : Instance) (p : Point a.columns) → Holds (IsComplementary a p) → IsComplementary a p
complementary_stable a p h =
    all_stable (λ pair. IsTight p (constraint_at a pair.0) ⊎ IsTight p (constraint_at a pair.1)) a.pairs
    (λ pair one. either_stable _ _ _ _ one) h

pub tight_stable : (a : Instance) (p : Point a.columns) (choices : List Choice) → Holds (IsTightAt a p choices) → IsTightAt a p choices
tight_stable a p choices h = all_stable (λ c. IsTight p (chosen a c)) choices (λ c one. same_stable _ _ one) h

pub numbers_same_or_not : (xs ys : List ℕ) → (xs ≡ ys) ⊎ (xs ≡ ys → ⊥)
numbers_same_or_not [] [] = inl refl
numbers_same_or_not [] (y ∷ ys) = inr (λ e. absurd (cc))
numbers_same_or_not (x ∷ xs) [] = inr (λ e. absurd (cc))
numbers_same_or_not (x ∷ xs) (y ∷ ys) = elim (cases_eq x y) [
  | inl head ↦ elim (numbers_same_or_not xs ys) [
    | inl tail ↦ inl (ap (λ z. z ∷ xs) head ∙ ap (λ zs. y ∷ zs) tail)
    | inr differ ↦ inr (λ e. differ (cc))
  ]
  | inr differ ↦ inr (λ e. differ (cc))
]

pub numbers_stable : (xs ys : List ℕ) → Holds (xs ≡ ys) → xs ≡ ys
numbers_stable xs ys h = elim (numbers_same_or_not xs ys) [
  | inl same ↦ same
  | inr not ↦ absurd (h not)
]
