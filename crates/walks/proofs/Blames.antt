-- The choices that the multipliers need are among those given, and are enough.
use Rattle.std.proofs.Common.{ℕ, ◌≡◌, refl, sym, subst, arith, ℤ, pos, ◌<ℤ◌, List, [], ◌∷◌, Bool, true, false, cond, eqb, ◌&&◌, not, ◌⊎◌, inl, inr}
use Rattle.std.specs.Prelude.{Any, int_lt}
use Rattle.std.specs.List.{AllByRecursion}
use Rattle.std.proofs.lemmas.Int.{ints}
use Rattle.std.proofs.lemmas.Bool.{eqb-true, eq-eqb, or_cases, or_left, or_right, and_from}
use Rattle.std.proofs.lemmas.List.Folds.{Any-from_list_any}
use Rattle.nogoods.specs.declared.choice.Choice.{Choice}
use Rattle.lpcc_case.specs.Instance.{Instance, chosen_number}
use Rattle.lpcc_case.specs.Points.{coefficient}
use Rattle.walks.specs.Values.{is_chosen}
use Rattle.walks.specs.Duals.{blamed, blamed_after}

-- what holds of each choice holds of those that are blamed
kept_by : (b : Bool) (P : Choice → Type 0) (c : Choice) (cs : List Choice) → P c → AllByRecursion P cs → AllByRecursion P (cond b (c ∷ cs) cs)
kept_by true P c cs h rest = (h, rest)
kept_by false P c cs h rest = rest

pub blamed_keeps : (P : Choice → Type 0) (a : Instance) (mult : List (ℕ × ℤ)) (earlier tight : List Choice) → AllByRecursion P tight → AllByRecursion P (blamed_after a mult earlier tight)
blamed_keeps P a mult earlier [] h = tt
blamed_keeps P a mult earlier (c ∷ cs) h =
    kept_by (int_lt (coefficient mult (chosen_number a c)) (pos 0) && not (is_chosen a earlier (chosen_number a c))) P c (blamed_after a mult (c ∷ earlier) cs) h.0 (blamed_keeps P a mult (c ∷ earlier) cs h.1)

negative_test : (z : ℤ) → z <ℤ pos 0 → int_lt z (pos 0) ≡ true
negative_test z h = grind (arith, ints)

-- a choice more
later_by : (b : Bool) (a : Instance) (k : ℕ) (c : Choice) (cs : List Choice) → is_chosen a cs k ≡ true → is_chosen a (cond b (c ∷ cs) cs) k ≡ true
later_by true a k c cs h = or_right (eqb (chosen_number a c) k) (is_chosen a cs k) h
later_by false a k c cs h = h

here_by : (e : Bool) (a : Instance) (mult : List (ℕ × ℤ)) (earlier : List Choice) (k : ℕ) (c : Choice) (cs : List Choice) → coefficient mult k <ℤ pos 0 → chosen_number a c ≡ k → is_chosen a earlier (chosen_number a c) ≡ e → (is_chosen a (cond (int_lt (coefficient mult (chosen_number a c)) (pos 0) && not e) (c ∷ cs) cs) k ≡ true) ⊎ (is_chosen a earlier k ≡ true)
here_by true a mult earlier k c cs neg same h = inr (subst (λ (n : ℕ). is_chosen a earlier n ≡ true) same h)
here_by false a mult earlier k c cs neg same h =
    let t : int_lt (coefficient mult (chosen_number a c)) (pos 0) ≡ true = negative_test (coefficient mult (chosen_number a c)) (subst (λ (n : ℕ). coefficient mult n <ℤ pos 0) (sym same) neg) in
    let both : (int_lt (coefficient mult (chosen_number a c)) (pos 0) && true) ≡ true = and_from (int_lt (coefficient mult (chosen_number a c)) (pos 0)) true t refl in
    inl (subst (λ (b : Bool). is_chosen a (cond b (c ∷ cs) cs) k ≡ true) (sym both) (or_left (eqb (chosen_number a c) k) (is_chosen a cs k) (eq-eqb (chosen_number a c) k same)))

-- of a chosen constraint with a negative multiplier a choice is blamed
blamed_from : (a : Instance) (mult : List (ℕ × ℤ)) (earlier tight : List Choice) (k : ℕ) → coefficient mult k <ℤ pos 0 → is_chosen a tight k ≡ true → (is_chosen a (blamed_after a mult earlier tight) k ≡ true) ⊎ (is_chosen a earlier k ≡ true)
blamed_from a mult earlier [] k neg h = absurd (cc)
blamed_from a mult earlier (c ∷ cs) k neg h =
    elim (or_cases (eqb (chosen_number a c) k) (is_chosen a cs k) h) [
      | inl here ↦ here_by (is_chosen a earlier (chosen_number a c)) a mult earlier k c (blamed_after a mult (c ∷ earlier) cs) neg (eqb-true (chosen_number a c) k here) refl
      | inr later ↦ elim (blamed_from a mult (c ∷ earlier) cs k neg later) [
        | inl found ↦ inl (later_by (int_lt (coefficient mult (chosen_number a c)) (pos 0) && not (is_chosen a earlier (chosen_number a c))) a k c (blamed_after a mult (c ∷ earlier) cs) found)
        | inr before ↦ elim (or_cases (eqb (chosen_number a c) k) (is_chosen a earlier k) before) [
          | inl same ↦ here_by (is_chosen a earlier (chosen_number a c)) a mult earlier k c (blamed_after a mult (c ∷ earlier) cs) neg (eqb-true (chosen_number a c) k same) refl
          | inr old ↦ inr old
        ]
      ]
    ]

-- the test of names, as it is stated
named_of : (a : Instance) (k : ℕ) (cs : List Choice) → is_chosen a cs k ≡ true → Any (λ c. chosen_number a c ≡ k) cs
named_of a k cs h =
    let any = Any-from_list_any (λ c. eqb (chosen_number a c) k) cs h in
    (any.0, any.1, any.2, any.3, eqb-true (chosen_number a any.1) k any.4)

pub blamed_is_enough : (a : Instance) (mult : List (ℕ × ℤ)) (tight : List Choice) (k : ℕ) → coefficient mult k <ℤ pos 0 → is_chosen a tight k ≡ true → Any (λ c. chosen_number a c ≡ k) (blamed a mult tight)
blamed_is_enough a mult tight k neg h = elim (blamed_from a mult [] tight k neg h) [
  | inl found ↦ named_of a k (blamed a mult tight) found
  | inr none ↦ absurd (cc)
]
