-- Lists of choices without one of them.
use Rattle.std.proofs.Common.{◌≡◌, ℕ, zero, suc, ◌+◌, ◌-◌, ◌<◌, List, [], ◌∷◌, length, get_or, take, drop, inl, inr, Some, refl, sym, ap, ◌∙◌, arith, subst}
use Rattle.std.specs.Prelude.{All, Contains, IsTrue, nat_lt, slice_get, true}
use Rattle.std.specs.List.{remove}
use Rattle.std.proofs.lemmas.Bool.{cases_lt, lt-ltb}
use Rattle.std.proofs.lemmas.Option.{get_or_from_slice_get, slice_get_within}
use Rattle.std.proofs.lemmas.List.Edits.{get_or-remove_above, get_or-remove_below, length-remove}
use Rattle.std.proofs.lemmas.List.Elements.{All-append, All-drop, All-take}
use Rattle.lp_base.specs.Ascending.{ascends_by}
use Rattle.lp_base.proofs.Rises.{ascends_below, ascends_tail}
use Rattle.nogoods.specs.declared.choice.Choice.{Choice}
use Rattle.nogoods.specs.Choices.{pair_of, pairs_ascend}

pub All_remove : {X : Type 0} (P : X → Type 0) (xs : List X) (k : ℕ) → All P xs → All P (remove xs k)
All_remove P xs k all = All-append P (take k xs) (drop (suc k) xs) (All-take P k xs all) (All-drop P (suc k) xs all)

-- ---- ascending lists

ascends_cons : {X : Type 0} (key : X → ℕ) (x : X) (xs : List X) → All (λ y. key x < key y) xs → IsTrue (ascends_by key xs) → IsTrue (ascends_by key (x ∷ xs))
ascends_cons key x [] below rest = refl
ascends_cons key x (y ∷ ys) below rest =
    let less : nat_lt (key x) (key y) ≡ true = lt-ltb (key x) (key y) (below 0 y (omega arith)) in
    rw less rest

pub ascends_remove : {X : Type 0} (key : X → ℕ) (xs : List X) (k : ℕ) → IsTrue (ascends_by key xs) → IsTrue (ascends_by key (remove xs k))
ascends_remove key [] zero rises = refl
ascends_remove key [] (suc k) rises = refl
ascends_remove key (x ∷ xs) zero rises = ascends_tail key x xs rises
ascends_remove key (x ∷ xs) (suc k) rises =
    ascends_cons key x (remove xs k) (All_remove (λ y. key x < key y) xs k (λ i d lt. ascends_below key x xs i d rises lt)) (ascends_remove key xs k (ascends_tail key x xs rises))

rising : {X : Type 0} (key : X → ℕ) (xs : List X) (i j : ℕ) (d : X) → IsTrue (ascends_by key xs) → i < j → j < length xs → key (get_or xs i d) < key (get_or xs j d)
rising key [] i j d rises lt within = absurd (omega arith)
rising key (x ∷ xs) zero zero d rises lt within = absurd (omega arith)
rising key (x ∷ xs) zero (suc j) d rises lt within = ascends_below key x xs j d rises (omega arith)
rising key (x ∷ xs) (suc i) zero d rises lt within = absurd (omega arith)
rising key (x ∷ xs) (suc i) (suc j) d rises lt within = rising key xs i j d (ascends_tail key x xs rises) (omega arith) (omega arith)

apart : {X : Type 0} (key : X → ℕ) (xs : List X) (i j : ℕ) (d : X) → IsTrue (ascends_by key xs) → i < length xs → j < length xs → (i ≡ j → ⊥) → key (get_or xs i d) ≡ key (get_or xs j d) → ⊥
apart key xs i j d rises li lj differ same = elim (cases_lt i j) [
  | inl below ↦ let h = rising key xs i j d rises below lj in omega arith
  | inr past ↦ let lt : j < i = omega arith in let h = rising key xs j i d rises lt li in omega arith
]

-- ---- what is left

pub left_element : {X : Type 0} (xs : List X) (j i : ℕ) (d : X) → j < length xs → i < length (remove xs j) → (m : ℕ) × (m < length xs) × (m ≡ j → ⊥) × (get_or (remove xs j) i d ≡ get_or xs m d)
left_element xs j i d lj li =
    let size = length-remove xs j lj in
    elim (cases_lt i j) [
      | inl below ↦ (i, omega arith, λ same. omega arith, get_or-remove_below xs j d i below lj)
      | inr past ↦ (i + 1, omega arith, λ same. omega arith, get_or-remove_above xs j d i past lj)
    ]

pub still_contains : {X : Type 0} (xs : List X) (p q : ℕ) (x : X) → p < length xs → q < length xs → (q ≡ p → ⊥) → get_or xs q x ≡ x → Contains (remove xs p) x
still_contains xs p q x lp lq differ here =
    let size = length-remove xs p lp in
    elim (cases_lt q p) [
      | inl below ↦ (q, omega arith, get_or-remove_below xs p x q below lp ∙ here)
      | inr past ↦
          let after : p < q = omega arith in
          let next : q - 1 + 1 ≡ q = omega arith in
          (q - 1, omega arith, get_or-remove_above xs p x (q - 1) (omega arith) lp ∙ ap (λ k. get_or xs k x) next ∙ here)
    ]

pub removed_within : {X : Type 0} (xs : List X) (k : ℕ) (x : X) → k < length xs → Contains (remove xs k) x → Contains xs x
removed_within xs k x lt (i, li, here) = let m = left_element xs k i x lt li in (m.0, m.1, sym m.3 ∙ here)

-- of two no-goods, one within the other, each without the same choice
pub others_within : (old new : List Choice) (p j : ℕ) (c : Choice) → IsTrue (pairs_ascend new) → All (Contains old) new → slice_get old p ≡ Some c → slice_get new j ≡ Some c → All (Contains (remove old p)) (remove new j)
others_within old new p j c rises within at_old at_new i d li =
    let lj = slice_get_within new j c at_new in
    let lp = slice_get_within old p c at_old in
    let m = left_element new j i d lj li in
    let x = get_or (remove new j) i d in
    let q : Contains old (get_or new m.0 d) = within m.0 d m.1 in
    let there : Contains old x = subst (Contains old) (sym m.3) q in
    let not_c : pair_of x ≡ pair_of c → ⊥ = λ same. apart pair_of new m.0 j d rises m.1 lj m.2 (sym (ap pair_of m.3) ∙ same ∙ sym (ap pair_of (get_or_from_slice_get new j c d at_new))) in
    let other : there.0 ≡ p → ⊥ = λ same. not_c (sym (ap pair_of there.2) ∙ ap (λ k. pair_of (get_or old k x)) same ∙ ap pair_of (get_or_from_slice_get old p c x at_old)) in
    still_contains old p there.0 x lp there.1 other there.2
