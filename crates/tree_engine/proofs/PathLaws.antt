-- Paths with one choice more.
use Rattle.std.proofs.Common.{inl, inr, ℕ, zero, suc, ◌+◌, ◌<◌, ◌≤◌, ◌≡◌, refl, sym, ap, ◌∙◌, arith, Bool, true, false, IsTrue, List, [], ◌∷◌, ◌++◌, length, get_or, nat_lt, take, drop, append_assoc}
use Rattle.std.specs.Prelude.{All, Contains, ◌↔◌, if◌then◌else◌}
use Rattle.std.specs.List.{AllByRecursion}
use Rattle.std.proofs.lemmas.Bool.{cases_lt, le-ltb, lt-ltb, false≢true}
use Rattle.std.proofs.lemmas.Option.{get_or_from_slice_get, slice_get-get_or, slice_get_within}
use Rattle.std.proofs.lemmas.List.{drop_all, drop_more, get_or_default, take_all, take_more}
use Rattle.std.proofs.lemmas.List.Elements.{All-cons, All-contains_itself, All-from_recursion, All-weaker, recursion_from_All}
use Rattle.lp_base.proofs.Rises.{ascends_below, ascends_tail, few_ascending}
use Rattle.nogoods.specs.declared.choice.Choice.{Choice}
use Rattle.nogoods.specs.Choices.{pair_of, pairs_ascend}
use Rattle.lpcc_case.specs.Instance.{Instance}
use Rattle.lpcc_case.specs.Pieces.{NamesPairs}
use Rattle.tree_engine.specs.Paths.{IsBehind, IsFree, IsOn, with_choice}
use Rattle.tree_engine.proofs.Lists.{here, there}

-- ---- what the longer path contains

all_cond : (P : Choice → Type 0) (c d : Choice) (path more : List Choice) (b : Bool) → P c → P d → AllByRecursion P path → AllByRecursion P more → AllByRecursion P (if b then c ∷ d ∷ path else d ∷ more)
all_cond P c d path more true h k rest tail = (h, (k, rest))
all_cond P c d path more false h k rest tail = (k, tail)

all_by : (P : Choice → Type 0) (c : Choice) (path : List Choice) → P c → AllByRecursion P path → AllByRecursion P (with_choice c path)
all_by P c [] h all = (h, tt)
all_by P c (d ∷ path) h all = all_cond P c d path (with_choice c path) (nat_lt c.pair d.pair) h all.0 all.1 (all_by P c path h all.1)

pub all_with : (P : Choice → Type 0) (c : Choice) (path : List Choice) → P c → All P path → All P (with_choice c path)
all_with P c path h all = All-from_recursion P (with_choice c path) (all_by P c path h (recursion_from_All P path all))

new_cond : (c d : Choice) (path more : List Choice) (b : Bool) → Contains more c → Contains (if b then c ∷ d ∷ path else d ∷ more) c
new_cond c d path more true ih = here c (d ∷ path)
new_cond c d path more false ih = there d more c ih

pub contains_new : (c : Choice) (path : List Choice) → Contains (with_choice c path) c
contains_new c [] = here c []
contains_new c (d ∷ path) = new_cond c d path (with_choice c path) (nat_lt c.pair d.pair) (contains_new c path)

old_cond : (c d : Choice) (path more : List Choice) (b : Bool) → All (Contains more) path → All (Contains (if b then c ∷ d ∷ path else d ∷ more)) (d ∷ path)
old_cond c d path more true ih = All-weaker (Contains (d ∷ path)) (Contains (c ∷ d ∷ path)) (λ x h. there c (d ∷ path) x h) (d ∷ path) (All-contains_itself (d ∷ path))
old_cond c d path more false ih = All-cons (Contains (d ∷ more)) d path (here d more) (All-weaker (Contains more) (Contains (d ∷ more)) (λ x h. there d more x h) path ih)

pub contains_old : (c : Choice) (path : List Choice) → All (Contains (with_choice c path)) path
contains_old c [] = λ k d inside. absurd (omega (arith, inside))
contains_old c (d ∷ path) = old_cond c d path (with_choice c path) (nat_lt c.pair d.pair) (contains_old c path)

-- ---- its length

length_cond : (c d : Choice) (path more : List Choice) (b : Bool) → length more ≡ length path + 1 → length (if b then c ∷ d ∷ path else d ∷ more) ≡ length (d ∷ path) + 1
length_cond c d path more true ih = omega arith
length_cond c d path more false ih = omega (arith, ih)

pub length_with : (c : Choice) (path : List Choice) → length (with_choice c path) ≡ length path + 1
length_with c [] = refl
length_with c (d ∷ path) = length_cond c d path (with_choice c path) (nat_lt c.pair d.pair) (length_with c path)

-- ---- its order

ascends_cons : (d : Choice) (path : List Choice) → AllByRecursion (λ c. d.pair < c.pair) path → IsTrue (pairs_ascend path) → IsTrue (pairs_ascend (d ∷ path))
ascends_cons d [] above up = refl
ascends_cons d (e ∷ path) above up = rw (lt-ltb d.pair e.pair above.0) up

tail_above : (d : Choice) (path : List Choice) → IsTrue (pairs_ascend (d ∷ path)) → All (λ c. d.pair < c.pair) path
tail_above d path up k e inside = ascends_below pair_of d path k e up inside

ascends_cond : (c d : Choice) (path : List Choice) (b : Bool) → nat_lt c.pair d.pair ≡ b → (c.pair ≡ d.pair → ⊥) → IsTrue (pairs_ascend (d ∷ path)) → IsTrue (pairs_ascend (with_choice c path)) → IsTrue (pairs_ascend (if b then c ∷ d ∷ path else d ∷ with_choice c path))
ascends_cond c d path true e apart up ih = rw e up
ascends_cond c d path false e apart up ih =
    let above : d.pair < c.pair = elim (cases_lt d.pair c.pair) [
      | inl lt ↦ lt
      | inr ge ↦ absurd (not_below c.pair d.pair e ge apart)
    ] in
    ascends_cons d (with_choice c path) (recursion_from_All (λ x. d.pair < x.pair) (with_choice c path) (all_with (λ x. d.pair < x.pair) c path above (tail_above d path up))) ih
  where
    not_below : (m n : ℕ) → nat_lt m n ≡ false → m ≤ n → (m ≡ n → ⊥) → ⊥
    not_below m n e le apart = elim (cases_lt m n) [
      | inl lt ↦ false≢true (sym e ∙ lt-ltb m n lt)
      | inr ge ↦ apart (omega (arith, le, ge))
    ]

pub ascends_with : (c : Choice) (path : List Choice) → IsTrue (pairs_ascend path) → (IsOn path c.pair → ⊥) → IsTrue (pairs_ascend (with_choice c path))
ascends_with c [] up free = refl
ascends_with c (d ∷ path) up free =
    ascends_cond c d path (nat_lt c.pair d.pair) refl (λ e. free (0, d, omega arith, refl, sym e)) up
    (ascends_with c path (ascends_tail pair_of d path up) (λ on. free (suc on.0, on.1, omega (arith, on.2), on.3, on.4)))

-- ---- a pair stands once

pub apart : (path : List Choice) (i j : ℕ) (d : Choice) → IsTrue (pairs_ascend path) → i < j → j < length path → (get_or path i d).pair < (get_or path j d).pair
apart [] i j d up lt inside = absurd (omega (arith, inside))
apart (x ∷ path) i zero d up lt inside = absurd (omega (arith, lt))
apart (x ∷ path) zero (suc j) d up lt inside = ascends_below pair_of x path j d up (omega (arith, inside))
apart (x ∷ path) (suc i) (suc j) d up lt inside = apart path i j d (ascends_tail pair_of x path up) (omega (arith, lt)) (omega (arith, inside))

read : (path : List Choice) (x d : Choice) (i : ℕ) → i < length path → get_or path i x ≡ x → get_or path i d ≡ x
read path x d i inside e = get_or_default path i d x inside ∙ e

-- two choices of a path with one pair are one
pub one_of_pair : (path : List Choice) (c d : Choice) → IsTrue (pairs_ascend path) → Contains path c → Contains path d → c.pair ≡ d.pair → c ≡ d
one_of_pair path c d up (i, low, at) (j, high, there_is) e =
    let first : get_or path i c ≡ c = at in
    let second : get_or path j c ≡ d = read path d c j high there_is in
    elim (cases_lt i j) [
      | inl lt ↦ absurd (omega (arith, apart path i j c up lt high, ap pair_of first, ap pair_of second, e))
      | inr ge ↦ elim (cases_lt j i) [
        | inl lt ↦ absurd (omega (arith, apart path j i c up lt low, ap pair_of first, ap pair_of second, e))
        | inr le ↦
            let same : i ≡ j = omega (arith, ge, le) in
            sym first ∙ ap (λ k. get_or path k c) same ∙ second
      ]
    ]

-- ---- a longer path of an instance

pub named_with : (a : Instance) (c : Choice) (path : List Choice) → NamesPairs a path → IsFree a path c.pair → NamesPairs a (with_choice c path)
named_with a c path named free = all_with (λ x. x.pair < length a.pairs) c path free.0 named

pub shorter : (a : Instance) (c : Choice) (path : List Choice) → IsTrue (pairs_ascend path) → NamesPairs a path → IsFree a path c.pair → length path < length a.pairs
shorter a c path up named free =
    omega (arith, length_with c path, few_ascending pair_of (length a.pairs) (with_choice c path) (ascends_with c path up free.1) (named_with a c path named free))

-- ---- where the new choice stands

at_front : (c x : Choice) (rest : List Choice) → c.pair < x.pair → with_choice c (x ∷ rest) ≡ c ∷ x ∷ rest
at_front c x rest lt = rw (lt-ltb c.pair x.pair lt) refl

past_first : (c x : Choice) (rest : List Choice) → x.pair ≤ c.pair → with_choice c (x ∷ rest) ≡ x ∷ with_choice c rest
past_first c x rest le = rw (le-ltb c.pair x.pair le) refl

-- the first i choices come before the new one
abbrev pub ComesBehind : Choice → ℕ → List Choice → Type 0
ComesBehind c i path = with_choice c path ≡ take i path ++ with_choice c (drop i path)

pub place_here : (c : Choice) (path : List Choice) (i : ℕ) (d : Choice) → i < length path → c.pair < (get_or path i d).pair → ComesBehind c i path → with_choice c path ≡ take i path ++ c ∷ drop i path
place_here c path i d inside lt so_far =
    let x = get_or path i d in
    let rest = drop (i + 1) path in
    so_far ∙ ap (λ l. take i path ++ l) (ap (with_choice c) (drop_more path i d inside) ∙ at_front c x rest lt ∙ ap (λ l. c ∷ l) (sym (drop_more path i d inside)))

pub place_next : (c : Choice) (path : List Choice) (i : ℕ) (d : Choice) → i < length path → (get_or path i d).pair ≤ c.pair → ComesBehind c i path → ComesBehind c (i + 1) path
place_next c path i d inside le so_far =
    let x = get_or path i d in
    let rest = drop (i + 1) path in
    so_far ∙ ap (λ l. take i path ++ l) (ap (with_choice c) (drop_more path i d inside) ∙ past_first c x rest le)
    ∙ sym (append_assoc (take i path) (x ∷ []) (with_choice c rest)) ∙ ap (λ l. l ++ with_choice c rest) (sym (take_more path i d inside))

pub place_end : (c : Choice) (path : List Choice) (i : ℕ) → length path ≤ i → ComesBehind c i path → with_choice c path ≡ take (length path) path ++ c ∷ drop (length path) path
place_end c path i past so_far =
    so_far ∙ ap (λ l. take i path ++ with_choice c l) (drop_all i path past) ∙ ap (λ l. l ++ c ∷ []) (take_all i path past ∙ sym (take_all (length path) path (omega arith)))
    ∙ ap (λ l. take (length path) path ++ c ∷ l) (sym (drop_all (length path) path (omega arith)))

pub place_found : (c : Choice) (path : List Choice) (i : ℕ) (r : Bool) → r ≡ true → IsTrue r ↔ IsBehind path i c.pair → ComesBehind c i path → with_choice c path ≡ take i path ++ c ∷ drop i path
place_found c path i r e tells so_far =
    let x = tells.0 e in
    place_here c path i x.0 (slice_get_within path i x.0 x.1) (omega (arith, x.2, ap pair_of (get_or_from_slice_get path i x.0 x.0 x.1))) so_far

pub place_passed : (c : Choice) (path : List Choice) (i : ℕ) (r : Bool) → i < length path → r ≡ false → IsTrue r ↔ IsBehind path i c.pair → ComesBehind c i path → ComesBehind c (i + 1) path
place_passed c path i r inside e tells so_far =
    let x = get_or path i c in
    place_next c path i c inside (elim (cases_lt c.pair x.pair) [
      | inl lt ↦ absurd (false≢true (sym e ∙ tells.1 (x, slice_get-get_or path i c inside, lt)))
      | inr ge ↦ ge
    ]) so_far
