-- Lists of so many marks, of which k are set, are at most as many as the choices of k of them.
use Rattle.std.proofs.Common.{ℕ, zero, suc, ◌+◌, ◌<◌, ◌≤◌, ◌≡◌, refl, sym, ap, ◌∙◌, arith, Bool, true, false, List, [], ◌∷◌, length, map, eqb}
use Rattle.std.specs.List.{AllByRecursion, IsDistinct, list_any}
use Rattle.std.proofs.lemmas.Map.Steps.{length-le_from_distinct_below}
use Rattle.std.proofs.lemmas.Bool.{eqb-true}
use Rattle.orders.specs.Counts.{choose, count_set, IsChoiceOf, AreApart}

rank : List Bool → ℕ → ℕ
rank [] k = 0
rank (true ∷ bs) zero = 0
rank (true ∷ bs) (suc k) = rank bs k
rank (false ∷ bs) zero = rank bs zero
rank (false ∷ bs) (suc k) = choose (length bs) k + rank bs (suc k)

rank_below : (bs : List Bool) (k : ℕ) → count_set bs ≡ k → rank bs k < choose (length bs) k
unfolding rank
rank_below [] zero e = omega arith
rank_below [] (suc k) e = absurd (omega (arith, e))
rank_below (true ∷ bs) zero e = absurd (omega (arith, e))
rank_below (true ∷ bs) (suc k) e = omega (arith, rank_below bs k (omega (arith, e)))
rank_below (false ∷ bs) zero e = rank_below bs zero e
rank_below (false ∷ bs) (suc k) e = omega (arith, rank_below bs (suc k) e)

rank_same : (bs cs : List Bool) (k : ℕ) → length bs ≡ length cs → count_set bs ≡ k → count_set cs ≡ k → rank bs k ≡ rank cs k → bs ≡ cs
unfolding rank
rank_same [] [] k l eb ec e = refl
rank_same [] (c ∷ cs) k l eb ec e = absurd (omega (arith, l))
rank_same (b ∷ bs) [] k l eb ec e = absurd (omega (arith, l))
rank_same (true ∷ bs) (true ∷ cs) zero l eb ec e = absurd (omega (arith, eb))
rank_same (true ∷ bs) (true ∷ cs) (suc k) l eb ec e = ap (λ z. true ∷ z) (rank_same bs cs k (omega (arith, l)) (omega (arith, eb)) (omega (arith, ec)) e)
rank_same (true ∷ bs) (false ∷ cs) zero l eb ec e = absurd (omega (arith, eb))
rank_same (true ∷ bs) (false ∷ cs) (suc k) l eb ec e =
    let same : length bs ≡ length cs = omega (arith, l) in
    let below = rank_below bs k (omega (arith, eb)) in
    let size : choose (length bs) k ≡ choose (length cs) k = ap (λ n. choose n k) same in
    absurd (omega (arith, below, size, e))
rank_same (false ∷ bs) (true ∷ cs) zero l eb ec e = absurd (omega (arith, ec))
rank_same (false ∷ bs) (true ∷ cs) (suc k) l eb ec e =
    let same : length bs ≡ length cs = omega (arith, l) in
    let below = rank_below cs k (omega (arith, ec)) in
    let size : choose (length bs) k ≡ choose (length cs) k = ap (λ n. choose n k) same in
    absurd (omega (arith, below, size, e))
rank_same (false ∷ bs) (false ∷ cs) zero l eb ec e = ap (λ z. false ∷ z) (rank_same bs cs zero (omega (arith, l)) eb ec e)
rank_same (false ∷ bs) (false ∷ cs) (suc k) l eb ec e =
    let same : length bs ≡ length cs = omega (arith, l) in
    let size : choose (length bs) k ≡ choose (length cs) k = ap (λ n. choose n k) same in
    ap (λ z. false ∷ z) (rank_same bs cs (suc k) same eb ec (omega (arith, e, size)))

apart_by : (b : Bool) (x y : ℕ) → eqb x y ≡ b → (x ≡ y → ⊥) → eqb x y ≡ false
apart_by true x y e h = absurd (h (eqb-true x y e))
apart_by false x y e h = e

apart_from : (n k : ℕ) (b : List Bool) (bs : List (List Bool)) → IsChoiceOf n k b → AllByRecursion (IsChoiceOf n k) bs → AllByRecursion (λ c. b ≡ c → ⊥) bs → AllByRecursion (λ y. eqb (rank b k) y ≡ false) (map (λ c. rank c k) bs)
apart_from n k b [] is all apart = tt
apart_from n k b (c ∷ cs) is all apart = (
  apart_by (eqb (rank b k) (rank c k)) (rank b k) (rank c k) refl (λ e. apart.0 (rank_same b c k (is.0 ∙ sym all.0.0) is.1 all.0.1 e)),
  apart_from n k b cs is all.1 apart.1,
)

ranks_distinct : (n k : ℕ) (bs : List (List Bool)) → AllByRecursion (IsChoiceOf n k) bs → AreApart bs → IsDistinct eqb (map (λ c. rank c k) bs)
unfolding IsDistinct
ranks_distinct n k [] all apart = tt
ranks_distinct n k (b ∷ bs) all apart = (apart_from n k b bs all.0 all.1 apart.0, ranks_distinct n k bs all.1 apart.1)

any_by : (b c : Bool) (P : Type 0) → (b ≡ true → P) → (c ≡ true → P) → Rattle.std.specs.Prelude.◌||◌ b c ≡ true → P
any_by true c P f g h = f refl
any_by false c P f g h = g h

ranks_below : (n k q : ℕ) (bs : List (List Bool)) → AllByRecursion (IsChoiceOf n k) bs → list_any (eqb q) (map (λ c. rank c k) bs) ≡ true → q < choose n k
ranks_below n k q [] all h = absurd (cc)
ranks_below n k q (b ∷ bs) all h =
    any_by (eqb q (rank b k)) (list_any (eqb q) (map (λ c. rank c k) bs)) (q < choose n k)
    (λ here. let e : q ≡ rank b k = eqb-true q (rank b k) here in let s : choose (length b) k ≡ choose n k = ap (λ m. choose m k) all.0.0 in omega (arith, e, rank_below b k all.0.1, s))
    (λ later. ranks_below n k q bs all.1 later) h

pub few_choices : (n k : ℕ) (bs : List (List Bool)) → AllByRecursion (IsChoiceOf n k) bs → AreApart bs → length bs ≤ choose n k
few_choices n k bs all apart =
    let few = length-le_from_distinct_below (map (λ c. rank c k) bs) (choose n k) (ranks_distinct n k bs all apart) (λ q h. ranks_below n k q bs all h) in
    omega (arith, few, Rattle.std.proofs.lemmas.List.length-map bs (λ c. rank c k))
