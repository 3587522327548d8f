-- Paths of hints go down, and places of ascending numbers.
use Rattle.std.proofs.Common.{inl, inr, ℕ, zero, suc, ◌+◌, ◌<◌, ◌≤◌, ◌≡◌, refl, sym, ap, ◌∙◌, subst, arith, Bool, true, false, nat_eq, List, [], ◌∷◌, ◌++◌, length, get_or, add-one}
use Rattle.std.specs.Prelude.{◌⊎◌, Contains, IsTrue, if◌then◌else◌}
use Rattle.std.proofs.lemmas.Bool.{eqb-true, eq-eqb, cases_lt, false≢true}
use Rattle.std.proofs.lemmas.List.Elements.{All-contains}
use Rattle.lp_base.specs.Ascending.{ascends_by}
use Rattle.lp_base.proofs.Rises.{ascends_below, ascends_tail}
use Rattle.derivation.specs.declared.step.Step.{Step}
use Rattle.derivation.specs.Logs.{IsLog}
use Rattle.trimming.specs.Trimmed.{hints_of, step_at, IsPath, place_of}
use Rattle.trimming.proofs.RenumberLaws.{step_hints_below}

pub front : {X : Type 0} (x : X) (xs : List X) → Contains (x ∷ xs) x
front x xs = (0, omega arith, refl)

pub behind : {X : Type 0} (y : X) (xs : List X) (x : X) → Contains xs x → Contains (y ∷ xs) x
behind y xs x c = (suc c.0, omega (arith, c.1), c.2)

pub front_or_rest : {X : Type 0} (y : X) (xs : List X) (x : X) → Contains (y ∷ xs) x → (y ≡ x) ⊎ Contains xs x
front_or_rest y xs x (zero, inside, e) = inl e
front_or_rest y xs x (suc k, inside, e) = inr (k, omega (arith, inside), e)

-- ---- what is reached stands before

pub hint_below : (log : List Step) (e h : ℕ) → IsLog log → e < length log → Contains (hints_of (step_at log e)) h → h < e
hint_below log e h is inside c = All-contains (λ k. k < e) (hints_of (step_at log e)) h (step_hints_below log e is inside) c

pub path_below : (log : List Step) (e : ℕ) (path : List ℕ) (k : ℕ) → IsLog log → e < length log → IsPath log e path k → k ≤ e
path_below log e [] k is inside p = omega (arith, p)
path_below log e (h ∷ path) k is inside p =
    let below = hint_below log e h is inside p.0 in
    let rest = path_below log h path k is (omega (arith, below, inside)) p.1 in
    omega (arith, below, rest)

pub path_more : (log : List Step) (e : ℕ) (path : List ℕ) (k h : ℕ) → IsPath log e path k → Contains (hints_of (step_at log k)) h → IsPath log e (path ++ h ∷ []) h
path_more log e [] k h p c =
    let P : ℕ → Type 0 = λ m. Contains (hints_of (step_at log m)) h in
    (subst P (sym p) c, refl)
path_more log e (g ∷ path) k h p c = (p.0, path_more log g path k h p.1 c)

-- ---- ascending places

place_later : (p m k : ℕ) (places : List ℕ) → get_or places m 0 ≡ k → get_or (p ∷ places) (m + 1) 0 ≡ k
place_later p m k places e = ap (λ i. get_or (p ∷ places) i 0) (add-one m) ∙ e

place_cond : (b : Bool) (p k m : ℕ) (places : List ℕ) → nat_eq p k ≡ b → (b ≡ false → (m < length places) × (get_or places m 0 ≡ k)) → ((if b then 0 else m + 1) < length (p ∷ places)) × (get_or (p ∷ places) (if b then 0 else m + 1) 0 ≡ k)
place_cond true p k m places e rest = (omega arith, eqb-true p k e)
place_cond false p k m places e rest = (omega (arith, (rest refl).0), place_later p m k places (rest refl).1)

different : (p k : ℕ) → nat_eq p k ≡ false → p ≡ k → ⊥
different p k e same = false≢true (sym e ∙ eq-eqb p k same)

rest_of : (p k : ℕ) (places : List ℕ) → nat_eq p k ≡ false → Contains (p ∷ places) k → Contains places k
rest_of p k places e c = elim (front_or_rest p places k c) [
  | inl same ↦ absurd (different p k e same)
  | inr later ↦ later
]

pub place_found : (places : List ℕ) (k : ℕ) → Contains places k → (place_of places k < length places) × (get_or places (place_of places k) 0 ≡ k)
place_found [] k c = absurd (omega (arith, c.1))
place_found (p ∷ places) k c = place_cond (nat_eq p k) p k (place_of places k) places refl (λ e. place_found places k (rest_of p k places e c))

-- a place further on holds more
pub rises : (places : List ℕ) (i j : ℕ) → IsTrue (ascends_by (λ n. n) places) → i < j → j < length places → get_or places i 0 < get_or places j 0
rises [] i j up low inside = absurd (omega (arith, inside))
rises (p ∷ places) i zero up low inside = absurd (omega (arith, low))
rises (p ∷ places) zero (suc j) up low inside = ascends_below (λ n. n) p places j 0 up (omega (arith, inside))
rises (p ∷ places) (suc i) (suc j) up low inside = rises places i j (ascends_tail (λ n. n) p places up) (omega (arith, low)) (omega (arith, inside))

pub before_place : (places : List ℕ) (i k : ℕ) → IsTrue (ascends_by (λ n. n) places) → i < length places → get_or places i 0 < get_or places k 0 → i < k
before_place places i k up inside below = elim (cases_lt i k) [
  | inl lt ↦ lt
  | inr ge ↦ elim (cases_lt k i) [
    | inl above ↦ absurd (omega (arith, rises places k i up above inside, below))
    | inr not_above ↦
        let same : i ≡ k = omega arith in
        absurd (omega (arith, ap (λ m. get_or places m 0) same, below))
  ]
]
