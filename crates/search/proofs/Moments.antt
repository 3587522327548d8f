-- Each step of the walk goes on to a later moment.
use Rattle.std.proofs.Common.{ℕ, zero, suc, ◌+◌, ◌-◌, ◌<◌, ◌≤◌, ◌≡◌, refl, sym, ap, arith, List, [], ◌∷◌, ◌++◌, length, get_or, take}
use Rattle.std.proofs.lemmas.List.{length-append, length-take-le}
use Rattle.nogoods.specs.declared.choice.Side.{Side}
use Rattle.nogoods.specs.declared.choice.Side.TheVariants.{A, B}
use Rattle.search.specs.declared.walk.Reason.{Reason}
use Rattle.search.specs.declared.walk.Resolvent.{Resolvent}
use Rattle.search.specs.declared.walk.Phase.{Phase}
use Rattle.search.specs.declared.walk.Phase.TheVariants.{Open, Turn, Exhausted, Resolved}
use Rattle.search.specs.Walks.{moments, moments_behind, moments_left}

-- the moments that a side leaves behind, m pairs standing behind it
abbrev step : Side → ℕ → ℕ
step A m = moments m + 3
step B m = 2

first_step : (s : Side) (w : List Side) (n m : ℕ) → n ≡ m → moments_behind w n + step s m ≡ moments_behind (s ∷ w) (suc n)
first_step A w n m e = let k : moments n ≡ moments m = ap moments e in omega arith
first_step B w n m e = refl

behind_push : (w : List Side) (s : Side) (n m : ℕ) → length w + 1 + m ≡ n → moments_behind (w ++ s ∷ []) n ≡ moments_behind w n + step s m
behind_push w s zero m e = absurd (omega arith)
behind_push [] s (suc n) m e = sym (first_step s [] n m (omega arith))
behind_push (A ∷ w) s (suc n) m e = omega (arith, behind_push w s n m (omega arith))
behind_push (B ∷ w) s (suc n) m e = omega (arith, behind_push w s n m (omega arith))

behind_take : (w : List Side) (n q m : ℕ) → q < length w → length w ≤ n → q + 1 + m ≡ n → moments_behind (take q w) n + step (get_or w q A) m ≤ moments_behind w n
behind_take [] n q m inside fits e = absurd (omega arith)
behind_take (s ∷ w) zero q m inside fits e = absurd (omega arith)
behind_take (s ∷ w) (suc n) zero m inside fits e = omega (arith, first_step s w n m (omega arith))
behind_take (A ∷ w) (suc n) (suc q) m inside fits e = omega (arith, behind_take w n q m (omega arith) (omega arith) (omega arith))
behind_take (B ∷ w) (suc n) (suc q) m inside fits e = omega (arith, behind_take w n q m (omega arith) (omega arith) (omega arith))

pub open_to_a : (w : List Side) (n : ℕ) → length w < n → moments_left n (w ++ A ∷ []) Open < moments_left n w Open
open_to_a w n small =
    let m : ℕ = n - length w - 1 in
    let long = length-append w (A ∷ []) in
    let e : n - length w ≡ suc m = omega arith in
    let f : n - length (w ++ A ∷ []) ≡ m = omega arith in
    omega (arith, ap moments e, ap moments f, behind_push w A n m (omega arith))

pub open_to_turn : (w : List Side) (n : ℕ) (reason : Reason) → length w < n → moments_left n w (Turn reason) < moments_left n w Open
open_to_turn w n reason small =
    let m : ℕ = n - length w - 1 in
    let e : n - length w ≡ suc m = omega arith in
    omega (arith, ap moments e)

some_moments : (n : ℕ) → 3 ≤ moments n
some_moments zero = omega arith
some_moments (suc n) = omega (arith, some_moments n)

pub open_to_exhausted : (w : List Side) (n : ℕ) (reason : Reason) → moments_left n w (Exhausted reason) < moments_left n w Open
open_to_exhausted w n reason = omega (arith, some_moments (n - length w))

pub turn_to_b : (w : List Side) (n : ℕ) (reason : Reason) → length w < n → moments_left n (w ++ B ∷ []) Open < moments_left n w (Turn reason)
turn_to_b w n reason small =
    let m : ℕ = n - length w - 1 in
    let long = length-append w (B ∷ []) in
    let f : n - length (w ++ B ∷ []) ≡ m = omega arith in
    omega (arith, ap moments f, behind_push w B n m (omega arith))

-- what closes at these sides comes behind side A
pub turn_to_closed : (w : List Side) (n : ℕ) (reason : Reason) (next : Phase) → moments_left n w next ≤ moments_behind w n + 2 → moments_left n w next < moments_left n w (Turn reason)
turn_to_closed w n reason next closed = omega (arith, closed)

pub exhausted_to_turn : (w : List Side) (n q : ℕ) (reason other : Reason) → q < length w → length w ≤ n → get_or w q A ≡ A → moments_left n (take q w) (Turn other) < moments_left n w (Exhausted reason)
exhausted_to_turn w n q reason other inside fits side =
    let m : ℕ = n - q - 1 in
    let size : length (take q w) ≡ q = length-take-le q w (omega arith) in
    let f : n - length (take q w) - 1 ≡ m = omega arith in
    let g : step (get_or w q A) m ≡ moments m + 3 = ap (λ s. step s m) side in
    omega (arith, ap moments f, g, behind_take w n q m inside fits (omega arith))

pub exhausted_to_closed : (w : List Side) (n q : ℕ) (reason : Reason) (next : Phase) → q < length w → length w ≤ n → get_or w q A ≡ B → moments_left n (take q w) next ≤ moments_behind (take q w) n + 2 → moments_left n (take q w) next < moments_left n w (Exhausted reason)
exhausted_to_closed w n q reason next inside fits side closed =
    let m : ℕ = n - q - 1 in
    let g : step (get_or w q A) m ≡ 2 = ap (λ s. step s m) side in
    omega (arith, g, closed, behind_take w n q m inside fits (omega arith))

pub resolved_to_closed : (w : List Side) (n q : ℕ) (r : Resolvent) (next : Phase) → q < length w → length w ≤ n → get_or w q A ≡ B → moments_left n (take q w) next ≤ moments_behind (take q w) n + 2 → moments_left n (take q w) next < moments_left n w (Resolved r)
resolved_to_closed w n q r next inside fits side closed =
    let m : ℕ = n - q - 1 in
    let g : step (get_or w q A) m ≡ 2 = ap (λ s. step s m) side in
    omega (arith, g, closed, behind_take w n q m inside fits (omega arith))

pub resolved_to_turn : (w : List Side) (n q : ℕ) (r : Resolvent) (reason : Reason) → q < length w → length w ≤ n → get_or w q A ≡ A → moments_left n (take q w) (Turn reason) < moments_left n w (Resolved r)
resolved_to_turn w n q r reason inside fits side =
    let m : ℕ = n - q - 1 in
    let size : length (take q w) ≡ q = length-take-le q w (omega arith) in
    let f : n - length (take q w) - 1 ≡ m = omega arith in
    let g : step (get_or w q A) m ≡ moments m + 3 = ap (λ s. step s m) side in
    omega (arith, ap moments f, g, behind_take w n q m inside fits (omega arith))

some_step : (s : Side) (m : ℕ) → 2 ≤ step s m
some_step A m = omega arith
some_step B m = omega arith

pub resolved_to_resolved : (w : List Side) (n q : ℕ) (r next : Resolvent) → q < length w → length w ≤ n → moments_left n (take q w) (Resolved next) < moments_left n w (Resolved r)
resolved_to_resolved w n q r next inside fits =
    let m : ℕ = n - q - 1 in
    omega (arith, some_step (get_or w q A) m, behind_take w n q m inside fits (omega arith))
