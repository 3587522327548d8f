-- The choices that a cut of a solve needs are among those of the program, and no more.
use Rattle.std.proofs.Common.{ℕ, suc, ◌≤◌, ℤ, Bool, true, false, List, [], ◌∷◌, length, refl, arith}
use Rattle.std.specs.Prelude.{All, Contains, if◌then◌else◌}
use Rattle.std.proofs.lemmas.List.Elements.{All-nil, All-cons, All-weaker}
use Rattle.nogoods.specs.declared.choice.Choice.{Choice}
use Rattle.lpcc_case.specs.Instance.{Instance}
use Rattle.walks.specs.Duals.{blamed, blamed_after}

contains_first : (c : Choice) (cs : List Choice) → Contains (c ∷ cs) c
contains_first c cs = (0, omega arith, refl)

contains_later : (c : Choice) (cs : List Choice) (x : Choice) → Contains cs x → Contains (c ∷ cs) x
contains_later c cs x (k, lt, here) = (suc k, omega arith, here)

part_within : (t : Bool) (c : Choice) (cs rest : List Choice) → All (Contains cs) rest → All (Contains (c ∷ cs)) (if t then c ∷ rest else rest)
part_within true c cs rest within = All-cons (Contains (c ∷ cs)) c rest (contains_first c cs) (All-weaker (Contains cs) (Contains (c ∷ cs)) (contains_later c cs) rest within)
part_within false c cs rest within = All-weaker (Contains cs) (Contains (c ∷ cs)) (contains_later c cs) rest within

part_fewer : (t : Bool) (c : Choice) (cs rest : List Choice) → length rest ≤ length cs → length (if t then c ∷ rest else rest) ≤ length (c ∷ cs)
part_fewer true c cs rest h = omega arith
part_fewer false c cs rest h = omega arith

within_after : (a : Instance) (mult : List (ℕ × ℤ)) (earlier tight : List Choice) → All (Contains tight) (blamed_after a mult earlier tight)
within_after a mult earlier [] = All-nil (Contains [])
within_after a mult earlier (c ∷ cs) = part_within _ c cs (blamed_after a mult (c ∷ earlier) cs) (within_after a mult (c ∷ earlier) cs)

fewer_after : (a : Instance) (mult : List (ℕ × ℤ)) (earlier tight : List Choice) → length (blamed_after a mult earlier tight) ≤ length tight
fewer_after a mult earlier [] = omega arith
fewer_after a mult earlier (c ∷ cs) = part_fewer _ c cs (blamed_after a mult (c ∷ earlier) cs) (fewer_after a mult (c ∷ earlier) cs)

pub blamed_within : (a : Instance) (mult : List (ℕ × ℤ)) (tight : List Choice) → All (Contains tight) (blamed a mult tight)
blamed_within a mult tight = within_after a mult [] tight

pub blamed_fewer : (a : Instance) (mult : List (ℕ × ℤ)) (tight : List Choice) → length (blamed a mult tight) ≤ length tight
blamed_fewer a mult tight = fewer_after a mult [] tight
