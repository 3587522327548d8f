-- What an exchange at the place e makes of a row. Before it the nonbasic forms are worth v, after it w; v and w differ at e alone.
use Rattle.std.specs.Prelude.{◌≡◌, ◌^◌, ℕ, ℤ, neg_ℤ, List, [], ◌∷◌, Bool, true, false, not, nat_eq, if◌then◌else◌}
use Rattle.lp_base.specs.Numbers.{IsNarrow, narrow_bound}
use Rattle.dict.specs.Terms.{without}
use Rattle.dict.specs.Equations.{Equation, Holds, IsRow, IsReduced, IsReducedOf, number_at}

-- made is the row of the form that enters, where q is the row of the form that leaves
abbrev pub Enters : ℕ → Equation → Equation → Type 0
Enters e q made = (f one : ℤ) (v w : ℕ → ℤ) → ((j : ℕ) → without e v j ≡ without e w j) → w e ≡ f → Holds q f v one → Holds made (v e) w one

-- made is the row of the same form as q after the exchange
abbrev pub Carries : ℕ → Equation → Equation → Equation → Type 0
Carries e q entering made = (f one : ℤ) (v w : ℕ → ℤ) → ((j : ℕ) → without e v j ≡ without e w j) → Holds q f v one → Holds entering (v e) w one → Holds made f w one

-- a row after the exchange: narrow, and without a common divisor
pub record IsNext (places e : ℕ) (q entering made : Equation) : Type 0 where
  pub row : IsRow narrow_bound places made
  pub reduced : IsReduced made
  pub carries : Carries e q entering made

-- raw, divided by its greatest common divisor, has a number that is not narrow
pub record IsWideAt (places at : ℕ) (raw : Equation) : Type 0 where
  pub made : Equation
  pub row : IsRow (2 ^ 127) places made
  pub of : IsReducedOf raw made
  pub wide : IsNarrow (number_at places made at) → ⊥

-- the row after the exchange, reduced, has a number that is not narrow
pub record IsWideNext (places e at : ℕ) (q entering : Equation) : Type 0 where
  pub made : Equation
  pub row : IsRow (2 ^ 127) places made
  pub reduced : IsReduced made
  pub carries : Carries e q entering made
  pub wide : IsNarrow (number_at places made at) → ⊥

-- with the sign changed, or as it is
abbrev pub turn : Bool → ℤ → ℤ
turn true z = neg_ℤ z
turn false z = z

-- the entries of the row that enters at e: there the denominator of the old row with one sign, elsewhere the old entries with the other
abbrev pub entered : Bool → ℕ → ℤ → List (ℕ × ℤ) → List (ℕ × ℤ)
entered flip e den [] = []
entered flip e den (t ∷ ts) = (t.0, if nat_eq t.0 e then turn (not flip) den else turn flip t.1) ∷ entered flip e den ts
