-- Whole numbers that fit a case are numbers of a deck.
use Rattle.std.proofs.Common.{◌≡◌, ℕ, ◌<◌, ◌≤◌, ◌^◌, Bool, true, false, cond, eqb, leb, List, [], ◌∷◌, refl, arith, ℤ, pos}
use Rattle.std.specs.Prelude.{All, unsigned_abs}
use Rattle.std.proofs.lemmas.Bool.{leb-true}
use Rattle.std.proofs.lemmas.Nat.Gcd.{dvd_refl}
use Rattle.std.proofs.Math.Nat.{one-dvd}
use Rattle.std.proofs.lemmas.Int.{ints}
use Rattle.std.proofs.lemmas.List.Elements.{All-head, All-tail}
use Rattle.lp_base.specs.declared.limits.TheConstants.{LARGEST_OF_CASE}
use Rattle.decks.specs.Decks.{IsDeckNumber}
use Rattle.deck_case.specs.DeckVerdicts.{whole}
use Rattle.front_text.specs.Problems.{AreTerms, Fits, Terms, coefficient_at}

pub small : (z : ℤ) → Fits z → unsigned_abs z ≤ LARGEST_OF_CASE
small z h = leb-true (unsigned_abs z) LARGEST_OF_CASE h

pub deck_number : (z : ℤ) → Fits z → IsDeckNumber (whole z)
deck_number z h = record {
  lowest = record { positive = omega (arith, ints); lowest = (one-dvd (unsigned_abs z), dvd_refl 1, λ d p q. q) };
  num = omega (arith, small z h);
  den = omega arith;
}

either_fits : (b : Bool) (y z : ℤ) → Fits y → Fits z → Fits (cond b y z)
either_fits true y z h k = h
either_fits false y z h k = k

abbrev HaveFitting : Terms → Type 0
HaveFitting ts = All (λ t. Fits t.1 × (t.1 ≡ pos 0 → ⊥)) ts

by_terms : (ts : Terms) (j : ℕ) → HaveFitting ts → Fits (coefficient_at ts j)
by_terms [] j h = refl
by_terms (t ∷ ts) j h = either_fits (eqb t.0 j) t.1 (coefficient_at ts j) (All-head (λ (u : ℕ × ℤ). Fits u.1 × (u.1 ≡ pos 0 → ⊥)) t ts h).0 (by_terms ts j (All-tail (λ (u : ℕ × ℤ). Fits u.1 × (u.1 ≡ pos 0 → ⊥)) t ts h))

pub coefficient_fits : (least count : ℕ) (ts : Terms) (j : ℕ) → AreTerms least count ts → Fits (coefficient_at ts j)
coefficient_fits least count ts j h = by_terms ts j h.numbers
