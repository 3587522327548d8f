-- Words of digits, and names of a letter and a number.
use Rattle.std.proofs.Common.{ℕ, suc, ◌+◌, ◌^◌, ◌<◌, ◌≡◌, false, List, [], ◌∷◌, drop, ap, arith, ℤ, pos, negsuc}
use Rattle.std.specs.Prelude.{unsigned_abs}
use Rattle.std.specs.Fmt.{decimal, signed_decimal}
use Rattle.std.specs.Str.{bytes_eq}
use Rattle.std.proofs.lemmas.Bool.{false_from_ne_true}
use Rattle.std.proofs.lemmas.Fmt.{decimal_injective, decimal_is_IsNumeral}
use Rattle.decks.proofs.KeptNames.{same_name}
use Rattle.deck_print.specs.Printed.{ArePlain, IsWord, numbered_name}
use Rattle.deck_print.proofs.Numbers.{AreDigits, are_digits}

digits_plain : (ds : List ℕ) → AreDigits ds → ArePlain ds
digits_plain [] h = tt
digits_plain (c ∷ cs) h = (omega (arith, h.0.0), digits_plain cs h.1)

pub decimal_word : (n : ℕ) → n < 2 ^ 64 → IsWord (decimal n)
decimal_word n l = let d = decimal_is_IsNumeral n l in record { some = d.0.0; plain = digits_plain (decimal n) (are_digits (decimal n) d.0.1) }

pub signed_word : (z : ℤ) → unsigned_abs z < 10 ^ 18 → IsWord (signed_decimal z)
signed_word (pos n) l = decimal_word n (omega (arith, l))
signed_word (negsuc n) l = record { some = omega arith; plain = (omega arith, (decimal_word (suc n) (omega (arith, l))).plain) }

pub numbered_word : (letter k : ℕ) → 32 < letter → k < 2 ^ 60 → IsWord (numbered_name letter k)
numbered_word letter k h l = record { some = omega arith; plain = (h, (decimal_word (k + 1) (omega (arith, l))).plain) }

-- two numbers make two names
pub numbered_apart : (letter i j : ℕ) → i < 2 ^ 60 → j < 2 ^ 60 → (i ≡ j → ⊥) → bytes_eq (numbered_name letter i) (numbered_name letter j) ≡ false
numbered_apart letter i j li lj ne =
    false_from_ne_true (bytes_eq (numbered_name letter i) (numbered_name letter j))
    (λ e. ne (omega (arith, decimal_injective (i + 1) (j + 1) (omega (arith, li)) (omega (arith, lj)) (ap (drop 1) (same_name (numbered_name letter i) (numbered_name letter j) e)))))
