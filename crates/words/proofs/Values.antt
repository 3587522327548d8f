-- Values of digits, read from left to right.
use Rattle.std.proofs.Common.{ℕ, zero, suc, ◌+◌, ◌*◌, ◌-◌, ◌/◌, ◌<◌, ◌≤◌, ◌≡◌, ◌∙◌, refl, sym, ap, subst, arith, List, [], ◌∷◌, drop, get_or, length}
use Rattle.words.specs.Numbers.{value_after}
use Rattle.words.specs.declared.numbers.TheConstants.{MOST}

grows : (n : ℕ) (ds : List ℕ) → n ≤ value_after n ds
grows n [] = omega arith
grows n (d ∷ ds) = omega (arith, grows (n * 10 + (d - 48)) ds)

step : (n i : ℕ) (ds : List ℕ) → i < length ds → value_after n (drop i ds) ≡ value_after (n * 10 + (get_or ds i 0 - 48)) (drop (suc i) ds)
step n i [] h = absurd (omega arith)
step n zero (d ∷ ds) h = refl
step n (suc i) (d ∷ ds) h = step n i ds (omega arith)

pub more : (n i k v : ℕ) (ds : List ℕ) → i < length ds → k ≡ i + 1 → v ≡ n * 10 + (get_or ds i 0 - 48) → value_after n (drop i ds) ≡ value_after 0 ds → value_after v (drop k ds) ≡ value_after 0 ds
more n i k v ds h ek ev e =
    let one : suc i ≡ k = omega arith in
    subst (λ j. value_after v (drop j ds) ≡ value_after 0 ds) one (ap (λ m. value_after m (drop (suc i) ds)) ev ∙ sym (step n i ds h) ∙ e)

pub past : (n i : ℕ) (ds : List ℕ) → i < length ds → MOST / 10 < n → value_after n (drop i ds) ≡ value_after 0 ds → MOST < value_after 0 ds
past n i ds h large e = omega (arith, grows (n * 10 + (get_or ds i 0 - 48)) (drop (suc i) ds), step n i ds h, e)
