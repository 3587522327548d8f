-- Texts written one behind another.
use Rattle.std.proofs.Common.{◌≡◌, ℕ, ◌≤◌, List, ◌++◌, Result, Ok, Err, ap, ◌∙◌, append_assoc, arith}
use Rattle.std.specs.Prelude.{OnOk}
use Rattle.deck_gen.specs.Generator.{joined}

-- a head, and behind it all n texts
pub joined_all : (f : ℕ → List ℕ) (i n : ℕ) (o x y head : List ℕ) → n ≤ i → i ≤ n → x ≡ o ++ head → y ≡ x ++ joined f i → y ≡ o ++ (head ++ joined f n)
joined_all f i n o x y head le ge ex ey =
    let here : i ≡ n = omega arith in
    ey ∙ ap (λ (t : List ℕ). t ++ joined f i) ex ∙ append_assoc o head (joined f i) ∙ ap (λ k. o ++ (head ++ joined f k)) here

pub behind : (o x z head rest : List ℕ) → x ≡ o ++ head → z ≡ x ++ rest → z ≡ o ++ (head ++ rest)
behind o x z head rest ex ez = ez ∙ ap (λ (t : List ℕ). t ++ rest) ex ∙ append_assoc o head rest

pub four : (o x y z w a b c d : List ℕ) → x ≡ o ++ a → y ≡ x ++ b → z ≡ y ++ c → w ≡ z ++ d → w ≡ o ++ (a ++ b ++ c ++ d)
four o x y z w a b c d ex ey ez ew = behind o z w (a ++ b ++ c) d (behind o y z (a ++ b) c (behind o x y a b ex ey) ez) ew

pub six : (o x y z u v w a b c d e f : List ℕ) → x ≡ o ++ a → y ≡ x ++ b → z ≡ y ++ c → u ≡ z ++ d → v ≡ u ++ e → w ≡ v ++ f → w ≡ o ++ (a ++ b ++ c ++ d ++ e ++ f)
six o x y z u v w a b c d e f ex ey ez eu ev ew = behind o v w (a ++ b ++ c ++ d ++ e) f (behind o u v (a ++ b ++ c ++ d) e (four o x y z u a b c d ex ey ez eu) ev) ew

pub seven : (o x y z u v w t a b c d e f g : List ℕ) → x ≡ o ++ a → y ≡ x ++ b → z ≡ y ++ c → u ≡ z ++ d → v ≡ u ++ e → w ≡ v ++ f → t ≡ w ++ g → t ≡ o ++ (a ++ b ++ c ++ d ++ e ++ f ++ g)
seven o x y z u v w t a b c d e f g ex ey ez eu ev ew et = behind o w t (a ++ b ++ c ++ d ++ e ++ f) g (six o x y z u v w a b c d e f ex ey ez eu ev ew) et

pub on_ok : {T E : Type 0} (r : Result T E) (P Q : Type 0) → (P → Q) → OnOk r P → OnOk r Q
on_ok (Ok x) P Q f p = f p
on_ok (Err e) P Q f p = tt
