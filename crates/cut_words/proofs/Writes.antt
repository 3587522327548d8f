-- Words that are written one by one.
use Rattle.std.proofs.Common.{ℕ, ◌+◌, ◌<◌, ◌≤◌, ◌≡◌, ◌≢◌, refl, sym, ◌∙◌, arith, List, length, get_or, set, Bool, true, false, cond, eqb, ⊎_elim, get_or-set_other, eq-eqb, ne_eqb}
use Rattle.std.proofs.lemmas.Bool.{cases_eq}
use Rattle.std.proofs.lemmas.Grind.{get_or-set_at}
use Rattle.cut_words.specs.Parts.{SameOutside}

at_key : (b : Bool) (x y : ℕ) → b ≡ true → cond b x y ≡ x
at_key true x y e = refl
at_key false x y e = absurd (cc)

off_key : (b : Bool) (x y : ℕ) → b ≡ false → cond b x y ≡ y
off_key true x y e = absurd (cc)
off_key false x y e = refl

-- the word of one key is written over what the rest has
pub put_more : (words : List ℕ) (from count p x : ℕ) (rest : ℕ → ℕ) → p < count → from + count ≤ length words → ((k : ℕ) → k < count → get_or words (from + k) 0 ≡ rest k) → (k : ℕ) → k < count → get_or (set words (from + p) x) (from + k) 0 ≡ cond (eqb p k) x (rest k)
put_more words from count p x rest hp room old k hk = ⊎_elim
    (λ (e : p ≡ k). get_or-set_at words (from + p) (from + k) x 0 (omega arith) (omega arith) ∙ sym (at_key (eqb p k) x (rest k) (eq-eqb p k e)))
    (λ (n : p ≢ k). get_or-set_other words (from + p) (from + k) x 0 (λ z. n (omega arith)) ∙ old k hk ∙ sym (off_key (eqb p k) x (rest k) (ne_eqb p k n)))
    (cases_eq p k)

pub same_more : (before words : List ℕ) (from count p x : ℕ) → p < count → SameOutside before words from count → SameOutside before (set words (from + p) x) from count
same_more before words from count p x hp old k out = get_or-set_other words (from + p) k x 0 (λ z. ⊎_elim (λ (a : k < from). absurd (omega arith)) (λ (b : from + count ≤ k). absurd (omega arith)) out) ∙ old k out
