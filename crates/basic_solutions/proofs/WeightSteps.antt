-- The multipliers of a row, pushed constraint by constraint.
use Rattle.std.proofs.Common.{ℕ, ◌+◌, ◌<◌, ◌≤◌, ◌^◌, ◌≡◌, ◌∙◌, refl, sym, ap, subst, arith, ℤ, pos, ◌+ℤ◌, List, [], ◌∷◌, ◌++◌, Bool, true, false, cond, eqb}
use Rattle.std.specs.Prelude.{unsigned_abs, nat_lt}
use Rattle.std.proofs.lemmas.Bool.{ltb-true, ltb-false}
use Rattle.std.proofs.lemmas.Int.{ints}
use Rattle.lp_base.specs.Numbers.{IsNarrow}
use Rattle.lp_base.proofs.SumLaws.{sum_over-append}
use Rattle.lpcc_case.specs.Points.{coefficient}
use Rattle.lpcc_case.proofs.Shares.{share_at, share_other}
use Rattle.dict.specs.Terms.{AreTerms}
use Rattle.dict.specs.Forms.{nonzero}
use Rattle.dict.proofs.Commons.{append_none}
use Rattle.dict.proofs.Pivots.{by_eq}
use Rattle.dict.proofs.SparseSums.{terms_end, terms_higher, terms_below}
use Rattle.std.specs.List.{AllByRecursion}

-- the numbers below k that are not zero, as terms
pub record TermsOf (g : ℕ → ℤ) (k : ℕ) (ts : List (ℕ × ℤ)) : Type 0 where
  pub terms : AreTerms (2 ^ 63) 0 k ts
  pub numbers : (j : ℕ) → j < k → coefficient ts j ≡ g j

pub past_end : (n l : ℕ) (ts : List (ℕ × ℤ)) → n ≤ l → AllByRecursion (λ t. t.0 < n) ts → coefficient ts l ≡ pos 0
past_end n l [] h all = refl
past_end n l (t ∷ ts) h all =
    let e : cond (eqb t.0 l) t.1 (pos 0) ≡ pos 0 = share_other t.0 l t.1 (λ same. omega (arith, all.0, h, same)) in
    omega (arith, ints, e, past_end n l ts h all.1)

append_at : (xs ys : List (ℕ × ℤ)) (j : ℕ) → coefficient (xs ++ ys) j ≡ coefficient xs j +ℤ coefficient ys j
append_at xs ys j = sum_over-append (λ (t : ℕ × ℤ). cond (eqb t.0 j) t.1 (pos 0)) xs ys

none_more : (ts : List (ℕ × ℤ)) (k j : ℕ) (z : ℤ) → z ≡ pos 0 → coefficient ts j ≡ z → coefficient ts j ≡ pos 0
none_more ts k j z e h = h ∙ e

with_term_by : (b : Bool) (g : ℕ → ℤ) (k : ℕ) (y : ℤ) (ts : List (ℕ × ℤ)) → nat_lt 0 (unsigned_abs y) ≡ b → y ≡ g k → IsNarrow y → TermsOf g k ts → TermsOf g (k + 1) (ts ++ cond b ((k, y) ∷ []) [])
with_term_by true g k y ts test is narrow before = record {
  terms = terms_end (2 ^ 63) 0 k k y ts before.terms (omega arith) (ltb-true 0 (unsigned_abs y) test) narrow;
  numbers = λ j lt.
      by_eq j k
      (λ here.
      let z : coefficient ts j ≡ pos 0 = past_end k j ts (omega (arith, here)) (terms_below (2 ^ 63) 0 k ts before.terms) in
      let own : cond (eqb k j) y (pos 0) ≡ y = ap (λ n. cond (eqb k n) y (pos 0)) here ∙ share_at k y in
      let value : y ≡ g j = is ∙ ap g (sym here) in
      omega (arith, ints, append_at ts ((k, y) ∷ []) j, z, own, value))
      (λ other.
      let none : cond (eqb k j) y (pos 0) ≡ pos 0 = share_other k j y other in
      omega (arith, ints, append_at ts ((k, y) ∷ []) j, none, before.numbers j (omega (arith, lt, other))));
}
with_term_by false g k y ts test is narrow before = subst (λ (us : List (ℕ × ℤ)). TermsOf g (k + 1) us) (sym (append_none ts)) (record {
  terms = terms_higher (2 ^ 63) 0 k (k + 1) ts before.terms (omega arith);
  numbers = λ j lt.
      by_eq j k
      (λ here.
      let z : coefficient ts j ≡ pos 0 = past_end k j ts (omega (arith, here)) (terms_below (2 ^ 63) 0 k ts before.terms) in
      let none : y ≡ pos 0 = omega (arith, ints, ltb-false 0 (unsigned_abs y) test) in
      let value : y ≡ g j = is ∙ ap g (sym here) in
      omega (arith, ints, z, none, value))
      (λ other. before.numbers j (omega (arith, lt, other)));
})

pub terms_more : (g : ℕ → ℤ) (k : ℕ) (y : ℤ) (ts us : List (ℕ × ℤ)) → us ≡ ts ++ nonzero ((k, y) ∷ []) → y ≡ g k → IsNarrow y → TermsOf g k ts → TermsOf g (k + 1) us
terms_more g k y ts us made is narrow before = subst (λ (vs : List (ℕ × ℤ)). TermsOf g (k + 1) vs) (sym made) (with_term_by (nat_lt 0 (unsigned_abs y)) g k y ts refl is narrow before)
