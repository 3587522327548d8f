-- A constraint that was not looked at yet is basic.
use Rattle.std.proofs.Common.{ℕ, zero, suc, ◌<◌, ◌≡◌, ◌∙◌, sym, ap, subst, arith, List, [], ◌∷◌, length, map, inl, inr}
use Rattle.std.specs.List.{range_with_len}
use Rattle.std.proofs.lemmas.List.{length-set}
use Rattle.nogoods.specs.declared.choice.Choice.{Choice}
use Rattle.lpcc_case.specs.declared.form.Form.TheVariants.{Col, Con}
use Rattle.lpcc_case.specs.Instance.{Instance}
use Rattle.dict.specs.Dictionaries.{Dictionary, form_at}
use Rattle.dict.proofs.Pivots.{by_eq}
use Rattle.dict.proofs.Dictionaries.{nonbasic_here, nonbasic_other}
use Rattle.walks.specs.Steps.{IsExchanged, IsFixing}
use Rattle.walks.specs.Walks.{IsOnWalk, IsPath, Leads, Place}

-- each nonbasic constraint is one of the first n
abbrev AreLooked : ℕ → Dictionary → Type 0
AreLooked n d = (j k : ℕ) → j < length d.nonbasic → form_at d.nonbasic j ≡ Con k → k < n

columns_only : (xs : List ℕ) (j k : ℕ) → j < length (map Col xs) → form_at (map Col xs) j ≡ Con k → ⊥
columns_only [] j k h e = omega (arith, h)
columns_only (x ∷ xs) zero k h e = absurd (cc)
columns_only (x ∷ xs) (suc j) k h e = columns_only xs j k (omega (arith, h)) e

number_of : {l k : ℕ} → Con l ≡ Con k → l ≡ k
number_of e = cc

after_fixing : (a : Instance) (tight : List Choice) (n row col : ℕ) (d e : Dictionary) → IsFixing a tight n d row col → IsExchanged a row col d e → AreLooked n d → AreLooked (suc n) e
after_fixing a tight n row col d e fixing is before j k lt form =
    let size : length e.nonbasic ≡ length d.nonbasic = ap length is.nonbasic ∙ length-set d.nonbasic col (form_at d.basic row) in
    by_eq j col
    (λ here.
    let there : form_at e.nonbasic col ≡ Con n = ap (λ fs. form_at fs col) is.nonbasic ∙ nonbasic_here row col d fixing.enters.within ∙ fixing.form in
    let same : n ≡ k = number_of (sym there ∙ ap (λ i. form_at e.nonbasic i) (sym here) ∙ form) in
    omega (arith, same))
    (λ other.
    let there : form_at e.nonbasic j ≡ form_at d.nonbasic j = ap (λ fs. form_at fs j) is.nonbasic ∙ nonbasic_other row col j d other in
    omega (arith, before j k (omega (arith, lt, size)) (sym there ∙ form)))

step_looked : (a : Instance) (tight : List Choice) (q p : Place) → Leads a tight q p → p.looked < length a.constraints → (q.looked < length a.constraints → AreLooked q.looked q.at) → AreLooked p.looked p.at
step_looked a tight q p leads lt before = elim leads [
  | inl skip ↦ subst (λ (r : Place). AreLooked r.looked r.at) (sym skip.2) (λ j k h form. omega (arith, before skip.0 j k h form))
  | inr more ↦ elim more [
    | inl fix ↦ subst (λ (r : Place). AreLooked r.looked r.at) (sym fix.6) (after_fixing a tight q.looked fix.1 fix.2 q.at fix.3 fix.4 fix.5 (before fix.0))
    | inr later ↦ elim later [
      | inl raise ↦ let same : p.looked ≡ q.looked = ap (λ (r : Place). r.looked) raise.3 in absurd (omega (arith, lt, same, raise.0))
      | inr pivot ↦ let same : p.looked ≡ q.looked = ap (λ (r : Place). r.looked) pivot.7 in absurd (omega (arith, lt, same, pivot.0))
    ]
  ]
]

path_looked : (a : Instance) (tight : List Choice) (p : Place) (before : List Place) → IsPath a tight p before → p.looked < length a.constraints → AreLooked p.looked p.at
path_looked a tight p [] path lt = subst (λ (r : Place). AreLooked r.looked r.at) (sym path) (λ j k h form. absurd (columns_only (range_with_len 0 a.columns) j k h form))
path_looked a tight p (q ∷ before) path lt = step_looked a tight q p path.0 lt (λ lq. path_looked a tight q before path.1 lq)

pub looked_at_is_basic : (a : Instance) (tight : List Choice) (p : Place) → IsOnWalk a tight p → p.looked < length a.constraints → (j : ℕ) → j < length p.at.nonbasic → form_at p.at.nonbasic j ≡ Con p.looked → ⊥
looked_at_is_basic a tight p on lt j h form = omega (arith, path_looked a tight p on.0 on.1 lt j p.looked h form)
