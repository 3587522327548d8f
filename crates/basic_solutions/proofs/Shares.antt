-- The share of a constraint in a row, as a look-up.
use Rattle.std.proofs.Common.{ℕ, ◌<◌, ◌≡◌, ◌∙◌, refl, sym, ap, arith, pos, ◌*ℤ◌, neg_ℤ, length, cond}
use Rattle.std.proofs.lemmas.Int.{ints}
use Rattle.std.proofs.lemmas.Bool.{eq-eqb}
use Rattle.std.proofs.Math.IntN.{*ℤ-zero}
use Rattle.lpcc_case.specs.declared.form.Form.{Form}
use Rattle.lpcc_case.specs.declared.form.Form.TheVariants.{Col, Con, Cost}
use Rattle.lpcc_case.specs.Instance.{Instance}
use Rattle.dict.specs.Terms.{weigh, only}
use Rattle.dict.specs.Dictionaries.{Dictionary, row_at, form_at, entry_at}
use Rattle.dict.proofs.Pivots.{by_eq}
use Rattle.dict.proofs.SparseSums.{weigh_only, weigh_none, weigh_same_below, only_same, only_apart}
use Rattle.walks.specs.Values.{share, at_con}
use Rattle.walks.specs.Steps.{IsSized}
use Rattle.walks.proofs.Ends.{below_places}
use Rattle.walks.proofs.Sets.{distinct_from}
use Rattle.walks.proofs.Unique.{con_apart, apart}

con_here : (k : ℕ) (f : Form) → f ≡ Con k → at_con k f ≡ pos 1
con_here k (Con l) e = ap (λ b. cond b (pos 1) (pos 0)) (eq-eqb l k (number_of e))
  where
    number_of : {l k : ℕ} → Con l ≡ Con k → l ≡ k
    number_of e = cc
con_here k (Col j) e = absurd (cc)
con_here k Cost e = absurd (cc)

-- the row's own constraint
pub share_own : (a : Instance) (d : Dictionary) (i k : ℕ) → IsSized a d → i < length d.rows → form_at d.basic i ≡ Con k → share (row_at d.rows i) d.nonbasic (form_at d.basic i) k ≡ (row_at d.rows i).den
share_own a d i k sized h form =
    let q = row_at d.rows i in
    let w : weigh q.entries (λ j. at_con k (form_at d.nonbasic j)) ≡ pos 0 =
    weigh_same_below (length d.nonbasic) q.entries (λ j. at_con k (form_at d.nonbasic j)) (λ j. pos 0) (below_places a d i sized h) (λ j lt. con_apart k (form_at d.nonbasic j) (λ e. apart a d j i sized.of lt (omega (arith, h, sized.size)) (e ∙ sym form)))
    ∙ weigh_none q.entries (λ j. pos 0) (λ j. refl) in
    let own = ap (λ z. q.den *ℤ z) (con_here k (form_at d.basic i) form) in
    let one : q.den *ℤ pos 1 ≡ q.den = omega (arith, ints) in
    omega (arith, ints, w, own, one)

-- a nonbasic constraint
pub share_at_place : (a : Instance) (d : Dictionary) (i k c : ℕ) → IsSized a d → i < length d.rows → c < length d.nonbasic → form_at d.nonbasic c ≡ Con k → share (row_at d.rows i) d.nonbasic (form_at d.basic i) k ≡ neg_ℤ (entry_at d i c)
share_at_place a d i k c sized h hc form =
    let q = row_at d.rows i in
    let w : weigh q.entries (λ j. at_con k (form_at d.nonbasic j)) ≡ entry_at d i c =
    weigh_same_below (length d.nonbasic) q.entries (λ j. at_con k (form_at d.nonbasic j)) (only c) (below_places a d i sized h)
    (λ j lt. by_eq j c (λ e. con_here k (form_at d.nonbasic j) (ap (λ n. form_at d.nonbasic n) e ∙ form) ∙ sym (ap (only c) e ∙ only_same c)) (λ other. con_apart k (form_at d.nonbasic j) (λ e. other (distinct_from a d.nonbasic sized.of.independent j c lt hc (e ∙ sym form))) ∙ sym (only_apart c j other)))
    ∙ weigh_only q.entries c in
    let own = ap (λ z. q.den *ℤ z) (con_apart k (form_at d.basic i) (λ e. apart a d c i sized.of hc (omega (arith, h, sized.size)) (form ∙ sym e))) ∙ *ℤ-zero q.den in
    omega (arith, ints, w, own)

-- any other
pub share_of_none : (a : Instance) (d : Dictionary) (i k : ℕ) → IsSized a d → i < length d.rows → (form_at d.basic i ≡ Con k → ⊥) → ((j : ℕ) → j < length d.nonbasic → form_at d.nonbasic j ≡ Con k → ⊥) → share (row_at d.rows i) d.nonbasic (form_at d.basic i) k ≡ pos 0
share_of_none a d i k sized h not_own none =
    let q = row_at d.rows i in
    let w : weigh q.entries (λ j. at_con k (form_at d.nonbasic j)) ≡ pos 0 =
    weigh_same_below (length d.nonbasic) q.entries (λ j. at_con k (form_at d.nonbasic j)) (λ j. pos 0) (below_places a d i sized h) (λ j lt. con_apart k (form_at d.nonbasic j) (none j lt))
    ∙ weigh_none q.entries (λ j. pos 0) (λ j. refl) in
    let own = ap (λ z. q.den *ℤ z) (con_apart k (form_at d.basic i) not_own) ∙ *ℤ-zero q.den in
    omega (arith, ints, w, own)
