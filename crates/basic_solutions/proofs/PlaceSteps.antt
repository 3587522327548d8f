-- The table of places, filled place by place.
use Rattle.std.proofs.Common.{ℕ, ◌+◌, ◌<◌, ◌≤◌, ◌≡◌, ◌∙◌, sym, ap, subst, arith, List, length, get_or, set}
use Rattle.std.proofs.lemmas.List.{get_or-set_same, get_or-set_other, length-set}
use Rattle.lpcc_case.specs.declared.form.Form.{Form}
use Rattle.lpcc_case.specs.declared.form.Form.TheVariants.{Col, Con, Cost}
use Rattle.lpcc_case.specs.Instance.{Instance}
use Rattle.dict.specs.Dictionaries.{Dictionary, form_at}
use Rattle.dict.proofs.Pivots.{by_eq}
use Rattle.basic_solutions.specs.Tables.{ArePlaces}
use Rattle.basic_solutions.specs.Writes.{with_place}

-- the constraints among the first j nonbasic forms have their places
pub record PlacesUpto (a : Instance) (d : Dictionary) (places : List ℕ) (j : ℕ) : Type 0 where
  pub size : length places ≡ length a.constraints
  pub found : (k : ℕ) → k < length places → get_or places k 0 < length d.nonbasic → form_at d.nonbasic (get_or places k 0) ≡ Con k
  pub kept : (k i : ℕ) → k < length places → i < j → form_at d.nonbasic i ≡ Con k → get_or places k 0 < length d.nonbasic

past : (a : Instance) (d : Dictionary) (places : List ℕ) (j : ℕ) → ((k : ℕ) → form_at d.nonbasic j ≡ Con k → ⊥) → PlacesUpto a d places j → PlacesUpto a d places (j + 1)
past a d places j other upto = record {
  size = upto.size;
  found = upto.found;
  kept = λ k i hk hi form. by_eq i j (λ here. absurd (other k (ap (λ n. form_at d.nonbasic n) (sym here) ∙ form))) (λ apart. upto.kept k i hk (omega (arith, hi, apart)) form);
}

written : (a : Instance) (d : Dictionary) (places : List ℕ) (j l : ℕ) → j < length d.nonbasic → form_at d.nonbasic j ≡ Con l → PlacesUpto a d places j → PlacesUpto a d (set places l j) (j + 1)
written a d places j l hj here upto =
    let size : length (set places l j) ≡ length places = length-set places l j in
    record {
      size = size ∙ upto.size;
      found = λ k hk inside.
          let hk' : k < length places = omega (arith, hk, size) in
          by_eq k l
          (λ same.
          let at : get_or (set places l j) k 0 ≡ j = ap (λ n. get_or (set places l j) n 0) same ∙ get_or-set_same places l j 0 (omega (arith, hk', same)) in
          ap (λ n. form_at d.nonbasic n) at ∙ here ∙ ap Con (sym same))
          (λ apart.
          let at : get_or (set places l j) k 0 ≡ get_or places k 0 = get_or-set_other places l k j 0 apart in
          ap (λ n. form_at d.nonbasic n) at ∙ upto.found k hk' (omega (arith, at, inside)));
      kept = λ k i hk hi form.
          let hk' : k < length places = omega (arith, hk, size) in
          by_eq k l
          (λ same.
          let at : get_or (set places l j) k 0 ≡ j = ap (λ n. get_or (set places l j) n 0) same ∙ get_or-set_same places l j 0 (omega (arith, hk', same)) in
          omega (arith, at, hj))
          (λ apart.
          let at : get_or (set places l j) k 0 ≡ get_or places k 0 = get_or-set_other places l k j 0 apart in
          by_eq i j
          (λ now. absurd (apart (same_constraint k l (sym form ∙ ap (λ n. form_at d.nonbasic n) now ∙ here))))
          (λ before. let old = upto.kept k i hk' (omega (arith, hi, before)) form in omega (arith, at, old)));
    }
  where
    same_constraint : (k l : ℕ) → Con k ≡ Con l → k ≡ l
    same_constraint k l e = cc

step_by : (a : Instance) (d : Dictionary) (places : List ℕ) (j : ℕ) (f : Form) → j < length d.nonbasic → form_at d.nonbasic j ≡ f → PlacesUpto a d places j → PlacesUpto a d (with_place places f j) (j + 1)
step_by a d places j (Col c) hj here upto = past a d places j (λ k e. differ c k (sym here ∙ e)) upto
  where
    differ : (c k : ℕ) → Col c ≡ Con k → ⊥
    differ c k e = cc
step_by a d places j (Con l) hj here upto = written a d places j l hj here upto
step_by a d places j Cost hj here upto = past a d places j (λ k e. differ k (sym here ∙ e)) upto
  where
    differ : (k : ℕ) → Cost ≡ Con k → ⊥
    differ k e = cc

pub places_more : (a : Instance) (d : Dictionary) (places places' : List ℕ) (j : ℕ) (f : Form) → j < length d.nonbasic → f ≡ form_at d.nonbasic j → places' ≡ with_place places f j → PlacesUpto a d places j → PlacesUpto a d places' (j + 1)
places_more a d places places' j f hj here made upto = subst (λ (ps : List ℕ). PlacesUpto a d ps (j + 1)) (sym made) (step_by a d places j f hj (sym here) upto)

pub places_done : (a : Instance) (d : Dictionary) (places : List ℕ) (j : ℕ) → length d.nonbasic ≤ j → PlacesUpto a d places j → ArePlaces a d places
places_done a d places j past upto = record {
  size = upto.size;
  found = upto.found;
  none = λ k i hk out hi form. let inside = upto.kept k i hk (omega (arith, hi, past)) form in omega (arith, out, inside);
}

pub places_none : (a : Instance) (d : Dictionary) (places : List ℕ) → length places ≡ length a.constraints → ((k : ℕ) → k < length places → get_or places k 0 ≡ length d.nonbasic) → PlacesUpto a d places 0
places_none a d places size all = record {
  size = size;
  found = λ k hk inside. absurd (omega (arith, inside, all k hk));
  kept = λ k i hk hi form. absurd (omega (arith, hi));
}
