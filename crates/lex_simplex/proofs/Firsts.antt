-- Of the terms of a row the first form for which something holds.
use Rattle.std.proofs.Common.{ℕ, suc, ◌+◌, ◌<◌, ◌≤◌, ◌≡◌, ◌∙◌, refl, sym, ap, subst, arith, ℤ, pos, ◌+ℤ◌, List, [], ◌∷◌, length, Bool, true, false, Option, Some, None, cond, eqb}
use Rattle.std.specs.Prelude.{IfSome, IfNone, slice_index_or}
use Rattle.std.proofs.lemmas.Int.{ints, by_lt_z}
use Rattle.std.proofs.lemmas.Bool.{eqb-true}
use Rattle.std.proofs.Math.IntN.{+ℤ_idl}
use Rattle.nogoods.specs.declared.choice.Choice.{Choice}
use Rattle.lpcc_case.specs.declared.form.Form.{Form}
use Rattle.lpcc_case.specs.declared.form.Form.TheVariants.{Col, Con, Cost}
use Rattle.lpcc_case.specs.Instance.{Instance}
use Rattle.lpcc_case.specs.Points.{coefficient}
use Rattle.dict.specs.Dictionaries.{Dictionary, form_at, entry_at, row_at}
use Rattle.dict.proofs.Pivots.{by_eq}
use Rattle.walks.specs.Duals.{Helps, NoneFree, NoneHelps}
use Rattle.lpcc_case.specs.Forms.{number}
use Rattle.walks.specs.Steps.{IsFirst, MayExchange}
use Rattle.lex_simplex.specs.Firsts.{FirstAmong, HasEps, place_at}

-- a coefficient that is not 0 is that of a term
abbrev pub IsSomeTerm : List (ℕ × ℤ) → ℕ → Type 0
IsSomeTerm ts j = (i : ℕ) × (i < length ts) × (place_at ts i ≡ j)

some_by : (b : Bool) (t : ℕ × ℤ) (ts : List (ℕ × ℤ)) (j : ℕ) → eqb t.0 j ≡ b → (cond b t.1 (pos 0) +ℤ coefficient ts j ≡ pos 0 → ⊥) → ((coefficient ts j ≡ pos 0 → ⊥) → IsSomeTerm ts j) → IsSomeTerm (t ∷ ts) j
some_by true t ts j e h rest = (0, omega arith, eqb-true t.0 j e)
some_by false t ts j e h rest =
    let r = rest (λ z. h (+ℤ_idl (coefficient ts j) ∙ z)) in
    (suc r.0, omega (arith, r.1), r.2)

pub some_term : (ts : List (ℕ × ℤ)) (j : ℕ) → (coefficient ts j ≡ pos 0 → ⊥) → IsSomeTerm ts j
some_term [] j h = absurd (h refl)
some_term (t ∷ ts) j h = some_by (eqb t.0 j) t ts j refl h (some_term ts j)

-- the end of the loop
pub first_of_all : (a : Instance) (forms : List Form) (ts : List (ℕ × ℤ)) (P : ℕ → Type 0) (n : ℕ) (best : Option ℕ) → length ts ≤ n → ((j : ℕ) → P j → coefficient ts j ≡ pos 0 → ⊥) → FirstAmong a forms ts P n best → IfSome best (IsFirst a forms P)
first_of_all a forms ts P n None le some h = tt
first_of_all a forms ts P n (Some b) le some h = record {
  within = h.0;
  holds = h.1;
  first = λ j lt p.
      let t = some_term ts j (some j p) in
      subst (λ (k : ℕ). number a (form_at forms b) ≤ number a (form_at forms k)) t.2 (h.2 t.0 (omega (arith, t.1, le)) (subst P (sym t.2) p));
}

pub none_of_all : (a : Instance) (forms : List Form) (ts : List (ℕ × ℤ)) (P : ℕ → Type 0) (n : ℕ) (best : Option ℕ) → length ts ≤ n → ((j : ℕ) → P j → coefficient ts j ≡ pos 0 → ⊥) → FirstAmong a forms ts P n best → IfNone best ((j : ℕ) → P j → ⊥)
none_of_all a forms ts P n None le some h = λ j p.
    let t = some_term ts j (some j p) in
    h t.0 (omega (arith, t.1, le)) (subst P (sym t.2) p)
none_of_all a forms ts P n (Some b) le some h = tt

-- what helps has an entry
helps_some : (a : Instance) (tight : List Choice) (falls : Bool) (f : Form) (z : ℤ) → Helps a tight falls f z → z ≡ pos 0 → ⊥
helps_some a tight falls (Col j) z h e = h e
helps_some a tight true (Con k) z h e = omega (arith, ints, h.1, e)
helps_some a tight false (Con k) z h e = omega (arith, ints, h.1, e)
helps_some a tight falls Cost z h e = h

pub first_helps : (a : Instance) (tight : List Choice) (falls : Bool) (d : Dictionary) (row n : ℕ) (ts : List (ℕ × ℤ)) (best : Option ℕ) → ts ≡ (row_at d.rows row).entries → length ts ≤ n → FirstAmong a d.nonbasic ts (λ j. Helps a tight falls (form_at d.nonbasic j) (entry_at d row j)) n best → IfSome best (IsFirst a d.nonbasic (λ j. Helps a tight falls (form_at d.nonbasic j) (entry_at d row j)))
first_helps a tight falls d row n ts best e le h =
    first_of_all a d.nonbasic ts (λ j. Helps a tight falls (form_at d.nonbasic j) (entry_at d row j)) n best le (λ j p z. helps_some a tight falls (form_at d.nonbasic j) (entry_at d row j) p (sym (ap (λ (us : List (ℕ × ℤ)). coefficient us j) e) ∙ z)) h

pub none_helps : (a : Instance) (tight : List Choice) (falls : Bool) (d : Dictionary) (row n : ℕ) (ts : List (ℕ × ℤ)) (best : Option ℕ) → ts ≡ (row_at d.rows row).entries → length ts ≤ n → FirstAmong a d.nonbasic ts (λ j. Helps a tight falls (form_at d.nonbasic j) (entry_at d row j)) n best → IfNone best (NoneHelps a tight falls d row)
none_helps a tight falls d row n ts None e le h = λ j lt p. none_of_all a d.nonbasic ts (λ j. Helps a tight falls (form_at d.nonbasic j) (entry_at d row j)) n None le (λ j p z. helps_some a tight falls (form_at d.nonbasic j) (entry_at d row j) p (sym (ap (λ (us : List (ℕ × ℤ)). coefficient us j) e) ∙ z)) h j p
none_helps a tight falls d row n ts (Some b) e le h = tt

pub first_exchangeable : (a : Instance) (tight : List Choice) (d : Dictionary) (row n : ℕ) (ts : List (ℕ × ℤ)) (best : Option ℕ) → ts ≡ (row_at d.rows row).entries → length ts ≤ n → FirstAmong a d.nonbasic ts (MayExchange a tight d row) n best → IfSome best (IsFirst a d.nonbasic (MayExchange a tight d row))
first_exchangeable a tight d row n ts best e le h =
    first_of_all a d.nonbasic ts (MayExchange a tight d row) n best le (λ j p z. p.1 (sym (ap (λ (us : List (ℕ × ℤ)). coefficient us j) e) ∙ z)) h

pub zero_from : (z : ℤ) → ((z ≡ pos 0 → ⊥) → ⊥) → z ≡ pos 0
zero_from z h = by_lt_z (pos 0) z (λ up. absurd (h (λ e. omega (arith, ints, up, e)))) (λ le. by_lt_z z (pos 0) (λ low. absurd (h (λ e. omega (arith, ints, low, e)))) (λ ge. omega (arith, ints, le, ge)))

pub none_exchangeable : (a : Instance) (tight : List Choice) (d : Dictionary) (row n : ℕ) (ts : List (ℕ × ℤ)) (best : Option ℕ) → ts ≡ (row_at d.rows row).entries → length ts ≤ n → FirstAmong a d.nonbasic ts (MayExchange a tight d row) n best → IfNone best (NoneFree a tight d row)
none_exchangeable a tight d row n ts None e le h = λ j lt free.
    zero_from (entry_at d row j) (λ some. none_of_all a d.nonbasic ts (MayExchange a tight d row) n None le (λ j p z. p.1 (sym (ap (λ (us : List (ℕ × ℤ)). coefficient us j) e) ∙ z)) h j (free, some))
none_exchangeable a tight d row n ts (Some b) e le h = tt

pub first_eps : (a : Instance) (tight : List Choice) (d : Dictionary) (row n : ℕ) (ts : List (ℕ × ℤ)) (best : Option ℕ) → ts ≡ (row_at d.rows row).entries → length ts ≤ n → FirstAmong a d.nonbasic ts (HasEps a tight d row) n best → IfSome best (IsFirst a d.nonbasic (HasEps a tight d row))
first_eps a tight d row n ts best e le h =
    first_of_all a d.nonbasic ts (HasEps a tight d row) n best le (λ j p z. p.1 (sym (ap (λ (us : List (ℕ × ℤ)). coefficient us j) e) ∙ z)) h

pub no_eps : (a : Instance) (tight : List Choice) (d : Dictionary) (row n : ℕ) (ts : List (ℕ × ℤ)) (best : Option ℕ) → ts ≡ (row_at d.rows row).entries → length ts ≤ n → FirstAmong a d.nonbasic ts (HasEps a tight d row) n best → IfNone best ((j : ℕ) → j < length d.nonbasic → HasEps a tight d row j → ⊥)
no_eps a tight d row n ts None e le h = λ j lt p. none_of_all a d.nonbasic ts (HasEps a tight d row) n None le (λ j p z. p.1 (sym (ap (λ (us : List (ℕ × ℤ)). coefficient us j) e) ∙ z)) h j p
no_eps a tight d row n ts (Some b) e le h = tt

-- a step of the loop
pub first_stays : (a : Instance) (forms : List Form) (ts : List (ℕ × ℤ)) (P : ℕ → Type 0) (i : ℕ) (best : Option ℕ) → (P (place_at ts i) → ⊥) → FirstAmong a forms ts P i best → FirstAmong a forms ts P (i + 1) best
first_stays a forms ts P i None not_here h = λ k lt p. by_eq k i (λ e. not_here (subst (λ (n : ℕ). P (place_at ts n)) e p)) (λ other. h k (omega (arith, lt, other)) p)
first_stays a forms ts P i (Some b) not_here h = (h.0, h.1, λ k lt p. by_eq k i (λ e. absurd (not_here (subst (λ (n : ℕ). P (place_at ts n)) e p))) (λ other. h.2 k (omega (arith, lt, other)) p))

pub helps_at : (a : Instance) (tight : List Choice) (falls : Bool) (d : Dictionary) (row i : ℕ) (ts : List (ℕ × ℤ)) (t : ℕ × ℤ) (f : Form) → ts ≡ (row_at d.rows row).entries → t ≡ slice_index_or ts i (0, pos 0) → coefficient ts t.0 ≡ t.1 → f ≡ form_at d.nonbasic t.0 → Helps a tight falls (form_at d.nonbasic (place_at ts i)) (entry_at d row (place_at ts i)) → Helps a tight falls f t.1
helps_at a tight falls d row i ts t f entries term value form h =
    let here : t.0 ≡ place_at ts i = ap (λ (u : ℕ × ℤ). u.0) term in
    let moved : Helps a tight falls (form_at d.nonbasic t.0) (entry_at d row t.0) = subst (λ (n : ℕ). Helps a tight falls (form_at d.nonbasic n) (entry_at d row n)) (sym here) h in
    let number : entry_at d row t.0 ≡ t.1 = sym (ap (λ (us : List (ℕ × ℤ)). coefficient us t.0) entries) ∙ value in
    let there : Helps a tight falls (form_at d.nonbasic t.0) t.1 = subst (λ (z : ℤ). Helps a tight falls (form_at d.nonbasic t.0) z) number moved in
    subst (λ (g : Form). Helps a tight falls g t.1) (sym form) there
