-- The terms of a list in order, one for each place whose coefficient is not zero.
use Rattle.std.proofs.Common.{ℕ, zero, suc, ◌≤◌, ◌<◌, ◌≡◌, ◌∙◌, refl, sym, ap, subst, arith, ℤ, pos, negsuc, ◌+ℤ◌, ◌*ℤ◌, List, [], ◌∷◌, ◌++◌, add-one}
use Rattle.std.specs.Prelude.{unsigned_abs}
use Rattle.std.specs.List.{AllByRecursion}
use Rattle.std.proofs.lemmas.Int.{ints}
use Rattle.std.proofs.Math.IntN.{+ℤ_idr}
use Rattle.lpcc_case.specs.Points.{coefficient}
use Rattle.lpcc_case.proofs.Shares.{share_at, share_other}
use Rattle.dict.specs.Terms.{weigh, only, AreTerms}
use Rattle.dict.specs.Equations.{scale}
use Rattle.dict.proofs.Determined.{no_sum}
use Rattle.dict.proofs.Independence.{all_append, all_scale}
use Rattle.dict.proofs.Pivots.{by_eq, by_lt}
use Rattle.dict.proofs.Renumberings.{past_places}
use Rattle.dict.proofs.SparseSums.{terms_below, terms_end, terms_higher, weigh_append, weigh_only, weigh_scale}

-- a term at the place, or none for zero
term_of : ℕ → ℤ → List (ℕ × ℤ)
term_of n (pos zero) = []
term_of n (pos (suc k)) = (n, pos (suc k)) ∷ []
term_of n (negsuc k) = (n, negsuc k) ∷ []

-- those of the first n places
pub in_order : ℕ → List (ℕ × ℤ) → List (ℕ × ℤ)
in_order zero ts = []
in_order (suc n) ts = in_order n ts ++ term_of n (coefficient ts n)

more_terms : (bound n : ℕ) (z : ℤ) (out : List (ℕ × ℤ)) → unsigned_abs z < bound → AreTerms bound 0 n out → AreTerms bound 0 (suc n) (out ++ term_of n z)
unfolding term_of
more_terms bound n (pos zero) out small all = subst (λ (ts : List (ℕ × ℤ)). AreTerms bound 0 (suc n) ts) (sym (end_none out)) (terms_higher bound 0 n (suc n) out all (omega arith))
  where
    end_none : (xs : List (ℕ × ℤ)) → xs ++ [] ≡ xs
    end_none [] = refl
    end_none (x ∷ xs) = ap (λ z. x ∷ z) (end_none xs)
more_terms bound n (pos (suc k)) out small all =
    subst (λ (m : ℕ). AreTerms bound 0 m (out ++ (n, pos (suc k)) ∷ [])) (add-one n) (terms_end bound 0 n n (pos (suc k)) out all (omega arith) (omega arith) small)
more_terms bound n (negsuc k) out small all =
    subst (λ (m : ℕ). AreTerms bound 0 m (out ++ (n, negsuc k) ∷ [])) (add-one n) (terms_end bound 0 n n (negsuc k) out all (omega arith) (omega arith) small)

pub are_in_order : (bound n : ℕ) (ts : List (ℕ × ℤ)) → ((j : ℕ) → unsigned_abs (coefficient ts j) < bound) → AreTerms bound 0 n (in_order n ts)
unfolding in_order
are_in_order bound zero ts small = omega arith
are_in_order bound (suc n) ts small = more_terms bound n (coefficient ts n) (in_order n ts) (small n) (are_in_order bound n ts small)

-- ---- their coefficients

coefficient_append : (xs ys : List (ℕ × ℤ)) (j : ℕ) → coefficient (xs ++ ys) j ≡ coefficient xs j +ℤ coefficient ys j
coefficient_append xs ys j = sym (weigh_only (xs ++ ys) j) ∙ weigh_append xs ys (only j) ∙ ap (λ z. z +ℤ weigh ys (only j)) (weigh_only xs j) ∙ ap (λ z. coefficient xs j +ℤ z) (weigh_only ys j)

term_here : (n : ℕ) (z : ℤ) → coefficient (term_of n z) n ≡ z
unfolding term_of
term_here n (pos zero) = refl
term_here n (pos (suc k)) = ap (λ z. z +ℤ pos 0) (share_at n (pos (suc k))) ∙ +ℤ_idr (pos (suc k))
term_here n (negsuc k) = ap (λ z. z +ℤ pos 0) (share_at n (negsuc k)) ∙ +ℤ_idr (negsuc k)

term_elsewhere : (n j : ℕ) (z : ℤ) → (j ≡ n → ⊥) → coefficient (term_of n z) j ≡ pos 0
unfolding term_of
term_elsewhere n j (pos zero) other = refl
term_elsewhere n j (pos (suc k)) other = ap (λ z. z +ℤ pos 0) (share_other n j (pos (suc k)) other)
term_elsewhere n j (negsuc k) other = ap (λ z. z +ℤ pos 0) (share_other n j (negsuc k) other)

past_order : (n j : ℕ) (ts : List (ℕ × ℤ)) → n ≤ j → coefficient (in_order n ts) j ≡ pos 0
unfolding in_order
past_order zero j ts h = refl
past_order (suc n) j ts h =
    coefficient_append (in_order n ts) (term_of n (coefficient ts n)) j
    ∙ ap (λ z. z +ℤ coefficient (term_of n (coefficient ts n)) j) (past_order n j ts (omega arith))
    ∙ ap (λ z. pos 0 +ℤ z) (term_elsewhere n j (coefficient ts n) (λ e. omega (arith, h, e)))

at_order : (n j : ℕ) (ts : List (ℕ × ℤ)) → j < n → coefficient (in_order n ts) j ≡ coefficient ts j
unfolding in_order
at_order zero j ts h = absurd (omega arith)
at_order (suc n) j ts h =
    by_eq j n
    (λ same. subst (λ (k : ℕ). coefficient (in_order n ts ++ term_of n (coefficient ts n)) k ≡ coefficient ts k) (sym same)
    (coefficient_append (in_order n ts) (term_of n (coefficient ts n)) n ∙ omega (arith, ints, past_order n n ts (omega arith), term_here n (coefficient ts n))))
    (λ other. coefficient_append (in_order n ts) (term_of n (coefficient ts n)) j ∙ omega (arith, ints, at_order n j ts (omega (arith, h, other)), term_elsewhere n j (coefficient ts n) other))

-- ---- their sum

less_one : (a b : ℤ) → a +ℤ (b *ℤ negsuc 0) ≡ pos 0 → a ≡ b
less_one a b e = omega (arith, ints, e)

-- a sum is that of its coefficients
pub same_sum : (n : ℕ) (xs ys : List (ℕ × ℤ)) (v : ℕ → ℤ) → AllByRecursion (λ t. t.0 < n) xs → AllByRecursion (λ t. t.0 < n) ys → ((j : ℕ) → coefficient xs j ≡ coefficient ys j) → weigh xs v ≡ weigh ys v
same_sum n xs ys v bx by same =
    let both = xs ++ scale (negsuc 0) ys in
    let is : (w : ℕ → ℤ) → weigh both w ≡ weigh xs w +ℤ (weigh ys w *ℤ negsuc 0) = λ w. weigh_append xs (scale (negsuc 0) ys) w ∙ ap (λ z. weigh xs w +ℤ z) (weigh_scale (negsuc 0) ys w) in
    let none : (j : ℕ) → coefficient both j ≡ pos 0 = λ j. sym (weigh_only both j) ∙ is (only j) ∙ omega (arith, ints, weigh_only xs j, weigh_only ys j, same j) in
    less_one (weigh xs v) (weigh ys v) (sym (is v) ∙ no_sum both n v (all_append n xs (scale (negsuc 0) ys) bx (all_scale n (negsuc 0) ys by)) none)

pub order_sum : (bound n : ℕ) (ts : List (ℕ × ℤ)) (v : ℕ → ℤ) → ((j : ℕ) → unsigned_abs (coefficient ts j) < bound) → AllByRecursion (λ t. t.0 < n) ts → weigh (in_order n ts) v ≡ weigh ts v
order_sum bound n ts v small below =
    same_sum n (in_order n ts) ts v (terms_below bound 0 n (in_order n ts) (are_in_order bound n ts small)) below
    (λ j. by_lt j n (λ lt. at_order n j ts lt) (λ ge. past_order n j ts ge ∙ sym (past_places n j ts ge below)))
