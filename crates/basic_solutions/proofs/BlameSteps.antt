-- The choices that multipliers need, found by marks on the constraints.
use Rattle.std.proofs.Common.{ℕ, zero, suc, ◌+◌, ◌<◌, ◌≤◌, ◌^◌, ◌≡◌, ◌∙◌, refl, sym, ap, subst, arith, ℤ, pos, ◌+ℤ◌, ◌<ℤ◌, List, [], ◌∷◌, ◌++◌, length, get_or, set, take, drop, Bool, true, false, cond, eqb, ◌&&◌, ◌||◌, not}
use Rattle.std.specs.Prelude.{int_lt, IsTrue, nat_lt}
use Rattle.std.proofs.lemmas.Bool.{eq-eqb, ne_eqb, and_from, lt-ltb}
use Rattle.std.proofs.lemmas.Int.{ints}
use Rattle.std.proofs.lemmas.List.{get_or-set_same, get_or-set_other, length-set, drop_more}
use Rattle.lp_base.proofs.Rises.{ascends_next}
use Rattle.lp_base.proofs.SumLaws.{sum_over-more}
use Rattle.nogoods.specs.declared.choice.Choice.{Choice}
use Rattle.nogoods.specs.Choices.{pair_of, pairs_ascend}
use Rattle.lpcc_case.specs.Instance.{Instance, chosen_number}
use Rattle.lpcc_case.specs.Points.{coefficient}
use Rattle.lpcc_case.proofs.Shares.{share_at, share_other}
use Rattle.dict.specs.Terms.{AreTerms}
use Rattle.dict.proofs.Pivots.{by_eq}
use Rattle.dict.proofs.SparseSums.{term_within}
use Rattle.walks.specs.Values.{is_chosen}
use Rattle.walks.specs.Duals.{blamed, blamed_after}

-- ---- marks of the constraints with a negative multiplier

take_before : (bound low high : ℕ) (ts : List (ℕ × ℤ)) (i : ℕ) → i < length ts → AreTerms bound low high ts → coefficient (take i ts) (get_or ts i (0, pos 0)).0 ≡ pos 0
take_before bound low high [] i h all = absurd (omega arith)
take_before bound low high (t ∷ ts) zero h all = refl
take_before bound low high (t ∷ ts) (suc i) h all =
    let at = term_within bound (t.0 + 1) high ts i (get_or ts i (0, pos 0)) (omega (arith, h)) refl all.3 in
    let none : cond (eqb t.0 (get_or ts i (0, pos 0)).0) t.1 (pos 0) ≡ pos 0 = share_other t.0 (get_or ts i (0, pos 0)).0 t.1 (λ e. omega (arith, e, at.0)) in
    omega (arith, ints, none, take_before bound (t.0 + 1) high ts i (omega (arith, h)) all.3)

taken : (bound high : ℕ) (ts : List (ℕ × ℤ)) (i k : ℕ) → i < length ts → coefficient (take (i + 1) ts) k ≡ coefficient (take i ts) k +ℤ cond (eqb (get_or ts i (0, pos 0)).0 k) (get_or ts i (0, pos 0)).1 (pos 0)
taken bound high ts i k h = sum_over-more (λ (t : ℕ × ℤ). cond (eqb t.0 k) t.1 (pos 0)) ts i (0, pos 0) h

pub record NegativeUpto (ts : List (ℕ × ℤ)) (i : ℕ) (marks : List Bool) (n : ℕ) : Type 0 where
  pub size : length marks ≡ n
  pub marked : (k : ℕ) → k < n → get_or marks k false ≡ int_lt (coefficient (take i ts) k) (pos 0)

pub negative_more : (n : ℕ) (ts : List (ℕ × ℤ)) (i : ℕ) (t : ℕ × ℤ) (b : Bool) (marks marks' : List Bool) → i < length ts → t ≡ get_or ts i (0, pos 0) → b ≡ int_lt t.1 (pos 0) → AreTerms (2 ^ 63) 0 n ts → marks' ≡ set marks t.0 b → NegativeUpto ts i marks n → NegativeUpto ts (i + 1) marks' n
negative_more n ts i t b marks marks' h et eb terms made before =
    let u = get_or ts i (0, pos 0) in
    let p : t.0 ≡ u.0 = ap (λ (s : ℕ × ℤ). s.0) et in
    let y : t.1 ≡ u.1 = ap (λ (s : ℕ × ℤ). s.1) et in
    let here = term_within (2 ^ 63) 0 n ts i t h et terms in
    subst (λ (ms : List Bool). NegativeUpto ts (i + 1) ms n) (sym made) (record {
      size = length-set marks t.0 b ∙ before.size;
      marked = λ k lt.
          by_eq k t.0
          (λ same.
          let at : get_or (set marks t.0 b) k false ≡ b = ap (λ m. get_or (set marks t.0 b) m false) same ∙ get_or-set_same marks t.0 b false (omega (arith, here.1, before.size)) in
          let none : coefficient (take i ts) k ≡ pos 0 = ap (λ m. coefficient (take i ts) m) (same ∙ p) ∙ take_before (2 ^ 63) 0 n ts i h terms in
          let own : cond (eqb u.0 k) u.1 (pos 0) ≡ u.1 = ap (λ m. cond (eqb u.0 m) u.1 (pos 0)) (same ∙ p) ∙ share_at u.0 u.1 in
          let value : coefficient (take (i + 1) ts) k ≡ t.1 = omega (arith, ints, taken 0 0 ts i k h, none, own, y) in
          at ∙ eb ∙ ap (λ z. int_lt z (pos 0)) (sym value))
          (λ other.
          let at : get_or (set marks t.0 b) k false ≡ get_or marks k false = get_or-set_other marks t.0 k b false other in
          let none : cond (eqb u.0 k) u.1 (pos 0) ≡ pos 0 = share_other u.0 k u.1 (λ e. other (e ∙ sym p)) in
          let value : coefficient (take i ts) k ≡ coefficient (take (i + 1) ts) k = omega (arith, ints, taken 0 0 ts i k h, none) in
          at ∙ before.marked k lt ∙ ap (λ z. int_lt z (pos 0)) value);
    })

pub negative_none : (n : ℕ) (ts : List (ℕ × ℤ)) (marks : List Bool) → length marks ≡ n → ((k : ℕ) → get_or marks k false ≡ false) → NegativeUpto ts 0 marks n
negative_none n ts marks size all = record { size = size; marked = λ k lt. all k }

-- ---- the choices

pub record Blaming (a : Instance) (mult : List (ℕ × ℤ)) (choices : List Choice) (i : ℕ) (marks : List Bool) (out : List Choice) : Type 0 where
  pub earlier : List Choice
  pub size : length marks ≡ length a.constraints
  pub marked : (k : ℕ) → k < length a.constraints → get_or marks k false ≡ (int_lt (coefficient mult k) (pos 0) && not (is_chosen a earlier k))
  pub rest : out ++ blamed_after a mult earlier (drop i choices) ≡ blamed a mult choices

and_false : (b : Bool) → (b && false) ≡ false
and_false true = refl
and_false false = refl

joined_by : (b : Bool) (out rest : List Choice) (c : Choice) → cond b (out ++ c ∷ []) out ++ rest ≡ out ++ cond b (c ∷ rest) rest
joined_by true out rest c = Rattle.std.proofs.Common.append_assoc out (c ∷ []) rest
joined_by false out rest c = refl

pub blaming_more : (a : Instance) (mult : List (ℕ × ℤ)) (choices : List Choice) (i r : ℕ) (c : Choice) (marks marks' : List Bool) (out out' : List Choice) → i < length choices → get_or choices i c ≡ c → r ≡ chosen_number a c → r < length a.constraints → out' ≡ cond (get_or marks r false) (out ++ c ∷ []) out → marks' ≡ set marks r false → Blaming a mult choices i marks out → Blaming a mult choices (i + 1) marks' out'
blaming_more a mult choices i r c marks marks' out out' h at number within taken cleared before =
    let k = chosen_number a c in
    let test = int_lt (coefficient mult k) (pos 0) && not (is_chosen a before.earlier k) in
    let size : length (set marks r false) ≡ length a.constraints = length-set marks r false ∙ before.size in
    let mark : get_or marks r false ≡ test = before.marked r within ∙ ap (λ n. int_lt (coefficient mult n) (pos 0) && not (is_chosen a before.earlier n)) number in
    let next = blamed_after a mult (c ∷ before.earlier) (drop (i + 1) choices) in
    let more : drop i choices ≡ c ∷ drop (i + 1) choices = drop_more choices i c h ∙ ap (λ d. d ∷ drop (i + 1) choices) at in
    record {
      earlier = c ∷ before.earlier;
      size = ap length cleared ∙ size;
      marked = λ n lt.
          ap (λ ms. get_or ms n false) cleared
          ∙ by_eq n r
          (λ same.
          let gone : get_or (set marks r false) n false ≡ false = ap (λ m. get_or (set marks r false) m false) same ∙ get_or-set_same marks r false false (omega (arith, within, before.size)) in
          let named : eqb k n ≡ true = eq-eqb k n (sym number ∙ sym same) in
          gone ∙ sym (ap (λ b. int_lt (coefficient mult n) (pos 0) && not (b || is_chosen a before.earlier n)) named ∙ and_false (int_lt (coefficient mult n) (pos 0))))
          (λ other.
          let kept : get_or (set marks r false) n false ≡ get_or marks n false = get_or-set_other marks r n false false other in
          let apart : eqb k n ≡ false = ne_eqb k n (λ e. other (sym e ∙ sym number)) in
          kept ∙ before.marked n lt ∙ sym (ap (λ b. int_lt (coefficient mult n) (pos 0) && not (b || is_chosen a before.earlier n)) apart));
      rest =
          ap (λ xs. xs ++ next) (taken ∙ ap (λ b. cond b (out ++ c ∷ []) out) mark)
          ∙ joined_by test out next c
          ∙ ap (λ cs. out ++ blamed_after a mult before.earlier cs) (sym more)
          ∙ before.rest;
    }

pub blaming_none : (a : Instance) (mult : List (ℕ × ℤ)) (choices : List Choice) (marks : List Bool) → length marks ≡ length a.constraints → ((k : ℕ) → k < length a.constraints → get_or marks k false ≡ int_lt (coefficient mult k) (pos 0)) → Blaming a mult choices 0 marks []
blaming_none a mult choices marks size all = record {
  earlier = [];
  size = size;
  marked = λ k lt. all k lt ∙ none_earlier (int_lt (coefficient mult k) (pos 0));
  rest = refl;
}
  where
    none_earlier : (b : Bool) → b ≡ (b && true)
    none_earlier true = refl
    none_earlier false = refl

all_dropped : (choices : List Choice) (i : ℕ) → length choices ≤ i → drop i choices ≡ []
all_dropped [] zero h = refl
all_dropped [] (suc i) h = refl
all_dropped (c ∷ cs) zero h = absurd (omega arith)
all_dropped (c ∷ cs) (suc i) h = all_dropped cs i (omega (arith, h))

none_behind : (xs : List Choice) → xs ++ [] ≡ xs
none_behind [] = refl
none_behind (x ∷ xs) = ap (λ ys. x ∷ ys) (none_behind xs)

pub blaming_done : (a : Instance) (mult : List (ℕ × ℤ)) (choices : List Choice) (i : ℕ) (marks : List Bool) (out : List Choice) → length choices ≤ i → Blaming a mult choices i marks out → out ≡ blamed a mult choices
blaming_done a mult choices i marks out past done =
    sym (none_behind out) ∙ ap (λ cs. out ++ blamed_after a mult done.earlier cs) (sym (all_dropped choices i past)) ∙ done.rest

-- ---- a part of an ascending list ascends

skipped : (c d : Choice) (cs : List Choice) → IsTrue (pairs_ascend (c ∷ d ∷ cs)) → IsTrue (pairs_ascend (c ∷ cs))
skipped c d [] h = refl
skipped c d (e ∷ cs) h =
    let p = ascends_next pair_of c d (e ∷ cs) h in
    let q = ascends_next pair_of d e cs p.1 in
    and_from (nat_lt c.pair e.pair) (pairs_ascend (e ∷ cs)) (lt-ltb c.pair e.pair (omega (arith, p.0, q.0))) q.1

kept_by : (b : Bool) (c d : Choice) (part : List Choice) → c.pair < d.pair → IsTrue (pairs_ascend (d ∷ part)) → IsTrue (pairs_ascend (c ∷ part)) → IsTrue (pairs_ascend (c ∷ cond b (d ∷ part) part))
kept_by true c d part lt here rest = and_from (nat_lt c.pair d.pair) (pairs_ascend (d ∷ part)) (lt-ltb c.pair d.pair lt) here
kept_by false c d part lt here rest = rest

behind : (a : Instance) (mult : List (ℕ × ℤ)) (earlier : List Choice) (c : Choice) (cs : List Choice) → IsTrue (pairs_ascend (c ∷ cs)) → IsTrue (pairs_ascend (c ∷ blamed_after a mult earlier cs))
behind a mult earlier c [] h = refl
behind a mult earlier c (d ∷ cs) h =
    let p = ascends_next pair_of c d cs h in
    kept_by (int_lt (coefficient mult (chosen_number a d)) (pos 0) && not (is_chosen a earlier (chosen_number a d))) c d (blamed_after a mult (d ∷ earlier) cs) p.0 (behind a mult (d ∷ earlier) d cs p.1) (behind a mult (d ∷ earlier) c cs (skipped c d cs h))

first_by : (b : Bool) (d : Choice) (part : List Choice) → IsTrue (pairs_ascend (d ∷ part)) → IsTrue (pairs_ascend part) → IsTrue (pairs_ascend (cond b (d ∷ part) part))
first_by true d part here rest = here
first_by false d part here rest = rest

tail_of : (c : Choice) (cs : List Choice) → IsTrue (pairs_ascend (c ∷ cs)) → IsTrue (pairs_ascend cs)
tail_of c cs h = Rattle.lp_base.proofs.Rises.ascends_tail pair_of c cs h

blamed_after_ascends : (a : Instance) (mult : List (ℕ × ℤ)) (earlier cs : List Choice) → IsTrue (pairs_ascend cs) → IsTrue (pairs_ascend (blamed_after a mult earlier cs))
blamed_after_ascends a mult earlier [] h = refl
blamed_after_ascends a mult earlier (d ∷ cs) h =
    first_by (int_lt (coefficient mult (chosen_number a d)) (pos 0) && not (is_chosen a earlier (chosen_number a d))) d (blamed_after a mult (d ∷ earlier) cs) (behind a mult (d ∷ earlier) d cs h) (blamed_after_ascends a mult (d ∷ earlier) cs (tail_of d cs h))

pub blamed_ascends : (a : Instance) (mult : List (ℕ × ℤ)) (cs : List Choice) → IsTrue (pairs_ascend cs) → IsTrue (pairs_ascend (blamed a mult cs))
blamed_ascends a mult cs h = blamed_after_ascends a mult [] cs h
