-- Two lists of terms that ascend, together: which term comes first.
use Rattle.std.proofs.Common.{◌≡◌, ℕ, ℤ, ◌+◌, ◌<◌, ◌≤◌, Bool, true, false, cond, ltb, [], ◌∷◌, ◌++◌, length, refl, sym, ap, subst, ◌∙◌, arith}
use Rattle.std.proofs.lemmas.Bool.{lt-ltb, le-ltb}
use Rattle.std.proofs.lemmas.List.{append-nil}
use Rattle.lp_base.specs.Ascending.{ascends_by, number_of}
use Rattle.cert_text.proofs.Ascents.{BeginsAt, ascend_parts}
use Rattle.cert2_text.specs.Wholes.{Terms, insert, together}
use Rattle.cert2_check.specs.Results2.{IsNextTerm}

abbrev Term : Type 0
Term = ℕ × ℤ

abbrev Begins : ℕ → Terms → Type 0
Begins least xs = BeginsAt number_of least xs

abbrev pub Ascends : Terms → Type 0
Ascends xs = ascends_by number_of xs ≡ true

begins_weaker : (m n : ℕ) (xs : Terms) → m ≤ n → Begins n xs → Begins m xs
begins_weaker m n [] h b = tt
begins_weaker m n (x ∷ xs) h b = omega (arith, h, b)

insert_low : (t : Term) (xs : Terms) → Begins t.0 xs → insert t xs ≡ t ∷ xs
insert_low t [] b = refl
insert_low t (u ∷ xs) b = ap (λ (c : Bool). cond c (u ∷ insert t xs) (t ∷ u ∷ xs)) (le-ltb u.0 t.0 b)

insert_high : (t u : Term) (xs : Terms) → u.0 < t.0 → insert t (u ∷ xs) ≡ u ∷ insert t xs
insert_high t u xs h = ap (λ (c : Bool). cond c (u ∷ insert t xs) (t ∷ u ∷ xs)) (lt-ltb u.0 t.0 h)

insert_begins : (least : ℕ) (t : Term) (xs : Terms) → least ≤ t.0 → Begins least xs → Begins least (insert t xs)
insert_begins least t [] h b = h
insert_begins least t (u ∷ xs) h b = by_test (ltb u.0 t.0)
  where
    by_test : (c : Bool) → Begins least (cond c (u ∷ insert t xs) (t ∷ u ∷ xs))
    by_test true = b
    by_test false = h

together_begins : (least : ℕ) (list own : Terms) → Begins least list → Ascends list → Begins least own → Begins least (together list own)
together_begins least [] own b a h = h
together_begins least (t ∷ list) own b a h =
    let p = ascend_parts number_of t list a in
    insert_begins least t (together list own) b (together_begins least list own (begins_weaker least (t.0 + 1) list (omega (arith, b)) p.0) p.1 h)

pub take_list : (t : Term) (list own : Terms) → Ascends (t ∷ list) → Begins t.0 own → together (t ∷ list) own ≡ t ∷ together list own
take_list t list own a b =
    let p = ascend_parts number_of t list a in
    insert_low t (together list own) (together_begins t.0 list own (begins_weaker t.0 (t.0 + 1) list (omega arith) p.0) p.1 b)

take_own : (u : Term) (list own : Terms) → Begins (u.0 + 1) list → Ascends list → together list (u ∷ own) ≡ u ∷ together list own
take_own u [] own b a = refl
take_own u (t ∷ list) own b a =
    let p = ascend_parts number_of t list a in
    ap (insert t) (take_own u list own (begins_weaker (u.0 + 1) (t.0 + 1) list (omega (arith, b)) p.0) p.1) ∙ insert_high t u (together list own) (omega (arith, b))

-- ---- the next term

tail_ascends : (t : Term) (xs : Terms) → Ascends (t ∷ xs) → Ascends xs
tail_ascends t xs a = (ascend_parts number_of t xs a).1

from_own : (term : Term) (rest : Terms) → Ascends (term ∷ rest) → IsNextTerm [] (term ∷ rest) term [] rest
from_own term rest a = record { first = refl; list_ascends = refl; own_ascends = tail_ascends term rest a; shorter = omega arith }

pub next_from_own : (list own : Terms) (term : Term) (rest : Terms) → list ≡ [] → own ≡ term ∷ rest → Ascends own → IsNextTerm list own term list rest
next_from_own list own term rest e f a =
    subst (λ (l : Terms). IsNextTerm l own term l rest) (sym e) (subst (λ (o : Terms). IsNextTerm [] o term [] rest) (sym f) (from_own term rest (subst Ascends f a)))

pub no_length : (xs : Terms) → length xs ≡ 0 → xs ≡ []
no_length [] e = refl
no_length (x ∷ xs) e = absurd (omega (arith, e))

pub nothing_left : (list own : Terms) → list ≡ [] → length own ≡ 0 → together list own ≡ []
nothing_left list own e f = ap (λ (l : Terms). together l own) e ∙ no_length own f

from_list : (term : Term) (rest own : Terms) → Ascends (term ∷ rest) → Ascends own → Begins term.0 own → IsNextTerm (term ∷ rest) own term rest own
from_list term rest own a b h = record { first = take_list term rest own a h; list_ascends = tail_ascends term rest a; own_ascends = b; shorter = omega arith }

pub next_from_list : (list own : Terms) (term : Term) (rest : Terms) → list ≡ term ∷ rest → Ascends list → Ascends own → Begins term.0 own → IsNextTerm list own term rest own
next_from_list list own term rest e a b h = subst (λ (l : Terms). IsNextTerm l own term rest own) (sym e) (from_list term rest own (subst Ascends e a) b h)

pub begins_none : (least : ℕ) (own : Terms) → own ≡ [] → Begins least own
begins_none least own e = subst (Begins least) (sym e) tt

pub begins_some : (least : ℕ) (own : Terms) (u : Term) (others : Terms) → own ≡ u ∷ others → least ≤ u.0 → Begins least own
begins_some least own u others e h = subst (Begins least) (sym e) h

before_list : (term other : Term) (rest others : Terms) → Ascends (term ∷ rest) → Ascends (other ∷ others) → other.0 < term.0 → IsNextTerm (term ∷ rest) (other ∷ others) other (term ∷ rest) others
before_list term other rest others a b h = record { first = take_own other (term ∷ rest) others (omega (arith, h)) a; list_ascends = a; own_ascends = tail_ascends other others b; shorter = omega arith }

pub next_before_list : (list own : Terms) (term other : Term) (rest others : Terms) → list ≡ term ∷ rest → own ≡ other ∷ others → Ascends list → Ascends own → other.0 < term.0 → IsNextTerm list own other list others
next_before_list list own term other rest others e f a b h =
    subst (λ (l : Terms). IsNextTerm l own other l others) (sym e) (subst (λ (o : Terms). IsNextTerm (term ∷ rest) o other (term ∷ rest) others) (sym f) (before_list term other rest others (subst Ascends e a) (subst Ascends f b) h))

-- ---- the loop

abbrev append_assoc3 : Terms → Term → Terms → Terms
append_assoc3 all term left = (all ++ term ∷ []) ++ left

push_together : (all : Terms) (term : Term) (left : Terms) → append_assoc3 all term left ≡ all ++ term ∷ left
push_together [] term left = refl
push_together (x ∷ all) term left = ap (λ (xs : Terms). x ∷ xs) (push_together all term left)

pub merge_goes_on : (all now whole list own list_left own_left : Terms) (term : Term) → now ≡ all ++ term ∷ [] → IsNextTerm list own term list_left own_left → all ++ together list own ≡ whole → now ++ together list_left own_left ≡ whole
merge_goes_on all now whole list own list_left own_left term e n so_far =
    ap (λ (xs : Terms). xs ++ together list_left own_left) e ∙ push_together all term (together list_left own_left) ∙ ap (λ (xs : Terms). all ++ xs) (sym n.first) ∙ so_far

pub merge_ends : (all whole list own : Terms) → together list own ≡ [] → all ++ together list own ≡ whole → all ≡ whole
merge_ends all whole list own e so_far = sym (append-nil all) ∙ ap (λ (xs : Terms). all ++ xs) (sym e) ∙ so_far
