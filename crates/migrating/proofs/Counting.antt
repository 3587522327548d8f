-- How often multipliers stand in the cuts.
use Rattle.std.proofs.Common.{◌≡◌, ℕ, ◌+◌, ◌<◌, ◌≤◌, Bool, true, false, ◌&&◌, cond, leb, List, [], ◌∷◌, ◌++◌, length, take, get_or, refl, sym, ap, subst, ◌∙◌, arith}
use Rattle.std.specs.Prelude.{◌||◌, flat_map, OnOk, Result, Ok, Err}
use Rattle.std.specs.List.{filter}
use Rattle.std.proofs.lemmas.Bool.{le-leb, lt-leb, leb-true, leb-false, and_parts}
use Rattle.std.proofs.lemmas.List.{length-append, take_more, take_all}
use Rattle.std.proofs.lemmas.List.Concat.{flat_map-append}
use Rattle.std.proofs.lemmas.List.Elements.{filter-append}
use Rattle.std.proofs.lemmas.List.Folds.{list_any-append}
use Rattle.cert_text.specs.declared.cert.CertLine.{CertLine}
use Rattle.cert2_text.specs.Wholes.{Terms}
use Rattle.migrating.specs.declared.lists.TheConstants.{LEAST_SHARED}
use Rattle.migrating.specs.Migration.{same_terms, has_list, mult_in}
use Rattle.migrating.specs.Making.{add_list, count_in, AreCounted}
use Rattle.migrating.proofs.Saying.{same_terms_is}
use Rattle.migrating.proofs.Keys.{same_terms_own}

abbrev Agrees : List Terms → List Terms → ℕ → Terms → Type 0
Agrees mults lists k mult = has_list lists mult ≡ (leb LEAST_SHARED (length mult) && leb k (count_in mults mult))

-- what holds of the last multipliers, and of all that are not the same, holds
by_last : (P : Terms → Type 0) (x : Terms) → P x → ((m : Terms) → same_terms m x ≡ false → P m) → (m : Terms) → P m
by_last P x here other m = by (same_terms m x) refl
  where
    by : (t : Bool) → same_terms m x ≡ t → P m
    by true e = subst P (sym (same_terms_is m x e)) here
    by false e = other m e

count_push : (mults : List Terms) (x m : Terms) → count_in (mults ++ x ∷ []) m ≡ count_in mults m + cond (same_terms m x) 1 0
count_push mults x m =
    ap length (filter-append (same_terms m) mults (x ∷ [])) ∙ length-append (filter (same_terms m) mults) (filter (same_terms m) (x ∷ []))
    ∙ ap (λ (n : ℕ). count_in mults m + n) (one (same_terms m x))
  where
    one : (b : Bool) → length (cond b (x ∷ []) []) ≡ cond b 1 0
    one true = refl
    one false = refl

count_own : (mults : List Terms) (x : Terms) → count_in (mults ++ x ∷ []) x ≡ count_in mults x + 1
count_own mults x = count_push mults x x ∙ ap (λ (b : Bool). count_in mults x + cond b 1 0) (same_terms_own x)

count_other : (mults : List Terms) (x m : Terms) → same_terms m x ≡ false → count_in (mults ++ x ∷ []) m ≡ count_in mults m
count_other mults x m e = let p = count_push mults x m ∙ ap (λ (b : Bool). count_in mults m + cond b 1 0) e in omega (arith, p)

agrees_other : (mults lists : List Terms) (k : ℕ) (x m : Terms) → same_terms m x ≡ false → Agrees mults lists k m → Agrees (mults ++ x ∷ []) lists k m
agrees_other mults lists k x m e h = h ∙ ap (λ (n : ℕ). leb LEAST_SHARED (length m) && leb k n) (sym (count_other mults x m e))

or_false : (b : Bool) → (b || false) ≡ b
or_false true = refl
or_false false = refl

or_true : (b : Bool) → (b || true) ≡ true
or_true true = refl
or_true false = refl

has_push : (lists : List Terms) (x m : Terms) → has_list (lists ++ x ∷ []) m ≡ (has_list lists m || same_terms m x)
has_push lists x m = list_any-append (same_terms m) lists (x ∷ []) ∙ ap (λ (b : Bool). has_list lists m || b) (or_false (same_terms m x))

added_other : (lists : List Terms) (x m : Terms) → same_terms m x ≡ false → has_list (add_list lists x) m ≡ has_list lists m
added_other lists x m e = by (has_list lists x)
  where
    by : (t : Bool) → has_list (cond t lists (lists ++ x ∷ [])) m ≡ has_list lists m
    by true = refl
    by false = has_push lists x m ∙ ap (λ (b : Bool). has_list lists m || b) e ∙ or_false (has_list lists m)

added_own : (lists : List Terms) (x : Terms) → has_list (add_list lists x) x ≡ true
added_own lists x = by (has_list lists x) refl
  where
    by : (t : Bool) → has_list lists x ≡ t → has_list (cond t lists (lists ++ x ∷ [])) x ≡ true
    by true e = e
    by false e = has_push lists x x ∙ ap (λ (b : Bool). has_list lists x || b) (same_terms_own x) ∙ or_true (has_list lists x)

agrees_added : (mults lists : List Terms) (k : ℕ) (x m : Terms) → same_terms m x ≡ false → Agrees mults lists k m → Agrees (mults ++ x ∷ []) (add_list lists x) k m
agrees_added mults lists k x m e h = added_other lists x m e ∙ agrees_other mults lists k x m e h

both_false : (g a b : Bool) → g ≡ false → (g && a) ≡ (g && b)
both_false true a b e = absurd cc
both_false false a b e = refl

and_true : (g a : Bool) → g ≡ true → a ≡ true → true ≡ (g && a)
and_true g a p q = rw (p, q) refl

-- ---- multipliers behind all others

pub count_short : (mults once again : List Terms) (x : Terms) → length x < LEAST_SHARED → AreCounted mults once again → AreCounted (mults ++ x ∷ []) once again
count_short mults once again x short h = record {
  once_is = by_last (Agrees (mults ++ x ∷ []) once 1) x (same once 1 (h.once_is x)) (λ m e. agrees_other mults once 1 x m e (h.once_is m));
  again_is = by_last (Agrees (mults ++ x ∷ []) again 2) x (same again 2 (h.again_is x)) (λ m e. agrees_other mults again 2 x m e (h.again_is m));
}
  where
    same : (lists : List Terms) (k : ℕ) → Agrees mults lists k x → Agrees (mults ++ x ∷ []) lists k x
    same lists k e = e ∙ both_false (leb LEAST_SHARED (length x)) (leb k (count_in mults x)) (leb k (count_in (mults ++ x ∷ []) x)) (lt-leb LEAST_SHARED (length x) short)

pub count_seen : (mults once again : List Terms) (x : Terms) → LEAST_SHARED ≤ length x → has_list once x ≡ true → AreCounted mults once again → AreCounted (mults ++ x ∷ []) once (add_list again x)
count_seen mults once again x long seen h = record {
  once_is = by_last (Agrees (mults ++ x ∷ []) once 1) x once_own (λ m e. agrees_other mults once 1 x m e (h.once_is m));
  again_is = by_last (Agrees (mults ++ x ∷ []) (add_list again x) 2) x again_own (λ m e. agrees_added mults again 2 x m e (h.again_is m));
}
  where
    before : 1 ≤ count_in mults x
    before = leb-true 1 (count_in mults x) (and_parts (leb LEAST_SHARED (length x)) (leb 1 (count_in mults x)) (sym (h.once_is x) ∙ seen)).1

    once_own : Agrees (mults ++ x ∷ []) once 1 x
    once_own = seen ∙ and_true (leb LEAST_SHARED (length x)) (leb 1 (count_in (mults ++ x ∷ []) x)) (le-leb LEAST_SHARED (length x) long) (le-leb 1 (count_in (mults ++ x ∷ []) x) (omega (arith, count_own mults x)))

    again_own : Agrees (mults ++ x ∷ []) (add_list again x) 2 x
    again_own = added_own again x ∙ and_true (leb LEAST_SHARED (length x)) (leb 2 (count_in (mults ++ x ∷ []) x)) (le-leb LEAST_SHARED (length x) long)
        (le-leb 2 (count_in (mults ++ x ∷ []) x) (omega (arith, count_own mults x, before)))

pub count_new : (mults once again : List Terms) (x : Terms) → LEAST_SHARED ≤ length x → has_list once x ≡ false → AreCounted mults once again → AreCounted (mults ++ x ∷ []) (add_list once x) again
count_new mults once again x long new h = record {
  once_is = by_last (Agrees (mults ++ x ∷ []) (add_list once x) 1) x once_own (λ m e. agrees_added mults once 1 x m e (h.once_is m));
  again_is = by_last (Agrees (mults ++ x ∷ []) again 2) x again_own (λ m e. agrees_other mults again 2 x m e (h.again_is m));
}
  where
    right_false : (g a : Bool) → g ≡ true → (g && a) ≡ false → a ≡ false
    right_false true a p q = q
    right_false false a p q = absurd cc

    none : count_in mults x < 1
    none = leb-false 1 (count_in mults x) (right_false (leb LEAST_SHARED (length x)) (leb 1 (count_in mults x)) (le-leb LEAST_SHARED (length x) long) (sym (h.once_is x) ∙ new))

    once_own : Agrees (mults ++ x ∷ []) (add_list once x) 1 x
    once_own = added_own once x ∙ and_true (leb LEAST_SHARED (length x)) (leb 1 (count_in (mults ++ x ∷ []) x)) (le-leb LEAST_SHARED (length x) long) (le-leb 1 (count_in (mults ++ x ∷ []) x) (omega (arith, count_own mults x)))

    again_own : Agrees (mults ++ x ∷ []) again 2 x
    again_own = h.again_is x ∙ ap (λ (b : Bool). leb LEAST_SHARED (length x) && b)
        (lt-leb 2 (count_in mults x) (omega (arith, none)) ∙ sym (lt-leb 2 (count_in (mults ++ x ∷ []) x) (omega (arith, count_own mults x, none))))

-- ---- lines

pub none_counted : AreCounted [] [] []
none_counted = record { once_is = λ m. zero_is m 1 refl; again_is = λ m. zero_is m 2 refl }
  where
    and_false : (g : Bool) → false ≡ (g && false)
    and_false true = refl
    and_false false = refl

    zero_is : (m : Terms) (k : ℕ) → leb k 0 ≡ false → Agrees [] [] k m
    zero_is m k e = and_false (leb LEAST_SHARED (length m)) ∙ ap (λ (b : Bool). leb LEAST_SHARED (length m) && b) (sym e)

pub line_counted : (lines : List CertLine) (i : ℕ) (y : CertLine) (once again new_once new_again : List Terms) → i < length lines → y ≡ get_or lines i y → AreCounted (flat_map mult_in (take i lines)) once again
    → ((mults : List Terms) → AreCounted mults once again → AreCounted (mults ++ mult_in y) new_once new_again) → AreCounted (flat_map mult_in (take (i + 1) lines)) new_once new_again
line_counted lines i y once again new_once new_again inside same h step =
    subst (λ (ms : List Terms). AreCounted ms new_once new_again) (sym more) (step (flat_map mult_in (take i lines)) h)
  where
    append_none : (xs : List Terms) → (xs ++ []) ≡ xs
    append_none [] = refl
    append_none (x ∷ xs) = ap (λ (ys : List Terms). x ∷ ys) (append_none xs)

    more : flat_map mult_in (take (i + 1) lines) ≡ flat_map mult_in (take i lines) ++ mult_in y
    more = ap (λ (ls : List CertLine). flat_map mult_in ls) (take_more lines i y inside) ∙ flat_map-append mult_in (take i lines) (get_or lines i y ∷ [])
        ∙ ap (λ (ms : List Terms). flat_map mult_in (take i lines) ++ ms) (append_none (mult_in (get_or lines i y)) ∙ ap mult_in (sym same))

pub lines_counted : (lines : List CertLine) (i : ℕ) (once again : List Terms) → length lines ≤ i → AreCounted (flat_map mult_in (take i lines)) once again → AreCounted (flat_map mult_in lines) once again
lines_counted lines i once again past h = subst (λ (ls : List CertLine). AreCounted (flat_map mult_in ls) once again) (take_all i lines past) h

-- ---- as the code does it

pub seen_ok : {V E : Type 0} (once again new : List Terms) (x : Terms) (seen : Bool) (r : Result V E) → LEAST_SHARED ≤ length x → seen ≡ has_list once x → seen ≡ true → OnOk r (new ≡ add_list again x)
    → OnOk r ((mults : List Terms) → AreCounted mults once again → AreCounted (mults ++ x ∷ []) once new)
seen_ok once again new x seen (Err e) long is holds h = tt
seen_ok once again new x seen (Ok v) long is holds h = λ mults counted. subst (λ (ls : List Terms). AreCounted (mults ++ x ∷ []) once ls) (sym h) (count_seen mults once again x long (sym is ∙ holds) counted)

pub new_ok : {V E : Type 0} (once again new : List Terms) (x : Terms) (seen : Bool) (r : Result V E) → LEAST_SHARED ≤ length x → seen ≡ has_list once x → seen ≡ false → OnOk r (new ≡ add_list once x)
    → OnOk r ((mults : List Terms) → AreCounted mults once again → AreCounted (mults ++ x ∷ []) new again)
new_ok once again new x seen (Err e) long is fails h = tt
new_ok once again new x seen (Ok v) long is fails h = λ mults counted. subst (λ (ls : List Terms). AreCounted (mults ++ x ∷ []) ls again) (sym h) (count_new mults once again x long (sym is ∙ fails) counted)
