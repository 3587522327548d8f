-- The resolvent of two no-goods follows from them.
use Rattle.std.proofs.Common.{inl, inr, ℕ, zero, suc, ◌+◌, ◌<◌, ◌≡◌, refl, sym, ap, ◌∙◌, subst, arith, Bool, true, false, IsTrue, ◌||◌, ◌&&◌, nat_eq, List, [], ◌∷◌, ◌++◌, length, get_or, take, ◌⊎◌}
use Rattle.std.specs.Prelude.{◌↔◌, All, Contains, Result, Ok, Err, OnOk, cond, filter, if◌then◌else◌}
use Rattle.std.proofs.lemmas.List.{append-nil, take_more}
use Rattle.std.specs.List.{AllByRecursion}
use Rattle.std.proofs.lemmas.Bool.{cases_Bool, eqb-true, eq-eqb, false≢true, lt-ltb}
use Rattle.std.proofs.lemmas.List.Elements.{All-contains, All-contains_itself, All-filter, All-weaker, All-from_recursion, Contains-get_or, recursion_from_All}
use Rattle.lp_base.proofs.Rises.{ascends_below, ascends_tail}
use Rattle.nogoods.specs.declared.choice.Choice.{Choice}
use Rattle.nogoods.specs.declared.choice.Side.{Side}
use Rattle.nogoods.specs.declared.choice.Side.TheVariants.{A, B}
use Rattle.nogoods.specs.Choices.{other, pair_of, pairs_ascend, same_choice, same_side}
use Rattle.derivation.specs.HintRuns.{closes, is_assumed, unassumed}
use Rattle.derivation.proofs.RunSteps.{at_none, at_one}
use Rattle.derivation.proofs.Soundness.{same_side-true}
use Rattle.tree_engine.specs.Paths.{IsOn, choice_of, first_side, second_side, with_choice}
use Rattle.tree_engine.proofs.Lists.{here, there}
use Rattle.tree_engine.proofs.LoosePairs.{choice_is}
use Rattle.tree_engine.proofs.PathLaws.{all_with}
use Rattle.tree_certs.specs.Derivations.{resolvent}

-- ---- assumed choices are those of the list

or_left : (b c : Bool) → b ≡ true → (b || c) ≡ true
or_left true c e = refl
or_left false c e = absurd (false≢true e)

or_right : (b c : Bool) → c ≡ true → (b || c) ≡ true
or_right true c e = refl
or_right false c e = e

or_cases : (b c : Bool) → (b || c) ≡ true → (b ≡ true) ⊎ (c ≡ true)
or_cases true c e = inl refl
or_cases false c e = inr e

both_from : (b c : Bool) → b ≡ true → c ≡ true → (b && c) ≡ true
both_from true c e f = f
both_from false c e f = absurd (false≢true e)

both_parts : (b c : Bool) → (b && c) ≡ true → (b ≡ true) × (c ≡ true)
both_parts true c e = (refl, e)
both_parts false c e = absurd (false≢true e)

same_side_itself : (s : Side) → same_side s s ≡ true
same_side_itself A = refl
same_side_itself B = refl

same_itself : (c : Choice) → same_choice c c ≡ true
same_itself c = both_from (nat_eq c.pair c.pair) (same_side c.side c.side) (eq-eqb c.pair c.pair refl) (same_side_itself c.side)

same_is : (c d : Choice) → same_choice c d ≡ true → c ≡ d
same_is c d e =
    let parts = both_parts (nat_eq c.pair d.pair) (same_side c.side d.side) e in
    choice_is c d (eqb-true c.pair d.pair parts.0) (same_side-true c.side d.side parts.1)

pub contained_is_assumed : (cs : List Choice) (c : Choice) → Contains cs c → is_assumed cs c ≡ true
contained_is_assumed [] c at = absurd (omega (arith, at.1))
contained_is_assumed (d ∷ cs) c (zero, inside, e) =
    let same : d ≡ c = e in
    or_left (same_choice d c) (is_assumed cs c) (subst (λ x. same_choice x c ≡ true) (sym same) (same_itself c))
contained_is_assumed (d ∷ cs) c (suc k, inside, e) = or_right (same_choice d c) (is_assumed cs c) (contained_is_assumed cs c (k, omega (arith, inside), e))

pub assumed_is_contained : (cs : List Choice) (c : Choice) → is_assumed cs c ≡ true → Contains cs c
assumed_is_contained [] c e = absurd (false≢true e)
assumed_is_contained (d ∷ cs) c e = elim (or_cases (same_choice d c) (is_assumed cs c) e) [
  | inl same ↦ subst (λ x. Contains (d ∷ cs) x) (same_is d c same) (here d cs)
  | inr later ↦ there d cs c (assumed_is_contained cs c later)
]

pub not_contained : (cs : List Choice) (c : Choice) → (Contains cs c → ⊥) → is_assumed cs c ≡ false
not_contained cs c none = elim (cases_Bool (is_assumed cs c)) [
  | inl held ↦ absurd (none (assumed_is_contained cs c held))
  | inr lacks ↦ lacks
]

-- ---- what is left of a no-good

none_left : (list cs : List Choice) → AllByRecursion (λ c. is_assumed list c ≡ true) cs → unassumed list cs ≡ []
none_left list [] all = refl
none_left list (c ∷ cs) all = rw all.0 (none_left list cs all.1)

above_all : (x : Choice) (cs : List Choice) (list : List Choice) → IsTrue (pairs_ascend (x ∷ cs)) → AllByRecursion (λ c. (c ≡ x) ⊎ (is_assumed list c ≡ true)) cs → AllByRecursion (λ c. is_assumed list c ≡ true) cs
above_all x cs list up all = recursion_from_All (λ c. is_assumed list c ≡ true) cs (λ k d inside. each k d inside (All-from_recursion (λ c. (c ≡ x) ⊎ (is_assumed list c ≡ true)) cs all k d inside))
  where
    each : (k : ℕ) (d : Choice) → k < length cs → (get_or cs k d ≡ x) ⊎ (is_assumed list (get_or cs k d) ≡ true) → is_assumed list (get_or cs k d) ≡ true
    each k d inside (inl same) = absurd (omega (arith, ascends_below pair_of x cs k d up inside, ap pair_of same))
    each k d inside (inr held) = held

pub one_left : (list cs : List Choice) (x : Choice) → IsTrue (pairs_ascend cs) → is_assumed list x ≡ false → Contains cs x → AllByRecursion (λ c. (c ≡ x) ⊎ (is_assumed list c ≡ true)) cs → unassumed list cs ≡ x ∷ []
one_left list [] x up free at all = absurd (omega (arith, at.1))
one_left list (c ∷ cs) x up free at all = elim all.0 [
  | inl same ↦ subst (λ y. unassumed list (y ∷ cs) ≡ x ∷ []) (sym same) (at_front same)
  | inr held ↦ rw held (one_left list cs x (ascends_tail pair_of c cs up) free (later held at) all.1)
]
  where
    at_front : c ≡ x → unassumed list (x ∷ cs) ≡ x ∷ []
    at_front same = rw free (ap (λ l. x ∷ l) (none_left list cs (above_all x cs list (subst (λ y. IsTrue (pairs_ascend (y ∷ cs))) same up) all.1)))

    later : is_assumed list c ≡ true → Contains (c ∷ cs) x → Contains cs x
    later held (zero, inside, e) =
        let same : c ≡ x = e in
        absurd (false≢true (sym free ∙ subst (λ y. is_assumed list y ≡ true) same held))
    later held (suc k, inside, e) = (k, omega (arith, inside), e)

-- ---- the resolvent

in_resolvent : (path u v : List Choice) (c : Choice) → Contains path c → (is_assumed u c || is_assumed v c) ≡ true → Contains (resolvent path u v) c
in_resolvent path u v c at test = in_filter (λ d. is_assumed u d || is_assumed v d) path c at test
  where
    in_cond : (p : Choice → Bool) (d : Choice) (rest : List Choice) (c : Choice) (b : Bool) → Contains rest c → Contains (cond b (d ∷ rest) rest) c
    in_cond p d rest c true h = there d rest c h
    in_cond p d rest c false h = h

    in_filter : (p : Choice → Bool) (cs : List Choice) (c : Choice) → Contains cs c → p c ≡ true → Contains (filter p cs) c
    in_filter p [] c at test = absurd (omega (arith, at.1))
    in_filter p (d ∷ cs) c (zero, inside, e) test =
        let same : d ≡ c = e in
        subst (λ x. Contains (filter p (d ∷ cs)) x) same (rw (subst (λ x. p x ≡ true) (sym same) test) (here d (filter p cs)))
    in_filter p (d ∷ cs) c (suc k, inside, e) test = in_cond p d (filter p cs) c (p d) (in_filter p cs c (k, omega (arith, inside), e) test)

pub resolvent_on_path : (path u v : List Choice) → All (Contains path) (resolvent path u v)
resolvent_on_path path u v = All-filter (λ c. is_assumed u c || is_assumed v c) (Contains path) path (All-contains_itself path)

pub on_longer : (c d : Choice) (path : List Choice) → Contains (with_choice c path) d → (d ≡ c) ⊎ Contains path d
on_longer c d path at =
    All-contains (λ x. (x ≡ c) ⊎ Contains path x) (with_choice c path) d
    (all_with (λ x. (x ≡ c) ⊎ Contains path x) c path (inl refl) (All-weaker (Contains path) (λ x. (x ≡ c) ⊎ Contains path x) (λ x h. inr h) path (All-contains_itself path))) at

-- each choice of a side's no-good is the side's, or in the resolvent
first_parts : (path u v : List Choice) (c : Choice) → All (Contains (with_choice c path)) u → AllByRecursion (λ d. (d ≡ c) ⊎ (is_assumed (resolvent path u v) d ≡ true)) u
first_parts path u v c on = recursion_from_All (λ d. (d ≡ c) ⊎ (is_assumed (resolvent path u v) d ≡ true)) u (λ k d inside. each (get_or u k d) (Contains-get_or u k d inside) (on_longer c (get_or u k d) path (on k d inside)))
  where
    each : (x : Choice) → Contains u x → (x ≡ c) ⊎ Contains path x → (x ≡ c) ⊎ (is_assumed (resolvent path u v) x ≡ true)
    each x own (inl same) = inl same
    each x own (inr at) = inr (contained_is_assumed (resolvent path u v) x (in_resolvent path u v x at (or_left (is_assumed u x) (is_assumed v x) (contained_is_assumed u x own))))

second_parts : (path u v : List Choice) (c : Choice) → All (Contains (with_choice c path)) v → AllByRecursion (λ d. is_assumed (c ∷ resolvent path u v) d ≡ true) v
second_parts path u v c on = recursion_from_All (λ d. is_assumed (c ∷ resolvent path u v) d ≡ true) v (λ k d inside. each (get_or v k d) (Contains-get_or v k d inside) (on_longer c (get_or v k d) path (on k d inside)))
  where
    each : (x : Choice) → Contains v x → (x ≡ c) ⊎ Contains path x → is_assumed (c ∷ resolvent path u v) x ≡ true
    each x own (inl same) = contained_is_assumed (c ∷ resolvent path u v) x (subst (λ y. Contains (c ∷ resolvent path u v) y) (sym same) (here c (resolvent path u v)))
    each x own (inr at) = contained_is_assumed (c ∷ resolvent path u v) x (there c (resolvent path u v) x (in_resolvent path u v x at (or_right (is_assumed u x) (is_assumed v x) (contained_is_assumed v x own))))

free_of : (path u v : List Choice) (pair : ℕ) (s : Side) → (IsOn path pair → ⊥) → is_assumed (resolvent path u v) (choice_of pair s) ≡ false
free_of path u v pair s free =
    not_contained (resolvent path u v) (choice_of pair s) (λ at.
    let on = All-contains (Contains path) (resolvent path u v) (choice_of pair s) (resolvent_on_path path u v) at in
    free (on.0, choice_of pair s, on.1, on.2, refl))

pub resolution_closes : (earlier : List (List Choice)) (path u v : List Choice) (pair i j : ℕ) → i < length earlier → j < length earlier → get_or earlier i [] ≡ u → get_or earlier j [] ≡ v → IsTrue (pairs_ascend u) → All (Contains (first_side pair path)) u → All (Contains (second_side pair path)) v → Contains u (choice_of pair A) → (IsOn path pair → ⊥) → closes earlier (resolvent path u v) (i ∷ j ∷ []) ≡ true
resolution_closes earlier path u v pair i j low high at_i at_j up on_a on_b has free =
    let ng = resolvent path u v in
    let a_side = choice_of pair A in
    let left : unassumed ng (get_or earlier i []) ≡ a_side ∷ [] =
    ap (unassumed ng) at_i ∙ one_left ng u a_side up (free_of path u v pair A free) has (first_parts path u v a_side on_a) in
    let none : unassumed (other a_side ∷ ng) (get_or earlier j []) ≡ [] =
    ap (unassumed (other a_side ∷ ng)) at_j ∙ none_left (other a_side ∷ ng) v (second_parts path u v (choice_of pair B) on_b) in
    at_one earlier ng i (j ∷ []) a_side low left (free_of path u v pair B free) ∙ at_none earlier (other a_side ∷ ng) j [] high none

-- ---- as it is made

pub is_assumed_by : (r : Bool) (cs : List Choice) (c : Choice) → IsTrue r ↔ Contains cs c → r ≡ is_assumed cs c
is_assumed_by true cs c tells = sym (contained_is_assumed cs c (tells.0 refl))
is_assumed_by false cs c tells = sym (not_contained cs c (λ at. false≢true (tells.1 at)))

filter_cond : (p : Choice → Bool) (x : Choice) (xs more : List Choice) (b : Bool) → (cond b (x ∷ xs) xs) ++ more ≡ cond b (x ∷ (xs ++ more)) (xs ++ more)
filter_cond p x xs more true = refl
filter_cond p x xs more false = refl

filter_both : (p : Choice → Bool) (xs ys : List Choice) → filter p (xs ++ ys) ≡ filter p xs ++ filter p ys
filter_both p [] ys = refl
filter_both p (x ∷ xs) ys = ap (λ l. cond (p x) (x ∷ l) l) (filter_both p xs ys) ∙ sym (filter_cond p x (filter p xs) (filter p ys) (p x))

filter_last : (b : Bool) (c : Choice) (made : List Choice) → (if b then made ++ c ∷ [] else made) ≡ made ++ cond b (c ∷ []) []
filter_last true c made = refl
filter_last false c made = sym (append-nil made)

pub resolvent_more : {E : Type 0} (r : Result (Unit {0}) E) (path u v : List Choice) (at : ℕ) (c : Choice) (b : Bool) (made new : List Choice) → at < length path → c ≡ get_or path at c → b ≡ (is_assumed u c || is_assumed v c) → made ≡ resolvent (take at path) u v → OnOk r (new ≡ (if b then made ++ c ∷ [] else made)) → OnOk r (new ≡ resolvent (take (at + 1) path) u v)
resolvent_more (Ok x) path u v at c b made new inside read is so_far pushed =
    let p : Choice → Bool = λ d. is_assumed u d || is_assumed v d in
    pushed ∙ filter_last b c made ∙ ap (λ m. m ++ cond b (c ∷ []) []) so_far ∙ ap (λ t. filter p (take at path) ++ cond t (c ∷ []) []) is
    ∙ ap (λ x. filter p (take at path) ++ filter p (x ∷ [])) read
    ∙ sym (filter_both p (take at path) (get_or path at c ∷ [])) ∙ ap (filter p) (sym (take_more path at c inside))
resolvent_more (Err e) path u v at c b made new inside read is so_far pushed = pushed

ascends_cons : (d : Choice) (path : List Choice) → All (λ c. d.pair < c.pair) path → IsTrue (pairs_ascend path) → IsTrue (pairs_ascend (d ∷ path))
ascends_cons d [] above up = refl
ascends_cons d (e ∷ path) above up = rw (lt-ltb d.pair e.pair (above 0 e (omega arith))) up

filter_ascends : (p : Choice → Bool) (cs : List Choice) → IsTrue (pairs_ascend cs) → IsTrue (pairs_ascend (filter p cs))
filter_ascends p [] up = refl
filter_ascends p (c ∷ cs) up =
    each (p c) (filter_ascends p cs (ascends_tail pair_of c cs up))
    (All-filter p (λ d. c.pair < d.pair) cs (λ k d inside. ascends_below pair_of c cs k d up inside))
  where
    each : (b : Bool) → IsTrue (pairs_ascend (filter p cs)) → All (λ d. c.pair < d.pair) (filter p cs) → IsTrue (pairs_ascend (cond b (c ∷ filter p cs) (filter p cs)))
    each true rest above = ascends_cons c (filter p cs) above rest
    each false rest above = rest

pub resolvent_ascends : (path u v : List Choice) → IsTrue (pairs_ascend path) → IsTrue (pairs_ascend (resolvent path u v))
resolvent_ascends path u v up = filter_ascends (λ c. is_assumed u c || is_assumed v c) path up
