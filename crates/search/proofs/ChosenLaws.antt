-- The choices of marked pairs.
use Rattle.std.proofs.Common.{ℕ, zero, suc, ◌+◌, ◌<◌, ◌≤◌, ◌≡◌, refl, sym, ap, ◌∙◌, subst, arith, Bool, true, false, ◌&&◌, nat_eq, nat_lt, List, [], ◌∷◌, ◌++◌, length, get_or, drop, take, Some, append_assoc}
use Rattle.std.specs.Prelude.{All, slice_get}
use Rattle.std.specs.List.{AllByRecursion}
use Rattle.std.proofs.lemmas.Bool.{false≢true, eq-eqb, lt-ltb, and_from, or_left, or_right}
use Rattle.std.proofs.lemmas.List.{append-nil, length-append, take_all, drop_more, drop_all, get_or_at}
use Rattle.std.proofs.lemmas.List.Elements.{All-more, All-weaker, All-from_recursion}
use Rattle.std.proofs.lemmas.Option.{slice_get-get_or}
use Rattle.nogoods.specs.declared.choice.Choice.{Choice}
use Rattle.nogoods.specs.declared.choice.Side.{Side}
use Rattle.nogoods.specs.declared.choice.Side.TheVariants.{A, B}
use Rattle.nogoods.specs.Choices.{pairs_ascend, same_side, same_choice}
use Rattle.nogoods.specs.Pieces.{IsChoiceOf, Bars}
use Rattle.derivation.specs.HintRuns.{is_assumed}
use Rattle.search.specs.Chosen.{IsMarked, StaysMarked, chosen, with_choice}
use Rattle.search.specs.Walks.{Assumes}

-- ---- marks

marked_still : (old new : List Bool) → StaysMarked old new → (c : Choice) → IsMarked old c → IsMarked new c
marked_still old new kept c marked small = kept.stays c.pair (marked (omega (arith, kept.size)))

pub all_marked_still : (old new : List Bool) (cs : List Choice) → StaysMarked old new → All (IsMarked old) cs → All (IsMarked new) cs
all_marked_still old new cs kept all = All-weaker (IsMarked old) (IsMarked new) (marked_still old new kept) cs all

pub marked_more : (old new : List Bool) (cs : List Choice) (i : ℕ) (d : Choice) → i < length cs → StaysMarked old new → IsMarked new (get_or cs i d) → All (IsMarked old) (take i cs) → All (IsMarked new) (take (i + 1) cs)
marked_more old new cs i d inside kept here all = All-more (IsMarked new) cs i d inside (all_marked_still old new (take i cs) kept all) here

pub stays_more : (a b c : List Bool) → StaysMarked a b → StaysMarked b c → StaysMarked a c
stays_more a b c x y = record { size = y.size ∙ x.size; stays = λ i h. y.stays i (x.stays i h) }

pub all_marked : (marks : List Bool) (cs : List Choice) (i : ℕ) → length cs ≤ i → All (IsMarked marks) (take i cs) → All (IsMarked marks) cs
all_marked marks cs i past all =
    let P : List Choice → Type 0 = λ l. All (IsMarked marks) l in
    subst P (take_all i cs past) all

-- ---- the list of choices

chosen_true : (i : ℕ) (m : Bool) (marks : List Bool) (s : Side) (sides : List Side) → m ≡ true → chosen i (m ∷ marks) (s ∷ sides) ≡ (record { pair = i; side = s }) ∷ chosen (i + 1) marks sides
chosen_true i true marks s sides e = refl
chosen_true i false marks s sides e = absurd (false≢true e)

chosen_false : (i : ℕ) (m : Bool) (marks : List Bool) (s : Side) (sides : List Side) → m ≡ false → chosen i (m ∷ marks) (s ∷ sides) ≡ chosen (i + 1) marks sides
chosen_false i true marks s sides e = absurd (false≢true (sym e))
chosen_false i false marks s sides e = refl

pub chosen_more : (marks : List Bool) (sides : List Side) (made : List Choice) (i : ℕ) (d : Side) → length marks ≡ length sides → i < length sides → get_or marks i false ≡ true → chosen 0 marks sides ≡ made ++ chosen i (drop i marks) (drop i sides) → chosen 0 marks sides ≡ (made ++ (record { pair = i; side = get_or sides i d }) ∷ []) ++ chosen (i + 1) (drop (i + 1) marks) (drop (i + 1) sides)
chosen_more marks sides made i d same inside marked so_far =
    let c : Choice = record { pair = i; side = get_or sides i d } in
    let e : chosen i (drop i marks) (drop i sides) ≡ c ∷ chosen (i + 1) (drop (i + 1) marks) (drop (i + 1) sides) =
    rw (drop_more marks i false (omega arith), drop_more sides i d inside) (chosen_true i (get_or marks i false) (drop (i + 1) marks) (get_or sides i d) (drop (i + 1) sides) marked) in
    so_far ∙ ap (λ l. made ++ l) e ∙ sym (append_assoc made (c ∷ []) (chosen (i + 1) (drop (i + 1) marks) (drop (i + 1) sides)))

pub chosen_past : (marks : List Bool) (sides : List Side) (made : List Choice) (i : ℕ) → length marks ≡ length sides → i < length sides → get_or marks i false ≡ false → chosen 0 marks sides ≡ made ++ chosen i (drop i marks) (drop i sides) → chosen 0 marks sides ≡ made ++ chosen (i + 1) (drop (i + 1) marks) (drop (i + 1) sides)
chosen_past marks sides made i same inside marked so_far =
    let e : chosen i (drop i marks) (drop i sides) ≡ chosen (i + 1) (drop (i + 1) marks) (drop (i + 1) sides) =
    rw (drop_more marks i false (omega arith), drop_more sides i A inside) (chosen_false i (get_or marks i false) (drop (i + 1) marks) (get_or sides i A) (drop (i + 1) sides) marked) in
    so_far ∙ ap (λ l. made ++ l) e

pub chosen_next : (marks : List Bool) (sides : List Side) (made new : List Choice) (i : ℕ) (d : Side) (m : Bool) → length marks ≡ length sides → i < length sides → get_or marks i false ≡ m → new ≡ with_choice made m (record { pair = i; side = get_or sides i d }) → chosen 0 marks sides ≡ made ++ chosen i (drop i marks) (drop i sides) → chosen 0 marks sides ≡ new ++ chosen (i + 1) (drop (i + 1) marks) (drop (i + 1) sides)
chosen_next marks sides made new i d true same inside marked is so_far = rw is (chosen_more marks sides made i d same inside marked so_far)
chosen_next marks sides made new i d false same inside marked is so_far = rw is (chosen_past marks sides made i same inside marked so_far)

pub chosen_end : (marks : List Bool) (sides : List Side) (made : List Choice) (i : ℕ) → length marks ≡ length sides → length sides ≤ i → chosen 0 marks sides ≡ made ++ chosen i (drop i marks) (drop i sides) → made ≡ chosen 0 marks sides
chosen_end marks sides made i same past so_far =
    let e : chosen i (drop i marks) (drop i sides) ≡ [] = rw (drop_all i marks (omega arith)) refl in
    sym (so_far ∙ ap (λ l. made ++ l) e ∙ append-nil made)

rises_behind : (i n : ℕ) (s : Side) (marks : List Bool) (sides : List Side) → i < n → pairs_ascend ((record { pair = i; side = s }) ∷ chosen n marks sides) ≡ true
rises_behind i n s [] sides low = refl
rises_behind i n s (m ∷ marks) [] low = refl
rises_behind i n s (true ∷ marks) (t ∷ sides) low = and_from (nat_lt i n) (pairs_ascend ((record { pair = n; side = t }) ∷ chosen (n + 1) marks sides)) (lt-ltb i n low) (rises_behind n (n + 1) t marks sides (omega arith))
rises_behind i n s (false ∷ marks) (t ∷ sides) low = rises_behind i (n + 1) s marks sides (omega arith)

pub chosen_rises : (n : ℕ) (marks : List Bool) (sides : List Side) → pairs_ascend (chosen n marks sides) ≡ true
chosen_rises n [] sides = refl
chosen_rises n (m ∷ marks) [] = refl
chosen_rises n (true ∷ marks) (t ∷ sides) = rises_behind n (n + 1) t marks sides (omega arith)
chosen_rises n (false ∷ marks) (t ∷ sides) = chosen_rises (n + 1) marks sides

own_choice : (w u : List Side) (s : Side) (sides : List Side) (i : ℕ) → w ≡ u ++ s ∷ sides → length u ≡ i → slice_get w i ≡ Some s
own_choice w u s sides i is size =
    let within : i < length w = omega (arith, ap length is, length-append u (s ∷ sides)) in
    slice_get-get_or w i s within ∙ ap (λ x. Some x) (ap (λ l. get_or l i s) is ∙ get_or_at u s sides s i size)

held_from : (w u : List Side) (i : ℕ) (marks : List Bool) (sides : List Side) → w ≡ u ++ sides → length u ≡ i → AllByRecursion (IsChoiceOf w) (chosen i marks sides)
held_from w u i [] sides is size = tt
held_from w u i (m ∷ marks) [] is size = tt
held_from w u i (true ∷ marks) (s ∷ sides) is size = (own_choice w u s sides i is size, held_from w (u ++ s ∷ []) (i + 1) marks sides (is ∙ sym (append_assoc u (s ∷ []) sides)) (omega (arith, length-append u (s ∷ []))))
held_from w u i (false ∷ marks) (s ∷ sides) is size = held_from w (u ++ s ∷ []) (i + 1) marks sides (is ∙ sym (append_assoc u (s ∷ []) sides)) (omega (arith, length-append u (s ∷ [])))

pub chosen_held : (marks : List Bool) (sides : List Side) → Bars (chosen 0 marks sides) sides
chosen_held marks sides = All-from_recursion (IsChoiceOf sides) (chosen 0 marks sides) (held_from sides [] 0 marks sides refl refl)

same_side-refl : (s : Side) → same_side s s ≡ true
same_side-refl A = refl
same_side-refl B = refl

found_here : (i : ℕ) (s t : Side) (list : List Choice) → s ≡ t → is_assumed ((record { pair = i; side = s }) ∷ list) (record { pair = i + 0; side = t }) ≡ true
found_here i s t list e =
    or_left (nat_eq i (i + 0) && same_side s t) (is_assumed list (record { pair = i + 0; side = t })) (and_from (nat_eq i (i + 0)) (same_side s t) (eq-eqb i (i + 0) (omega arith)) (rw e (same_side-refl t)))

found_on : (d : Choice) (list : List Choice) (m n : ℕ) (t : Side) → m ≡ n → is_assumed list (record { pair = m; side = t }) ≡ true → is_assumed (d ∷ list) (record { pair = n; side = t }) ≡ true
found_on d list m n t e h =
    let P : ℕ → Type 0 = λ k. is_assumed (d ∷ list) (record { pair = k; side = t }) ≡ true in
    subst P e (or_right (same_choice d (record { pair = m; side = t })) (is_assumed list (record { pair = m; side = t })) h)

found_past : (list : List Choice) (m n : ℕ) (t : Side) → m ≡ n → is_assumed list (record { pair = m; side = t }) ≡ true → is_assumed list (record { pair = n; side = t }) ≡ true
found_past list m n t e h =
    let P : ℕ → Type 0 = λ k. is_assumed list (record { pair = k; side = t }) ≡ true in
    subst P e h

chosen_has : (i j : ℕ) (marks : List Bool) (sides : List Side) (t : Side) → get_or marks j false ≡ true → slice_get sides j ≡ Some t → is_assumed (chosen i marks sides) (record { pair = i + j; side = t }) ≡ true
chosen_has i j [] sides t marked is = absurd (false≢true marked)
chosen_has i j (m ∷ marks) [] t marked is = absurd (cc)
chosen_has i zero (true ∷ marks) (s ∷ sides) t marked is = found_here i s t (chosen (i + 1) marks sides) (cc)
chosen_has i zero (false ∷ marks) (s ∷ sides) t marked is = absurd (false≢true marked)
chosen_has i (suc j) (true ∷ marks) (s ∷ sides) t marked is = found_on (record { pair = i; side = s }) (chosen (i + 1) marks sides) (i + 1 + j) (i + suc j) t (omega arith) (chosen_has (i + 1) j marks sides t marked is)
chosen_has i (suc j) (false ∷ marks) (s ∷ sides) t marked is = found_past (chosen (i + 1) marks sides) (i + 1 + j) (i + suc j) t (omega arith) (chosen_has (i + 1) j marks sides t marked is)

pub chosen_assumes : (marks : List Bool) (w : List Side) → Assumes (chosen 0 marks w) marks w
chosen_assumes marks w p s marked is = found_past (chosen 0 marks w) (0 + p) p s (omega arith) (chosen_has 0 p marks w s marked is)

pub chosen_ascends : (marks : List Bool) (w : List Side) (made : List Choice) → made ≡ chosen 0 marks w → pairs_ascend made ≡ true
chosen_ascends marks w made is = ap (λ l. pairs_ascend l) is ∙ chosen_rises 0 marks w

-- the last choice of a longer list
plus_none : (i : ℕ) → i ≡ i + 0
plus_none i = omega arith

none_plus : (n : ℕ) → 0 + n ≡ n
none_plus n = omega arith

plus_one : (i n : ℕ) → i + 1 + n ≡ i + suc n
plus_one i n = omega arith

chosen_last : (i : ℕ) (marks : List Bool) (w : List Side) (s : Side) → length marks ≡ length w → chosen i (marks ++ true ∷ []) (w ++ s ∷ []) ≡ chosen i marks w ++ (record { pair = i + length w; side = s }) ∷ []
chosen_last i [] [] s same = ap (λ k. (record { pair = k; side = s }) ∷ []) (plus_none i)
chosen_last i [] (t ∷ w) s same = absurd (omega (arith, same))
chosen_last i (m ∷ marks) [] s same = absurd (omega (arith, same))
chosen_last i (true ∷ marks) (t ∷ w) s same =
    ap (λ l. (record { pair = i; side = t }) ∷ l) (chosen_last (i + 1) marks w s (omega (arith, same)) ∙ ap (λ k. chosen (i + 1) marks w ++ (record { pair = k; side = s }) ∷ []) (plus_one i (length w)))
chosen_last i (false ∷ marks) (t ∷ w) s same =
    chosen_last (i + 1) marks w s (omega (arith, same)) ∙ ap (λ k. chosen (i + 1) marks w ++ (record { pair = k; side = s }) ∷ []) (plus_one i (length w))

pub chosen_next_last : (marks : List Bool) (w : List Side) (s : Side) → length marks ≡ length w → chosen 0 (marks ++ true ∷ []) (w ++ s ∷ []) ≡ chosen 0 marks w ++ (record { pair = length w; side = s }) ∷ []
chosen_next_last marks w s same =
    chosen_last 0 marks w s same ∙ ap (λ k. chosen 0 marks w ++ (record { pair = k; side = s }) ∷ []) (none_plus (length w))
