-- How texts fall into pieces, and pieces into fields.
use Rattle.std.proofs.Common.{ℕ, zero, suc, ◌+◌, ◌≡◌, ◌<◌, ◌≤◌, Bool, true, false, not, cond, eqb, List, [], ◌∷◌, ◌++◌, length, map, take, drop, get_or, refl, ap, sym, subst, ◌∙◌, append_assoc, length-drop, arith}
use Rattle.std.specs.Borrow.{Bor}
use Rattle.std.specs.List.{prefix_len}
use Rattle.std.proofs.lemmas.List.{nil_from_length, take_all}
use Rattle.mps_lex.specs.Shown.{shown}
use Rattle.mps_lex.specs.Lines.{pieces, onto_first, without_end}
use Rattle.mps_lex.specs.Kinds.{is_blank, fields, onto_field}

-- ---- the last byte

pub cut_yes : (c : ℕ) (text : List ℕ) (m : ℕ) → length text ≡ suc m → eqb (get_or text m 0) c ≡ true → take m text ≡ without_end c text
cut_yes c [] m e h = absurd (omega (arith, e))
cut_yes c (b ∷ []) zero e h = rw h refl
cut_yes c (b ∷ []) (suc m) e h = absurd (omega (arith, e))
cut_yes c (b ∷ d ∷ bs) zero e h = absurd (omega (arith, e))
cut_yes c (b ∷ d ∷ bs) (suc m) e h = ap (λ (t : List ℕ). b ∷ t) (cut_yes c (d ∷ bs) m (omega (arith, e)) h)

pub cut_no : (c : ℕ) (text : List ℕ) (m : ℕ) → length text ≡ suc m → eqb (get_or text m 0) c ≡ false → text ≡ without_end c text
cut_no c [] m e h = refl
cut_no c (b ∷ []) zero e h = rw h refl
cut_no c (b ∷ []) (suc m) e h = absurd (omega (arith, e))
cut_no c (b ∷ d ∷ bs) zero e h = absurd (omega (arith, e))
cut_no c (b ∷ d ∷ bs) (suc m) e h = ap (λ (t : List ℕ). b ∷ t) (cut_no c (d ∷ bs) m (omega (arith, e)) h)

pub cut_nil : (c : ℕ) (text : List ℕ) → length text ≡ 0 → text ≡ without_end c text
cut_nil c [] h = refl
cut_nil c (b ∷ bs) h = absurd (omega (arith, h))

-- ---- pieces

abbrev in_line : ℕ → Bool
in_line b = not (eqb b 10)

pub one : (n : ℕ) → 1 + n ≡ suc n
one n = omega arith

by_lf : (lf : Bool) (b : ℕ) (bs : List ℕ) (n : ℕ) → onto_first b (pieces bs) ≡ (b ∷ take (1 + n) bs) ∷ pieces (drop (1 + n) bs)
    → cond lf ((b ∷ []) ∷ pieces bs) (onto_first b (pieces bs)) ≡ (b ∷ take (cond (not lf) (1 + n) 0) bs) ∷ pieces (drop (cond (not lf) (1 + n) 0) bs)
by_lf true b bs n h = refl
by_lf false b bs n h = h

piece_front : (b : ℕ) (bs : List ℕ) → pieces (b ∷ bs) ≡ (b ∷ take (prefix_len in_line (b ∷ bs)) bs) ∷ pieces (drop (prefix_len in_line (b ∷ bs)) bs)
piece_front b [] = by_lf (eqb b 10) b [] 0 refl
piece_front b (c ∷ cs) =
    let m = prefix_len in_line (c ∷ cs) in
    let next : onto_first b (pieces (c ∷ cs)) ≡ (b ∷ c ∷ take m cs) ∷ pieces (drop m cs) = ap (onto_first b) (piece_front c cs) in
    let again : onto_first b (pieces (c ∷ cs)) ≡ (b ∷ take (1 + m) (c ∷ cs)) ∷ pieces (drop (1 + m) (c ∷ cs)) = subst (λ (k : ℕ). onto_first b (pieces (c ∷ cs)) ≡ (b ∷ take k (c ∷ cs)) ∷ pieces (drop k (c ∷ cs))) (sym (one m)) next in
    by_lf (eqb b 10) b (c ∷ cs) m again

two_parts : (a c : List ℕ) (b d : List ℕ) → a ≡ c → b ≡ d → a ∷ pieces b ≡ c ∷ pieces d
two_parts a c b d e f = ap (λ (x : List ℕ). x ∷ pieces b) e ∙ ap (λ (y : List ℕ). c ∷ pieces y) f

-- the first piece, with an LF at its end
pub piece_goes_on : (text rest piece : List ℕ) (n : ℕ) → 0 < length text → n ≡ prefix_len in_line text → piece ≡ take (n + 1) text → rest ≡ drop (n + 1) text → pieces text ≡ piece ∷ pieces rest
piece_goes_on [] rest piece n lt en ep er = absurd (omega (arith, lt))
piece_goes_on (b ∷ bs) rest piece n lt en ep er =
    let front : pieces (b ∷ bs) ≡ (b ∷ take n bs) ∷ pieces (drop n bs) = subst (λ (k : ℕ). pieces (b ∷ bs) ≡ (b ∷ take k bs) ∷ pieces (drop k bs)) (sym en) (piece_front b bs) in
    let up : n + 1 ≡ suc n = omega arith in
    let ep2 : piece ≡ b ∷ take n bs = ep ∙ ap (λ (k : ℕ). take k (b ∷ bs)) up in
    let er2 : rest ≡ drop n bs = er ∙ ap (λ (k : ℕ). drop k (b ∷ bs)) up in
    front ∙ two_parts (b ∷ take n bs) piece (drop n bs) rest (sym ep2) (sym er2)

-- the first piece, where no LF ends it
pub piece_ends : (text rest piece : List ℕ) (n : ℕ) → 0 < length text → n ≡ prefix_len in_line text → length text ≤ n → piece ≡ take n text → rest ≡ drop n text → pieces text ≡ piece ∷ pieces rest
piece_ends [] rest piece n lt en past ep er = absurd (omega (arith, lt))
piece_ends (b ∷ bs) rest piece n lt en past ep er =
    let front : pieces (b ∷ bs) ≡ (b ∷ take n bs) ∷ pieces (drop n bs) = subst (λ (k : ℕ). pieces (b ∷ bs) ≡ (b ∷ take k bs) ∷ pieces (drop k bs)) (sym en) (piece_front b bs) in
    let gone : drop n bs ≡ [] = nil_from_length (drop n bs) (omega (arith, past, length-drop n bs)) in
    let none : drop n (b ∷ bs) ≡ [] = nil_from_length (drop n (b ∷ bs)) (omega (arith, past, length-drop n (b ∷ bs))) in
    let whole : piece ≡ b ∷ bs = ep ∙ take_all n (b ∷ bs) past in
    let tail : take n bs ≡ bs = take_all n bs (omega (arith, past)) in
    front ∙ two_parts (b ∷ take n bs) piece (drop n bs) rest (ap (λ (t : List ℕ). b ∷ t) tail ∙ sym whole) (gone ∙ sym (er ∙ none))

-- ---- fields

pub map_push : (ks : List (Bor (List ℕ))) (k : Bor (List ℕ)) → map shown (ks ++ k ∷ []) ≡ map shown ks ++ k.now ∷ []
map_push [] k = refl
map_push (x ∷ ks) k = rw (map_push ks k) refl

abbrev pub in_field : ℕ → Bool
in_field b = not (is_blank b)

by_next : (blank : Bool) (b c : ℕ) (cs : List ℕ) (m : ℕ) → (blank ≡ false → fields (c ∷ cs) ≡ (c ∷ take m cs) ∷ fields (drop m cs))
    → cond blank ((b ∷ []) ∷ fields (c ∷ cs)) (onto_field b (fields (c ∷ cs))) ≡ (b ∷ take (cond (not blank) (1 + m) 0) (c ∷ cs)) ∷ fields (drop (cond (not blank) (1 + m) 0) (c ∷ cs))
by_next true b c cs m h = refl
by_next false b c cs m h = subst (λ (k : ℕ). onto_field b (fields (c ∷ cs)) ≡ (b ∷ take k (c ∷ cs)) ∷ fields (drop k (c ∷ cs))) (sym (one m)) (ap (onto_field b) (h refl))

pub not_blank : {X : Type 0} (blank : Bool) (x y : X) → blank ≡ false → cond blank x y ≡ y
not_blank true x y h = absurd cc
not_blank false x y h = refl

-- the first field, where no blank stands in front
field_front : (b : ℕ) (bs : List ℕ) → is_blank b ≡ false → fields (b ∷ bs) ≡ (b ∷ take (prefix_len in_field bs) bs) ∷ fields (drop (prefix_len in_field bs) bs)
field_front b [] h = not_blank (is_blank b) _ _ h
field_front b (c ∷ cs) h = not_blank (is_blank b) _ _ h ∙ by_next (is_blank c) b c cs (prefix_len in_field cs) (λ e. field_front c cs e)

pub counted : (blank : Bool) (m : ℕ) → blank ≡ false → cond (not blank) (1 + m) 0 ≡ suc m
counted true m h = absurd cc
counted false m h = one m

-- the first field, where no blank stands in front of it
pub field_first : (rest after field : List ℕ) (n : ℕ) (all : List (List ℕ)) → 0 < length rest → is_blank (get_or rest 0 0) ≡ false → n ≡ prefix_len in_field rest → field ≡ take n rest → after ≡ drop n rest → fields rest ≡ all
    → all ≡ field ∷ fields after
field_first [] after field n all lt h en ef ea so_far = absurd (omega (arith, lt))
field_first (b ∷ bs) after field n all lt h en ef ea so_far =
    let m = prefix_len in_field bs in
    let k : n ≡ suc m = en ∙ counted (is_blank b) m h in
    let ef2 : field ≡ b ∷ take m bs = ef ∙ ap (λ (j : ℕ). take j (b ∷ bs)) k in
    let ea2 : after ≡ drop m bs = ea ∙ ap (λ (j : ℕ). drop j (b ∷ bs)) k in
    sym so_far ∙ field_front b bs h ∙ sym (ap (λ (x : List ℕ). x ∷ fields after) ef2 ∙ ap (λ (y : List ℕ). (b ∷ take m bs) ∷ fields y) ea2)

-- a blank in front
pub blank_first : (rest after : List ℕ) (all : List (List ℕ)) → 0 < length rest → is_blank (get_or rest 0 0) ≡ true → after ≡ drop 1 rest → fields rest ≡ all → fields after ≡ all
blank_first [] after all lt h ea so_far = absurd (omega (arith, lt))
blank_first (b ∷ bs) after all lt h ea so_far = ap fields ea ∙ sym (blank (is_blank b) _ _ h) ∙ so_far
  where
    blank : {X : Type 0} (t : Bool) (x y : X) → t ≡ true → cond t x y ≡ x
    blank true x y e = refl
    blank false x y e = absurd cc

-- one field more is held
pub field_found : (ks : List (Bor (List ℕ))) (k : Bor (List ℕ)) (new : List (Bor (List ℕ))) (rest after : List ℕ) (all : List (List ℕ)) → new ≡ ks ++ k ∷ [] → fields rest ≡ k.now ∷ fields after → map shown ks ++ fields rest ≡ all
    → map shown new ++ fields after ≡ all
field_found ks k new rest after all e f so_far =
    ap (λ (x : List (Bor (List ℕ))). map shown x ++ fields after) e ∙ ap (λ (x : List (List ℕ)). x ++ fields after) (map_push ks k) ∙ append_assoc (map shown ks) (k.now ∷ []) (fields after)
    ∙ ap (λ (x : List (List ℕ)). map shown ks ++ x) (sym f) ∙ so_far
