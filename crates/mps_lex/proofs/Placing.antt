-- The places of fields, one field after another.
use Rattle.std.proofs.Common.{ℕ, suc, ◌+◌, ◌≡◌, ◌<◌, Bool, true, false, not, cond, List, [], ◌∷◌, ◌++◌, length, drop, get_or, refl, ap, sym, ◌∙◌, append_assoc, arith}
use Rattle.std.specs.List.{prefix_len}
use Rattle.mps_lex.specs.Kinds.{is_blank}
use Rattle.mps_lex.specs.Places.{Place, begin_at, places_from}
use Rattle.mps_lex.proofs.Cutting.{in_field, one, not_blank, counted}

abbrev pub placed : ℕ → ℕ → List ℕ → List Place
placed at n rest = (at, at + n) ∷ places_from (at + n) rest

next : (blank : Bool) (at c : ℕ) (cs : List ℕ) (m : ℕ) → (blank ≡ false → places_from (at + 1) (c ∷ cs) ≡ placed (at + 1) (suc m) (drop m cs))
    → cond blank ((at, at + 1) ∷ places_from (at + 1) (c ∷ cs)) (begin_at at (places_from (at + 1) (c ∷ cs))) ≡ placed at (suc (cond (not blank) (1 + m) 0)) (drop (cond (not blank) (1 + m) 0) (c ∷ cs))
next true at c cs m h = refl
next false at c cs m h =
    let far : (at + 1) + suc m ≡ at + suc (1 + m) = omega arith in
    ap (begin_at at) (h refl) ∙ ap (λ (x : ℕ). (at, x) ∷ places_from x (drop m cs)) far
    ∙ ap (λ (k : ℕ). placed at (suc (1 + m)) (drop k (c ∷ cs))) (sym (one m))

-- the first place, where no blank stands in front
pub place_front : (at b : ℕ) (bs : List ℕ) → is_blank b ≡ false → places_from at (b ∷ bs) ≡ placed at (suc (prefix_len in_field bs)) (drop (prefix_len in_field bs) bs)
place_front at b [] h = not_blank (is_blank b) _ _ h
place_front at b (c ∷ cs) h = not_blank (is_blank b) _ _ h ∙ next (is_blank c) at c cs (prefix_len in_field cs) (λ e. place_front (at + 1) c cs e)

-- a field is found, and its place is noted
pub place_goes_on : (found : List Place) (rest after : List ℕ) (at n : ℕ) (all : List Place) → 0 < length rest → is_blank (get_or rest 0 0) ≡ false → n ≡ prefix_len in_field rest
    → after ≡ drop n rest → found ++ places_from at rest ≡ all → (found ++ (at, at + n) ∷ []) ++ places_from (at + n) after ≡ all
place_goes_on found [] after at n all lt h en ea so_far = absurd (omega (arith, lt))
place_goes_on found (b ∷ bs) after at n all lt h en ea so_far =
    let m = prefix_len in_field bs in
    let k : n ≡ suc m = en ∙ counted (is_blank b) m h in
    let back : after ≡ drop m bs = ea ∙ ap (λ (j : ℕ). drop j (b ∷ bs)) k in
    let split : (at, at + n) ∷ places_from (at + n) after ≡ places_from at (b ∷ bs) =
    ap (λ (x : List ℕ). placed at n x) back ∙ ap (λ (j : ℕ). placed at j (drop m bs)) k ∙ sym (place_front at b bs h) in
    append_assoc found ((at, at + n) ∷ []) (places_from (at + n) after) ∙ ap (λ (t : List Place). found ++ t) split ∙ so_far

pub place_found : (found new : List Place) (rest after : List ℕ) (at len n : ℕ) (all : List Place) → new ≡ found ++ (at, at + len) ∷ [] → 0 < length rest → is_blank (get_or rest 0 0) ≡ false → n ≡ prefix_len in_field rest → len ≡ n
    → after ≡ drop n rest → found ++ places_from at rest ≡ all → new ++ places_from (at + len) after ≡ all
place_found found new rest after at len n all e lt h en el ea so_far =
    ap (λ (x : List Place). x ++ places_from (at + len) after) e ∙ ap (λ (k : ℕ). (found ++ (at, at + k) ∷ []) ++ places_from (at + k) after) el ∙ place_goes_on found rest after at n all lt h en ea so_far
