-- The first fields of a line.
use Rattle.std.proofs.Common.{ℕ, zero, suc, ◌≡◌, ◌≤◌, List, [], ◌∷◌, ◌++◌, length, map, take, refl, sym, ap, ◌∙◌, arith}
use Rattle.std.proofs.lemmas.List.{append-nil, take_all, length-map}
use Rattle.std.specs.Borrow.{Bor}
use Rattle.mps_lex.specs.Shown.{shown}
use Rattle.mps_lex.specs.Kinds.{Name, kind_at_margin, kind_indented}
use Rattle.mps_lex.specs.First.{first_of}
use Rattle.mps_lex.specs.declared.split.TheConstants.{FIRST_FIELDS}

-- the kind of a line rests on its first fields
pub margin_same : (fs : List Name) → kind_at_margin (first_of fs) ≡ kind_at_margin fs
margin_same [] = refl
margin_same (w ∷ []) = refl
margin_same (w ∷ v ∷ ws) = refl

pub indented_same : (fs : List Name) → kind_indented (first_of fs) ≡ kind_indented fs
indented_same [] = refl
indented_same (w ∷ ws) = refl

front_of : (n : ℕ) (xs rest : List Name) → length xs ≡ n → xs ≡ take n (xs ++ rest)
front_of zero [] rest e = refl
front_of zero (x ∷ xs) rest e = absurd (omega (arith, e))
front_of (suc n) [] rest e = absurd (omega (arith, e))
front_of (suc n) (x ∷ xs) rest e = ap (λ (ys : List Name). x ∷ ys) (front_of n xs rest (omega (arith, e)))

-- as many are held as may be
pub held_most : (ks : List (Bor (List ℕ))) (rest all : List Name) → map shown ks ++ rest ≡ all → length ks ≡ FIRST_FIELDS → map shown ks ≡ first_of all
held_most ks rest all e h = front_of FIRST_FIELDS (map shown ks) rest (length-map ks shown ∙ h) ∙ ap first_of e

-- all are held
pub held_all : (ks : List (Bor (List ℕ))) (rest all : List Name) → map shown ks ++ rest ≡ all → rest ≡ [] → length ks ≤ FIRST_FIELDS → map shown ks ≡ first_of all
held_all ks rest all e none h =
    let whole : map shown ks ≡ all = sym (append-nil (map shown ks)) ∙ sym (ap (λ (x : List Name). map shown ks ++ x) none) ∙ e in
    sym (take_all FIRST_FIELDS (map shown ks) (omega (arith, h, length-map ks shown))) ∙ ap first_of whole
