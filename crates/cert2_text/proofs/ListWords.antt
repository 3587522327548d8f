-- How lists that are named and lines that are dropped are read, word by word.
use Rattle.std.proofs.Common.{◌≡◌, ℕ, ◌+◌, List, [], ◌∷◌, ◌++◌, Option, Some, None, Ok, Err, refl, sym, ap, ◌∙◌}
use Rattle.std.specs.Prelude.{MatchOption, slice_get}
use Rattle.std.specs.Borrow.{Bor}
use Rattle.std.proofs.lemmas.List.{append-nil}
use Rattle.cert_text.specs.declared.fault.CertWhy.{CertWhy}
use Rattle.cert_text.specs.Spelling.{Word}
use Rattle.cert_text.specs.Reading.{◌>>=◌, Reading, hint_at}
use Rattle.cert_text.proofs.Going.{onto, onto_push}
use Rattle.cert2_text.specs.Reading2.{list_word, list_by, list_at, dropped_at, dropped_from}

-- ---- a list that is named

pub no_words : (ws : List Word) → ws ≡ [] → list_at ws ≡ Ok (None, ws)
unfolding list_at
no_words [] e = refl
no_words (w ∷ ws) e = absurd cc

by_first : (ws : List Word) (w : Word) (o : Option Word) → slice_get ws 0 ≡ Some w → list_word w ≡ o → (v : Word) × (rest : List Word) × (ws ≡ v ∷ rest) × (list_at ws ≡ list_by o ws rest)
unfolding list_at
by_first [] w o e h = absurd cc
by_first (v ∷ rest) w o e h = (v, rest, refl, ap (λ (p : Option Word). list_by p (v ∷ rest) rest) (ap list_word (same_word v w e) ∙ h))
  where
    some_word : Word → Option Word
    some_word x = Some x

    same_word : (v w : Word) → some_word v ≡ some_word w → v ≡ w
    same_word v w e = cc

pub no_list : (ws : List Word) (w : Word) → slice_get ws 0 ≡ Some w → list_word w ≡ None → list_at ws ≡ Ok (None, ws)
no_list ws w e h = (by_first ws w None e h).3

pub list_refused : (ws : List Word) (w number : Word) (why : CertWhy) → slice_get ws 0 ≡ Some w → list_word w ≡ Some number → Err why ≡ hint_at number → list_at ws ≡ Err why
list_refused ws w number why e h k = let p = by_first ws w (Some number) e h in p.3 ∙ ap (λ (r : Reading ℕ). r >>= λ n. Ok (Some n, p.1)) (sym k)

abbrev Next : List Word → List Word → Option (Bor (List ℕ)) → Type 0
Next ws rest r = MatchOption r ((ws ≡ []) × (rest ≡ [])) (λ part. ws ≡ part.now ∷ rest)

same_rest : (ws rest behind : List Word) (v : Word) (r : Option (Bor (List ℕ))) → Next ws behind r → ws ≡ v ∷ rest → rest ≡ behind
same_rest ws rest behind v None h e = absurd (apart v rest (sym e ∙ h.0))
  where
    apart : (v : Word) (rest : List Word) → v ∷ rest ≡ [] → ⊥
    apart v rest e = absurd cc
same_rest ws rest behind v (Some part) h e = ap tail (sym e ∙ h)
  where
    tail : List Word → List Word
    tail [] = []
    tail (w ∷ ws) = ws

pub list_taken : (ws : List Word) (w number : Word) (n : ℕ) (behind : List Word) (r : Option (Bor (List ℕ))) → slice_get ws 0 ≡ Some w → list_word w ≡ Some number → Ok n ≡ hint_at number → Next ws behind r
    → list_at ws ≡ Ok (Some n, behind)
list_taken ws w number n behind r e h k next =
    let p = by_first ws w (Some number) e h in
    p.3 ∙ ap (λ (x : Reading ℕ). x >>= λ m. Ok (Some m, p.1)) (sym k) ∙ ap (λ (rest : List Word). Ok (Some n, rest)) (same_rest ws p.1 behind p.0 r next p.2)

-- ---- lines that are dropped

dropped_at_word : (before : List ℕ) (least : ℕ) (words : List Word) (word : Word) (rest : List Word) (all : Reading (List ℕ)) → words ≡ word ∷ rest → onto before (dropped_from least words) ≡ all
    → all ≡ onto before (dropped_at least word >>= λ h. dropped_from (h + 1) rest >>= λ hs. Ok (h ∷ hs))
unfolding dropped_from
dropped_at_word before least words word rest all e so_far = sym so_far ∙ ap (λ (ws : List Word). onto before (dropped_from least ws)) e

pub dropped_refused : (before : List ℕ) (least : ℕ) (words : List Word) (word : Word) (rest : List Word) (why : CertWhy) (all : Reading (List ℕ))
    → words ≡ word ∷ rest → Err why ≡ dropped_at least word → onto before (dropped_from least words) ≡ all → all ≡ Err why
dropped_refused before least words word rest why all e n so_far =
    dropped_at_word before least words word rest all e so_far ∙ ap (λ (r : Reading ℕ). onto before (r >>= λ h. dropped_from (h + 1) rest >>= λ hs. Ok (h ∷ hs))) (sym n)

pub dropped_go_on : (before : List ℕ) (least : ℕ) (words : List Word) (word : Word) (rest : List Word) (h : ℕ) (now : List ℕ) (all : Reading (List ℕ))
    → words ≡ word ∷ rest → Ok h ≡ dropped_at least word → now ≡ before ++ h ∷ [] → onto before (dropped_from least words) ≡ all → onto now (dropped_from (h + 1) rest) ≡ all
dropped_go_on before least words word rest h now all e n m so_far =
    ap (λ (hs : List ℕ). onto hs (dropped_from (h + 1) rest)) m ∙ onto_push before h (dropped_from (h + 1) rest)
    ∙ sym (dropped_at_word before least words word rest all e so_far ∙ ap (λ (r : Reading ℕ). onto before (r >>= λ k. dropped_from (k + 1) rest >>= λ hs. Ok (k ∷ hs))) (sym n))

pub dropped_stop : (before : List ℕ) (least : ℕ) (words : List Word) (all : Reading (List ℕ)) → words ≡ [] → onto before (dropped_from least words) ≡ all → all ≡ Ok before
unfolding dropped_from
dropped_stop before least words all e so_far = sym so_far ∙ ap (λ (ws : List Word). onto before (dropped_from least ws)) e ∙ ap (λ hs. Ok hs) (append-nil before)
