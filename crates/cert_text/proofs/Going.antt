-- How reading goes on in loops: what is read behind what was read before.
use Rattle.std.proofs.Common.{◌≡◌, ℕ, ℤ, ◌+◌, Bool, true, false, cond, List, [], ◌∷◌, ◌++◌, Result, Ok, Err, refl, sym, ap, ◌∙◌, append_assoc}
use Rattle.std.specs.Prelude.{bytes_eq}
use Rattle.std.proofs.lemmas.List.{append-nil}
use Rattle.nogoods.specs.declared.choice.Choice.{Choice}
use Rattle.cert_text.specs.declared.fault.CertWhy.{CertWhy}
use Rattle.cert_text.specs.declared.fault.CertWhy.TheVariants.{BadLine}
use Rattle.cert_text.specs.Spelling.{Word, colon}
use Rattle.cert_text.specs.Reading.{◌>>=◌, Reading, choice_at, number_at, factor_at, hint_at, choices_from, last_choices_from, terms_from, hints_at}

-- in front of what is read stand the values that were read before
abbrev pub onto : {X E : Type 0} → List X → Result (List X) E → Result (List X) E
onto front r = r >>= λ xs. Ok (front ++ xs)

abbrev pub onto_first : {X Y E : Type 0} → List X → Result (List X × Y) E → Result (List X × Y) E
onto_first front r = r >>= λ found. Ok (front ++ found.0, found.1)

pub onto_push : {X E : Type 0} (front : List X) (x : X) (r : Result (List X) E) → onto (front ++ x ∷ []) r ≡ onto front (r >>= λ xs. Ok (x ∷ xs))
onto_push front x (Ok xs) = ap (λ ys. Ok ys) (append_assoc front (x ∷ []) xs)
onto_push front x (Err e) = refl

pub onto_first_push : {X Y E : Type 0} (front : List X) (x : X) (r : Result (List X × Y) E) → onto_first (front ++ x ∷ []) r ≡ onto_first front (r >>= λ found. Ok (x ∷ found.0, found.1))
onto_first_push front x (Ok found) = ap (λ ys. Ok (ys, found.1)) (append_assoc front (x ∷ []) found.0)
onto_first_push front x (Err e) = refl

-- ---- choices up to a colon

abbrev FoundChoices : Type 0
FoundChoices = Reading (List Choice × List Word)

abbrev choices_by : Bool → Reading Choice → List Word → FoundChoices
choices_by closed choice rest = cond closed (Ok ([], rest)) (choice >>= λ c. choices_from (c.pair + 1) rest >>= λ found. Ok (c ∷ found.0, found.1))

choices_next : (least : ℕ) (word : Word) (rest : List Word) → choices_from least (word ∷ rest) ≡ choices_by (bytes_eq word colon) (choice_at least word) rest
unfolding choices_from
choices_next least word rest = refl

choices_at_word : (before : List Choice) (least : ℕ) (words : List Word) (word : Word) (rest : List Word) (all : FoundChoices) → words ≡ word ∷ rest → onto_first before (choices_from least words) ≡ all
    → all ≡ onto_first before (choices_by (bytes_eq word colon) (choice_at least word) rest)
choices_at_word before least words word rest all e so_far =
    sym so_far ∙ ap (λ (ws : List Word). onto_first before (choices_from least ws)) e ∙ ap (onto_first before) (choices_next least word rest)

pub choices_close : (before : List Choice) (least : ℕ) (words : List Word) (word : Word) (rest : List Word) (all : FoundChoices)
    → words ≡ word ∷ rest → bytes_eq word colon ≡ true → onto_first before (choices_from least words) ≡ all → all ≡ Ok (before, rest)
choices_close before least words word rest all e t so_far =
    choices_at_word before least words word rest all e so_far ∙ ap (λ (b : Bool). onto_first before (choices_by b (choice_at least word) rest)) t ∙ ap (λ cs. Ok (cs, rest)) (append-nil before)

pub choices_refused : (before : List Choice) (least : ℕ) (words : List Word) (word : Word) (rest : List Word) (why : CertWhy) (all : FoundChoices)
    → words ≡ word ∷ rest → bytes_eq word colon ≡ false → Err why ≡ choice_at least word → onto_first before (choices_from least words) ≡ all → all ≡ Err why
choices_refused before least words word rest why all e t n so_far =
    choices_at_word before least words word rest all e so_far ∙ ap (λ (b : Bool). onto_first before (choices_by b (choice_at least word) rest)) t ∙ ap (λ (r : Reading Choice). onto_first before (choices_by false r rest)) (sym n)

pub choices_go_on : (before : List Choice) (least : ℕ) (words : List Word) (word : Word) (rest : List Word) (c : Choice) (now : List Choice) (all : FoundChoices)
    → words ≡ word ∷ rest → bytes_eq word colon ≡ false → Ok c ≡ choice_at least word → now ≡ before ++ c ∷ [] → onto_first before (choices_from least words) ≡ all
    → onto_first now (choices_from (c.pair + 1) rest) ≡ all
choices_go_on before least words word rest c now all e t n m so_far =
    ap (λ (cs : List Choice). onto_first cs (choices_from (c.pair + 1) rest)) m ∙ onto_first_push before c (choices_from (c.pair + 1) rest)
    ∙ sym (choices_at_word before least words word rest all e so_far ∙ ap (λ (b : Bool). onto_first before (choices_by b (choice_at least word) rest)) t ∙ ap (λ (r : Reading Choice). onto_first before (choices_by false r rest)) (sym n))

pub choices_stop : (before : List Choice) (least : ℕ) (words : List Word) (all : FoundChoices) → words ≡ [] → onto_first before (choices_from least words) ≡ all → all ≡ Err BadLine
unfolding choices_from
choices_stop before least words all e so_far = sym so_far ∙ ap (λ (ws : List Word). onto_first before (choices_from least ws)) e

-- ---- choices up to the end of the line

last_choices_at_word : (before : List Choice) (least : ℕ) (words : List Word) (word : Word) (rest : List Word) (all : Reading (List Choice)) → words ≡ word ∷ rest → onto before (last_choices_from least words) ≡ all
    → all ≡ onto before (choice_at least word >>= λ c. last_choices_from (c.pair + 1) rest >>= λ cs. Ok (c ∷ cs))
unfolding last_choices_from
last_choices_at_word before least words word rest all e so_far = sym so_far ∙ ap (λ (ws : List Word). onto before (last_choices_from least ws)) e

pub last_choices_refused : (before : List Choice) (least : ℕ) (words : List Word) (word : Word) (rest : List Word) (why : CertWhy) (all : Reading (List Choice))
    → words ≡ word ∷ rest → Err why ≡ choice_at least word → onto before (last_choices_from least words) ≡ all → all ≡ Err why
last_choices_refused before least words word rest why all e n so_far =
    last_choices_at_word before least words word rest all e so_far ∙ ap (λ (r : Reading Choice). onto before (r >>= λ c. last_choices_from (c.pair + 1) rest >>= λ cs. Ok (c ∷ cs))) (sym n)

pub last_choices_go_on : (before : List Choice) (least : ℕ) (words : List Word) (word : Word) (rest : List Word) (c : Choice) (now : List Choice) (all : Reading (List Choice))
    → words ≡ word ∷ rest → Ok c ≡ choice_at least word → now ≡ before ++ c ∷ [] → onto before (last_choices_from least words) ≡ all → onto now (last_choices_from (c.pair + 1) rest) ≡ all
last_choices_go_on before least words word rest c now all e n m so_far =
    ap (λ (cs : List Choice). onto cs (last_choices_from (c.pair + 1) rest)) m ∙ onto_push before c (last_choices_from (c.pair + 1) rest)
    ∙ sym (last_choices_at_word before least words word rest all e so_far ∙ ap (λ (r : Reading Choice). onto before (r >>= λ d. last_choices_from (d.pair + 1) rest >>= λ cs. Ok (d ∷ cs))) (sym n))

pub last_choices_stop : (before : List Choice) (least : ℕ) (words : List Word) (all : Reading (List Choice)) → words ≡ [] → onto before (last_choices_from least words) ≡ all → all ≡ Ok before
unfolding last_choices_from
last_choices_stop before least words all e so_far = sym so_far ∙ ap (λ (ws : List Word). onto before (last_choices_from least ws)) e ∙ ap (λ cs. Ok cs) (append-nil before)

-- ---- terms

abbrev Terms : Type 0
Terms = List (ℕ × ℤ)

abbrev term_and_rest : Reading ℕ → Reading ℤ → List Word → Reading Terms
term_and_rest number factor rest = number >>= λ n. factor >>= λ z. terms_from (n + 1) rest >>= λ terms. Ok ((n, z) ∷ terms)

terms_at_words : (before : Terms) (least : ℕ) (words : List Word) (number word : Word) (rest : List Word) (all : Reading Terms) → words ≡ number ∷ word ∷ rest → onto before (terms_from least words) ≡ all
    → all ≡ onto before (term_and_rest (number_at least number) (factor_at word) rest)
unfolding terms_from
terms_at_words before least words number word rest all e so_far = sym so_far ∙ ap (λ (ws : List Word). onto before (terms_from least ws)) e

refused_first : (least : ℕ) (number : Word) (behind : List Word) (why : CertWhy) → Err why ≡ number_at least number → terms_from least (number ∷ behind) ≡ Err why
unfolding terms_from
refused_first least number [] why n = ap (λ (r : Reading ℕ). r >>= λ m. Err BadLine) (sym n)
refused_first least number (word ∷ rest) why n = ap (λ (r : Reading ℕ). term_and_rest r (factor_at word) rest) (sym n)

pub number_refused : (before : Terms) (least : ℕ) (words behind : List Word) (number : Word) (why : CertWhy) (all : Reading Terms)
    → words ≡ number ∷ behind → Err why ≡ number_at least number → onto before (terms_from least words) ≡ all → all ≡ Err why
number_refused before least words behind number why all e n so_far =
    sym so_far ∙ ap (λ (ws : List Word). onto before (terms_from least ws)) e ∙ ap (onto before) (refused_first least number behind why n)

pub terms_cut : (before : Terms) (least : ℕ) (words behind : List Word) (number : Word) (n : ℕ) (all : Reading Terms)
    → words ≡ number ∷ behind → behind ≡ [] → Ok n ≡ number_at least number → onto before (terms_from least words) ≡ all → all ≡ Err BadLine
unfolding terms_from
terms_cut before least words behind number n all e f m so_far =
    sym so_far ∙ ap (λ (ws : List Word). onto before (terms_from least ws)) (e ∙ ap (λ (ws : List Word). number ∷ ws) f) ∙ ap (λ (r : Reading ℕ). onto before (r >>= λ k. Err BadLine)) (sym m)

pub factor_refused : (before : Terms) (least : ℕ) (words behind : List Word) (number word : Word) (rest : List Word) (n : ℕ) (why : CertWhy) (all : Reading Terms)
    → words ≡ number ∷ behind → behind ≡ word ∷ rest → Ok n ≡ number_at least number → Err why ≡ factor_at word → onto before (terms_from least words) ≡ all → all ≡ Err why
factor_refused before least words behind number word rest n why all e f m z so_far =
    terms_at_words before least words number word rest all (e ∙ ap (λ (ws : List Word). number ∷ ws) f) so_far
    ∙ ap (λ (r : Reading ℕ). onto before (term_and_rest r (factor_at word) rest)) (sym m) ∙ ap (λ (r : Reading ℤ). onto before (term_and_rest (Ok n) r rest)) (sym z)

pub terms_go_on : (before : Terms) (least : ℕ) (words behind : List Word) (number word : Word) (rest : List Word) (n : ℕ) (z : ℤ) (now : Terms) (all : Reading Terms)
    → words ≡ number ∷ behind → behind ≡ word ∷ rest → Ok n ≡ number_at least number → Ok z ≡ factor_at word → now ≡ before ++ (n, z) ∷ [] → onto before (terms_from least words) ≡ all
    → onto now (terms_from (n + 1) rest) ≡ all
terms_go_on before least words behind number word rest n z now all e f m y p so_far =
    ap (λ (ts : Terms). onto ts (terms_from (n + 1) rest)) p ∙ onto_push before (n, z) (terms_from (n + 1) rest)
    ∙ sym (terms_at_words before least words number word rest all (e ∙ ap (λ (ws : List Word). number ∷ ws) f) so_far
    ∙ ap (λ (r : Reading ℕ). onto before (term_and_rest r (factor_at word) rest)) (sym m) ∙ ap (λ (r : Reading ℤ). onto before (term_and_rest (Ok n) r rest)) (sym y))

pub terms_stop : (before : Terms) (least : ℕ) (words : List Word) (all : Reading Terms) → words ≡ [] → onto before (terms_from least words) ≡ all → all ≡ Ok before
unfolding terms_from
terms_stop before least words all e so_far = sym so_far ∙ ap (λ (ws : List Word). onto before (terms_from least ws)) e ∙ ap (λ ts. Ok ts) (append-nil before)

-- ---- hints

hints_at_word : (before : List ℕ) (words : List Word) (word : Word) (rest : List Word) (all : Reading (List ℕ)) → words ≡ word ∷ rest → onto before (hints_at words) ≡ all
    → all ≡ onto before (hint_at word >>= λ h. hints_at rest >>= λ hs. Ok (h ∷ hs))
unfolding hints_at
hints_at_word before words word rest all e so_far = sym so_far ∙ ap (λ (ws : List Word). onto before (hints_at ws)) e

pub hint_refused : (before : List ℕ) (words : List Word) (word : Word) (rest : List Word) (why : CertWhy) (all : Reading (List ℕ))
    → words ≡ word ∷ rest → Err why ≡ hint_at word → onto before (hints_at words) ≡ all → all ≡ Err why
hint_refused before words word rest why all e n so_far =
    hints_at_word before words word rest all e so_far ∙ ap (λ (r : Reading ℕ). onto before (r >>= λ h. hints_at rest >>= λ hs. Ok (h ∷ hs))) (sym n)

pub hints_go_on : (before : List ℕ) (words : List Word) (word : Word) (rest : List Word) (h : ℕ) (now : List ℕ) (all : Reading (List ℕ))
    → words ≡ word ∷ rest → Ok h ≡ hint_at word → now ≡ before ++ h ∷ [] → onto before (hints_at words) ≡ all → onto now (hints_at rest) ≡ all
hints_go_on before words word rest h now all e n m so_far =
    ap (λ (hs : List ℕ). onto hs (hints_at rest)) m ∙ onto_push before h (hints_at rest)
    ∙ sym (hints_at_word before words word rest all e so_far ∙ ap (λ (r : Reading ℕ). onto before (r >>= λ k. hints_at rest >>= λ hs. Ok (k ∷ hs))) (sym n))

pub hints_stop : (before : List ℕ) (words : List Word) (all : Reading (List ℕ)) → words ≡ [] → onto before (hints_at words) ≡ all → all ≡ Ok before
unfolding hints_at
hints_stop before words all e so_far = sym so_far ∙ ap (λ (ws : List Word). onto before (hints_at ws)) e ∙ ap (λ hs. Ok hs) (append-nil before)
