-- How reading goes on in loops: what is read behind what was read before.
use Rattle.std.proofs.Common.{◌≡◌, ℕ, ℤ, ◌+◌, Bool, true, false, cond, List, [], ◌∷◌, ◌++◌, length, Result, Ok, Err, refl, sym, ap, subst, ◌∙◌, append_assoc, ◌<◌, arith}
use Rattle.std.proofs.lemmas.List.{append-nil, length_push}
use Rattle.lp_base.specs.Answers.{UnlessShort}
use Rattle.cert_text.specs.Spelling.{Word}
use Rattle.cert_text.proofs.Going.{onto, onto_first, onto_first_push}
use Rattle.cert_text.proofs.Results.{bind_ok, same_ok}
use Rattle.front_text.specs.declared.fault.FrontFault.{FrontFault}
use Rattle.front_text.specs.declared.fault.FrontFault.TheVariants.{NoMemory, At}
use Rattle.front_text.specs.declared.fault.FrontWhy.{FrontWhy}
use Rattle.front_text.specs.declared.fault.FrontWhy.TheVariants.{BadLine}
use Rattle.front_text.specs.Problems.{Terms}
use Rattle.front_text.specs.Reading.{◌>>=◌, Reading, factor_in, number_in, terms_from}
use Rattle.front_text.specs.Steps.{Found, Left, at, behind, first_of, line_as, next_begins, section_from, section_step, whole_line, words}
use Rattle.front_text.specs.Texts.{found_by}

onto_push : {X E : Type 0} (front : List X) (x : X) (r : Result (List X) E) → onto (front ++ x ∷ []) r ≡ onto front (r >>= λ xs. Ok (x ∷ xs))
onto_push front x (Ok xs) = ap (λ ys. Ok ys) (append_assoc front (x ∷ []) xs)
onto_push front x (Err e) = refl

-- ---- terms

abbrev term_and_rest : Reading ℕ → Reading ℤ → List Word → Reading Terms
term_and_rest number factor rest = number >>= λ n. factor >>= λ z. terms_from (n + 1) rest >>= λ terms. Ok ((n, z) ∷ terms)

terms_at_words : (before : Terms) (least : ℕ) (words : List Word) (number word : Word) (rest : List Word) (all : Reading Terms) → words ≡ number ∷ word ∷ rest → onto before (terms_from least words) ≡ all
    → all ≡ onto before (term_and_rest (number_in least number) (factor_in word) rest)
unfolding terms_from
terms_at_words before least words number word rest all e so_far = sym so_far ∙ ap (λ (ws : List Word). onto before (terms_from least ws)) e

refused_first : (least : ℕ) (number : Word) (behind : List Word) (why : FrontWhy) → Err why ≡ number_in least number → terms_from least (number ∷ behind) ≡ Err why
unfolding terms_from
refused_first least number [] why n = ap (λ (r : Reading ℕ). r >>= λ m. Err BadLine) (sym n)
refused_first least number (word ∷ rest) why n = ap (λ (r : Reading ℕ). term_and_rest r (factor_in word) rest) (sym n)

pub number_refused : (before : Terms) (least : ℕ) (words behind : List Word) (number : Word) (why : FrontWhy) (all : Reading Terms)
    → words ≡ number ∷ behind → Err why ≡ number_in least number → onto before (terms_from least words) ≡ all → all ≡ Err why
number_refused before least words behind number why all e n so_far =
    sym so_far ∙ ap (λ (ws : List Word). onto before (terms_from least ws)) e ∙ ap (onto before) (refused_first least number behind why n)

pub terms_cut : (before : Terms) (least : ℕ) (words behind : List Word) (number : Word) (n : ℕ) (all : Reading Terms)
    → words ≡ number ∷ behind → behind ≡ [] → Ok n ≡ number_in least number → onto before (terms_from least words) ≡ all → all ≡ Err BadLine
unfolding terms_from
terms_cut before least words behind number n all e f m so_far =
    sym so_far ∙ ap (λ (ws : List Word). onto before (terms_from least ws)) (e ∙ ap (λ (ws : List Word). number ∷ ws) f) ∙ ap (λ (r : Reading ℕ). onto before (r >>= λ k. Err BadLine)) (sym m)

pub factor_refused : (before : Terms) (least : ℕ) (words behind : List Word) (number word : Word) (rest : List Word) (n : ℕ) (why : FrontWhy) (all : Reading Terms)
    → words ≡ number ∷ behind → behind ≡ word ∷ rest → Ok n ≡ number_in least number → Err why ≡ factor_in word → onto before (terms_from least words) ≡ all → all ≡ Err why
factor_refused before least words behind number word rest n why all e f m z so_far =
    terms_at_words before least words number word rest all (e ∙ ap (λ (ws : List Word). number ∷ ws) f) so_far
    ∙ ap (λ (r : Reading ℕ). onto before (term_and_rest r (factor_in word) rest)) (sym m) ∙ ap (λ (r : Reading ℤ). onto before (term_and_rest (Ok n) r rest)) (sym z)

pub terms_go_on : (before : Terms) (least : ℕ) (words behind : List Word) (number word : Word) (rest : List Word) (n : ℕ) (z : ℤ) (now : Terms) (all : Reading Terms)
    → words ≡ number ∷ behind → behind ≡ word ∷ rest → Ok n ≡ number_in least number → Ok z ≡ factor_in word → now ≡ before ++ (n, z) ∷ [] → onto before (terms_from least words) ≡ all
    → onto now (terms_from (n + 1) rest) ≡ all
terms_go_on before least words behind number word rest n z now all e f m y p so_far =
    ap (λ (ts : Terms). onto ts (terms_from (n + 1) rest)) p ∙ onto_push before (n, z) (terms_from (n + 1) rest)
    ∙ sym (terms_at_words before least words number word rest all (e ∙ ap (λ (ws : List Word). number ∷ ws) f) so_far
    ∙ ap (λ (r : Reading ℕ). onto before (term_and_rest r (factor_in word) rest)) (sym m) ∙ ap (λ (r : Reading ℤ). onto before (term_and_rest (Ok n) r rest)) (sym y))

pub terms_stop : (before : Terms) (least : ℕ) (words : List Word) (all : Reading Terms) → words ≡ [] → onto before (terms_from least words) ≡ all → all ≡ Ok before
unfolding terms_from
terms_stop before least words all e so_far = sym so_far ∙ ap (λ (ws : List Word). onto before (terms_from least ws)) e ∙ ap (λ ts. Ok ts) (append-nil before)

-- ---- lines that begin with one word

abbrev Read : Type 0 → Type 0
Read X = ℕ → List Word → Reading X

abbrev goes_on : {X : Type 0} → Word → Read X → ℕ → X × Left → Found (List X × Left)
goes_on kind read k x = section_step kind read (k + 1) x.1 >>= λ found. Ok (x.0 ∷ found.0, found.1)

stops_by : {X : Type 0} (kind : Word) (read : Read X) (k : ℕ) (left : Left) (ls : List (List ℕ)) → next_begins kind ls ≡ false → section_from kind read k left ls ≡ Ok ([], left)
unfolding section_from
stops_by kind read k left [] e = refl
stops_by kind read k left (l ∷ ls) e = ap (λ (b : Bool). cond b (at (left.taken + 1) (read k (words l)) >>= λ x. section_from kind read (k + 1) (behind left ls) ls >>= λ found. Ok (x ∷ found.0, found.1)) (Ok ([], left))) e

stops : {X : Type 0} (kind : Word) (read : Read X) (k : ℕ) (left : Left) → next_begins kind left.lines ≡ false → section_step kind read k left ≡ Ok ([], left)
unfolding section_step
stops kind read k left e = stops_by kind read k left left.lines e

same_step : {X : Type 0} (kind : Word) (read : Read X) (k line : ℕ) (left : Left) (r : Reading X)
    → (at line r >>= λ x. section_from kind read (k + 1) left left.lines >>= λ found. Ok (x ∷ found.0, found.1)) ≡ ((at line r >>= λ x. Ok (x, left)) >>= goes_on kind read k)
unfolding section_step
same_step kind read k line left (Ok x) = refl
same_step kind read k line left (Err why) = refl

goes_by : {X : Type 0} (kind : Word) (read : Read X) (k : ℕ) (left : Left) (ls : List (List ℕ)) → next_begins kind ls ≡ true
    → section_from kind read k left ls ≡ ((first_of left ls >>= λ line. at line.1.taken (read k (words line.0)) >>= λ x. Ok (x, line.1)) >>= goes_on kind read k)
unfolding section_from
goes_by kind read k left [] e = absurd cc
goes_by kind read k left (l ∷ ls) e =
    ap (λ (b : Bool). cond b (at (left.taken + 1) (read k (words l)) >>= λ x. section_from kind read (k + 1) (behind left ls) ls >>= λ found. Ok (x ∷ found.0, found.1)) (Ok ([], left))) e
    ∙ same_step kind read k (left.taken + 1) (behind left ls) (read k (words l))

goes : {X : Type 0} (kind : Word) (read : Read X) (k : ℕ) (left : Left) → next_begins kind left.lines ≡ true → section_step kind read k left ≡ (line_as (read k) left >>= goes_on kind read k)
unfolding section_step line_as whole_line
goes kind read k left e = goes_by kind read k left left.lines e

section_at : {X : Type 0} (kind : Word) (read : Read X) (before : List X) (left : Left) (r : Found (X × Left)) (all : Found (List X × Left))
    → next_begins kind left.lines ≡ true → line_as (read (length before)) left ≡ r → onto_first before (section_step kind read (length before) left) ≡ all → all ≡ onto_first before (r >>= goes_on kind read (length before))
section_at kind read before left r all b e so_far =
    sym so_far ∙ ap (onto_first before) (goes kind read (length before) left b) ∙ ap (λ (x : Found _). onto_first before (x >>= goes_on kind read (length before))) e

pub section_ends : {X : Type 0} (kind : Word) (read : Read X) (before : List X) (left : Left) (all : Found (List X × Left))
    → next_begins kind left.lines ≡ false → onto_first before (section_step kind read (length before) left) ≡ all → all ≡ Ok (before, left)
section_ends kind read before left all b so_far =
    sym so_far ∙ ap (onto_first before) (stops kind read (length before) left b) ∙ ap (λ xs. Ok (xs, left)) (append-nil before)

pub section_refused : {X : Type 0} (fault : FrontFault) (kind : Word) (read : Read X) (before : List X) (left : Left) (all : Found (List X × Left))
    → next_begins kind left.lines ≡ true → UnlessShort found_by (λ why. line_as (read (length before)) left ≡ Err why) fault → onto_first before (section_step kind read (length before) left) ≡ all
    → UnlessShort found_by (λ why. all ≡ Err why) fault
section_refused (NoMemory e) kind read before left all b h so_far = tt
section_refused (At line why) kind read before left all b h so_far = section_at kind read before left (Err (line, why)) all b h so_far

-- where the place is counted otherwise
pub section_refused_at : {X : Type 0} (fault : FrontFault) (kind : Word) (read : Read X) (before : List X) (n : ℕ) (left : Left) (all : Found (List X × Left)) → n ≡ length before
    → next_begins kind left.lines ≡ true → UnlessShort found_by (λ why. line_as (read n) left ≡ Err why) fault → onto_first before (section_step kind read (length before) left) ≡ all
    → UnlessShort found_by (λ why. all ≡ Err why) fault
section_refused_at fault kind read before n left all k b h so_far =
    section_refused fault kind read before left all b (subst (λ m. UnlessShort found_by (λ why. line_as (read m) left ≡ Err why) fault) k h) so_far

pub section_goes_on : {X : Type 0} (kind : Word) (read : Read X) (before now : List X) (x : X) (left next : Left) (all : Found (List X × Left))
    → next_begins kind left.lines ≡ true → line_as (read (length before)) left ≡ Ok (x, next) → now ≡ before ++ x ∷ [] → onto_first before (section_step kind read (length before) left) ≡ all
    → onto_first now (section_step kind read (length now) next) ≡ all
section_goes_on kind read before now x left next all b e m so_far =
    let longer : length now ≡ length before + 1 = ap length m ∙ length_push before x in
    ap (λ (j : ℕ). onto_first now (section_step kind read j next)) longer ∙ ap (λ (xs : List _). onto_first xs (section_step kind read (length before + 1) next)) m
    ∙ onto_first_push before x (section_step kind read (length before + 1) next)
    ∙ sym (section_at kind read before left (Ok (x, next)) all b e so_far)

first_shorter : (left : Left) (ls : List (List ℕ)) (x : List ℕ × Left) → first_of left ls ≡ Ok x → length x.1.lines < length ls
first_shorter left [] x e = absurd cc
first_shorter left (l ∷ ls) x e = subst (λ (y : List ℕ × Left). length y.1.lines < length (l ∷ ls)) {x = (l, behind left ls)} (same_ok (l, behind left ls) x e) (omega arith)

pub line_shorter : {X : Type 0} (f : List Word → Reading X) (left next : Left) (x : X) → line_as f left ≡ Ok (x, next) → length next.lines < length left.lines
unfolding line_as whole_line
line_shorter f left next x e =
    let y : _ × Left = (x, next) in
    let line = bind_ok (first_of left left.lines) (λ line. at line.1.taken (f (words line.0)) >>= λ z. Ok (z, line.1)) y e in
    let found = bind_ok (at line.0.1.taken (f (words line.0.0))) (λ z. Ok (z, line.0.1)) y line.2 in
    subst (λ (z : _ × Left). length z.1.lines < length left.lines) {x = (found.0, line.0.1)} (same_ok (found.0, line.0.1) y found.2) (first_shorter left left.lines line.0 line.1)
