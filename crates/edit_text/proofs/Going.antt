-- How reading goes on in loops: what is read behind what was read before.
use Rattle.std.proofs.Common.{◌≡◌, ℕ, ℤ, ◌+◌, ◌<◌, ◌≤◌, Bool, true, false, cond, List, [], ◌∷◌, ◌++◌, length, Ok, Err, refl, sym, ap, subst, ◌∙◌, arith}
use Rattle.std.specs.Prelude.{bytes_eq}
use Rattle.std.proofs.lemmas.List.{append-nil, length_push}
use Rattle.lp_base.specs.Answers.{UnlessShort}
use Rattle.cert_text.specs.declared.fault.CertWhy.{CertWhy}
use Rattle.cert_text.specs.declared.fault.CertWhy.TheVariants.{BadLine}
use Rattle.cert_text.specs.Spelling.{Word}
use Rattle.cert_text.specs.Splits.{split}
use Rattle.cert_text.proofs.Going.{onto, onto_push}
use Rattle.edit_text.specs.declared.fault.ScriptFault.{ScriptFault}
use Rattle.edit_text.specs.declared.fault.ScriptFault.TheVariants.{NoMemory, At}
use Rattle.edit_text.specs.declared.fault.ScriptWhy.TheVariants.{NotEnded}
use Rattle.edit_text.specs.declared.script.Command.{Command}
use Rattle.edit_text.specs.Scripts.{Terms}
use Rattle.edit_text.specs.Reading.{◌>>=◌, Reading, command_in, factor_at, narrow_at, terms_at}
use Rattle.edit_text.specs.Steps.{Found, IsFirst, at, commands_from, over_at, script_in}
use Rattle.edit_text.specs.Texts.{end_line, found_by}
use Rattle.edit_text.proofs.Walks.{some_parts}

-- ---- terms

abbrev term_and_rest : Reading ℤ → Reading ℤ → List Word → Reading Terms
term_and_rest number factor rest = number >>= λ n. factor >>= λ z. terms_at rest >>= λ terms. Ok ((n, z) ∷ terms)

terms_at_words : (before : Terms) (words : List Word) (number word : Word) (rest : List Word) (all : Reading Terms) → words ≡ number ∷ word ∷ rest → onto before (terms_at words) ≡ all
    → all ≡ onto before (term_and_rest (narrow_at number) (factor_at word) rest)
unfolding terms_at
terms_at_words before words number word rest all e so_far = sym so_far ∙ ap (λ (ws : List Word). onto before (terms_at ws)) e

refused_first : (number : Word) (behind : List Word) (why : CertWhy) → Err why ≡ narrow_at number → terms_at (number ∷ behind) ≡ Err why
unfolding terms_at
refused_first number [] why n = ap (λ (r : Reading ℤ). r >>= λ m. Err BadLine) (sym n)
refused_first number (word ∷ rest) why n = ap (λ (r : Reading ℤ). term_and_rest r (factor_at word) rest) (sym n)

pub number_refused : (before : Terms) (words behind : List Word) (number : Word) (why : CertWhy) (all : Reading Terms)
    → words ≡ number ∷ behind → Err why ≡ narrow_at number → onto before (terms_at words) ≡ all → all ≡ Err why
number_refused before words behind number why all e n so_far =
    sym so_far ∙ ap (λ (ws : List Word). onto before (terms_at ws)) e ∙ ap (onto before) (refused_first number behind why n)

pub terms_cut : (before : Terms) (words behind : List Word) (number : Word) (n : ℤ) (all : Reading Terms)
    → words ≡ number ∷ behind → behind ≡ [] → Ok n ≡ narrow_at number → onto before (terms_at words) ≡ all → all ≡ Err BadLine
unfolding terms_at
terms_cut before words behind number n all e f m so_far =
    sym so_far ∙ ap (λ (ws : List Word). onto before (terms_at ws)) (e ∙ ap (λ (ws : List Word). number ∷ ws) f) ∙ ap (λ (r : Reading ℤ). onto before (r >>= λ k. Err BadLine)) (sym m)

pub factor_refused : (before : Terms) (words behind : List Word) (number word : Word) (rest : List Word) (n : ℤ) (why : CertWhy) (all : Reading Terms)
    → words ≡ number ∷ behind → behind ≡ word ∷ rest → Ok n ≡ narrow_at number → Err why ≡ factor_at word → onto before (terms_at words) ≡ all → all ≡ Err why
factor_refused before words behind number word rest n why all e f m z so_far =
    terms_at_words before words number word rest all (e ∙ ap (λ (ws : List Word). number ∷ ws) f) so_far
    ∙ ap (λ (r : Reading ℤ). onto before (term_and_rest r (factor_at word) rest)) (sym m) ∙ ap (λ (r : Reading ℤ). onto before (term_and_rest (Ok n) r rest)) (sym z)

pub terms_go_on : (before : Terms) (words behind : List Word) (number word : Word) (rest : List Word) (n z : ℤ) (now : Terms) (all : Reading Terms)
    → words ≡ number ∷ behind → behind ≡ word ∷ rest → Ok n ≡ narrow_at number → Ok z ≡ factor_at word → now ≡ before ++ (n, z) ∷ [] → onto before (terms_at words) ≡ all
    → onto now (terms_at rest) ≡ all
terms_go_on before words behind number word rest n z now all e f m y p so_far =
    ap (λ (ts : Terms). onto ts (terms_at rest)) p ∙ onto_push before (n, z) (terms_at rest)
    ∙ sym (terms_at_words before words number word rest all (e ∙ ap (λ (ws : List Word). number ∷ ws) f) so_far
    ∙ ap (λ (r : Reading ℤ). onto before (term_and_rest r (factor_at word) rest)) (sym m) ∙ ap (λ (r : Reading ℤ). onto before (term_and_rest (Ok n) r rest)) (sym y))

pub terms_stop : (before : Terms) (words : List Word) (all : Reading Terms) → words ≡ [] → onto before (terms_at words) ≡ all → all ≡ Ok before
unfolding terms_at
terms_stop before words all e so_far = sym so_far ∙ ap (λ (ws : List Word). onto before (terms_at ws)) e ∙ ap (λ ts. Ok ts) (append-nil before)

-- the term that was added, read again in its width
pub pushed : (before now : Terms) (n z m y : ℤ) → now ≡ before ++ (m, y) ∷ [] → m ≡ n → y ≡ z → now ≡ before ++ (n, z) ∷ []
pushed before now n z m y p e f = p ∙ ap (λ (k : ℤ). before ++ (k, y) ∷ []) e ∙ ap (λ (k : ℤ). before ++ (n, k) ∷ []) f

-- ---- commands

abbrev Rest : Type 0
Rest = Found (List Command)

-- the commands of a text behind those that were read
abbrev pub rest_of : List Command → List ℕ → Rest
rest_of before text = onto before (commands_from (length before) (split 10 text))

onto_nothing : (r : Rest) → onto [] r ≡ r
onto_nothing (Ok xs) = refl
onto_nothing (Err why) = refl

-- the line, and the parts behind it
abbrev pub line_and_rest : ℕ → Bool → Reading Command → List (List ℕ) → Rest
line_and_rest n last read parts = cond last (over_at (n + 2) parts) (at (n + 1) read >>= λ x. commands_from (n + 1) parts >>= λ xs. Ok (x ∷ xs))

pub line_step : (n : ℕ) (line : List ℕ) (parts : List (List ℕ)) → 0 < length parts → commands_from n (line ∷ parts) ≡ line_and_rest n (bytes_eq line end_line) (command_in line) parts
unfolding commands_from
line_step n line [] some = absurd (omega (arith, some))
line_step n line (next ∷ parts) some = refl

at_line : (before : List Command) (text line behind : List ℕ) (all : Rest) → IsFirst text line behind → rest_of before text ≡ all
    → all ≡ onto before (line_and_rest (length before) (bytes_eq line end_line) (command_in line) (split 10 behind))
at_line before text line behind all first so_far =
    sym so_far ∙ ap (λ (parts : List (List ℕ)). onto before (commands_from (length before) parts)) first.0
    ∙ ap (onto before) (line_step (length before) line (split 10 behind) (some_parts behind))

at_end : (before : List Command) (number : ℕ) (text line behind : List ℕ) (all : Rest) → number ≡ length before + 1 → IsFirst text line behind → bytes_eq line end_line ≡ true
    → rest_of before text ≡ all → all ≡ onto before (over_at (number + 1) (split 10 behind))
at_end before number text line behind all k first t so_far =
    at_line before text line behind all first so_far ∙ ap (λ (b : Bool). onto before (line_and_rest (length before) b (command_in line) (split 10 behind))) t
    ∙ ap (λ (m : ℕ). onto before (over_at m (split 10 behind))) (let e : length before + 2 ≡ number + 1 = omega (arith, k) in e)

pub end_refused : (fault : ScriptFault) (before : List Command) (number : ℕ) (text line behind : List ℕ) (all : Rest) → number ≡ length before + 1 → IsFirst text line behind → bytes_eq line end_line ≡ true
    → UnlessShort found_by (λ why. over_at (number + 1) (split 10 behind) ≡ Err why) fault → rest_of before text ≡ all → UnlessShort found_by (λ why. all ≡ Err why) fault
end_refused (NoMemory e) before number text line behind all k first t h so_far = tt
end_refused (At n why) before number text line behind all k first t h so_far = at_end before number text line behind all k first t so_far ∙ ap (onto before) h

pub ends : (before : List Command) (number : ℕ) (text line behind : List ℕ) (all : Rest) → number ≡ length before + 1 → IsFirst text line behind → bytes_eq line end_line ≡ true
    → over_at (number + 1) (split 10 behind) ≡ Ok [] → rest_of before text ≡ all → all ≡ Ok before
ends before number text line behind all k first t h so_far =
    at_end before number text line behind all k first t so_far ∙ ap (onto before) h ∙ ap (λ xs. Ok xs) (append-nil before)

at_command : (before : List Command) (number : ℕ) (text line behind : List ℕ) (r : Found Command) (all : Rest) → number ≡ length before + 1 → IsFirst text line behind → bytes_eq line end_line ≡ false
    → at number (command_in line) ≡ r → rest_of before text ≡ all → all ≡ onto before (r >>= λ x. commands_from (length before + 1) (split 10 behind) >>= λ xs. Ok (x ∷ xs))
at_command before number text line behind r all k first f h so_far =
    at_line before text line behind all first so_far ∙ ap (λ (b : Bool). onto before (line_and_rest (length before) b (command_in line) (split 10 behind))) f
    ∙ ap (λ (q : Found Command). onto before (q >>= λ x. commands_from (length before + 1) (split 10 behind) >>= λ xs. Ok (x ∷ xs))) (ap (λ (m : ℕ). at m (command_in line)) (sym k) ∙ h)

pub command_refused : (fault : ScriptFault) (before : List Command) (number : ℕ) (text line behind : List ℕ) (all : Rest) → number ≡ length before + 1 → IsFirst text line behind → bytes_eq line end_line ≡ false
    → UnlessShort found_by (λ why. at number (command_in line) ≡ Err why) fault → rest_of before text ≡ all → UnlessShort found_by (λ why. all ≡ Err why) fault
command_refused (NoMemory e) before number text line behind all k first f h so_far = tt
command_refused (At n why) before number text line behind all k first f h so_far = at_command before number text line behind (Err (n, why)) all k first f h so_far

pub goes_on : (before now : List Command) (number : ℕ) (text line behind : List ℕ) (x : Command) (all : Rest) → number ≡ length before + 1 → IsFirst text line behind → bytes_eq line end_line ≡ false
    → at number (command_in line) ≡ Ok x → now ≡ before ++ x ∷ [] → rest_of before text ≡ all → rest_of now behind ≡ all
goes_on before now number text line behind x all k first f h p so_far =
    let longer : length now ≡ length before + 1 = ap length p ∙ length_push before x in
    ap (λ (m : ℕ). onto now (commands_from m (split 10 behind))) longer ∙ ap (λ (xs : List Command). onto xs (commands_from (length before + 1) (split 10 behind))) p
    ∙ onto_push before x (commands_from (length before + 1) (split 10 behind))
    ∙ sym (at_command before number text line behind (Ok x) all k first f h so_far)

pub not_ended : (before : List Command) (number : ℕ) (text : List ℕ) (all : Rest) → number ≡ length before + 1 → split 10 text ≡ text ∷ [] → rest_of before text ≡ all → all ≡ Err (number, NotEnded)
unfolding commands_from
not_ended before number text all k none so_far =
    sym so_far ∙ ap (λ (parts : List (List ℕ)). onto before (commands_from (length before) parts)) none ∙ ap (λ (m : ℕ). Err (m, NotEnded)) (sym k)

-- the number of the line that comes next, which no text is too long for
abbrev pub IsNext : ℕ → List Command → List ℕ → List ℕ → Type 0
IsNext number before rest text = (number ≡ length before + 1) × (number + length rest ≤ length text + 1)

-- what the loop keeps
abbrev pub Keeps : ℕ → List Command → List ℕ → List ℕ → Type 0
Keeps number before rest text = (rest_of before rest ≡ script_in text) × IsNext number before rest text

starts_with_none : (text : List ℕ) → Keeps 1 [] text text
unfolding script_in
starts_with_none text = (onto_nothing (commands_from 0 (split 10 text)), (refl, omega arith))

pub starts : (before : List Command) (text : List ℕ) → before ≡ [] → Keeps 1 before text text
starts before text e = subst (λ (xs : List Command). Keeps 1 xs text text) (sym e) (starts_with_none text)

next_number : (before now : List Command) (number : ℕ) (rest behind text : List ℕ) (x : Command) → IsNext number before rest text → length behind < length rest → now ≡ before ++ x ∷ [] → IsNext (number + 1) now behind text
next_number before now number rest behind text x h short p = (omega (arith, h.0, ap length p ∙ length_push before x), omega (arith, h.1, short))

pub keeps_on : (before now : List Command) (number : ℕ) (rest line behind text : List ℕ) (x : Command) → Keeps number before rest text → IsFirst rest line behind → bytes_eq line end_line ≡ false
    → at number (command_in line) ≡ Ok x → now ≡ before ++ x ∷ [] → Keeps (number + 1) now behind text
keeps_on before now number rest line behind text x k first f h p =
    (goes_on before now number rest line behind x (script_in text) k.1.0 first f h p k.0, next_number before now number rest behind text x k.1 first.1 p)
