-- The clauses of the reader, and the laws.
use Rattle.std.proofs.Common.{◌≡◌, ℕ, ◌⊎◌, inl, inr, List, [], ◌∷◌, get_or, Result, Ok, Err, refl, sym, ap, subst, ◌∙◌, arith}
use Rattle.std.specs.Prelude.{All, IfErr, IfOk, map}
use Rattle.std.proofs.lemmas.List.Elements.{All-append, All-cons, All-map, All-nil}
use Rattle.lp_base.specs.Answers.{Gives, Refuses}
use Rattle.std.specs.List.{join_with_byte}
use Rattle.std.proofs.lemmas.List.Splits.{join_with_byte-slice_split}
use Rattle.cert_text.specs.Spelling.{line_bytes}
use Rattle.cert_text.specs.Splits.{split}
use Rattle.cert_text.proofs.Joined.{IsInLine, joined_is_text, line_in_line, lines_joined}
use Rattle.cert_text.proofs.Plain.{ArePlain}
use Rattle.cert_text.proofs.Results.{apart, same_err, same_ok}
use Rattle.edit_text.specs.declared.fault.ScriptFault.{ScriptFault}
use Rattle.edit_text.specs.declared.fault.ScriptFault.TheVariants.{NoMemory, At}
use Rattle.edit_text.specs.declared.fault.ScriptWhy.{ScriptWhy}
use Rattle.edit_text.specs.declared.script.Command.{Command}
use Rattle.edit_text.specs.declared.script.Script.{Script}
use Rattle.edit_text.specs.Spelling.{command_words, end_words, script_words}
use Rattle.edit_text.specs.Steps.{Finds, commands_from, script_in}
use Rattle.edit_text.specs.Texts.{Fails, FailsAs, FailsIn, Spells, found_by}
use Rattle.edit_text.proofs.Forms.{plain_command, plain_end}
use Rattle.edit_text.proofs.Walks.{some_parts}
use Rattle.edit_text.proofs.Relations.{Commands, failed_lines, is_read, lines_again, read_lines, refused_lines}

plain_script : (xs : List Command) → All ArePlain (script_words xs)
plain_script xs =
    All-append ArePlain (map command_words xs) (end_words ∷ []) (All-map ArePlain command_words xs (λ i d l. plain_command (get_or xs i d)))
    (All-cons ArePlain end_words [] plain_end (All-nil ArePlain))

all_in_line : (xs : List Command) → All IsInLine (map line_bytes (script_words xs))
all_in_line xs = All-map IsInLine line_bytes (script_words xs) (λ i d l. line_in_line (get_or (script_words xs) i d) (plain_script xs i d l))

pub read_is_spelled : (text : List ℕ) (s : Script) → script_in text ≡ Ok s.commands → Spells text s
unfolding script_in
read_is_spelled text s e =
    let r = read_lines 0 (split 10 text) s.commands e in
    record { rules = r.rules; text_is = sym (join_with_byte-slice_split 10 text) ∙ ap (join_with_byte 10) r.parts ∙ joined_is_text (map line_bytes (script_words s.commands)) }

pub spelled_is_read : (text : List ℕ) (s : Script) → Spells text s → script_in text ≡ Ok s.commands
unfolding script_in
spelled_is_read text s h =
    ap (λ (t : List ℕ). commands_from 0 (split 10 t)) h.text_is
    ∙ ap (λ (parts : List (List ℕ)). commands_from 0 parts) (lines_joined (map line_bytes (script_words s.commands)) (all_in_line s.commands))
    ∙ lines_again 0 s.commands h.rules

pub refused_fails : (text : List ℕ) (n : ℕ) (w : ScriptWhy) → script_in text ≡ Err (n, w) → Fails text n w
unfolding script_in
refused_fails text n w e =
    let f = refused_lines 0 (split 10 text) n w (some_parts text) e in
    subst (λ (m : ℕ). FailsIn (split 10 text) m w) (let k : f.0 ≡ n = omega (arith, f.2) in k) f.1

pub failed_is_refused : (text : List ℕ) (n : ℕ) (w : ScriptWhy) → Fails text n w → script_in text ≡ Err (n, w)
unfolding script_in
failed_is_refused text n w f = failed_lines (split 10 text) n w f

-- ---- the clauses of the reader

abbrev Gave : Result Script ScriptFault → List ℕ → Type 0
Gave r text = Finds (λ script. script.commands) r (script_in text)

pub given_spelled : (r : Result Script ScriptFault) (text : List ℕ) → Gave r text → IfOk r (λ s. Spells text s)
given_spelled (Ok s) text h = read_is_spelled text s h
given_spelled (Err fault) text h = tt

same_script : (s t : Script) → is_read s.commands ≡ is_read t.commands → s ≡ t
same_script s t e = ap (λ (xs : List Command). record { commands = xs }) (same_ok s.commands t.commands e)

pub given_only : (r : Result Script ScriptFault) (text : List ℕ) → Gave r text → (s : Script) → Spells text s → Gives found_by s r
given_only (Ok found) text h s k = same_script found s (sym h ∙ spelled_is_read text s k)
given_only (Err (NoMemory e)) text h s k = tt
given_only (Err (At line why)) text h s k = apart s.commands (line, why) (sym (spelled_is_read text s k) ∙ h)

pub given_fails : (r : Result Script ScriptFault) (text : List ℕ) → Gave r text → IfErr r (λ fault. FailsAs fault text)
given_fails (Ok s) text h = tt
given_fails (Err (NoMemory e)) text h = tt
given_fails (Err (At line why)) text h = refused_fails text line why h

pub given_only_fails : (r : Result Script ScriptFault) (text : List ℕ) → Gave r text → (line : ℕ) (why : ScriptWhy) → Fails text line why → Refuses found_by (line, why) r
given_only_fails (Ok found) text h line why f = apart found.commands (line, why) (sym h ∙ failed_is_refused text line why f)
given_only_fails (Err (NoMemory e)) text h line why f = tt
given_only_fails (Err (At n w)) text h line why f = same_err (n, w) (line, why) (sym h ∙ failed_is_refused text line why f)

-- ---- laws

pub one_script : (text : List ℕ) (one other : Script) → Spells text one → Spells text other → one ≡ other
one_script text one other h k = same_script one other (sym (spelled_is_read text one h) ∙ spelled_is_read text other k)

pub one_fault : (text : List ℕ) (m n : ℕ) (one other : ScriptWhy) → Fails text m one → Fails text n other → (m ≡ n) × (one ≡ other)
one_fault text m n one other f g =
    let same = same_err (m, one) (n, other) (sym (failed_is_refused text m one f) ∙ failed_is_refused text n other g) in
    (ap (λ (y : ℕ × ScriptWhy). y.0) same, ap (λ (y : ℕ × ScriptWhy). y.1) same)

pub not_both : (text : List ℕ) (s : Script) (line : ℕ) (why : ScriptWhy) → Spells text s → Fails text line why → ⊥
not_both text s line why h f = apart s.commands (line, why) (sym (spelled_is_read text s h) ∙ failed_is_refused text line why f)

pub one_of_both : (text : List ℕ) → ((s : Script) × Spells text s) ⊎ ((line : ℕ) × (why : ScriptWhy) × Fails text line why)
one_of_both text = by_answer (script_in text) refl
  where
    by_answer : (a : Commands) → script_in text ≡ a → ((s : Script) × Spells text s) ⊎ ((line : ℕ) × (why : ScriptWhy) × Fails text line why)
    by_answer (Ok xs) e = inl (record { commands = xs }, read_is_spelled text (record { commands = xs }) e)
    by_answer (Err x) e = inr (x.0, x.1, refused_fails text x.0 x.1 e)
