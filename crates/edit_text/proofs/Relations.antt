-- What reading gives, and the relations that say which script a text spells and which fault is its first.
use Rattle.std.proofs.Common.{◌≡◌, ◌≢◌, ℕ, ◌+◌, ◌<◌, Bool, true, false, cond, ltb, List, [], ◌∷◌, ◌++◌, length, map, Ok, Err, refl, sym, ap, subst, ◌∙◌, arith}
use Rattle.std.specs.Prelude.{All, bytes_eq}
use Rattle.std.proofs.lemmas.Bool.{false_from_ne_true, false≢true, lt-ltb, ltb-false}
use Rattle.std.proofs.lemmas.List.Elements.{All-nil, All-cons, All-head, All-tail}
use Rattle.std.proofs.lemmas.Slice.Eq.{bytes_eq-Decides}
use Rattle.cert_text.specs.declared.fault.CertWhy.{CertWhy}
use Rattle.cert_text.specs.Spelling.{line_bytes}
use Rattle.cert_text.proofs.Results.{apart, bind_ok, same_err, same_ok, unless_test}
use Rattle.edit_text.specs.declared.fault.ScriptWhy.{ScriptWhy}
use Rattle.edit_text.specs.declared.fault.ScriptWhy.TheVariants.{BadEdit, NotEnded, AfterEnd}
use Rattle.edit_text.specs.declared.script.Command.{Command}
use Rattle.edit_text.specs.Reading.{◌>>=◌, Reading, command_in}
use Rattle.edit_text.specs.Scripts.{IsCommand}
use Rattle.edit_text.specs.Spelling.{command_words, script_words}
use Rattle.edit_text.specs.Steps.{Found, at, commands_from, over_at}
use Rattle.edit_text.specs.Texts.{FailsIn, IsCommandLine, end_line}
use Rattle.edit_text.proofs.Forms.{line_again, line_takes, no_end}
use Rattle.edit_text.proofs.Going.{line_and_rest, line_step}

abbrev pub Parts : Type 0
Parts = List (List ℕ)

abbrev pub Commands : Type 0
Commands = Found (List Command)

abbrev Fault : Type 0
Fault = ℕ × ScriptWhy

abbrev pub is_read : List Command → Commands
is_read xs = Ok xs

abbrev pub is_refused : Fault → Commands
is_refused fault = Err fault

-- ---- one line

step_by : (n : ℕ) (l : List ℕ) (ps : Parts) (b : Bool) → 0 < length ps → bytes_eq l end_line ≡ b → commands_from n (l ∷ ps) ≡ line_and_rest n b (command_in l) ps
step_by n l ps b some e = line_step n l ps some ∙ ap (λ (t : Bool). line_and_rest n t (command_in l) ps) e

is_end : (l : List ℕ) → bytes_eq l end_line ≡ true → l ≡ end_line
is_end l t = (bytes_eq-Decides l end_line).0 t

same_line : bytes_eq end_line end_line ≡ true
same_line = (bytes_eq-Decides end_line end_line).1 refl

other_line : (l : List ℕ) → l ≢ end_line → bytes_eq l end_line ≡ false
other_line l ne = false_from_ne_true (bytes_eq l end_line) (λ t. ne (is_end l t))

not_last : (l : List ℕ) → bytes_eq l end_line ≡ false → l ≢ end_line
not_last l f e = false≢true (sym f ∙ (bytes_eq-Decides l end_line).1 e)

command_line : (l : List ℕ) (x : Command) → command_in l ≡ Ok x → IsCommandLine l
command_line l x e = let t = line_takes l x e in record { command = x; rules = t.1; line_is = t.0 }

line_read : (l : List ℕ) → (h : IsCommandLine l) → command_in l ≡ Ok h.command
line_read l h = ap command_in h.line_is ∙ line_again h.command h.rules

line_other : (l : List ℕ) → (h : IsCommandLine l) → bytes_eq l end_line ≡ false
line_other l h = ap (λ (x : List ℕ). bytes_eq x end_line) h.line_is ∙ no_end h.command

command_step : (n : ℕ) (l : List ℕ) (ps : Parts) (x : Command) (r : Commands) → 0 < length ps → bytes_eq l end_line ≡ false → command_in l ≡ Ok x → commands_from (n + 1) ps ≡ r → commands_from n (l ∷ ps) ≡ (r >>= λ xs. Ok (x ∷ xs))
command_step n l ps x r some f e h =
    step_by n l ps false some f ∙ ap (λ (q : Reading Command). line_and_rest n false q ps) e ∙ ap (λ (q : Commands). q >>= λ xs. Ok (x ∷ xs)) h

-- ---- what is read is spelled

abbrev pub lines_of : List Command → Parts
lines_of xs = map line_bytes (script_words xs)

pub record Spelled (ps : Parts) (xs : List Command) : Type 0 where
  pub parts : ps ≡ lines_of xs ++ [] ∷ []
  pub rules : All IsCommand xs

at_ok : {X : Type 0} (n : ℕ) (r : Reading X) (x : X) → at n r ≡ Ok x → r ≡ Ok x
at_ok n (Ok y) x e = ap (λ z. Ok z) (same_ok y x e)
at_ok n (Err why) x e = absurd cc

no_bytes : (bytes : List ℕ) → ltb 0 (length bytes) ≡ false → bytes ≡ []
no_bytes [] e = refl
no_bytes (b ∷ bytes) e = absurd (omega (arith, ltb-false 0 (length (b ∷ bytes)) e))

over_takes : (n : ℕ) (ps : Parts) (xs : List Command) → 0 < length ps → over_at n ps ≡ Ok xs → (ps ≡ [] ∷ []) × ([] ≡ xs)
over_takes n [] xs some e = absurd (omega (arith, some))
over_takes n (p ∷ []) xs some e =
    let g = unless_test (ltb 0 (length p)) (is_read []) (n, AfterEnd) xs e in
    (ap (λ (x : List ℕ). x ∷ []) (no_bytes p g.0), same_ok [] xs g.1)
over_takes n (p ∷ q ∷ ps) xs some e = absurd cc

ends : (n : ℕ) (l : List ℕ) (ps : Parts) (xs : List Command) → 0 < length ps → bytes_eq l end_line ≡ true → over_at (n + 2) ps ≡ Ok xs → Spelled (l ∷ ps) xs
ends n l ps xs some t e =
    let o = over_takes (n + 2) ps xs some e in
    subst (Spelled (l ∷ ps)) {x = []} o.1 (record { parts = ap (λ (x : List ℕ). x ∷ ps) (is_end l t) ∙ ap (λ (qs : Parts). end_line ∷ qs) o.0; rules = All-nil IsCommand })

no_lines : (n : ℕ) (p : List ℕ) (xs : List Command) → commands_from n (p ∷ []) ≡ is_read xs → ⊥
unfolding commands_from
no_lines n p xs e = absurd cc

nothing : (n : ℕ) (xs : List Command) → commands_from n [] ≡ is_read xs → ⊥
unfolding commands_from
nothing n xs e = absurd cc

abbrev ReadBehind : ℕ → Parts → Type 0
ReadBehind n ps = (ys : List Command) → commands_from n ps ≡ Ok ys → Spelled ps ys

reads_command : (n : ℕ) (l : List ℕ) (ps : Parts) (xs : List Command) → ReadBehind (n + 1) ps → line_and_rest n false (command_in l) ps ≡ Ok xs → Spelled (l ∷ ps) xs
reads_command n l ps xs behind e =
    let a = bind_ok (at (n + 1) (command_in l)) (λ x. commands_from (n + 1) ps >>= λ ys. Ok (x ∷ ys)) xs e in
    let b = bind_ok (commands_from (n + 1) ps) (λ ys. Ok (a.0 ∷ ys)) xs a.2 in
    let t = line_takes l a.0 (at_ok (n + 1) (command_in l) a.0 a.1) in
    let rest = behind b.0 b.1 in
    subst (Spelled (l ∷ ps)) {x = a.0 ∷ b.0} (same_ok (a.0 ∷ b.0) xs b.2) (record {
      parts = ap (λ (x : List ℕ). x ∷ ps) t.0 ∙ ap (λ (qs : Parts). line_bytes (command_words a.0) ∷ qs) rest.parts;
      rules = All-cons IsCommand a.0 b.0 t.1 rest.rules;
    })

reads_line : (n : ℕ) (l : List ℕ) (ps : Parts) (xs : List Command) (b : Bool) → 0 < length ps → bytes_eq l end_line ≡ b → ReadBehind (n + 1) ps → commands_from n (l ∷ ps) ≡ Ok xs → Spelled (l ∷ ps) xs
reads_line n l ps xs true some t behind e = ends n l ps xs some t (sym (step_by n l ps true some t) ∙ e)
reads_line n l ps xs false some f behind e = reads_command n l ps xs behind (sym (step_by n l ps false some f) ∙ e)

pub read_lines : (n : ℕ) (ps : Parts) (xs : List Command) → commands_from n ps ≡ Ok xs → Spelled ps xs
read_lines n [] xs e = absurd (nothing n xs e)
read_lines n (l ∷ []) xs e = absurd (no_lines n l xs e)
read_lines n (l ∷ p ∷ ps) xs e = reads_line n l (p ∷ ps) xs (bytes_eq l end_line) (omega arith) refl (λ ys h. read_lines (n + 1) (p ∷ ps) ys h) e

-- ---- what is spelled is read

some_lines : (xs : List Command) → 0 < length (lines_of xs ++ [] ∷ [])
some_lines [] = omega arith
some_lines (x ∷ xs) = omega arith

pub lines_again : (n : ℕ) (xs : List Command) → All IsCommand xs → commands_from n (lines_of xs ++ [] ∷ []) ≡ Ok xs
lines_again n [] h = step_by n end_line ([] ∷ []) true (omega arith) same_line
lines_again n (x ∷ xs) h =
    command_step n (line_bytes (command_words x)) (lines_of xs ++ [] ∷ []) x (Ok xs) (some_lines xs) (no_end x) (line_again x (All-head IsCommand x xs h)) (lines_again (n + 1) xs (All-tail IsCommand x xs h))

-- ---- what is refused fails

abbrev pub FailsBehind : ℕ → Parts → ℕ → ScriptWhy → Type 0
FailsBehind n ps m why = (k : ℕ) × FailsIn ps k why × (n + k ≡ m)

later : (l : List ℕ) (ps : Parts) (k : ℕ) (why : ScriptWhy) → IsCommandLine l → FailsIn ps k why → FailsIn (l ∷ ps) (k + 1) why
later l ps k BadEdit c f = record {
  front = l ∷ f.front;
  line = f.line;
  next = f.next;
  rest = f.rest;
  parts_are = ap (λ (x : Parts). l ∷ x) f.parts_are;
  commands = All-cons IsCommandLine l f.front c f.commands;
  no_command = f.no_command;
  no_end = f.no_end;
  number_is = omega (arith, f.number_is);
}
later l ps k NotEnded c f = record {
  front = l ∷ f.front;
  tail = f.tail;
  parts_are = ap (λ (x : Parts). l ∷ x) f.parts_are;
  commands = All-cons IsCommandLine l f.front c f.commands;
  number_is = omega (arith, f.number_is);
}
later l ps k AfterEnd c f = record {
  front = l ∷ f.front;
  rest = f.rest;
  parts_are = ap (λ (x : Parts). l ∷ x) f.parts_are;
  commands = All-cons IsCommandLine l f.front c f.commands;
  is_line = f.is_line;
  more = f.more;
  number_is = omega (arith, f.number_is);
}

-- a fault at this line of the parts that are left
here : (n k : ℕ) (ps : Parts) (why : ScriptWhy) (m : ℕ) (w : ScriptWhy) → is_refused (n + k, why) ≡ is_refused (m, w) → FailsIn ps k why → FailsBehind n ps m w
here n k ps why m w e f = subst (λ (y : Fault). FailsBehind n ps y.0 y.1) {x = (n + k, why)} (same_err (n + k, why) (m, w) e) (k, f, refl)

not_empty : (p : List ℕ) (ps : Parts) → p ∷ ps ≢ []
not_empty p ps e = absurd cc

abbrev size_of_first : Parts → ℕ
size_of_first [] = 0
size_of_first (p ∷ ps) = length p

with_bytes : (p : List ℕ) → ltb 0 (length p) ≡ true → p ∷ [] ≢ [] ∷ []
with_bytes p t e = false≢true (sym (ap (λ (ps : Parts). ltb 0 (size_of_first ps)) e) ∙ t)

longer : (p q : List ℕ) (ps : Parts) → p ∷ q ∷ ps ≢ [] ∷ []
longer p q ps e = absurd (omega (arith, ap length e))

over_refusal : (n : ℕ) (p : List ℕ) (b : Bool) (y : Fault) → ltb 0 (length p) ≡ b → cond b (is_refused (n, AfterEnd)) (is_read []) ≡ is_refused y → b ≡ true
over_refusal n p true y t e = refl
over_refusal n p false y t e = absurd (apart [] y e)

over_fails : (n : ℕ) (l : List ℕ) (ps : Parts) (m : ℕ) (w : ScriptWhy) → 0 < length ps → l ≡ end_line → over_at (n + 2) ps ≡ Err (m, w) → FailsBehind n (l ∷ ps) m w
over_fails n l [] m w some last e = absurd (omega (arith, some))
over_fails n l (p ∷ []) m w some last e =
    let t = over_refusal (n + 2) p (ltb 0 (length p)) (m, w) refl e in
    here n 2 (l ∷ p ∷ []) AfterEnd m w (sym (ap (λ (b : Bool). cond b (is_refused (n + 2, AfterEnd)) (is_read [])) t) ∙ e) (record {
      front = [];
      rest = p ∷ [];
      parts_are = ap (λ (x : List ℕ). x ∷ p ∷ []) last;
      commands = All-nil IsCommandLine;
      is_line = not_empty p [];
      more = with_bytes p t;
      number_is = refl;
    })
over_fails n l (p ∷ q ∷ ps) m w some last e =
    here n 2 (l ∷ p ∷ q ∷ ps) AfterEnd m w e (record {
      front = [];
      rest = p ∷ q ∷ ps;
      parts_are = ap (λ (x : List ℕ). x ∷ p ∷ q ∷ ps) last;
      commands = All-nil IsCommandLine;
      is_line = not_empty p (q ∷ ps);
      more = longer p q ps;
      number_is = refl;
    })

bind_err : (x : Command) (r : Commands) (y : Fault) → (r >>= λ xs. Ok (x ∷ xs)) ≡ is_refused y → r ≡ is_refused y
bind_err x (Ok xs) y e = absurd (apart (x ∷ xs) y e)
bind_err x (Err z) y e = ap (λ (u : Fault). is_refused u) (same_err z y e)

err_apart : (why : CertWhy) (r : Reading Command) (x : Command) → r ≡ Err why → r ≡ Ok x → ⊥
err_apart why r x e h = apart x why (sym h ∙ e)

tail_refused : (n : ℕ) (p : List ℕ) (y : Fault) → commands_from n (p ∷ []) ≡ is_refused y → is_refused (n + 1, NotEnded) ≡ is_refused y
unfolding commands_from
tail_refused n p y e = e

abbrev RefusedBehind : ℕ → Parts → Type 0
RefusedBehind n ps = (m : ℕ) (w : ScriptWhy) → commands_from n ps ≡ Err (m, w) → FailsBehind n ps m w

refuses_command : (n : ℕ) (l p : List ℕ) (ps : Parts) (m : ℕ) (w : ScriptWhy) (r : Reading Command) → command_in l ≡ r → bytes_eq l end_line ≡ false → RefusedBehind (n + 1) (p ∷ ps) → line_and_rest n false r (p ∷ ps) ≡ is_refused (m, w) → FailsBehind n (l ∷ p ∷ ps) m w
refuses_command n l p ps m w (Ok x) read f behind h =
    let rest = behind m w (bind_err x (commands_from (n + 1) (p ∷ ps)) (m, w) h) in
    (rest.0 + 1, later l (p ∷ ps) rest.0 w (command_line l x read) rest.1, omega (arith, rest.2))
refuses_command n l p ps m w (Err why) read f behind h =
    here n 1 (l ∷ p ∷ ps) BadEdit m w h (record {
      front = [];
      line = l;
      next = p;
      rest = ps;
      parts_are = refl;
      commands = All-nil IsCommandLine;
      no_command = λ c. err_apart why (command_in l) c.command read (line_read l c);
      no_end = not_last l f;
      number_is = refl;
    })

refuses_line : (n : ℕ) (l p : List ℕ) (ps : Parts) (m : ℕ) (w : ScriptWhy) (b : Bool) → bytes_eq l end_line ≡ b → RefusedBehind (n + 1) (p ∷ ps) → commands_from n (l ∷ p ∷ ps) ≡ is_refused (m, w) → FailsBehind n (l ∷ p ∷ ps) m w
refuses_line n l p ps m w true t behind e = over_fails n l (p ∷ ps) m w (omega arith) (is_end l t) (sym (step_by n l (p ∷ ps) true (omega arith) t) ∙ e)
refuses_line n l p ps m w false f behind e = refuses_command n l p ps m w (command_in l) refl f behind (sym (step_by n l (p ∷ ps) false (omega arith) f) ∙ e)

pub refused_lines : (n : ℕ) (ps : Parts) (m : ℕ) (w : ScriptWhy) → 0 < length ps → commands_from n ps ≡ Err (m, w) → FailsBehind n ps m w
refused_lines n [] m w some e = absurd (omega (arith, some))
refused_lines n (p ∷ []) m w some e =
    here n 1 (p ∷ []) NotEnded m w (tail_refused n p (m, w) e) (record { front = []; tail = p; parts_are = refl; commands = All-nil IsCommandLine; number_is = refl })
refused_lines n (l ∷ p ∷ ps) m w some e = refuses_line n l p ps m w (bytes_eq l end_line) refl (λ k v h. refused_lines (n + 1) (p ∷ ps) k v (omega arith) h) e

-- ---- what fails is refused

skips : (n : ℕ) (l : List ℕ) (ps : Parts) (y : Fault) → 0 < length ps → IsCommandLine l → commands_from (n + 1) ps ≡ is_refused y → commands_from n (l ∷ ps) ≡ is_refused y
skips n l ps y some c h = command_step n l ps c.command (is_refused y) some (line_other l c) (line_read l c) h

bad_line : (n : ℕ) (l : List ℕ) (ps : Parts) (r : Reading Command) → 0 < length ps → command_in l ≡ r → (IsCommandLine l → ⊥) → bytes_eq l end_line ≡ false → commands_from n (l ∷ ps) ≡ is_refused (n + 1, BadEdit)
bad_line n l ps (Ok x) some e other f = absurd (other (command_line l x e))
bad_line n l ps (Err why) some e other f = step_by n l ps false some f ∙ ap (λ (q : Reading Command). line_and_rest n false q ps) e

some_behind : (front rest : Parts) (p : List ℕ) → 0 < length (front ++ p ∷ rest)
some_behind [] rest p = omega arith
some_behind (q ∷ front) rest p = omega arith

bad_edit : (n : ℕ) (front rest : Parts) (l next : List ℕ) → All IsCommandLine front → (IsCommandLine l → ⊥) → l ≢ end_line → commands_from n (front ++ l ∷ next ∷ rest) ≡ is_refused (n + (length front + 1), BadEdit)
bad_edit n [] rest l next c other ne = bad_line n l (next ∷ rest) (command_in l) (omega arith) refl other (other_line l ne)
bad_edit n (k ∷ front) rest l next c other ne =
    skips n k (front ++ l ∷ next ∷ rest) (n + (length (k ∷ front) + 1), BadEdit) (some_behind front (next ∷ rest) l) (All-head IsCommandLine k front c)
    (bad_edit (n + 1) front rest l next (All-tail IsCommandLine k front c) other ne ∙ ap (λ (m : ℕ). is_refused (m, BadEdit)) (let e : n + 1 + (length front + 1) ≡ n + (length (k ∷ front) + 1) = omega arith in e))

at_tail : (n : ℕ) (p : List ℕ) → commands_from n (p ∷ []) ≡ is_refused (n + 1, NotEnded)
unfolding commands_from
at_tail n p = refl

not_ended : (n : ℕ) (front : Parts) (tail : List ℕ) → All IsCommandLine front → commands_from n (front ++ tail ∷ []) ≡ is_refused (n + (length front + 1), NotEnded)
not_ended n [] tail c = at_tail n tail
not_ended n (k ∷ front) tail c =
    skips n k (front ++ tail ∷ []) (n + (length (k ∷ front) + 1), NotEnded) (some_behind front [] tail) (All-head IsCommandLine k front c)
    (not_ended (n + 1) front tail (All-tail IsCommandLine k front c) ∙ ap (λ (m : ℕ). is_refused (m, NotEnded)) (let e : n + 1 + (length front + 1) ≡ n + (length (k ∷ front) + 1) = omega arith in e))

over_refused : (n : ℕ) (rest : Parts) → rest ≢ [] → rest ≢ [] ∷ [] → over_at n rest ≡ is_refused (n, AfterEnd)
over_refused n [] is_line more = absurd (is_line refl)
over_refused n ([] ∷ []) is_line more = absurd (more refl)
over_refused n ((b ∷ bytes) ∷ []) is_line more = ap (λ (t : Bool). cond t (is_refused (n, AfterEnd)) (is_read [])) (lt-ltb 0 (length (b ∷ bytes)) (omega arith))
over_refused n (p ∷ q ∷ rest) is_line more = refl

some_parts_of : (rest : Parts) → rest ≢ [] → 0 < length rest
some_parts_of [] is_line = absurd (is_line refl)
some_parts_of (p ∷ rest) is_line = omega arith

after_end : (n : ℕ) (front rest : Parts) → All IsCommandLine front → rest ≢ [] → rest ≢ [] ∷ [] → commands_from n (front ++ end_line ∷ rest) ≡ is_refused (n + (length front + 2), AfterEnd)
after_end n [] rest c is_line more = step_by n end_line rest true (some_parts_of rest is_line) same_line ∙ over_refused (n + 2) rest is_line more
after_end n (k ∷ front) rest c is_line more =
    skips n k (front ++ end_line ∷ rest) (n + (length (k ∷ front) + 2), AfterEnd) (some_behind front rest end_line) (All-head IsCommandLine k front c)
    (after_end (n + 1) front rest (All-tail IsCommandLine k front c) is_line more ∙ ap (λ (m : ℕ). is_refused (m, AfterEnd)) (let e : n + 1 + (length front + 2) ≡ n + (length (k ∷ front) + 2) = omega arith in e))

pub failed_lines : (ps : Parts) (m : ℕ) (w : ScriptWhy) → FailsIn ps m w → commands_from 0 ps ≡ is_refused (m, w)
failed_lines ps m BadEdit f =
    ap (λ (x : Parts). commands_from 0 x) f.parts_are ∙ bad_edit 0 f.front f.rest f.line f.next f.commands f.no_command f.no_end
    ∙ ap (λ (k : ℕ). is_refused (k, BadEdit)) (let e : 0 + (length f.front + 1) ≡ m = omega (arith, f.number_is) in e)
failed_lines ps m NotEnded f =
    ap (λ (x : Parts). commands_from 0 x) f.parts_are ∙ not_ended 0 f.front f.tail f.commands ∙ ap (λ (k : ℕ). is_refused (k, NotEnded)) (let e : 0 + (length f.front + 1) ≡ m = omega (arith, f.number_is) in e)
failed_lines ps m AfterEnd f =
    ap (λ (x : Parts). commands_from 0 x) f.parts_are ∙ after_end 0 f.front f.rest f.commands f.is_line f.more ∙ ap (λ (k : ℕ). is_refused (k, AfterEnd)) (let e : 0 + (length f.front + 2) ≡ m = omega (arith, f.number_is) in e)
