-- What each step of a reader gives, against the first fault among the lines that are left. How a line is judged is a
-- parameter.
use Rattle.std.proofs.Common.{◌≡◌, ℕ, ◌+◌, ◌<◌, Bool, true, false, not, ◌&&◌, cond, eqb, List, [], ◌∷◌, ◌++◌, length, Option, Some, None, Ok, Err, refl, sym, ap, subst, ◌∙◌, arith}
use Rattle.std.proofs.lemmas.Bool.{or_parts, or_from, or_left, or_right, ne_eqb}
use Rattle.std.proofs.lemmas.List.{length_push}
use Rattle.cert_text.specs.declared.fault.CertWhy.{CertWhy}
use Rattle.cert_text.specs.declared.fault.CertWhy.TheVariants.{BadHead, NotEnded, AfterEnd}
use Rattle.cert_text.specs.Spelling.{Word}
use Rattle.cert_text.specs.Faults.{words, is_last, is_ended, reason, end_fault}
use Rattle.cert_text.specs.Reading.{◌>>=◌, Reading}
use Rattle.cert_text.specs.Steps.{Found, Left, behind, at, first_of, whole_line, line_as, over_of, behind_end}
use Rattle.cert_text.specs.Texts.{Judge}
use Rattle.cert_text.proofs.Results.{same_err}
use Rattle.cert_text.proofs.Relations.{numbered, or_later, first_fault}
use Rattle.cert_text.proofs.Stepping.{step, line_step, Stepped, line_stepped}

abbrev pub Lines : Type 0
Lines = List (List ℕ)

abbrev pub Fault : Type 0
Fault = ℕ × CertWhy

-- the first fault among the lines that are left, where lines are judged so
abbrev pub first : Judge → Lines → Left → Option Fault
first judge before left = first_fault judge left.cut before left.lines

abbrev pub fault_is : Fault → Option Fault
fault_is x = Some x

-- ---- lines before

pub ended_push : (before : Lines) (l : List ℕ) → is_ended before ≡ false → is_last l ≡ false → is_ended (before ++ l ∷ []) ≡ false
ended_push [] l e h = or_from (is_last l) false h refl
ended_push (b ∷ before) l e h = let p = or_parts (is_last b) (is_ended before) e in or_from (is_last b) (is_ended (before ++ l ∷ [])) p.0 (ended_push before l p.1 h)

pub ended_last : (before : Lines) (l : List ℕ) → is_last l ≡ true → is_ended (before ++ l ∷ []) ≡ true
ended_last [] l h = or_left (is_last l) false h
ended_last (b ∷ before) l h = or_right (is_last b) (is_ended (before ++ l ∷ [])) (ended_last before l h)

-- some lines stand before, and none of them is the last line
pub record IsOpen (before : Lines) (left : Left) : Type 0 where
  pub open_yet : is_ended before ≡ false
  pub some : 0 < length before
  pub number : left.taken ≡ length before

pub not_ended : (before : Lines) (cut : Bool) → is_ended before ≡ false → 0 < length before → end_fault before cut ≡ Some NotEnded
not_ended before cut e some =
    ap (λ (t : Bool). cond t (cond cut (Some AfterEnd) None) (cond (eqb (length before) 0 && not cut) (Some BadHead) (Some NotEnded))) e
    ∙ ap (λ (t : Bool). cond (t && not cut) (Some BadHead) (Some NotEnded)) (ne_eqb (length before) 0 (λ z. omega (arith, z, some)))

pub open_push : (before : Lines) (l : List ℕ) (left next : Left) → IsOpen before left → is_last l ≡ false → next ≡ behind left next.lines → IsOpen (before ++ l ∷ []) next
open_push before l left next o h e =
    let longer = length_push before l in
    let number = ap (λ (k : Left). k.taken) e in
    record { open_yet = ended_push before l o.open_yet h; some = omega (arith, longer); number = omega (arith, number, o.number, longer) }

-- ---- one line

same_number : (m n : ℕ) (w : CertWhy) (x : Fault) → m ≡ n → (m, w) ≡ x → fault_is (n, w) ≡ fault_is x
same_number m n w x e h = ap (λ (k : ℕ). fault_is (k, w)) (sym e) ∙ ap fault_is h

abbrev pub err_of : Fault → Found Left
err_of x = Err x

abbrev pub given_left : Left → Found Left
given_left left = Ok left

abbrev with_left : {X : Type 0} → Left → X → Found (X × Left)
with_left left y = Ok (y, left)

read_by : {X : Type 0} (judge : Judge) (before : Lines) (left : Left) (l : List ℕ) (ls : Lines) (x : Fault) (r : Reading X) → IsOpen before left → judge before l ≡ reason r
    → (at (left.taken + 1) r >>= with_left (behind left ls)) ≡ Err x → first_fault judge left.cut before (l ∷ ls) ≡ fault_is x
read_by judge before left l ls x (Ok v) o judged e = absurd cc
read_by judge before left l ls x (Err why) o judged e =
    ap (λ (w : Option CertWhy). or_later w (length before + 1) (first_fault judge left.cut (before ++ l ∷ []) ls)) judged
    ∙ same_number (left.taken + 1) (length before + 1) why x (ap (λ (n : ℕ). n + 1) o.number) (same_err (left.taken + 1, why) x e)

step_by : {X : Type 0} (judge : Judge) (g : List ℕ → Reading X) (before : Lines) (left : Left) (ls : Lines) (x : Fault) → IsOpen before left → ((l : List ℕ) → judge before l ≡ reason (g l))
    → (first_of left ls >>= λ line. at line.1.taken (g line.0) >>= with_left line.1) ≡ Err x → first_fault judge left.cut before ls ≡ fault_is x
step_by judge g before left [] x o judged e =
    ap (numbered (length before + 1)) (not_ended before left.cut o.open_yet o.some)
    ∙ same_number (left.taken + 1) (length before + 1) NotEnded x (ap (λ (n : ℕ). n + 1) o.number) (same_err (left.taken + 1, NotEnded) x e)
step_by judge g before left (l ∷ ls) x o judged e = read_by judge before left l ls x (g l) o (judged l) e

pub step_fails : {X : Type 0} (judge : Judge) (g : List ℕ → Reading X) (before : Lines) (left : Left) (x : Fault) → IsOpen before left → ((l : List ℕ) → judge before l ≡ reason (g l)) → step g left ≡ Err x → first judge before left ≡ fault_is x
unfolding whole_line
step_fails judge g before left x o judged e = step_by judge g before left left.lines x o judged e

pub line_fails : {X : Type 0} (judge : Judge) (f : List Word → Reading X) (before : Lines) (left : Left) (x : Fault) → IsOpen before left → ((l : List ℕ) → judge before l ≡ reason (f (words l))) → line_as f left ≡ Err x → first judge before left ≡ fault_is x
line_fails judge f before left x o judged e = step_fails judge (λ l. f (words l)) before left x o judged (sym (line_step f left) ∙ e)

-- behind a line that is taken the first fault is the same
pub step_goes_on : {X : Type 0} (judge : Judge) (g : List ℕ → Reading X) (before : Lines) (left : Left) (x : X) (next : Left) → ((l : List ℕ) → judge before l ≡ reason (g l)) → (s : Stepped g left x next)
    → first judge before left ≡ first judge (before ++ s.line ∷ []) next
step_goes_on judge g before left x next judged s =
    ap (first_fault judge left.cut before) s.lines
    ∙ ap (λ (w : Option CertWhy). or_later w (length before + 1) (first_fault judge left.cut (before ++ s.line ∷ []) next.lines)) (judged s.line ∙ ap reason s.read)
    ∙ ap (λ (t : Bool). first_fault judge t (before ++ s.line ∷ []) next.lines) (sym (ap (λ (k : Left). k.cut) s.next_is))

-- ---- several lines: a step ends with the first fault, or behind the last line

abbrev pub Ends : {X : Type 0} → Judge → Option Fault → Found (X × Left) → Type 0
Ends judge here (Err x) = here ≡ fault_is x
Ends judge here (Ok y) = (after : Lines) × (is_ended after ≡ true) × (y.1.taken ≡ length after) × (here ≡ first judge after y.1)

pub ends_from : {X : Type 0} (judge : Judge) (here there : Option Fault) (r : Found (X × Left)) → here ≡ there → Ends judge there r → Ends judge here r
ends_from judge here there (Err x) e h = e ∙ h
ends_from judge here there (Ok y) e h = (h.0, h.1, h.2, e ∙ h.3)

pub ends_map : {X Y : Type 0} (judge : Judge) (here : Option Fault) (f : X → Y) (r : Found (X × Left)) → Ends judge here r → Ends judge here (r >>= λ y. Ok (f y.0, y.1))
ends_map judge here f (Err x) h = h
ends_map judge here f (Ok y) h = h

pub ends_bind : {X Y : Type 0} (judge : Judge) (here : Option Fault) (r : Found X) (k : X → Found (Y × Left)) → ((x : Fault) → r ≡ Err x → here ≡ fault_is x) → ((y : X) → r ≡ Ok y → Ends judge here (k y)) → Ends judge here (r >>= k)
ends_bind judge here (Err x) k f g = f x refl
ends_bind judge here (Ok y) k f g = g y refl

-- a line read by f, and what follows it
pub line_ends : {X Y : Type 0} (judge : Judge) (f : List Word → Reading X) (before : Lines) (left : Left) (k : X × Left → Found (Y × Left)) → IsOpen before left → ((l : List ℕ) → judge before l ≡ reason (f (words l)))
    → ((a : X × Left) → (s : Stepped (λ l. f (words l)) left a.0 a.1) → Ends judge (first judge (before ++ s.line ∷ []) a.1) (k a)) → Ends judge (first judge before left) (line_as f left >>= k)
line_ends judge f before left k o judged next =
    ends_bind judge (first judge before left) (line_as f left) k (λ x e. line_fails judge f before left x o judged e)
    (λ a e.
    let s = line_stepped f left a e in
    ends_from judge (first judge before left) (first judge (before ++ s.line ∷ []) a.1) (k a) (step_goes_on judge (λ l. f (words l)) before left a.0 a.1 judged s) (next a s))

-- ---- the whole

-- the first fault, or none
abbrev pub Wholly : {X : Type 0} → Option Fault → Found X → Type 0
Wholly here (Err x) = here ≡ fault_is x
Wholly here (Ok c) = here ≡ None

-- nothing may stand behind the last line
abbrev pub Closes : Judge → Type 0
Closes judge = (before : Lines) (l : List ℕ) → is_ended before ≡ true → judge before l ≡ Some AfterEnd

over_by : (judge : Judge) → Closes judge → (after : Lines) (left : Left) (ls : Lines) (cut : Bool) → left.cut ≡ cut → is_ended after ≡ true → left.taken ≡ length after → Wholly (first_fault judge cut after ls) (over_of left ls)
over_by judge closes after left [] true ec e number = subst (λ (t : Bool). Wholly (first_fault judge true after []) (cond t (Err (left.taken + 1, AfterEnd)) (Ok left))) (sym ec)
    (ap (λ (t : Bool). numbered (length after + 1) (cond t (Some AfterEnd) (cond (eqb (length after) 0 && false) (Some BadHead) (Some NotEnded)))) e ∙ ap (λ (n : ℕ). fault_is (n + 1, AfterEnd)) (sym number))
over_by judge closes after left [] false ec e number = subst (λ (t : Bool). Wholly (first_fault judge false after []) (cond t (Err (left.taken + 1, AfterEnd)) (Ok left))) (sym ec)
    (ap (λ (t : Bool). numbered (length after + 1) (cond t None (cond (eqb (length after) 0 && true) (Some BadHead) (Some NotEnded)))) e)
over_by judge closes after left (l ∷ ls) cut ec e number =
    ap (λ (w : Option CertWhy). or_later w (length after + 1) (first_fault judge cut (after ++ l ∷ []) ls)) (closes after l e) ∙ ap (λ (n : ℕ). fault_is (n + 1, AfterEnd)) (sym number)

pub over_wholly : (judge : Judge) → Closes judge → (after : Lines) (left : Left) → is_ended after ≡ true → left.taken ≡ length after → Wholly (first judge after left) (behind_end left)
unfolding behind_end
over_wholly judge closes after left e number = over_by judge closes after left left.lines left.cut refl e number

pub wholly_from : {X : Type 0} (here there : Option Fault) (r : Found X) → here ≡ there → Wholly there r → Wholly here r
wholly_from here there (Err x) e h = e ∙ h
wholly_from here there (Ok y) e h = e ∙ h

pub wholly_bind : {X Y : Type 0} (here : Option Fault) (r : Found X) (k : X → Found Y) → ((x : Fault) → r ≡ Err x → here ≡ fault_is x) → ((y : X) → r ≡ Ok y → Wholly here (k y)) → Wholly here (r >>= k)
wholly_bind here (Err x) k f g = f x refl
wholly_bind here (Ok y) k f g = g y refl

pub wholly_keeps : {X Y : Type 0} (here : Option Fault) (r : Found X) (y : Y) → Wholly here r → Wholly here (r >>= λ _. Ok y)
wholly_keeps here (Err x) y h = h
wholly_keeps here (Ok z) y h = h

pub behind_tail : {X : Type 0} (judge : Judge) → Closes judge → (here : Option Fault) (r : Found (X × Left)) → Ends judge here r → Wholly here (r >>= λ cert. behind_end cert.1 >>= λ _. Ok cert.0)
behind_tail judge closes here (Err x) h = h
behind_tail judge closes here (Ok y) h = wholly_keeps here (behind_end y.1) y.0 (wholly_from here (first judge h.0 y.1) (behind_end y.1) h.3 (over_wholly judge closes h.0 y.1 h.1 h.2))
