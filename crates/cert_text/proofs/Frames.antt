-- The reader names the first fault: what each step gives, against the first fault among the lines that are left.
use Rattle.std.proofs.Common.{◌≡◌, ℕ, ◌+◌, Bool, true, false, cond, List, [], ◌∷◌, ◌++◌, length, map, Option, Some, None, Ok, Err, refl, sym, ap, subst, ◌∙◌, append_assoc, arith, ℤ}
use Rattle.std.specs.Prelude.{bytes_eq, codes, flat_map}
use Rattle.std.specs.Fmt.{decimal, signed_decimal}
use Rattle.std.proofs.lemmas.List.{append-nil, length_push}
use Rattle.nogoods.specs.declared.choice.Choice.{Choice}
use Rattle.cert_text.specs.declared.cert.Cert.{Cert}
use Rattle.cert_text.specs.declared.cert.Cert.TheVariants.{Optimal, Infeasible, Unbounded}
use Rattle.cert_text.specs.declared.cert.CertPoint.{CertPoint}
use Rattle.cert_text.specs.declared.cert.CertLine.{CertLine}
use Rattle.cert_text.specs.declared.fault.CertWhy.{CertWhy}
use Rattle.cert_text.specs.declared.fault.CertWhy.TheVariants.{BadHead, NotEnded, AfterEnd}
use Rattle.cert_text.specs.declared.read.Kind.{Kind}
use Rattle.cert_text.specs.declared.read.Kind.TheVariants as kinds
use Rattle.cert_text.specs.Spelling.{Word, colon, choice_word, term_words}
use Rattle.cert_text.specs.Faults.{words, is_last, is_ended, reason, head_fault, log_fault, place_behind, fault_at, fault_of}
use Rattle.cert_text.specs.Reading.{kind_at, ◌>>=◌, Reading, point_at, value_at, piece_at, ray_at, line_at, end_at}
use Rattle.cert_text.specs.Steps.{Found, Left, behind, at, line_as, head_of, head_step, kind_step, entry_at, or_more, log_from, log_step, last_step, optimal_step, infeasible_step, unbounded_step, step_of, behind_end, cert_at}
use Rattle.cert_text.proofs.Results.{same_err}
use Rattle.cert_text.proofs.Relations.{numbered, or_later, first_fault}
use Rattle.cert_text.proofs.Forms.{point_takes, value_takes, piece_line_takes, ray_takes, end_takes}
use Rattle.cert_text.proofs.Certificates.{Entry, entry_takes}
use Rattle.cert_text.proofs.Judging.{Lines, Fault, first as first_by, fault_is, ended_last, IsOpen, not_ended, open_push, err_of, given_left, step_fails, step_goes_on, Ends as EndsBy, ends_from, ends_map, line_ends, Wholly, wholly_from, wholly_bind, Closes, behind_tail}
use Rattle.cert_text.proofs.Stepping.{head_line, kind_line, kind_steps, Stepped, kind_stepped, last_by, head_takes, kind_takes}

abbrev first : Lines → Left → Option Fault
first before left = first_by fault_of before left

abbrev Ends : {X : Type 0} → Option Fault → Found (X × Left) → Type 0
Ends here r = EndsBy fault_of here r

closes : Closes fault_of
closes before l e = ap (λ (t : Bool). cond t (Some AfterEnd) (fault_at (place_behind before) l)) e

fault_here : (before : Lines) (l : List ℕ) → is_ended before ≡ false → fault_of before l ≡ fault_at (place_behind before) l
fault_here before l e = ap (λ (t : Bool). cond t (Some AfterEnd) (fault_at (place_behind before) l)) e

-- ---- no-good lines

-- behind the base and any no-good lines comes one more, or the last line
abbrev LogBehind : Lines → Type 0
LogBehind base = (log : Lines) (l : List ℕ) → is_ended (base ++ log) ≡ false → fault_of (base ++ log) l ≡ log_fault (length log) l

judged_by : (t : Bool) (last : Reading ℕ) (more : Reading CertLine) → cond t (reason last) (reason more) ≡ reason (cond t (last >>= λ k. Ok None) (more >>= λ x. Ok (Some x)))
judged_by true (Ok k) more = refl
judged_by true (Err why) more = refl
judged_by false last (Ok x) = refl
judged_by false last (Err why) = refl

log_judged : (n : ℕ) (l : List ℕ) → log_fault n l ≡ reason (entry_at n l)
unfolding entry_at
log_judged n l = judged_by (is_last l) (end_at n (words l)) (line_at (words l))

abbrev goes_on : ℕ → Left → Lines → Option CertLine → Found (List CertLine × Left)
goes_on n left ls entry = or_more entry (Ok ([], behind left ls)) (λ x. log_from (n + 1) (behind left ls) ls >>= λ log. Ok (x ∷ log.0, log.1))

entry_ends : (base log : Lines) (left : Left) (l : List ℕ) (ls : Lines) (r : Reading (Option CertLine)) → IsOpen (base ++ log) left → fault_of (base ++ log) l ≡ reason r
    → ((o : Option CertLine) → r ≡ Ok o → Entry (length log) l o)
    → (is_last l ≡ false → Ends (first_fault fault_of left.cut (base ++ (log ++ l ∷ [])) ls) (log_from (length (log ++ l ∷ [])) (behind left ls) ls))
    → Ends (first_fault fault_of left.cut (base ++ log) (l ∷ ls)) (at (left.taken + 1) r >>= goes_on (length log) left ls)
entry_ends base log left l ls (Err why) o judged entry next =
    ap (λ (w : Option CertWhy). or_later w (length (base ++ log) + 1) (first_fault fault_of left.cut ((base ++ log) ++ l ∷ []) ls)) judged ∙ ap (λ (n : ℕ). fault_is (n + 1, why)) (sym o.number)
entry_ends base log left l ls (Ok None) o judged entry next =
    let last = entry None refl in
    let longer = length_push (base ++ log) l in (
      (base ++ log) ++ l ∷ [],
      ended_last (base ++ log) l last.0,
      omega (arith, o.number, longer),
      ap (λ (w : Option CertWhy). or_later w (length (base ++ log) + 1) (first_fault fault_of left.cut ((base ++ log) ++ l ∷ []) ls)) judged,
    )
entry_ends base log left l ls (Ok (Some x)) o judged entry next =
    let more = entry (Some x) refl in
    let longer = length_push log l in
    let behind_is : first_fault fault_of left.cut (base ++ log) (l ∷ ls) ≡ first_fault fault_of left.cut (base ++ (log ++ l ∷ [])) ls =
    ap (λ (w : Option CertWhy). or_later w (length (base ++ log) + 1) (first_fault fault_of left.cut ((base ++ log) ++ l ∷ []) ls)) judged
    ∙ ap (λ (b : Lines). first_fault fault_of left.cut b ls) (append_assoc base log (l ∷ [])) in
    ends_from fault_of (first_fault fault_of left.cut (base ++ log) (l ∷ ls)) (first_fault fault_of left.cut (base ++ (log ++ l ∷ [])) ls) (goes_on (length log) left ls (Some x)) behind_is
    (ends_map fault_of (first_fault fault_of left.cut (base ++ (log ++ l ∷ [])) ls) (λ (xs : List CertLine). x ∷ xs) (log_from (length log + 1) (behind left ls) ls)
    (subst (λ (n : ℕ). Ends (first_fault fault_of left.cut (base ++ (log ++ l ∷ [])) ls) (log_from n (behind left ls) ls)) longer (next more.0)))

log_ends : (base log : Lines) (left : Left) (ls : Lines) → LogBehind base → IsOpen (base ++ log) left → Ends (first_fault fault_of left.cut (base ++ log) ls) (log_from (length log) left ls)
unfolding log_from
log_ends base log left [] ready o = ap (numbered (length (base ++ log) + 1)) (not_ended (base ++ log) left.cut o.open_yet o.some) ∙ ap (λ (n : ℕ). fault_is (n + 1, NotEnded)) (sym o.number)
log_ends base log left (l ∷ ls) ready o =
    entry_ends base log left l ls (entry_at (length log) l) o (ready log l o.open_yet ∙ log_judged (length log) l) (λ entry e. entry_takes (length log) l entry e)
    (λ more. log_ends base (log ++ l ∷ []) (behind left ls) ls ready
    (subst (λ (b : Lines). IsOpen b (behind left ls)) (append_assoc base log (l ∷ [])) (open_push (base ++ log) l left (behind left ls) o more refl)))

log_of_base : (base : Lines) (left : Left) → LogBehind base → IsOpen base left → Ends (first base left) (log_step 0 left)
unfolding log_step
log_of_base base left ready o =
    let same : base ++ [] ≡ base = append-nil base in
    subst (λ (b : Lines). Ends (first_fault fault_of left.cut b left.lines) (log_from 0 left left.lines)) same (log_ends base [] left left.lines ready (subst (λ (b : Lines). IsOpen b left) (sym same) o))

-- ---- behind the line of the kind

abbrev titles : Kind → Lines
titles kind = head_line ∷ kind_line kind ∷ []

no_last : (l : List ℕ) (kind : Word) (ws : List Word) → words l ≡ kind ∷ ws → bytes_eq kind (codes "end") ≡ false → is_last l ≡ false
no_last l kind ws e h = last_by l kind ws false e h

pub point_goes_on : (l : List ℕ) (p : CertPoint) → point_at (words l) ≡ Ok p → is_last l ≡ false
point_goes_on l p e = no_last l (codes "point") (signed_decimal p.d ∷ colon ∷ flat_map term_words p.terms) (point_takes (words l) p e).0 refl

pub value_goes_on : (l : List ℕ) (z : ℤ) → value_at (words l) ≡ Ok z → is_last l ≡ false
value_goes_on l z e = no_last l (codes "value") (signed_decimal z ∷ []) (value_takes (words l) z e).0 refl

pub piece_goes_on : (l : List ℕ) (cs : List Choice) → piece_at (words l) ≡ Ok cs → is_last l ≡ false
piece_goes_on l cs e = no_last l (codes "piece") (map choice_word cs) (piece_line_takes (words l) cs e).0 refl

pub ray_goes_on : (l : List ℕ) (ts : List (ℕ × ℤ)) → ray_at (words l) ≡ Ok ts → is_last l ≡ false
ray_goes_on l ts e = no_last l (codes "ray") (colon ∷ flat_map term_words ts) (ray_takes (words l) ts e).0 refl

pub end_ends : (n : ℕ) (l : List ℕ) (k : ℕ) → end_at n (words l) ≡ Ok k → is_last l ≡ true
end_ends n l k e = last_by l (codes "end") (decimal n ∷ []) true (end_takes n (words l) k e).0 refl

optimal_ends : (left : Left) → IsOpen (titles kinds.Optimal) left → Ends (first (titles kinds.Optimal) left) (optimal_step left)
unfolding optimal_step
optimal_ends left o =
    let b0 = titles kinds.Optimal in
    line_ends fault_of point_at b0 left (λ point. line_as value_at point.1 >>= λ z. log_step 0 z.1 >>= λ log. Ok (Optimal point.0 z.0 log.0, log.1)) o (λ l. refl) (λ a s.
    let b1 = b0 ++ s.line ∷ [] in
    let o1 = open_push b0 s.line left a.1 o (point_goes_on s.line a.0 s.read) s.next_is in
    line_ends fault_of value_at b1 a.1 (λ z. log_step 0 z.1 >>= λ log. Ok (Optimal a.0 z.0 log.0, log.1)) o1 (λ l. fault_here b1 l o1.open_yet) (λ z sz.
    let b2 = b1 ++ sz.line ∷ [] in
    let o2 = open_push b1 sz.line a.1 z.1 o1 (value_goes_on sz.line z.0 sz.read) sz.next_is in
    ends_map fault_of (first b2 z.1) (λ (xs : List CertLine). Optimal a.0 z.0 xs) (log_step 0 z.1) (log_of_base b2 z.1 (λ log l e. fault_here (b2 ++ log) l e) o2)))

infeasible_ends : (left : Left) → IsOpen (titles kinds.Infeasible) left → Ends (first (titles kinds.Infeasible) left) (infeasible_step left)
unfolding infeasible_step
infeasible_ends left o =
    let b0 = titles kinds.Infeasible in
    ends_map fault_of (first b0 left) (λ (xs : List CertLine). Infeasible xs) (log_step 0 left) (log_of_base b0 left (λ log l e. fault_here (b0 ++ log) l e) o)

-- behind the last line
ends_here : (c : Cert) (before : Lines) (left : Left) (n : ℕ) (next : Left) → IsOpen before left → (s : Stepped (λ l. end_at 0 (words l)) left n next) → Ends (first (before ++ s.line ∷ []) next) (Ok (c, next))
ends_here c before left n next o s =
    let longer = length_push before s.line in
    let number = ap (λ (k : Left). k.taken) s.next_is in
    (before ++ s.line ∷ [], ended_last before s.line (end_ends 0 s.line n s.read), omega (arith, number, o.number, longer), refl)

unbounded_ends : (left : Left) → IsOpen (titles kinds.Unbounded) left → Ends (first (titles kinds.Unbounded) left) (unbounded_step left)
unfolding unbounded_step last_step
unbounded_ends left o =
    let b0 = titles kinds.Unbounded in
    line_ends fault_of piece_at b0 left (λ piece. line_as point_at piece.1 >>= λ point. line_as ray_at point.1 >>= λ ray. line_as (end_at 0) ray.1 >>= λ last. Ok (Unbounded piece.0 point.0 ray.0, last.1)) o (λ l. refl) (λ a s.
    let b1 = b0 ++ s.line ∷ [] in
    let o1 = open_push b0 s.line left a.1 o (piece_goes_on s.line a.0 s.read) s.next_is in
    line_ends fault_of point_at b1 a.1 (λ point. line_as ray_at point.1 >>= λ ray. line_as (end_at 0) ray.1 >>= λ last. Ok (Unbounded a.0 point.0 ray.0, last.1)) o1 (λ l. fault_here b1 l o1.open_yet) (λ p sp.
    let b2 = b1 ++ sp.line ∷ [] in
    let o2 = open_push b1 sp.line a.1 p.1 o1 (point_goes_on sp.line p.0 sp.read) sp.next_is in
    line_ends fault_of ray_at b2 p.1 (λ ray. line_as (end_at 0) ray.1 >>= λ last. Ok (Unbounded a.0 p.0 ray.0, last.1)) o2 (λ l. fault_here b2 l o2.open_yet) (λ r sr.
    let b3 = b2 ++ sr.line ∷ [] in
    let o3 = open_push b2 sr.line p.1 r.1 o2 (ray_goes_on sr.line r.0 sr.read) sr.next_is in
    line_ends fault_of (end_at 0) b3 r.1 (λ last. Ok (Unbounded a.0 p.0 r.0, last.1)) o3 (λ l. fault_here b3 l o3.open_yet) (λ k sk. ends_here (Unbounded a.0 p.0 r.0) b3 r.1 k.0 k.1 o3 sk))))

tail_ends : (kind : Kind) (left : Left) → IsOpen (titles kind) left → Ends (first (titles kind) left) (step_of kind left)
tail_ends kinds.Optimal left o = optimal_ends left o
tail_ends kinds.Infeasible left o = infeasible_ends left o
tail_ends kinds.Unbounded left o = unbounded_ends left o

-- ---- the whole

kind_judged : (l : List ℕ) → fault_of (head_line ∷ []) l ≡ reason (kind_at l)
kind_judged l = refl

pub kind_no_last : (k : Kind) → is_last (kind_line k) ≡ false
kind_no_last kinds.Optimal = refl
kind_no_last kinds.Infeasible = refl
kind_no_last kinds.Unbounded = refl

behind_head : (left : Left) → IsOpen (head_line ∷ []) left → Wholly (first (head_line ∷ []) left) (kind_step left >>= λ kind. step_of kind.0 kind.1 >>= λ cert. behind_end cert.1 >>= λ _. Ok cert.0)
behind_head left o =
    let b = head_line ∷ [] in
    wholly_bind (first b left) (kind_step left) (λ kind. step_of kind.0 kind.1 >>= λ cert. behind_end cert.1 >>= λ _. Ok cert.0)
    (λ x e. step_fails fault_of kind_at b left x o kind_judged (sym (kind_steps left) ∙ e))
    (λ k e.
    let s = kind_stepped left k e in
    let line : s.line ≡ kind_line k.0 = kind_takes s.line k.0 s.read in
    let o1 = open_push b s.line left k.1 o (ap is_last line ∙ kind_no_last k.0) s.next_is in
    let titled : b ++ s.line ∷ [] ≡ titles k.0 = ap (λ (l : List ℕ). b ++ l ∷ []) line in
    wholly_from (first b left) (first (titles k.0) k.1) _ (step_goes_on fault_of kind_at b left k.0 k.1 kind_judged s ∙ ap (λ (t : Lines). first t k.1) titled)
    (behind_tail fault_of closes (first (titles k.0) k.1) (step_of k.0 k.1) (tail_ends k.0 k.1 (subst (λ (t : Lines). IsOpen t k.1) titled o1))))

head_by : (left : Left) (ls : Lines) (x : Fault) (cut : Bool) → left.cut ≡ cut → left.taken ≡ 0 → head_of left ls ≡ Err x → first_fault fault_of cut [] ls ≡ fault_is x
head_by left [] x true ec z e = ap (λ (n : ℕ). fault_is (n + 1, NotEnded)) (sym z) ∙ ap (λ (t : Bool). fault_is (left.taken + 1, cond t NotEnded BadHead)) (sym ec) ∙ ap fault_is (same_err (left.taken + 1, cond left.cut NotEnded BadHead) x e)
head_by left [] x false ec z e = ap (λ (n : ℕ). fault_is (n + 1, BadHead)) (sym z) ∙ ap (λ (t : Bool). fault_is (left.taken + 1, cond t NotEnded BadHead)) (sym ec) ∙ ap fault_is (same_err (left.taken + 1, cond left.cut NotEnded BadHead) x e)
head_by left (l ∷ ls) x cut ec z e = by_test (bytes_eq l head_line) e
  where
    by_test : (t : Bool) → cond t (given_left (behind left ls)) (err_of (left.taken + 1, BadHead)) ≡ err_of x → or_later (cond t None (Some BadHead)) (0 + 1) (first_fault fault_of cut (l ∷ []) ls) ≡ fault_is x
    by_test true h = absurd cc
    by_test false h = ap (λ (n : ℕ). fault_is (n + 1, BadHead)) (sym z) ∙ ap fault_is (same_err (left.taken + 1, BadHead) x h)

head_fails : (left : Left) (x : Fault) → left.taken ≡ 0 → head_step left ≡ Err x → first [] left ≡ fault_is x
unfolding head_step
head_fails left x z e = head_by left left.lines x left.cut refl z e

head_same : (bytes : List ℕ) → bytes ≡ head_line → head_fault bytes ≡ None
head_same bytes e = ap head_fault e

head_goes_on : (left next : Left) → left.lines ≡ head_line ∷ next.lines → next ≡ behind left next.lines → first [] left ≡ first (head_line ∷ []) next
head_goes_on left next e h =
    ap (first_fault fault_of left.cut []) e ∙ ap (λ (w : Option CertWhy). or_later w (0 + 1) (first_fault fault_of left.cut (head_line ∷ []) next.lines)) (head_same head_line refl)
    ∙ ap (λ (t : Bool). first_fault fault_of t (head_line ∷ []) next.lines) (sym (ap (λ (k : Left). k.cut) h))

pub cert_wholly : (left : Left) → left.taken ≡ 0 → Wholly (first [] left) (cert_at left)
unfolding cert_at
cert_wholly left z =
    wholly_bind (first [] left) (head_step left) (λ head. kind_step head >>= λ kind. step_of kind.0 kind.1 >>= λ cert. behind_end cert.1 >>= λ _. Ok cert.0)
    (λ x e. head_fails left x z e)
    (λ next e.
    let h = head_takes left next e in
    let number = ap (λ (k : Left). k.taken) h.1 in
    wholly_from (first [] left) (first (head_line ∷ []) next) _ (head_goes_on left next h.0 h.1)
    (behind_head next (record { open_yet = refl; some = omega arith; number = omega (arith, number, z) })))
