-- The reader of form 2 names the first fault: what each step gives, against the first fault among the lines that are left.
use Rattle.std.proofs.Common.{◌≡◌, ℕ, ◌+◌, Bool, true, false, not, cond, List, [], ◌∷◌, ◌++◌, length, get_or, Option, Some, None, Ok, Err, refl, sym, ap, subst, ◌∙◌, append_assoc, arith}
use Rattle.std.specs.Prelude.{◌||◌, bytes_eq, codes}
use Rattle.std.specs.List.{filter}
use Rattle.std.proofs.lemmas.List.{append-nil, length_push}
use Rattle.std.proofs.lemmas.List.Elements.{filter-append}
use Rattle.cert_text.specs.declared.fault.CertWhy.{CertWhy}
use Rattle.cert_text.specs.declared.fault.CertWhy.TheVariants.{NotEnded, AfterEnd}
use Rattle.cert_text.specs.declared.read.Kind.{Kind}
use Rattle.cert_text.specs.declared.read.Kind.TheVariants as kinds
use Rattle.cert_text.specs.Spelling.{Word}
use Rattle.cert_text.specs.Faults.{words, is_last, is_ended, reason, place_behind}
use Rattle.cert_text.specs.Reading.{kind_at, ◌>>=◌, Reading, point_at, value_at, piece_at, ray_at, end_at}
use Rattle.cert_text.specs.Steps.{Found, Left, behind, at, first_of, whole_line, line_as, kind_step, last_step, behind_end}
use Rattle.cert_text.proofs.Relations.{numbered, or_later, first_fault}
use Rattle.cert_text.proofs.Stepping.{kind_line, kind_steps, Stepped, kind_stepped, kind_takes}
use Rattle.cert_text.proofs.Forms.{point_takes, value_takes, piece_line_takes, ray_takes}
use Rattle.cert_text.proofs.Judging.{Lines, Fault, first as first_by, fault_is, ended_last, IsOpen, not_ended, open_push, step_fails, step_goes_on, Ends as EndsBy, ends_from, ends_map, line_ends, Wholly, wholly_from, wholly_bind, Closes, behind_tail}
use Rattle.cert_text.proofs.Frames.{point_goes_on, value_goes_on, piece_goes_on, ray_goes_on, end_ends, kind_no_last}
use Rattle.cert2_text.specs.declared.cert2.Cert2.{Cert2}
use Rattle.cert2_text.specs.declared.cert2.Cert2.TheVariants.{Optimal, Infeasible, Unbounded}
use Rattle.cert2_text.specs.declared.cert2.Cert2Line.{Cert2Line}
use Rattle.cert2_text.specs.declared.cert2.Cert2Line.TheVariants as lines
use Rattle.cert2_text.specs.Certs2.{counted}
use Rattle.cert2_text.specs.Spelling2.{line2_words}
use Rattle.cert2_text.specs.Reading2.{line2_at}
use Rattle.cert2_text.specs.Faults2.{is_counted, log2_fault, fault2_at, fault2_of}
use Rattle.cert2_text.specs.Texts2.{begins_two}
use Rattle.cert2_text.specs.Steps2.{entry2_at, or_more2, log2_from, log2_step, optimal2_step, infeasible2_step, unbounded2_step, step2_of, cert2_at}
use Rattle.cert2_text.proofs.Certificates2.{head2_line, Entry, entry_takes, whole_takes, head_is}

abbrev first : Lines → Left → Option Fault
first before left = first_by fault2_of before left

abbrev Ends : {X : Type 0} → Option Fault → Found (X × Left) → Type 0
Ends here r = EndsBy fault2_of here r

abbrev kept : Lines → Lines
kept before = filter is_counted before

closes : Closes fault2_of
closes before l e = ap (λ (t : Bool). cond t (Some AfterEnd) (fault2_at (place_behind (kept before)) l)) e

fault_here : (before : Lines) (l : List ℕ) → is_ended before ≡ false → fault2_of before l ≡ fault2_at (place_behind (kept before)) l
fault_here before l e = ap (λ (t : Bool). cond t (Some AfterEnd) (fault2_at (place_behind (kept before)) l)) e

-- ---- lines that are counted

first_counted : (l : List ℕ) (word : Word) (ws : List Word) (t : Bool) → words l ≡ word ∷ ws → not (bytes_eq word (codes "m") || bytes_eq word (codes "x")) ≡ t → is_counted l ≡ t
first_counted l word ws t e h = ap (λ (vs : List Word). not (bytes_eq (get_or vs 0 []) (codes "m") || bytes_eq (get_or vs 0 []) (codes "x"))) e ∙ h

abbrev one_kept : List ℕ → Bool → Lines
one_kept l t = cond t (l ∷ []) []

one_counted : (x : Cert2Line) (l : List ℕ) → words l ≡ line2_words x → length (kept (l ∷ [])) ≡ counted x
one_counted (lines.Shared mult) l e = ap (λ (t : Bool). length (one_kept l t)) (first_counted l (codes "m") _ false e refl)
one_counted (lines.Ray ng list mult) l e = ap (λ (t : Bool). length (one_kept l t)) (first_counted l (codes "i") _ true e refl)
one_counted (lines.Point ng k list mult) l e = ap (λ (t : Bool). length (one_kept l t)) (first_counted l (codes "p") _ true e refl)
one_counted (lines.Derived ng hints) l e = ap (λ (t : Bool). length (one_kept l t)) (first_counted l (codes "d") _ true e refl)
one_counted (lines.Forget hs) l e = ap (λ (t : Bool). length (one_kept l t)) (first_counted l (codes "x") _ false e refl)

long_append : (xs ys : Lines) → length (xs ++ ys) ≡ length xs + length ys
long_append [] ys = omega arith
long_append (x ∷ xs) ys = omega (arith, long_append xs ys)

counted_more : (x : Cert2Line) (log : Lines) (l : List ℕ) → words l ≡ line2_words x → length (kept (log ++ l ∷ [])) ≡ length (kept log) + counted x
counted_more x log l e =
    ap length (filter-append is_counted log (l ∷ [])) ∙ long_append (kept log) (kept (l ∷ [])) ∙ ap (λ (n : ℕ). length (kept log) + n) (one_counted x l e)

-- every line is counted
abbrev AreKept : Lines → Type 0
AreKept before = kept before ≡ before

kept_push : (before : Lines) (l : List ℕ) → AreKept before → is_counted l ≡ true → AreKept (before ++ l ∷ [])
kept_push before l h e =
    filter-append is_counted before (l ∷ []) ∙ ap (λ (ls : Lines). ls ++ kept (l ∷ [])) h ∙ ap (λ (t : Bool). before ++ one_kept l t) e

fault_there : (before : Lines) (l : List ℕ) → AreKept before → is_ended before ≡ false → fault2_of before l ≡ fault2_at (place_behind before) l
fault_there before l h e = fault_here before l e ∙ ap (λ (ls : Lines). fault2_at (place_behind ls) l) h

-- ---- the lines up to the last one

-- behind the base and any lines comes one more, or the last line
abbrev LogBehind : Lines → Type 0
LogBehind base = (log : Lines) (l : List ℕ) → is_ended (base ++ log) ≡ false → fault2_of (base ++ log) l ≡ log2_fault (length (kept log)) l

log_behind : (base log : Lines) (l : List ℕ) → AreKept base → is_ended (base ++ log) ≡ false → fault2_of (base ++ log) l ≡ fault2_at (place_behind (base ++ kept log)) l
log_behind base log l h e =
    fault_here (base ++ log) l e ∙ ap (λ (ls : Lines). fault2_at (place_behind ls) l) (filter-append is_counted base log ∙ ap (λ (ls : Lines). ls ++ kept log) h)

judged_by : (t : Bool) (last : Reading ℕ) (more : Reading Cert2Line) → cond t (reason last) (reason more) ≡ reason (cond t (last >>= λ k. Ok None) (more >>= λ x. Ok (Some x)))
judged_by true (Ok k) more = refl
judged_by true (Err why) more = refl
judged_by false last (Ok x) = refl
judged_by false last (Err why) = refl

log_judged : (n : ℕ) (l : List ℕ) → log2_fault n l ≡ reason (entry2_at n l)
unfolding entry2_at
log_judged n l = judged_by (is_last l) (end_at n (words l)) (line2_at (words l))

abbrev goes_on : ℕ → Left → Lines → Option Cert2Line → Found (List Cert2Line × Left)
goes_on n left ls entry = or_more2 entry (Ok ([], behind left ls)) (λ x. log2_from (n + counted x) (behind left ls) ls >>= λ log. Ok (x ∷ log.0, log.1))

entry_ends : (base log : Lines) (left : Left) (l : List ℕ) (ls : Lines) (r : Reading (Option Cert2Line)) → IsOpen (base ++ log) left → fault2_of (base ++ log) l ≡ reason r
    → ((o : Option Cert2Line) → r ≡ Ok o → Entry (length (kept log)) l o)
    → (is_last l ≡ false → Ends (first_fault fault2_of left.cut (base ++ (log ++ l ∷ [])) ls) (log2_from (length (kept (log ++ l ∷ []))) (behind left ls) ls))
    → Ends (first_fault fault2_of left.cut (base ++ log) (l ∷ ls)) (at (left.taken + 1) r >>= goes_on (length (kept log)) left ls)
entry_ends base log left l ls (Err why) o judged entry next =
    ap (λ (w : Option CertWhy). or_later w (length (base ++ log) + 1) (first_fault fault2_of left.cut ((base ++ log) ++ l ∷ []) ls)) judged ∙ ap (λ (n : ℕ). fault_is (n + 1, why)) (sym o.number)
entry_ends base log left l ls (Ok None) o judged entry next =
    let last = entry None refl in
    let longer = length_push (base ++ log) l in (
      (base ++ log) ++ l ∷ [],
      ended_last (base ++ log) l last.0,
      omega (arith, o.number, longer),
      ap (λ (w : Option CertWhy). or_later w (length (base ++ log) + 1) (first_fault fault2_of left.cut ((base ++ log) ++ l ∷ []) ls)) judged,
    )
entry_ends base log left l ls (Ok (Some x)) o judged entry next =
    let more = entry (Some x) refl in
    let longer = counted_more x log l more.1 in
    let behind_is : first_fault fault2_of left.cut (base ++ log) (l ∷ ls) ≡ first_fault fault2_of left.cut (base ++ (log ++ l ∷ [])) ls =
    ap (λ (w : Option CertWhy). or_later w (length (base ++ log) + 1) (first_fault fault2_of left.cut ((base ++ log) ++ l ∷ []) ls)) judged
    ∙ ap (λ (b : Lines). first_fault fault2_of left.cut b ls) (append_assoc base log (l ∷ [])) in
    ends_from fault2_of (first_fault fault2_of left.cut (base ++ log) (l ∷ ls)) (first_fault fault2_of left.cut (base ++ (log ++ l ∷ [])) ls) (goes_on (length (kept log)) left ls (Some x)) behind_is
    (ends_map fault2_of (first_fault fault2_of left.cut (base ++ (log ++ l ∷ [])) ls) (λ (xs : List Cert2Line). x ∷ xs) (log2_from (length (kept log) + counted x) (behind left ls) ls)
    (subst (λ (n : ℕ). Ends (first_fault fault2_of left.cut (base ++ (log ++ l ∷ [])) ls) (log2_from n (behind left ls) ls)) longer (next more.0)))

log_ends : (base log : Lines) (left : Left) (ls : Lines) → LogBehind base → IsOpen (base ++ log) left → Ends (first_fault fault2_of left.cut (base ++ log) ls) (log2_from (length (kept log)) left ls)
unfolding log2_from
log_ends base log left [] ready o = ap (numbered (length (base ++ log) + 1)) (not_ended (base ++ log) left.cut o.open_yet o.some) ∙ ap (λ (n : ℕ). fault_is (n + 1, NotEnded)) (sym o.number)
log_ends base log left (l ∷ ls) ready o =
    entry_ends base log left l ls (entry2_at (length (kept log)) l) o (ready log l o.open_yet ∙ log_judged (length (kept log)) l) (λ entry e. entry_takes (length (kept log)) l entry e)
    (λ more. log_ends base (log ++ l ∷ []) (behind left ls) ls ready
    (subst (λ (b : Lines). IsOpen b (behind left ls)) (append_assoc base log (l ∷ [])) (open_push (base ++ log) l left (behind left ls) o more refl)))

log_of_base : (base : Lines) (left : Left) → LogBehind base → IsOpen base left → Ends (first base left) (log2_step 0 left)
unfolding log2_step
log_of_base base left ready o =
    let same : base ++ [] ≡ base = append-nil base in
    subst (λ (b : Lines). Ends (first_fault fault2_of left.cut b left.lines) (log2_from 0 left left.lines)) same (log_ends base [] left left.lines ready (subst (λ (b : Lines). IsOpen b left) (sym same) o))

-- ---- behind the line of the kind

abbrev titles : Kind → Lines
titles kind = head2_line ∷ kind_line kind ∷ []

titles_kept : (kind : Kind) → AreKept (titles kind)
titles_kept kinds.Optimal = refl
titles_kept kinds.Infeasible = refl
titles_kept kinds.Unbounded = refl

optimal_ends : (left : Left) → IsOpen (titles kinds.Optimal) left → Ends (first (titles kinds.Optimal) left) (optimal2_step left)
unfolding optimal2_step
optimal_ends left o =
    let b0 = titles kinds.Optimal in
    let k0 = titles_kept kinds.Optimal in
    line_ends fault2_of point_at b0 left (λ point. line_as value_at point.1 >>= λ z. log2_step 0 z.1 >>= λ log. Ok (Optimal point.0 z.0 log.0, log.1)) o (λ l. refl) (λ a s.
    let b1 = b0 ++ s.line ∷ [] in
    let k1 : AreKept b1 = kept_push b0 s.line k0 (first_counted s.line (codes "point") _ true (point_takes (words s.line) a.0 s.read).0 refl) in
    let o1 = open_push b0 s.line left a.1 o (point_goes_on s.line a.0 s.read) s.next_is in
    line_ends fault2_of value_at b1 a.1 (λ z. log2_step 0 z.1 >>= λ log. Ok (Optimal a.0 z.0 log.0, log.1)) o1 (λ l. fault_there b1 l k1 o1.open_yet) (λ z sz.
    let b2 = b1 ++ sz.line ∷ [] in
    let k2 : AreKept b2 = kept_push b1 sz.line k1 (first_counted sz.line (codes "value") _ true (value_takes (words sz.line) z.0 sz.read).0 refl) in
    let o2 = open_push b1 sz.line a.1 z.1 o1 (value_goes_on sz.line z.0 sz.read) sz.next_is in
    ends_map fault2_of (first b2 z.1) (λ (xs : List Cert2Line). Optimal a.0 z.0 xs) (log2_step 0 z.1) (log_of_base b2 z.1 (λ log l e. log_behind b2 log l k2 e) o2)))

infeasible_ends : (left : Left) → IsOpen (titles kinds.Infeasible) left → Ends (first (titles kinds.Infeasible) left) (infeasible2_step left)
unfolding infeasible2_step
infeasible_ends left o =
    let b0 = titles kinds.Infeasible in
    ends_map fault2_of (first b0 left) (λ (xs : List Cert2Line). Infeasible xs) (log2_step 0 left) (log_of_base b0 left (λ log l e. log_behind b0 log l (titles_kept kinds.Infeasible) e) o)

-- behind the last line
ends_here : (c : Cert2) (before : Lines) (left : Left) (n : ℕ) (next : Left) → IsOpen before left → (s : Stepped (λ l. end_at 0 (words l)) left n next) → Ends (first (before ++ s.line ∷ []) next) (Ok (c, next))
ends_here c before left n next o s =
    let longer = length_push before s.line in
    let number = ap (λ (k : Left). k.taken) s.next_is in
    (before ++ s.line ∷ [], ended_last before s.line (end_ends 0 s.line n s.read), omega (arith, number, o.number, longer), refl)

unbounded_ends : (left : Left) → IsOpen (titles kinds.Unbounded) left → Ends (first (titles kinds.Unbounded) left) (unbounded2_step left)
unfolding unbounded2_step last_step
unbounded_ends left o =
    let b0 = titles kinds.Unbounded in
    let k0 = titles_kept kinds.Unbounded in
    line_ends fault2_of piece_at b0 left (λ piece. line_as point_at piece.1 >>= λ point. line_as ray_at point.1 >>= λ ray. line_as (end_at 0) ray.1 >>= λ last. Ok (Unbounded piece.0 point.0 ray.0, last.1)) o (λ l. refl) (λ a s.
    let b1 = b0 ++ s.line ∷ [] in
    let k1 : AreKept b1 = kept_push b0 s.line k0 (first_counted s.line (codes "piece") _ true (piece_line_takes (words s.line) a.0 s.read).0 refl) in
    let o1 = open_push b0 s.line left a.1 o (piece_goes_on s.line a.0 s.read) s.next_is in
    line_ends fault2_of point_at b1 a.1 (λ point. line_as ray_at point.1 >>= λ ray. line_as (end_at 0) ray.1 >>= λ last. Ok (Unbounded a.0 point.0 ray.0, last.1)) o1 (λ l. fault_there b1 l k1 o1.open_yet) (λ p sp.
    let b2 = b1 ++ sp.line ∷ [] in
    let k2 : AreKept b2 = kept_push b1 sp.line k1 (first_counted sp.line (codes "point") _ true (point_takes (words sp.line) p.0 sp.read).0 refl) in
    let o2 = open_push b1 sp.line a.1 p.1 o1 (point_goes_on sp.line p.0 sp.read) sp.next_is in
    line_ends fault2_of ray_at b2 p.1 (λ ray. line_as (end_at 0) ray.1 >>= λ last. Ok (Unbounded a.0 p.0 ray.0, last.1)) o2 (λ l. fault_there b2 l k2 o2.open_yet) (λ r sr.
    let b3 = b2 ++ sr.line ∷ [] in
    let k3 : AreKept b3 = kept_push b2 sr.line k2 (first_counted sr.line (codes "ray") _ true (ray_takes (words sr.line) r.0 sr.read).0 refl) in
    let o3 = open_push b2 sr.line p.1 r.1 o2 (ray_goes_on sr.line r.0 sr.read) sr.next_is in
    line_ends fault2_of (end_at 0) b3 r.1 (λ last. Ok (Unbounded a.0 p.0 r.0, last.1)) o3 (λ l. fault_there b3 l k3 o3.open_yet) (λ k sk. ends_here (Unbounded a.0 p.0 r.0) b3 r.1 k.0 k.1 o3 sk))))

tail_ends : (kind : Kind) (left : Left) → IsOpen (titles kind) left → Ends (first (titles kind) left) (step2_of kind left)
tail_ends kinds.Optimal left o = optimal_ends left o
tail_ends kinds.Infeasible left o = infeasible_ends left o
tail_ends kinds.Unbounded left o = unbounded_ends left o

-- ---- the whole

kind_judged : (l : List ℕ) → fault2_of (head2_line ∷ []) l ≡ reason (kind_at l)
kind_judged l = refl

behind_head : (left : Left) → IsOpen (head2_line ∷ []) left → Wholly (first (head2_line ∷ []) left) (kind_step left >>= λ kind. step2_of kind.0 kind.1 >>= λ cert. behind_end cert.1 >>= λ _. Ok cert.0)
behind_head left o =
    let b = head2_line ∷ [] in
    wholly_bind (first b left) (kind_step left) (λ kind. step2_of kind.0 kind.1 >>= λ cert. behind_end cert.1 >>= λ _. Ok cert.0)
    (λ x e. step_fails fault2_of kind_at b left x o kind_judged (sym (kind_steps left) ∙ e))
    (λ k e.
    let s = kind_stepped left k e in
    let line : s.line ≡ kind_line k.0 = kind_takes s.line k.0 s.read in
    let o1 = open_push b s.line left k.1 o (ap is_last line ∙ kind_no_last k.0) s.next_is in
    let titled : b ++ s.line ∷ [] ≡ titles k.0 = ap (λ (l : List ℕ). b ++ l ∷ []) line in
    wholly_from (first b left) (first (titles k.0) k.1) _ (step_goes_on fault2_of kind_at b left k.0 k.1 kind_judged s ∙ ap (λ (t : Lines). first t k.1) titled)
    (behind_tail fault2_of closes (first (titles k.0) k.1) (step2_of k.0 k.1) (tail_ends k.0 k.1 (subst (λ (t : Lines). IsOpen t k.1) titled o1))))

no_whole : (left : Left) (x : Fault) → begins_two left.lines ≡ true → whole_line left ≡ Err x → ⊥
unfolding whole_line
no_whole left x t e = by_lines left.lines t e
  where
    by_lines : (ls : Lines) → begins_two ls ≡ true → first_of left ls ≡ Err x → ⊥
    by_lines [] t e = absurd cc
    by_lines (l ∷ ls) t e = absurd cc

head_good : (l : List ℕ) → l ≡ head2_line → fault2_of [] l ≡ None
head_good l e = ap (fault2_of []) e

head_goes_on : (left next : Left) (l : List ℕ) → l ≡ head2_line → left.lines ≡ l ∷ next.lines → next ≡ behind left next.lines → first [] left ≡ first (head2_line ∷ []) next
head_goes_on left next l two e h =
    ap (first_fault fault2_of left.cut []) e ∙ ap (λ (w : Option CertWhy). or_later w (0 + 1) (first_fault fault2_of left.cut (l ∷ []) next.lines)) (head_good l two)
    ∙ ap (λ (k : List ℕ). first_fault fault2_of left.cut (k ∷ []) next.lines) two
    ∙ ap (λ (t : Bool). first_fault fault2_of t (head2_line ∷ []) next.lines) (sym (ap (λ (k : Left). k.cut) h))

pub cert2_wholly : (left : Left) → left.taken ≡ 0 → begins_two left.lines ≡ true → Wholly (first [] left) (cert2_at left)
unfolding cert2_at
cert2_wholly left z two =
    wholly_bind (first [] left) (whole_line left) (λ head. kind_step head.1 >>= λ kind. step2_of kind.0 kind.1 >>= λ cert. behind_end cert.1 >>= λ _. Ok cert.0)
    (λ x e. absurd (no_whole left x two e))
    (λ y e.
    let h = whole_takes left y e in
    let number = ap (λ (k : Left). k.taken) h.1 in
    let is_head = head_is left.lines y.1.lines y.0 two h.0 in
    wholly_from (first [] left) (first (head2_line ∷ []) y.1) _ (head_goes_on left y.1 y.0 is_head h.0 h.1)
    (behind_head y.1 (record { open_yet = refl; some = omega arith; number = omega (arith, number, z) })))
