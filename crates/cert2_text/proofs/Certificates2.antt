-- Whole certificates of form 2: what is read is spelled so, and what is spelled is read.
use Rattle.std.proofs.Common.{◌≡◌, ℕ, ◌+◌, ◌^◌, ◌<◌, Bool, true, false, cond, List, [], ◌∷◌, ◌++◌, map, get_or, Option, Some, None, Ok, refl, sym, ap, subst, ◌∙◌, inl, inr, arith, ℤ}
use Rattle.std.specs.Prelude.{All, codes}
use Rattle.std.specs.Fmt.{decimal}
use Rattle.std.proofs.lemmas.List.{append-nil}
use Rattle.std.proofs.lemmas.List.Elements.{All-nil, All-cons, All-head, All-tail, All-map}
use Rattle.std.proofs.lemmas.Slice.Eq.{bytes_eq-Decides}
use Rattle.nogoods.specs.declared.choice.Choice.{Choice}
use Rattle.cert_text.specs.declared.cert.CertPoint.{CertPoint}
use Rattle.cert_text.specs.declared.read.Kind.{Kind}
use Rattle.cert_text.specs.declared.read.Kind.TheVariants as kinds
use Rattle.cert_text.specs.Spelling.{Word, point_words, value_words, piece_words, ray_words, line_bytes}
use Rattle.cert_text.specs.Splits.{split}
use Rattle.cert_text.specs.Lines.{is_comment, lines_among, tail_among, is_content, is_cut}
use Rattle.cert_text.specs.Faults.{words, is_last}
use Rattle.cert_text.specs.Reading.{kind_at, ◌>>=◌, Reading, point_at, value_at, piece_at, ray_at, end_at}
use Rattle.cert_text.specs.Steps.{Found, Left, all_lines, behind, at, first_of, whole_line, line_as, kind_step, last_step, behind_end}
use Rattle.cert_text.proofs.Results.{same_ok, bind_ok, either}
use Rattle.cert_text.proofs.Joined.{IsInLine, line_in_line, lines_joined, words_joined}
use Rattle.cert_text.proofs.Forms.{point_takes, point_again, value_takes, value_again, piece_line_takes, piece_line_again, ray_takes, ray_again, end_takes, end_again}
use Rattle.cert_text.proofs.Plain.{plain_end, plain_point, plain_value, plain_piece, plain_ray}
use Rattle.cert_text.proofs.Stepping.{kind_line, kind_steps, line_stepped, kind_stepped, line_of_words, last_by, kind_takes, over_takes, left_of, step_again, line_as_again}
use Rattle.cert_text.proofs.Certificates.{at_ok, spelled_line, kind_again, among}
use Rattle.cert2_text.specs.declared.cert2.Cert2.{Cert2}
use Rattle.cert2_text.specs.declared.cert2.Cert2.TheVariants.{Optimal, Infeasible, Unbounded}
use Rattle.cert2_text.specs.declared.cert2.Cert2Line.{Cert2Line}
use Rattle.cert2_text.specs.declared.cert2.Cert2Line.TheVariants as lines
use Rattle.cert2_text.specs.Certs2.{IsLine2, KeepsForm2, lines2_of, counted, count_of}
use Rattle.cert2_text.specs.Spelling2.{line2_words, end2_words, log2_words, cert2_words, cert2_lines, spelling2}
use Rattle.cert2_text.specs.Reading2.{line2_at}
use Rattle.cert2_text.specs.Steps2.{entry2_at, or_more2, log2_from, log2_step, optimal2_step, infeasible2_step, unbounded2_step, step2_of, cert2_at}
use Rattle.cert2_text.specs.Texts2.{Spells2, begins_two, is_two}
use Rattle.cert2_text.proofs.Forms2.{line2_takes, line2_again}
use Rattle.cert2_text.proofs.Plain2.{plain_line2, good_cert2}

abbrev pub head2_line : List ℕ
head2_line = codes "lpcc-certificate 2"

-- ---- the lines up to the last one

abbrev line_text : Cert2Line → List ℕ
line_text x = line_bytes (line2_words x)

abbrev end_text : ℕ → List ℕ
end_text n = line_bytes (codes "end" ∷ decimal n ∷ [])

abbrev pub Entry : ℕ → List ℕ → Option Cert2Line → Type 0
Entry n l None = (is_last l ≡ true) × (words l ≡ codes "end" ∷ decimal n ∷ []) × (n < 2 ^ 64)
Entry n l (Some x) = (is_last l ≡ false) × (words l ≡ line2_words x) × IsLine2 x

pub entry_takes : (n : ℕ) (l : List ℕ) (o : Option Cert2Line) → entry2_at n l ≡ Ok o → Entry n l o
unfolding entry2_at
entry_takes n l o e = elim (either (is_last l) (end_at n (words l) >>= λ k. Ok None) (line2_at (words l) >>= λ x. Ok (Some x)) (Ok o) e) [
  | inl last ↦
      let a = bind_ok (end_at n (words l)) (λ k. Ok None) o last.1 in
      let t = end_takes n (words l) a.0 a.1 in
      subst (Entry n l) {x = None} (same_ok None o a.2) (last.0, t.0, t.1)
  | inr more ↦
      let a = bind_ok (line2_at (words l)) (λ x. Ok (Some x)) o more.1 in
      let t = line2_takes (words l) a.0 a.1 in
      subst (Entry n l) {x = Some a.0} (same_ok (Some a.0) o a.2) (more.0, t.0, t.1)
]

-- behind n no-good lines stand these, the last line, and what is left
record LogIs (n : ℕ) (cut : Bool) (ls : List (List ℕ)) (xs : List Cert2Line) (next : Left) : Type 0 where
  lines : ls ≡ map line_text xs ++ end_text (n + count_of xs) ∷ next.lines
  form : All IsLine2 xs
  few : n + count_of xs < 2 ^ 64
  cut_is : next.cut ≡ cut

abbrev LogOf : ℕ → Bool → List (List ℕ) → List Cert2Line × Left → Type 0
LogOf n cut ls y = LogIs n cut ls y.0 y.1

abbrev goes_on : ℕ → Left → List (List ℕ) → Option Cert2Line → Found (List Cert2Line × Left)
goes_on n left ls entry = or_more2 entry (Ok ([], behind left ls)) (λ x. log2_from (n + counted x) (behind left ls) ls >>= λ log. Ok (x ∷ log.0, log.1))

log_more : (n : ℕ) (left : Left) (l : List ℕ) (ls : List (List ℕ)) (o : Option Cert2Line) (y : List Cert2Line × Left) → Entry n l o
    → ((m : ℕ) (z : List Cert2Line × Left) → log2_from m (behind left ls) ls ≡ Ok z → LogOf m left.cut ls z) → goes_on n left ls o ≡ Ok y → LogOf n left.cut (l ∷ ls) y
log_more n left l ls None y h next e =
    let made : List Cert2Line × Left = ([], behind left ls) in
    let same : n + 0 ≡ n = omega arith in
    subst (LogOf n left.cut (l ∷ ls)) {x = made} (same_ok made y e) (record {
      lines = ap (λ (x : List ℕ). x ∷ ls) (line_of_words l (codes "end" ∷ decimal n ∷ []) h.1 ∙ ap end_text (sym same));
      form = All-nil IsLine2;
      few = omega (arith, h.2);
      cut_is = refl;
    })
log_more n left l ls (Some x) y h next e =
    let log = bind_ok (log2_from (n + counted x) (behind left ls) ls) (λ log. Ok (x ∷ log.0, log.1)) y e in
    let made : List Cert2Line × Left = (x ∷ log.0.0, log.0.1) in
    let t = next (n + counted x) log.0 log.1 in
    let same : n + counted x + count_of log.0.0 ≡ n + (counted x + count_of log.0.0) = omega arith in
    subst (LogOf n left.cut (l ∷ ls)) {x = made} (same_ok made y log.2) (record {
      lines = ap (λ (k : List ℕ). k ∷ ls) (line_of_words l (line2_words x) h.1) ∙ ap (λ (ks : List (List ℕ)). line_text x ∷ ks) (t.lines ∙ ap (λ (m : ℕ). map line_text log.0.0 ++ end_text m ∷ log.0.1.lines) same);
      form = All-cons IsLine2 x log.0.0 h.2 t.form;
      few = omega (arith, t.few, same);
      cut_is = t.cut_is;
    })

log_takes : (n : ℕ) (left : Left) (ls : List (List ℕ)) (y : List Cert2Line × Left) → log2_from n left ls ≡ Ok y → LogOf n left.cut ls y
unfolding log2_from
log_takes n left [] y e = absurd cc
log_takes n left (l ∷ ls) y e =
    let a = bind_ok (at (left.taken + 1) (entry2_at n l)) (goes_on n left ls) y e in
    log_more n left l ls a.0 y (entry_takes n l a.0 (at_ok (left.taken + 1) (entry2_at n l) a.0 a.1)) (λ m z. log_takes m (behind left ls) ls z) a.2

abbrev log_lines : List Cert2Line → List (List ℕ)
log_lines xs = map line_bytes (log2_words xs)

log_spelled : (xs : List Cert2Line) (rest : List (List ℕ)) → map line_text xs ++ end_text (count_of xs) ∷ rest ≡ log_lines xs ++ rest
log_spelled xs rest = spelled xs (end2_words xs)
  where
    spelled : (ys : List Cert2Line) (last : List Word) → map line_text ys ++ line_bytes last ∷ rest ≡ map line_bytes (map line2_words ys ++ last ∷ []) ++ rest
    spelled [] last = refl
    spelled (y ∷ ys) last = ap (λ (ks : List (List ℕ)). line_text y ∷ ks) (spelled ys last)

-- the lines of the log, and what is left behind them
record LogTaken (left : Left) (xs : List Cert2Line) (next : Left) : Type 0 where
  lines : left.lines ≡ log_lines xs ++ next.lines
  form : All IsLine2 xs
  few : count_of xs < 2 ^ 64
  cut_is : next.cut ≡ left.cut

log_taken : (left : Left) (y : List Cert2Line × Left) → log2_step 0 left ≡ Ok y → LogTaken left y.0 y.1
unfolding log2_step
log_taken left y e =
    let t = log_takes 0 left left.lines y e in
    let same : 0 + count_of y.0 ≡ count_of y.0 = omega arith in
    record {
      lines = t.lines ∙ ap (λ (m : ℕ). map line_text y.0 ++ end_text m ∷ y.1.lines) same ∙ log_spelled y.0 y.1.lines;
      form = t.form;
      few = omega (arith, t.few, same);
      cut_is = t.cut_is;
    }

-- ---- what is read is spelled so

-- behind the line of the kind stand the further lines of the certificate, and what is left
record TailIs (kind : Kind) (left : Left) (c : Cert2) (next : Left) : Type 0 where
  lines : head2_line ∷ kind_line kind ∷ left.lines ≡ cert2_lines c ++ next.lines
  form : KeepsForm2 c
  few : count_of (lines2_of c) < 2 ^ 64
  cut_is : next.cut ≡ left.cut

abbrev TailOf : Kind → Left → Cert2 × Left → Type 0
TailOf kind left y = TailIs kind left y.0 y.1

abbrev titled : Kind → List (List ℕ) → List (List ℕ)
titled kind ls = head2_line ∷ kind_line kind ∷ ls

optimal_takes : (left : Left) (y : Cert2 × Left) → optimal2_step left ≡ Ok y → TailOf kinds.Optimal left y
unfolding optimal2_step
optimal_takes left y e =
    let a = bind_ok (line_as point_at left) (λ point. line_as value_at point.1 >>= λ z. log2_step 0 z.1 >>= λ log. Ok (Optimal point.0 z.0 log.0, log.1)) y e in
    let b = bind_ok (line_as value_at a.0.1) (λ z. log2_step 0 z.1 >>= λ log. Ok (Optimal a.0.0 z.0 log.0, log.1)) y a.2 in
    let d = bind_ok (log2_step 0 b.0.1) (λ log. Ok (Optimal a.0.0 b.0.0 log.0, log.1)) y b.2 in
    let p = line_stepped point_at left a.0 a.1 in
    let z = line_stepped value_at a.0.1 b.0 b.1 in
    let pt = point_takes (words p.line) a.0.0 p.read in
    let zt = value_takes (words z.line) b.0.0 z.read in
    let pl = spelled_line point_at left a.0.0 a.0.1 (point_words a.0.0) p pt.0 in
    let zl = spelled_line value_at a.0.1 b.0.0 b.0.1 (value_words b.0.0) z zt.0 in
    let t = log_taken b.0.1 d.0 d.1 in
    let made : Cert2 × Left = (Optimal a.0.0 b.0.0 d.0.0, d.0.1) in
    subst (TailOf kinds.Optimal left) {x = made} (same_ok made y d.2) (record {
      lines = ap (titled kinds.Optimal) (pl.0 ∙ ap (λ (ls : List (List ℕ)). line_bytes (point_words a.0.0) ∷ ls) (zl.0 ∙ ap (λ (ls : List (List ℕ)). line_bytes (value_words b.0.0) ∷ ls) t.lines));
      form = (pt.1, zt.1, t.form);
      few = t.few;
      cut_is = t.cut_is ∙ zl.1 ∙ pl.1;
    })

infeasible_takes : (left : Left) (y : Cert2 × Left) → infeasible2_step left ≡ Ok y → TailOf kinds.Infeasible left y
unfolding infeasible2_step
infeasible_takes left y e =
    let d = bind_ok (log2_step 0 left) (λ log. Ok (Infeasible log.0, log.1)) y e in
    let t = log_taken left d.0 d.1 in
    let made : Cert2 × Left = (Infeasible d.0.0, d.0.1) in
    subst (TailOf kinds.Infeasible left) {x = made} (same_ok made y d.2) (record { lines = ap (titled kinds.Infeasible) t.lines; form = t.form; few = t.few; cut_is = t.cut_is })

unbounded_takes : (left : Left) (y : Cert2 × Left) → unbounded2_step left ≡ Ok y → TailOf kinds.Unbounded left y
unfolding unbounded2_step last_step
unbounded_takes left y e =
    let a = bind_ok (line_as piece_at left) (λ piece. line_as point_at piece.1 >>= λ point. line_as ray_at point.1 >>= λ ray. line_as (end_at 0) ray.1 >>= λ last. Ok (Unbounded piece.0 point.0 ray.0, last.1)) y e in
    let b = bind_ok (line_as point_at a.0.1) (λ point. line_as ray_at point.1 >>= λ ray. line_as (end_at 0) ray.1 >>= λ last. Ok (Unbounded a.0.0 point.0 ray.0, last.1)) y a.2 in
    let r = bind_ok (line_as ray_at b.0.1) (λ ray. line_as (end_at 0) ray.1 >>= λ last. Ok (Unbounded a.0.0 b.0.0 ray.0, last.1)) y b.2 in
    let d = bind_ok (line_as (end_at 0) r.0.1) (λ last. Ok (Unbounded a.0.0 b.0.0 r.0.0, last.1)) y r.2 in
    let c = line_stepped piece_at left a.0 a.1 in
    let p = line_stepped point_at a.0.1 b.0 b.1 in
    let q = line_stepped ray_at b.0.1 r.0 r.1 in
    let k = line_stepped (end_at 0) r.0.1 d.0 d.1 in
    let ct = piece_line_takes (words c.line) a.0.0 c.read in
    let pt = point_takes (words p.line) b.0.0 p.read in
    let qt = ray_takes (words q.line) r.0.0 q.read in
    let kt = end_takes 0 (words k.line) d.0.0 k.read in
    let cl = spelled_line piece_at left a.0.0 a.0.1 (piece_words a.0.0) c ct.0 in
    let pl = spelled_line point_at a.0.1 b.0.0 b.0.1 (point_words b.0.0) p pt.0 in
    let ql = spelled_line ray_at b.0.1 r.0.0 r.0.1 (ray_words r.0.0) q qt.0 in
    let kl = spelled_line (end_at 0) r.0.1 d.0.0 d.0.1 (end2_words []) k kt.0 in
    let made : Cert2 × Left = (Unbounded a.0.0 b.0.0 r.0.0, d.0.1) in
    subst (TailOf kinds.Unbounded left) {x = made} (same_ok made y d.2) (record {
      lines = ap (titled kinds.Unbounded) (cl.0 ∙ ap (λ (ls : List (List ℕ)). line_bytes (piece_words a.0.0) ∷ ls)
          (pl.0 ∙ ap (λ (ls : List (List ℕ)). line_bytes (point_words b.0.0) ∷ ls) (ql.0 ∙ ap (λ (ls : List (List ℕ)). line_bytes (ray_words r.0.0) ∷ ls) kl.0)));
      form = (ct.1, pt.1, qt.1);
      few = kt.1;
      cut_is = kl.1 ∙ ql.1 ∙ pl.1 ∙ cl.1;
    })

tail_takes : (kind : Kind) (left : Left) (y : Cert2 × Left) → step2_of kind left ≡ Ok y → TailOf kind left y
tail_takes kinds.Optimal left y e = optimal_takes left y e
tail_takes kinds.Infeasible left y e = infeasible_takes left y e
tail_takes kinds.Unbounded left y e = unbounded_takes left y e

record CertIs (left : Left) (c : Cert2) : Type 0 where
  lines : left.lines ≡ cert2_lines c
  form : KeepsForm2 c
  few : count_of (lines2_of c) < 2 ^ 64
  whole : left.cut ≡ false

pub whole_takes : (left : Left) (y : List ℕ × Left) → whole_line left ≡ Ok y → (left.lines ≡ y.0 ∷ y.1.lines) × (y.1 ≡ behind left y.1.lines)
unfolding whole_line
whole_takes left y e = by_lines left.lines e
  where
    by_lines : (ls : List (List ℕ)) → first_of left ls ≡ Ok y → (ls ≡ y.0 ∷ y.1.lines) × (y.1 ≡ behind left y.1.lines)
    by_lines [] h = absurd cc
    by_lines (l ∷ ls) h =
        let made : List ℕ × Left = (l, behind left ls) in
        subst (λ (z : List ℕ × Left). (l ∷ ls ≡ z.0 ∷ z.1.lines) × (z.1 ≡ behind left z.1.lines)) {x = made} (same_ok made y h) (refl, refl)

pub head_is : (ls rest : List (List ℕ)) (l : List ℕ) → begins_two ls ≡ true → ls ≡ l ∷ rest → l ≡ head2_line
head_is ls rest l t e = (bytes_eq-Decides l head2_line).0 (sym (ap begins_two e) ∙ t)

cert_takes : (left : Left) (c : Cert2) → begins_two left.lines ≡ true → cert2_at left ≡ Ok c → CertIs left c
unfolding cert2_at
cert_takes left c two e =
    let h = bind_ok (whole_line left) (λ head. kind_step head.1 >>= λ kind. step2_of kind.0 kind.1 >>= λ cert. behind_end cert.1 >>= λ _. Ok cert.0) c e in
    let k = bind_ok (kind_step h.0.1) (λ kind. step2_of kind.0 kind.1 >>= λ cert. behind_end cert.1 >>= λ _. Ok cert.0) c h.2 in
    let t = bind_ok (step2_of k.0.0 k.0.1) (λ cert. behind_end cert.1 >>= λ _. Ok cert.0) c k.2 in
    let o = bind_ok (behind_end t.0.1) (λ _. Ok t.0.0) c t.2 in
    let head = whole_takes left h.0 h.1 in
    let first = head_is left.lines h.0.1.lines h.0.0 two head.0 in
    let kind = kind_stepped h.0.1 k.0 k.1 in
    let tail = tail_takes k.0.0 k.0.1 t.0 t.1 in
    let over = over_takes t.0.1 o.0 o.1 in
    subst (CertIs left) {x = t.0.0} (same_ok t.0.0 c o.2) (record {
      lines = head.0 ∙ ap (λ (l : List ℕ). l ∷ h.0.1.lines) first ∙ ap (λ (ls : List (List ℕ)). head2_line ∷ ls) (kind.lines ∙ ap (λ (l : List ℕ). l ∷ k.0.1.lines) (kind_takes kind.line k.0.0 kind.read)) ∙ tail.lines
          ∙ ap (λ (ls : List (List ℕ)). cert2_lines t.0.0 ++ ls) over.0 ∙ append-nil (cert2_lines t.0.0);
      form = tail.form;
      few = tail.few;
      whole = sym (ap (λ (r : Left). r.cut) head.1) ∙ sym (ap (λ (r : Left). r.cut) kind.next_is) ∙ sym tail.cut_is ∙ over.1;
    })

pub read_is_spelled : (text : List ℕ) (c : Cert2) → is_two text ≡ true → cert2_at (all_lines text) ≡ Ok c → Spells2 text c
read_is_spelled text c two e = let t = cert_takes (all_lines text) c two e in record { form = t.form; few = t.few; lines = t.lines; whole = t.whole }

-- ---- what is spelled is read

is_end : (n : ℕ) → is_last (end_text n) ≡ true
is_end n = last_by (end_text n) (codes "end") (decimal n ∷ []) true (words_joined (codes "end") (decimal n ∷ []) (plain_end n)) refl

line_again_words : (x : Cert2Line) → words (line_text x) ≡ line2_words x
line_again_words (lines.Shared mult) = words_joined _ _ (plain_line2 (lines.Shared mult))
line_again_words (lines.Ray ng list mult) = words_joined _ _ (plain_line2 (lines.Ray ng list mult))
line_again_words (lines.Point ng e list mult) = words_joined _ _ (plain_line2 (lines.Point ng e list mult))
line_again_words (lines.Derived ng hints) = words_joined _ _ (plain_line2 (lines.Derived ng hints))
line_again_words (lines.Forget hs) = words_joined _ _ (plain_line2 (lines.Forget hs))

no_end : (x : Cert2Line) → words (line_text x) ≡ line2_words x → is_last (line_text x) ≡ false
no_end (lines.Shared mult) e = last_by (line_text (lines.Shared mult)) (codes "m") _ false e refl
no_end (lines.Ray ng list mult) e = last_by (line_text (lines.Ray ng list mult)) (codes "i") _ false e refl
no_end (lines.Point ng k list mult) e = last_by (line_text (lines.Point ng k list mult)) (codes "p") _ false e refl
no_end (lines.Derived ng hints) e = last_by (line_text (lines.Derived ng hints)) (codes "d") _ false e refl
no_end (lines.Forget hs) e = last_by (line_text (lines.Forget hs)) (codes "x") _ false e refl

entry_ends : (n : ℕ) → n < 2 ^ 64 → entry2_at n (end_text n) ≡ Ok None
unfolding entry2_at
entry_ends n small =
    ap (λ (t : Bool). cond t (end_at n (words (end_text n)) >>= λ k. Ok None) (line2_at (words (end_text n)) >>= λ x. Ok (Some x))) (is_end n)
    ∙ ap (λ (r : Reading ℕ). r >>= λ k. Ok None) (ap (end_at n) (words_joined (codes "end") (decimal n ∷ []) (plain_end n)) ∙ end_again n small)

entry_again : (n : ℕ) (x : Cert2Line) → IsLine2 x → entry2_at n (line_text x) ≡ Ok (Some x)
unfolding entry2_at
entry_again n x h =
    let w = line_again_words x in
    ap (λ (t : Bool). cond t (end_at n (words (line_text x)) >>= λ k. Ok None) (line2_at (words (line_text x)) >>= λ y. Ok (Some y))) (no_end x w)
    ∙ ap (λ (r : Reading Cert2Line). r >>= λ y. Ok (Some y)) (ap line2_at w ∙ line2_again x h)

log_again : (n m t : ℕ) (xs : List Cert2Line) (ls all : List (List ℕ)) → All IsLine2 xs → n + count_of xs ≡ m → m < 2 ^ 64
    → (u : ℕ) × (log2_from n (left_of t all) (map line_text xs ++ end_text m ∷ ls) ≡ Ok (xs, left_of u ls))
unfolding log2_from
log_again n m t [] ls all h e small =
    let same : n ≡ m = omega (arith, e) in
    (t + 1, ap (λ (r : Reading (Option Cert2Line)). at (t + 1) r >>= goes_on n (left_of t all) ls) (ap (entry2_at n) (ap end_text (sym same)) ∙ entry_ends n (omega (arith, small, same))))
log_again n m t (x ∷ xs) ls all h e small =
    let rest = map line_text xs ++ end_text m ∷ ls in
    let same : n + counted x + count_of xs ≡ n + (counted x + count_of xs) = omega arith in
    let next = log_again (n + counted x) m (t + 1) xs ls rest (All-tail IsLine2 x xs h) (same ∙ e) small in (
      next.0,
      ap (λ (r : Reading (Option Cert2Line)). at (t + 1) r >>= goes_on n (left_of t all) rest) (entry_again n x (All-head IsLine2 x xs h))
          ∙ ap (λ (r : Found (List Cert2Line × Left)). r >>= λ log. Ok (x ∷ log.0, log.1)) next.1,
    )

log_read : (t : ℕ) (xs : List Cert2Line) → All IsLine2 xs → count_of xs < 2 ^ 64 → (u : ℕ) × (log2_step 0 (left_of t (log_lines xs)) ≡ Ok (xs, left_of u []))
unfolding log2_step
log_read t xs h small =
    let all = log_lines xs in
    let a = log_again 0 (count_of xs) t xs [] all h (omega arith) small in
    (a.0, ap (log2_from 0 (left_of t all)) (sym (append-nil all) ∙ sym (log_spelled xs [])) ∙ a.1)

tail_lines : Cert2 → List (List ℕ)
tail_lines (Optimal p z xs) = line_bytes (point_words p) ∷ line_bytes (value_words z) ∷ log_lines xs
tail_lines (Infeasible xs) = log_lines xs
tail_lines (Unbounded ng p ray) = line_bytes (piece_words ng) ∷ line_bytes (point_words p) ∷ line_bytes (ray_words ray) ∷ end_text 0 ∷ []

kind_of : Cert2 → Kind
kind_of (Optimal p z xs) = kinds.Optimal
kind_of (Infeasible xs) = kinds.Infeasible
kind_of (Unbounded ng p ray) = kinds.Unbounded

tail_again : (t : ℕ) (c : Cert2) → KeepsForm2 c → count_of (lines2_of c) < 2 ^ 64 → (u : ℕ) × (step2_of (kind_of c) (left_of t (tail_lines c)) ≡ Ok (c, left_of u []))
unfolding optimal2_step infeasible2_step unbounded2_step last_step kind_of tail_lines
tail_again t (Optimal p z xs) h few =
    let log = log_read (t + 1 + 1) xs h.2 few in (
      log.0,
      ap (λ (r : Found (CertPoint × Left)). r >>= λ point. line_as value_at point.1 >>= λ y. log2_step 0 y.1 >>= λ k. Ok (Optimal point.0 y.0 k.0, k.1))
          (line_as_again point_at t _ _ (line_bytes (value_words z) ∷ log_lines xs) p (plain_point p) (point_again p h.0))
          ∙ ap (λ (r : Found (ℤ × Left)). r >>= λ y. log2_step 0 y.1 >>= λ k. Ok (Optimal p y.0 k.0, k.1)) (line_as_again value_at (t + 1) _ _ (log_lines xs) z (plain_value z) (value_again z h.1))
          ∙ ap (λ (r : Found (List Cert2Line × Left)). r >>= λ k. Ok (Optimal p z k.0, k.1)) log.1,
    )
tail_again t (Infeasible xs) h few =
    let log = log_read t xs h few in
    (log.0, ap (λ (r : Found (List Cert2Line × Left)). r >>= λ k. Ok (Infeasible k.0, k.1)) log.1)
tail_again t (Unbounded ng p ray) h few = (
  t + 1 + 1 + 1 + 1,
  ap (λ (r : Found (List Choice × Left)). r >>= λ piece. line_as point_at piece.1 >>= λ point. line_as ray_at point.1 >>= λ q. line_as (end_at 0) q.1 >>= λ last. Ok (Unbounded piece.0 point.0 q.0, last.1))
      (line_as_again piece_at t _ _ (line_bytes (point_words p) ∷ line_bytes (ray_words ray) ∷ end_text 0 ∷ []) ng (plain_piece ng) (piece_line_again ng h.0))
      ∙ ap (λ (r : Found (CertPoint × Left)). r >>= λ point. line_as ray_at point.1 >>= λ q. line_as (end_at 0) q.1 >>= λ last. Ok (Unbounded ng point.0 q.0, last.1))
      (line_as_again point_at (t + 1) _ _ (line_bytes (ray_words ray) ∷ end_text 0 ∷ []) p (plain_point p) (point_again p h.1))
      ∙ ap (λ (r : Found (List (ℕ × ℤ) × Left)). r >>= λ q. line_as (end_at 0) q.1 >>= λ last. Ok (Unbounded ng p q.0, last.1))
      (line_as_again ray_at (t + 1 + 1) _ _ (end_text 0 ∷ []) ray (plain_ray ray) (ray_again ray h.2))
      ∙ ap (λ (r : Found (ℕ × Left)). r >>= λ last. Ok (Unbounded ng p ray, last.1))
      (line_as_again (end_at 0) (t + 1 + 1 + 1) _ _ [] 0 (plain_end 0) (end_again 0 few)),
)

titled_is : (c : Cert2) → cert2_lines c ≡ titled (kind_of c) (tail_lines c)
unfolding kind_of tail_lines
titled_is (Optimal p z xs) = refl
titled_is (Infeasible xs) = refl
titled_is (Unbounded ng p ray) = refl

cert_again : (c : Cert2) → KeepsForm2 c → count_of (lines2_of c) < 2 ^ 64 → cert2_at (left_of 0 (cert2_lines c)) ≡ Ok c
unfolding cert2_at whole_line behind_end
cert_again c h few =
    let tail = tail_again (0 + 1 + 1) c h few in
    let k = kind_of c in
    ap (λ (ls : List (List ℕ)). cert2_at (left_of 0 ls)) (titled_is c)
    ∙ ap (λ (r : Found (Kind × Left)). r >>= λ kind. step2_of kind.0 kind.1 >>= λ cert. behind_end cert.1 >>= λ _. Ok cert.0)
    (kind_steps (left_of (0 + 1) (kind_line k ∷ tail_lines c)) ∙ step_again kind_at (0 + 1) (kind_line k) (tail_lines c) k (kind_again k))
    ∙ ap (λ (r : Found (Cert2 × Left)). r >>= λ cert. behind_end cert.1 >>= λ _. Ok cert.0) tail.1

pub spelled_is_read : (text : List ℕ) (c : Cert2) → Spells2 text c → cert2_at (all_lines text) ≡ Ok c
spelled_is_read text c h =
    ap (λ (ls : List (List ℕ)). cert2_at (record { taken = 0; lines = ls; cut = is_cut text })) h.lines
    ∙ ap (λ (t : Bool). cert2_at (record { taken = 0; lines = cert2_lines c; cut = t })) h.whole ∙ cert_again c h.form h.few

pub spelled_is_two : (text : List ℕ) (c : Cert2) → Spells2 text c → is_two text ≡ true
spelled_is_two text c h = ap begins_two (h.lines ∙ titled_is c)

parts_of : (c : Cert2) → split 10 (spelling2 c) ≡ cert2_lines c ++ [] ∷ []
parts_of c = lines_joined (cert2_lines c) (All-map IsInLine line_bytes (cert2_words c) (λ i d lt. line_in_line (get_or (cert2_words c) i d) (good_cert2 c i d lt).0))

pub spelling_spells : (c : Cert2) → KeepsForm2 c → count_of (lines2_of c) < 2 ^ 64 → Spells2 (spelling2 c) c
spelling_spells c h few =
    let a = among (cert2_lines c) (All-map (λ l. is_comment l ≡ false) line_bytes (cert2_words c) (λ i d lt. (good_cert2 c i d lt).1)) in
    record { form = h; few = few; lines = ap lines_among (parts_of c) ∙ a.0; whole = ap is_content (ap tail_among (parts_of c) ∙ a.1) }
