-- Whole certificates: what is read is spelled so, and what is spelled is read.
use Rattle.std.proofs.Common.{◌≡◌, ℕ, ◌+◌, ◌^◌, ◌<◌, Bool, true, false, cond, List, [], ◌∷◌, ◌++◌, length, map, get_or, Option, Some, None, Ok, Err, refl, sym, ap, subst, ◌∙◌, inl, inr, arith, ℤ}
use Rattle.std.specs.Prelude.{All, codes}
use Rattle.std.specs.Fmt.{decimal}
use Rattle.std.proofs.lemmas.List.{append-nil}
use Rattle.std.proofs.lemmas.List.Elements.{All-nil, All-cons, All-head, All-tail, All-map}
use Rattle.nogoods.specs.declared.choice.Choice.{Choice}
use Rattle.cert_text.specs.declared.cert.Cert.{Cert}
use Rattle.cert_text.specs.declared.cert.Cert.TheVariants.{Optimal, Infeasible, Unbounded}
use Rattle.cert_text.specs.declared.cert.CertPoint.{CertPoint}
use Rattle.cert_text.specs.declared.cert.CertLine.{CertLine}
use Rattle.cert_text.specs.declared.cert.CertLine.TheVariants as lines
use Rattle.cert_text.specs.declared.read.Kind.{Kind}
use Rattle.cert_text.specs.declared.read.Kind.TheVariants as kinds
use Rattle.cert_text.specs.Certs.{IsLine, KeepsForm, lines_of}
use Rattle.cert_text.specs.Spelling.{Word, point_words, value_words, piece_words, ray_words, line_words, end_words, log_words, cert_words, cert_lines, line_bytes, spelling}
use Rattle.cert_text.specs.Splits.{split}
use Rattle.cert_text.specs.Lines.{is_comment, lines_among, tail_among, is_content, is_cut}
use Rattle.cert_text.specs.Faults.{words, is_last}
use Rattle.cert_text.specs.Reading.{kind_at, ◌>>=◌, Reading, point_at, value_at, piece_at, ray_at, line_at, end_at}
use Rattle.cert_text.specs.Steps.{Found, Left, all_lines, behind, at, line_as, head_step, kind_step, entry_at, or_more, log_from, log_step, last_step, optimal_step, infeasible_step, unbounded_step, step_of, behind_end, cert_at}
use Rattle.cert_text.specs.Texts.{Spells}
use Rattle.cert_text.proofs.Results.{same_ok, bind_ok, either}
use Rattle.cert_text.proofs.Joined.{IsInLine, line_in_line, lines_joined, words_joined}
use Rattle.cert_text.proofs.Forms.{point_takes, point_again, value_takes, value_again, piece_line_takes, piece_line_again, ray_takes, ray_again, line_takes, line_again, end_takes, end_again}
use Rattle.cert_text.proofs.Plain.{plain_line, plain_end, plain_point, plain_value, plain_piece, plain_ray, good_cert}
use Rattle.cert_text.proofs.Stepping.{head_line, kind_line, kind_steps, Stepped, line_stepped, kind_stepped, line_of_words, last_by, head_takes, kind_takes, over_takes, left_of, step_again, line_as_again}

-- ---- no-good lines

abbrev line_text : CertLine → List ℕ
line_text x = line_bytes (line_words x)

abbrev end_text : ℕ → List ℕ
end_text n = line_bytes (codes "end" ∷ decimal n ∷ [])

abbrev pub Entry : ℕ → List ℕ → Option CertLine → Type 0
Entry n l None = (is_last l ≡ true) × (words l ≡ codes "end" ∷ decimal n ∷ []) × (n < 2 ^ 64)
Entry n l (Some x) = (is_last l ≡ false) × (words l ≡ line_words x) × IsLine x

pub entry_takes : (n : ℕ) (l : List ℕ) (o : Option CertLine) → entry_at n l ≡ Ok o → Entry n l o
unfolding entry_at
entry_takes n l o e = elim (either (is_last l) (end_at n (words l) >>= λ k. Ok None) (line_at (words l) >>= λ x. Ok (Some x)) (Ok o) e) [
  | inl last ↦
      let a = bind_ok (end_at n (words l)) (λ k. Ok None) o last.1 in
      let t = end_takes n (words l) a.0 a.1 in
      subst (Entry n l) {x = None} (same_ok None o a.2) (last.0, t.0, t.1)
  | inr more ↦
      let a = bind_ok (line_at (words l)) (λ x. Ok (Some x)) o more.1 in
      let t = line_takes (words l) a.0 a.1 in
      subst (Entry n l) {x = Some a.0} (same_ok (Some a.0) o a.2) (more.0, t.0, t.1)
]

pub at_ok : {X : Type 0} (n : ℕ) (r : Reading X) (x : X) → at n r ≡ Ok x → r ≡ Ok x
at_ok n (Ok y) x e = ap (λ z. Ok z) (same_ok y x e)
at_ok n (Err why) x e = absurd cc

-- behind n no-good lines stand these, the last line, and what is left
record LogIs (n : ℕ) (cut : Bool) (ls : List (List ℕ)) (xs : List CertLine) (next : Left) : Type 0 where
  lines : ls ≡ map line_text xs ++ end_text (n + length xs) ∷ next.lines
  form : All IsLine xs
  few : n + length xs < 2 ^ 64
  cut_is : next.cut ≡ cut

abbrev LogOf : ℕ → Bool → List (List ℕ) → List CertLine × Left → Type 0
LogOf n cut ls y = LogIs n cut ls y.0 y.1

abbrev goes_on : ℕ → Left → List (List ℕ) → Option CertLine → Found (List CertLine × Left)
goes_on n left ls entry = or_more entry (Ok ([], behind left ls)) (λ x. log_from (n + 1) (behind left ls) ls >>= λ log. Ok (x ∷ log.0, log.1))

log_more : (n : ℕ) (left : Left) (l : List ℕ) (ls : List (List ℕ)) (o : Option CertLine) (y : List CertLine × Left) → Entry n l o
    → ((z : List CertLine × Left) → log_from (n + 1) (behind left ls) ls ≡ Ok z → LogOf (n + 1) left.cut ls z) → goes_on n left ls o ≡ Ok y → LogOf n left.cut (l ∷ ls) y
log_more n left l ls None y h next e =
    let made : List CertLine × Left = ([], behind left ls) in
    let same : n + 0 ≡ n = omega arith in
    subst (LogOf n left.cut (l ∷ ls)) {x = made} (same_ok made y e) (record {
      lines = ap (λ (x : List ℕ). x ∷ ls) (line_of_words l (codes "end" ∷ decimal n ∷ []) h.1 ∙ ap end_text (sym same));
      form = All-nil IsLine;
      few = omega (arith, h.2);
      cut_is = refl;
    })
log_more n left l ls (Some x) y h next e =
    let log = bind_ok (log_from (n + 1) (behind left ls) ls) (λ log. Ok (x ∷ log.0, log.1)) y e in
    let made : List CertLine × Left = (x ∷ log.0.0, log.0.1) in
    let t = next log.0 log.1 in
    let same : n + 1 + length log.0.0 ≡ n + length (x ∷ log.0.0) = omega arith in
    subst (LogOf n left.cut (l ∷ ls)) {x = made} (same_ok made y log.2) (record {
      lines = ap (λ (k : List ℕ). k ∷ ls) (line_of_words l (line_words x) h.1) ∙ ap (λ (ks : List (List ℕ)). line_text x ∷ ks) (t.lines ∙ ap (λ (m : ℕ). map line_text log.0.0 ++ end_text m ∷ log.0.1.lines) same);
      form = All-cons IsLine x log.0.0 h.2 t.form;
      few = omega (arith, t.few, same);
      cut_is = t.cut_is;
    })

log_takes : (n : ℕ) (left : Left) (ls : List (List ℕ)) (y : List CertLine × Left) → log_from n left ls ≡ Ok y → LogOf n left.cut ls y
unfolding log_from
log_takes n left [] y e = absurd cc
log_takes n left (l ∷ ls) y e =
    let a = bind_ok (at (left.taken + 1) (entry_at n l)) (goes_on n left ls) y e in
    log_more n left l ls a.0 y (entry_takes n l a.0 (at_ok (left.taken + 1) (entry_at n l) a.0 a.1)) (λ z. log_takes (n + 1) (behind left ls) ls z) a.2

abbrev log_lines : List CertLine → List (List ℕ)
log_lines xs = map line_bytes (log_words xs)

log_spelled : (xs : List CertLine) (rest : List (List ℕ)) → map line_text xs ++ end_text (length xs) ∷ rest ≡ log_lines xs ++ rest
log_spelled xs rest = spelled xs (end_words xs)
  where
    spelled : (ys : List CertLine) (last : List Word) → map line_text ys ++ line_bytes last ∷ rest ≡ map line_bytes (map line_words ys ++ last ∷ []) ++ rest
    spelled [] last = refl
    spelled (y ∷ ys) last = ap (λ (ks : List (List ℕ)). line_text y ∷ ks) (spelled ys last)

-- the lines of the log, and what is left behind them
record LogTaken (left : Left) (xs : List CertLine) (next : Left) : Type 0 where
  lines : left.lines ≡ log_lines xs ++ next.lines
  form : All IsLine xs
  few : length xs < 2 ^ 64
  cut_is : next.cut ≡ left.cut

log_taken : (left : Left) (y : List CertLine × Left) → log_step 0 left ≡ Ok y → LogTaken left y.0 y.1
unfolding log_step
log_taken left y e =
    let t = log_takes 0 left left.lines y e in
    let same : 0 + length y.0 ≡ length y.0 = omega arith in
    record {
      lines = t.lines ∙ ap (λ (m : ℕ). map line_text y.0 ++ end_text m ∷ y.1.lines) same ∙ log_spelled y.0 y.1.lines;
      form = t.form;
      few = omega (arith, t.few, same);
      cut_is = t.cut_is;
    }

-- ---- what is read is spelled so

-- a line that f reads is the line of these words
pub spelled_line : {X : Type 0} (f : List Word → Reading X) (left : Left) (x : X) (next : Left) (ws : List Word) → (s : Stepped (λ l. f (words l)) left x next) → words s.line ≡ ws
    → (left.lines ≡ line_bytes ws ∷ next.lines) × (next.cut ≡ left.cut)
spelled_line f left x next ws s e = (s.lines ∙ ap (λ (l : List ℕ). l ∷ next.lines) (line_of_words s.line ws e), ap (λ (k : Left). k.cut) s.next_is)

-- behind the line of the kind stand the further lines of the certificate, and what is left
record TailIs (kind : Kind) (left : Left) (c : Cert) (next : Left) : Type 0 where
  lines : head_line ∷ kind_line kind ∷ left.lines ≡ cert_lines c ++ next.lines
  form : KeepsForm c
  few : length (lines_of c) < 2 ^ 64
  cut_is : next.cut ≡ left.cut

abbrev TailOf : Kind → Left → Cert × Left → Type 0
TailOf kind left y = TailIs kind left y.0 y.1

abbrev titled : Kind → List (List ℕ) → List (List ℕ)
titled kind ls = head_line ∷ kind_line kind ∷ ls

optimal_takes : (left : Left) (y : Cert × Left) → optimal_step left ≡ Ok y → TailOf kinds.Optimal left y
unfolding optimal_step
optimal_takes left y e =
    let a = bind_ok (line_as point_at left) (λ point. line_as value_at point.1 >>= λ z. log_step 0 z.1 >>= λ log. Ok (Optimal point.0 z.0 log.0, log.1)) y e in
    let b = bind_ok (line_as value_at a.0.1) (λ z. log_step 0 z.1 >>= λ log. Ok (Optimal a.0.0 z.0 log.0, log.1)) y a.2 in
    let d = bind_ok (log_step 0 b.0.1) (λ log. Ok (Optimal a.0.0 b.0.0 log.0, log.1)) y b.2 in
    let p = line_stepped point_at left a.0 a.1 in
    let z = line_stepped value_at a.0.1 b.0 b.1 in
    let pt = point_takes (words p.line) a.0.0 p.read in
    let zt = value_takes (words z.line) b.0.0 z.read in
    let pl = spelled_line point_at left a.0.0 a.0.1 (point_words a.0.0) p pt.0 in
    let zl = spelled_line value_at a.0.1 b.0.0 b.0.1 (value_words b.0.0) z zt.0 in
    let t = log_taken b.0.1 d.0 d.1 in
    let made : Cert × Left = (Optimal a.0.0 b.0.0 d.0.0, d.0.1) in
    subst (TailOf kinds.Optimal left) {x = made} (same_ok made y d.2) (record {
      lines = ap (titled kinds.Optimal) (pl.0 ∙ ap (λ (ls : List (List ℕ)). line_bytes (point_words a.0.0) ∷ ls) (zl.0 ∙ ap (λ (ls : List (List ℕ)). line_bytes (value_words b.0.0) ∷ ls) t.lines));
      form = (pt.1, zt.1, t.form);
      few = t.few;
      cut_is = t.cut_is ∙ zl.1 ∙ pl.1;
    })

infeasible_takes : (left : Left) (y : Cert × Left) → infeasible_step left ≡ Ok y → TailOf kinds.Infeasible left y
unfolding infeasible_step
infeasible_takes left y e =
    let d = bind_ok (log_step 0 left) (λ log. Ok (Infeasible log.0, log.1)) y e in
    let t = log_taken left d.0 d.1 in
    let made : Cert × Left = (Infeasible d.0.0, d.0.1) in
    subst (TailOf kinds.Infeasible left) {x = made} (same_ok made y d.2) (record { lines = ap (titled kinds.Infeasible) t.lines; form = t.form; few = t.few; cut_is = t.cut_is })

unbounded_takes : (left : Left) (y : Cert × Left) → unbounded_step left ≡ Ok y → TailOf kinds.Unbounded left y
unfolding unbounded_step last_step
unbounded_takes left y e =
    let a = bind_ok (line_as piece_at left) (λ piece. line_as point_at piece.1 >>= λ point. line_as ray_at point.1 >>= λ ray. line_as (end_at 0) ray.1 >>= λ last. Ok (Unbounded piece.0 point.0 ray.0, last.1)) y e in
    let b = bind_ok (line_as point_at a.0.1) (λ point. line_as ray_at point.1 >>= λ ray. line_as (end_at 0) ray.1 >>= λ last. Ok (Unbounded a.0.0 point.0 ray.0, last.1)) y a.2 in
    let r = bind_ok (line_as ray_at b.0.1) (λ ray. line_as (end_at 0) ray.1 >>= λ last. Ok (Unbounded a.0.0 b.0.0 ray.0, last.1)) y b.2 in
    let d = bind_ok (line_as (end_at 0) r.0.1) (λ last. Ok (Unbounded a.0.0 b.0.0 r.0.0, last.1)) y r.2 in
    let c = line_stepped piece_at left a.0 a.1 in
    let p = line_stepped point_at a.0.1 b.0 b.1 in
    let q = line_stepped ray_at b.0.1 r.0 r.1 in
    let k = line_stepped (end_at 0) r.0.1 d.0 d.1 in
    let ct = piece_line_takes (words c.line) a.0.0 c.read in
    let pt = point_takes (words p.line) b.0.0 p.read in
    let qt = ray_takes (words q.line) r.0.0 q.read in
    let kt = end_takes 0 (words k.line) d.0.0 k.read in
    let cl = spelled_line piece_at left a.0.0 a.0.1 (piece_words a.0.0) c ct.0 in
    let pl = spelled_line point_at a.0.1 b.0.0 b.0.1 (point_words b.0.0) p pt.0 in
    let ql = spelled_line ray_at b.0.1 r.0.0 r.0.1 (ray_words r.0.0) q qt.0 in
    let kl = spelled_line (end_at 0) r.0.1 d.0.0 d.0.1 (end_words []) k kt.0 in
    let made : Cert × Left = (Unbounded a.0.0 b.0.0 r.0.0, d.0.1) in
    subst (TailOf kinds.Unbounded left) {x = made} (same_ok made y d.2) (record {
      lines = ap (titled kinds.Unbounded) (cl.0 ∙ ap (λ (ls : List (List ℕ)). line_bytes (piece_words a.0.0) ∷ ls)
          (pl.0 ∙ ap (λ (ls : List (List ℕ)). line_bytes (point_words b.0.0) ∷ ls) (ql.0 ∙ ap (λ (ls : List (List ℕ)). line_bytes (ray_words r.0.0) ∷ ls) kl.0)));
      form = (ct.1, pt.1, qt.1);
      few = kt.1;
      cut_is = kl.1 ∙ ql.1 ∙ pl.1 ∙ cl.1;
    })

tail_takes : (kind : Kind) (left : Left) (y : Cert × Left) → step_of kind left ≡ Ok y → TailOf kind left y
tail_takes kinds.Optimal left y e = optimal_takes left y e
tail_takes kinds.Infeasible left y e = infeasible_takes left y e
tail_takes kinds.Unbounded left y e = unbounded_takes left y e

record CertIs (left : Left) (c : Cert) : Type 0 where
  lines : left.lines ≡ cert_lines c
  form : KeepsForm c
  few : length (lines_of c) < 2 ^ 64
  whole : left.cut ≡ false

cert_takes : (left : Left) (c : Cert) → cert_at left ≡ Ok c → CertIs left c
unfolding cert_at
cert_takes left c e =
    let h = bind_ok (head_step left) (λ head. kind_step head >>= λ kind. step_of kind.0 kind.1 >>= λ cert. behind_end cert.1 >>= λ _. Ok cert.0) c e in
    let k = bind_ok (kind_step h.0) (λ kind. step_of kind.0 kind.1 >>= λ cert. behind_end cert.1 >>= λ _. Ok cert.0) c h.2 in
    let t = bind_ok (step_of k.0.0 k.0.1) (λ cert. behind_end cert.1 >>= λ _. Ok cert.0) c k.2 in
    let o = bind_ok (behind_end t.0.1) (λ _. Ok t.0.0) c t.2 in
    let head = head_takes left h.0 h.1 in
    let kind = kind_stepped h.0 k.0 k.1 in
    let tail = tail_takes k.0.0 k.0.1 t.0 t.1 in
    let over = over_takes t.0.1 o.0 o.1 in
    subst (CertIs left) {x = t.0.0} (same_ok t.0.0 c o.2) (record {
      lines = head.0 ∙ ap (λ (ls : List (List ℕ)). head_line ∷ ls) (kind.lines ∙ ap (λ (l : List ℕ). l ∷ k.0.1.lines) (kind_takes kind.line k.0.0 kind.read)) ∙ tail.lines
          ∙ ap (λ (ls : List (List ℕ)). cert_lines t.0.0 ++ ls) over.0 ∙ append-nil (cert_lines t.0.0);
      form = tail.form;
      few = tail.few;
      whole = sym (ap (λ (r : Left). r.cut) head.1) ∙ sym (ap (λ (r : Left). r.cut) kind.next_is) ∙ sym tail.cut_is ∙ over.1;
    })

pub read_is_spelled : (text : List ℕ) (c : Cert) → cert_at (all_lines text) ≡ Ok c → Spells text c
read_is_spelled text c e = let t = cert_takes (all_lines text) c e in record { form = t.form; few = t.few; lines = t.lines; whole = t.whole }

-- ---- what is spelled is read

is_end : (n : ℕ) → is_last (end_text n) ≡ true
is_end n = last_by (end_text n) (codes "end") (decimal n ∷ []) true (words_joined (codes "end") (decimal n ∷ []) (plain_end n)) refl

no_end : (x : CertLine) → (words (line_text x) ≡ line_words x) × (is_last (line_text x) ≡ false)
no_end x = by_first x (words_of x)
  where
    words_of : (x : CertLine) → words (line_text x) ≡ line_words x
    words_of (lines.Ray ng mult) = words_joined _ _ (plain_line (lines.Ray ng mult))
    words_of (lines.Point ng e mult) = words_joined _ _ (plain_line (lines.Point ng e mult))
    words_of (lines.Derived ng hints) = words_joined _ _ (plain_line (lines.Derived ng hints))

    by_first : (x : CertLine) → words (line_text x) ≡ line_words x → (words (line_text x) ≡ line_words x) × (is_last (line_text x) ≡ false)
    by_first (lines.Ray ng mult) e = (e, last_by (line_text (lines.Ray ng mult)) (codes "i") _ false e refl)
    by_first (lines.Point ng k mult) e = (e, last_by (line_text (lines.Point ng k mult)) (codes "p") _ false e refl)
    by_first (lines.Derived ng hints) e = (e, last_by (line_text (lines.Derived ng hints)) (codes "d") _ false e refl)

entry_ends : (n : ℕ) → n < 2 ^ 64 → entry_at n (end_text n) ≡ Ok None
unfolding entry_at
entry_ends n small =
    ap (λ (t : Bool). cond t (end_at n (words (end_text n)) >>= λ k. Ok None) (line_at (words (end_text n)) >>= λ x. Ok (Some x))) (is_end n)
    ∙ ap (λ (r : Reading ℕ). r >>= λ k. Ok None) (ap (end_at n) (words_joined (codes "end") (decimal n ∷ []) (plain_end n)) ∙ end_again n small)

entry_again : (n : ℕ) (x : CertLine) → IsLine x → entry_at n (line_text x) ≡ Ok (Some x)
unfolding entry_at
entry_again n x h =
    let w = no_end x in
    ap (λ (t : Bool). cond t (end_at n (words (line_text x)) >>= λ k. Ok None) (line_at (words (line_text x)) >>= λ y. Ok (Some y))) w.1
    ∙ ap (λ (r : Reading CertLine). r >>= λ y. Ok (Some y)) (ap line_at w.0 ∙ line_again x h)

log_again : (n m t : ℕ) (xs : List CertLine) (ls all : List (List ℕ)) → All IsLine xs → n + length xs ≡ m → m < 2 ^ 64
    → (u : ℕ) × (log_from n (left_of t all) (map line_text xs ++ end_text m ∷ ls) ≡ Ok (xs, left_of u ls))
unfolding log_from
log_again n m t [] ls all h e small =
    let same : n ≡ m = omega (arith, e) in
    (t + 1, ap (λ (r : Reading (Option CertLine)). at (t + 1) r >>= goes_on n (left_of t all) ls) (ap (entry_at n) (ap end_text (sym same)) ∙ entry_ends n (omega (arith, small, same))))
log_again n m t (x ∷ xs) ls all h e small =
    let rest = map line_text xs ++ end_text m ∷ ls in
    let next = log_again (n + 1) m (t + 1) xs ls rest (All-tail IsLine x xs h) (omega (arith, e)) small in (
      next.0,
      ap (λ (r : Reading (Option CertLine)). at (t + 1) r >>= goes_on n (left_of t all) rest) (entry_again n x (All-head IsLine x xs h))
          ∙ ap (λ (r : Found (List CertLine × Left)). r >>= λ log. Ok (x ∷ log.0, log.1)) next.1,
    )

log_read : (t : ℕ) (xs : List CertLine) → All IsLine xs → length xs < 2 ^ 64 → (u : ℕ) × (log_step 0 (left_of t (log_lines xs)) ≡ Ok (xs, left_of u []))
unfolding log_step
log_read t xs h small =
    let all = log_lines xs in
    let a = log_again 0 (length xs) t xs [] all h (omega arith) small in
    (a.0, ap (log_from 0 (left_of t all)) (sym (append-nil all) ∙ sym (log_spelled xs [])) ∙ a.1)

tail_lines : Cert → List (List ℕ)
tail_lines (Optimal p z xs) = line_bytes (point_words p) ∷ line_bytes (value_words z) ∷ log_lines xs
tail_lines (Infeasible xs) = log_lines xs
tail_lines (Unbounded ng p ray) = line_bytes (piece_words ng) ∷ line_bytes (point_words p) ∷ line_bytes (ray_words ray) ∷ end_text 0 ∷ []

kind_of : Cert → Kind
kind_of (Optimal p z xs) = kinds.Optimal
kind_of (Infeasible xs) = kinds.Infeasible
kind_of (Unbounded ng p ray) = kinds.Unbounded

tail_again : (t : ℕ) (c : Cert) → KeepsForm c → length (lines_of c) < 2 ^ 64 → (u : ℕ) × (step_of (kind_of c) (left_of t (tail_lines c)) ≡ Ok (c, left_of u []))
unfolding optimal_step infeasible_step unbounded_step last_step kind_of tail_lines
tail_again t (Optimal p z xs) h few =
    let log = log_read (t + 1 + 1) xs h.2 few in (
      log.0,
      ap (λ (r : Found (CertPoint × Left)). r >>= λ point. line_as value_at point.1 >>= λ y. log_step 0 y.1 >>= λ k. Ok (Optimal point.0 y.0 k.0, k.1))
          (line_as_again point_at t _ _ (line_bytes (value_words z) ∷ log_lines xs) p (plain_point p) (point_again p h.0))
          ∙ ap (λ (r : Found (ℤ × Left)). r >>= λ y. log_step 0 y.1 >>= λ k. Ok (Optimal p y.0 k.0, k.1)) (line_as_again value_at (t + 1) _ _ (log_lines xs) z (plain_value z) (value_again z h.1))
          ∙ ap (λ (r : Found (List CertLine × Left)). r >>= λ k. Ok (Optimal p z k.0, k.1)) log.1,
    )
tail_again t (Infeasible xs) h few =
    let log = log_read t xs h few in
    (log.0, ap (λ (r : Found (List CertLine × Left)). r >>= λ k. Ok (Infeasible k.0, k.1)) log.1)
tail_again t (Unbounded ng p ray) h few = (
  t + 1 + 1 + 1 + 1,
  ap (λ (r : Found (List Choice × Left)). r >>= λ piece. line_as point_at piece.1 >>= λ point. line_as ray_at point.1 >>= λ q. line_as (end_at 0) q.1 >>= λ last. Ok (Unbounded piece.0 point.0 q.0, last.1))
      (line_as_again piece_at t _ _ (line_bytes (point_words p) ∷ line_bytes (ray_words ray) ∷ end_text 0 ∷ []) ng (plain_piece ng) (piece_line_again ng h.0))
      ∙ ap (λ (r : Found (CertPoint × Left)). r >>= λ point. line_as ray_at point.1 >>= λ q. line_as (end_at 0) q.1 >>= λ last. Ok (Unbounded ng point.0 q.0, last.1))
      (line_as_again point_at (t + 1) _ _ (line_bytes (ray_words ray) ∷ end_text 0 ∷ []) p (plain_point p) (point_again p h.1))
      ∙ ap (λ (r : Found (List (ℕ × ℤ) × Left)). r >>= λ q. line_as (end_at 0) q.1 >>= λ last. Ok (Unbounded ng p q.0, last.1))
      (line_as_again ray_at (t + 1 + 1) _ _ (end_text 0 ∷ []) ray (plain_ray ray) (ray_again ray h.2))
      ∙ ap (λ (r : Found (ℕ × Left)). r >>= λ last. Ok (Unbounded ng p ray, last.1))
      (line_as_again (end_at 0) (t + 1 + 1 + 1) _ _ [] 0 (plain_end 0) (end_again 0 few)),
)

pub kind_again : (k : Kind) → kind_at (kind_line k) ≡ Ok k
unfolding kind_at
kind_again kinds.Optimal = refl
kind_again kinds.Infeasible = refl
kind_again kinds.Unbounded = refl

titled_is : (c : Cert) → cert_lines c ≡ titled (kind_of c) (tail_lines c)
unfolding kind_of tail_lines
titled_is (Optimal p z xs) = refl
titled_is (Infeasible xs) = refl
titled_is (Unbounded ng p ray) = refl

cert_again : (c : Cert) → KeepsForm c → length (lines_of c) < 2 ^ 64 → cert_at (left_of 0 (cert_lines c)) ≡ Ok c
unfolding cert_at head_step behind_end
cert_again c h few =
    let tail = tail_again (0 + 1 + 1) c h few in
    let k = kind_of c in
    ap (λ (ls : List (List ℕ)). cert_at (left_of 0 ls)) (titled_is c)
    ∙ ap (λ (r : Found (Kind × Left)). r >>= λ kind. step_of kind.0 kind.1 >>= λ cert. behind_end cert.1 >>= λ _. Ok cert.0)
    (kind_steps (left_of (0 + 1) (kind_line k ∷ tail_lines c)) ∙ step_again kind_at (0 + 1) (kind_line k) (tail_lines c) k (kind_again k))
    ∙ ap (λ (r : Found (Cert × Left)). r >>= λ cert. behind_end cert.1 >>= λ _. Ok cert.0) tail.1

pub spelled_is_read : (text : List ℕ) (c : Cert) → Spells text c → cert_at (all_lines text) ≡ Ok c
spelled_is_read text c h =
    ap (λ (ls : List (List ℕ)). cert_at (record { taken = 0; lines = ls; cut = is_cut text })) h.lines
    ∙ ap (λ (t : Bool). cert_at (record { taken = 0; lines = cert_lines c; cut = t })) h.whole ∙ cert_again c h.form h.few

-- ---- the spelling spells

pub among : (ls : List (List ℕ)) → All (λ l. is_comment l ≡ false) ls → (lines_among (ls ++ [] ∷ []) ≡ ls) × (tail_among (ls ++ [] ∷ []) ≡ [])
among [] h = (refl, refl)
among (l ∷ []) h = (ap (λ (t : Bool). cond t [] (l ∷ [])) (All-head (λ x. is_comment x ≡ false) l [] h), refl)
among (l ∷ k ∷ ls) h =
    let next = among (k ∷ ls) (All-tail (λ x. is_comment x ≡ false) l (k ∷ ls) h) in
    let rest = lines_among ((k ∷ ls) ++ [] ∷ []) in
    (ap (λ (t : Bool). cond t rest (l ∷ rest)) (All-head (λ x. is_comment x ≡ false) l (k ∷ ls) h) ∙ ap (λ (x : List (List ℕ)). l ∷ x) next.0, next.1)

parts_of : (c : Cert) → split 10 (spelling c) ≡ cert_lines c ++ [] ∷ []
parts_of c = lines_joined (cert_lines c) (All-map IsInLine line_bytes (cert_words c) (λ i d lt. line_in_line (get_or (cert_words c) i d) (good_cert c i d lt).0))

pub spelling_spells : (c : Cert) → KeepsForm c → length (lines_of c) < 2 ^ 64 → Spells (spelling c) c
spelling_spells c h few =
    let a = among (cert_lines c) (All-map (λ l. is_comment l ≡ false) line_bytes (cert_words c) (λ i d lt. (good_cert c i d lt).1)) in
    record { form = h; few = few; lines = ap lines_among (parts_of c) ∙ a.0; whole = ap is_content (ap tail_among (parts_of c) ∙ a.1) }
