-- A part has one ending at most.
use Rattle.std.proofs.Common.{inl, inr, ℕ, ◌<◌, ◌≤◌, ◌≡◌, refl, sym, ap, ◌∙◌, subst, arith, nat_lt, List, [], ◌∷◌, map}
use Rattle.std.specs.Prelude.{◌≢◌, ◌⊎◌, ◌&&◌, All, Contains, IsTrue, Option, Some, None, slice_get}
use Rattle.std.proofs.lemmas.Bool.{ltb-true, and_parts, false≢true, cases_lt}
use Rattle.std.proofs.lemmas.List.Elements.{All-contains}
use Rattle.lp_base.specs.Ascending.{ascends_by}
use Rattle.nogoods.specs.declared.choice.Side.{Side}
use Rattle.nogoods.proofs.Order as order
use Rattle.lpcc_case.specs.Instance.{Instance}
use Rattle.lpcc_case.specs.declared.point.Point.{Point}
use Rattle.cert_text.specs.declared.cert.Cert.{Cert}
use Rattle.cert_text.specs.declared.cert.Cert.TheVariants as cert
use Rattle.cert_text.specs.declared.cert.CertPoint.{CertPoint}
use Rattle.derivation.specs.declared.step.Step.{Step}
use Rattle.cert_text.specs.declared.cert.CertLine.{CertLine}
use Rattle.play.specs.declared.event.Aside.{Aside}
use Rattle.play.specs.declared.event.Options.{Options}
use Rattle.play.specs.declared.event.Direction.{Direction}
use Rattle.play.specs.declared.event.VerdictKind.{VerdictKind}
use Rattle.play.specs.declared.event.VerdictKind.TheVariants as kind
use Rattle.play.specs.declared.ending.Ending.{Ending}
use Rattle.play.specs.declared.ending.Ending.TheVariants as ending
use Rattle.cuts.specs.declared.reason.WideAt.{WideAt}
use Rattle.cuts.specs.declared.reason.SpentAt.{SpentAt}
use Rattle.play.specs.declared.outcome.Cause.TheVariants as cause
use Rattle.play.specs.Parts.{Part}
use Rattle.play.specs.Points.{choices_of}
use Rattle.play.specs.Truth.{AreApart, IsOrderly, ticket_of}
use Rattle.trimming.specs.Trimmed.{AreReached, IsFirstEmpty, IsReached}
use Rattle.play.specs.Certificates.{AreTrimmedLines, IsCertOf, line_at, cert_point, terms_from}
use Rattle.play.specs.Endings.{IsEnding, IsStuck, IsOut, aside_of}
use Rattle.play.proofs.ListLaws.{here, there, front_or_rest}

some_same : {X : Type 0} {x y : X} → Some x ≡ Some y → x ≡ y
some_same e = cc

none_some : {X : Type 0} {x : X} {o : Option X} → o ≡ None → o ≡ Some x → ⊥
none_some e f = cc

one_of : {X : Type 0} {x y : X} {o : Option X} → o ≡ Some x → o ≡ Some y → x ≡ y
one_of e f = some_same (sym e ∙ f)

-- ---- ascending numbers are known by which they are

front_below : (x : ℕ) (xs : List ℕ) (k : ℕ) → IsTrue (ascends_by (λ n. n) (x ∷ xs)) → Contains xs k → x < k
front_below x [] k up c = absurd (omega (arith, c.1))
front_below x (y ∷ ys) k up c =
    let both = and_parts (nat_lt x y) (ascends_by (λ n. n) (y ∷ ys)) up in
    let first : x < y = ltb-true x y both.0 in
    elim (front_or_rest y ys k c) [
      | inl same ↦ omega (arith, first, same)
      | inr later ↦ omega (arith, first, front_below y ys k both.1 later)
    ]

pub rest_up : (x : ℕ) (xs : List ℕ) → IsTrue (ascends_by (λ n. n) (x ∷ xs)) → IsTrue (ascends_by (λ n. n) xs)
rest_up x [] up = refl
rest_up x (y ∷ ys) up = (and_parts (nat_lt x y) (ascends_by (λ n. n) (y ∷ ys)) up).1

pub least : (x y : ℕ) (ys : List ℕ) → IsTrue (ascends_by (λ n. n) (y ∷ ys)) → Contains (y ∷ ys) x → y ≤ x
least x y ys up c = elim (front_or_rest y ys x c) [
  | inl same ↦ omega (arith, same)
  | inr later ↦ omega (arith, front_below y ys x up later)
]

behind : (x y : ℕ) (xs ys : List ℕ) → x ≡ y → IsTrue (ascends_by (λ n. n) (x ∷ xs)) → ((k : ℕ) → Contains (x ∷ xs) k → Contains (y ∷ ys) k) → (k : ℕ) → Contains xs k → Contains ys k
behind x y xs ys same up all k c = elim (front_or_rest y ys k (all k (there x xs k c))) [
  | inl e ↦ absurd (omega (arith, same, e, front_below x xs k up c))
  | inr later ↦ later
]

pub same_numbers : (xs ys : List ℕ) → IsTrue (ascends_by (λ n. n) xs) → IsTrue (ascends_by (λ n. n) ys) → ((k : ℕ) → Contains xs k → Contains ys k) → ((k : ℕ) → Contains ys k → Contains xs k) → xs ≡ ys
same_numbers [] [] u v f g = refl
same_numbers [] (y ∷ ys) u v f g = absurd (omega (arith, (g y (here y ys)).1))
same_numbers (x ∷ xs) [] u v f g = absurd (omega (arith, (f x (here x xs)).1))
same_numbers (x ∷ xs) (y ∷ ys) u v f g =
    let same : x ≡ y = omega (arith, least x y ys v (f x (here x xs)), least y x xs u (g y (here y ys))) in
    let rest = same_numbers xs ys (rest_up x xs u) (rest_up y ys v) (behind x y xs ys same u f) (behind y x ys xs (sym same) v g) in
    ap (λ k. k ∷ xs) same ∙ ap (λ l. y ∷ l) rest

-- ---- the certificate

first_same : (log : List Step) (e f : ℕ) → IsFirstEmpty log e → IsFirstEmpty log f → e ≡ f
first_same log e f x y = elim (cases_lt e f) [
  | inl below ↦ absurd (y.first e below x.empty)
  | inr past ↦ elim (cases_lt f e) [
    | inl below ↦ absurd (x.first f below y.empty)
    | inr up ↦ omega (arith, past, up)
  ]
]

-- the steps that the first empty step reaches are determined
pub reached_same : (log : List Step) (xs ys : List ℕ) → AreReached log xs → AreReached log ys → xs ≡ ys
reached_same log xs ys x y =
    let P : ℕ → ℕ → Type 0 = λ e k. IsReached log e k in
    let first = first_same log x.first y.first x.empty y.empty in
    same_numbers xs ys x.ascending y.ascending
    (λ k c. (y.reached k).1 (subst (λ e. P e k) first ((x.reached k).0 c)))
    (λ k c. (x.reached k).1 (subst (λ e. P e k) (sym first) ((y.reached k).0 c)))

pub trimmed_same : (d : Part) (xs ys : List CertLine) → AreTrimmedLines d.absorbed d.log xs → AreTrimmedLines d.absorbed d.log ys → xs ≡ ys
trimmed_same d xs ys x y = x.made ∙ ap (λ l. map (line_at d.absorbed d.log l) l) (reached_same d.log x.places y.places x.kept y.kept) ∙ sym y.made

optimal_of : CertPoint → Rattle.std.specs.Prelude.ℤ → List CertLine → Cert
optimal_of p z l = cert.Optimal p z l

pub cert_same : (d : Part) (v : VerdictKind) (b c : Cert) → IsCertOf d v b → IsCertOf d v c → b ≡ c
cert_same d kind.Optimal (cert.Optimal p z l) (cert.Optimal q y m) x w =
    let same = one_of x.1 w.1 in
    ap (λ r. cert.Optimal r z l) (x.2 ∙ ap cert_point same ∙ sym w.2) ∙ ap (λ r. cert.Optimal q r l) (x.3 ∙ ap (λ (r : Point). r.z) same ∙ sym w.3) ∙ ap (λ r. cert.Optimal q y r) (trimmed_same d l m x.4 w.4)
cert_same d kind.Optimal (cert.Optimal p z l) (cert.Infeasible m) x w = absurd w
cert_same d kind.Optimal (cert.Optimal p z l) (cert.Unbounded s q r) x w = absurd w
cert_same d kind.Optimal (cert.Infeasible l) c x w = absurd x
cert_same d kind.Optimal (cert.Unbounded s p r) c x w = absurd x
cert_same d kind.Infeasible (cert.Infeasible l) (cert.Infeasible m) x w = ap (λ r. cert.Infeasible r) (trimmed_same d l m x.1 w.1)
cert_same d kind.Infeasible (cert.Infeasible l) (cert.Optimal q y m) x w = absurd w
cert_same d kind.Infeasible (cert.Infeasible l) (cert.Unbounded s q r) x w = absurd w
cert_same d kind.Infeasible (cert.Optimal p z l) c x w = absurd x
cert_same d kind.Infeasible (cert.Unbounded s p r) c x w = absurd x
cert_same d kind.Unbounded (cert.Unbounded s p r) (cert.Unbounded t q u) x w =
    let same = one_of x.1 w.1 in
    ap (λ k. cert.Unbounded k p r) (x.2 ∙ ap (λ (k : Direction). choices_of k.piece) same ∙ sym w.2)
    ∙ ap (λ k. cert.Unbounded t k r) (x.3 ∙ ap (λ (k : Direction). cert_point k.point) same ∙ sym w.3)
    ∙ ap (λ k. cert.Unbounded t q k) (x.4 ∙ ap (λ (k : Direction). terms_from 0 k.ray.r) same ∙ sym w.4)
cert_same d kind.Unbounded (cert.Unbounded s p r) (cert.Optimal q y m) x w = absurd w
cert_same d kind.Unbounded (cert.Unbounded s p r) (cert.Infeasible m) x w = absurd w
cert_same d kind.Unbounded (cert.Optimal p z l) c x w = absurd x
cert_same d kind.Unbounded (cert.Infeasible l) c x w = absurd x

-- ---- pieces

at_once : (x y : Aside) (xs : List Aside) → AreApart ticket_of xs → Contains xs x → Contains xs y → x.ticket ≡ y.ticket → x ≡ y
at_once x y [] apart c e same = absurd (omega (arith, c.1))
at_once x y (z ∷ zs) apart c e same = elim (front_or_rest z zs x c) [
  | inl zx ↦ elim (front_or_rest z zs y e) [
    | inl zy ↦ sym zx ∙ zy
    | inr later ↦ absurd (All-contains (λ u. ticket_of u ≢ ticket_of z) zs y apart.0 later (sym same ∙ ap ticket_of (sym zx)))
  ]
  | inr later ↦ elim (front_or_rest z zs y e) [
    | inl zy ↦ absurd (All-contains (λ u. ticket_of u ≢ ticket_of z) zs x apart.0 later (same ∙ ap ticket_of (sym zy)))
    | inr also ↦ at_once x y zs apart.1 later also same
  ]
]

stuck_same : (a : Instance) (d : Part) (x y : Aside) → IsOrderly d → IsStuck a d x → IsStuck a d y → x ≡ y
stuck_same a d x y h s t =
    at_once x y d.aside h.aside s.among t.among (omega (arith, s.lowest y t.among t.unbarred, t.lowest x s.among s.unbarred))

stuck_or_out : (a : Instance) (o : Options) (d : Part) (x : Aside) (left : List Side) → IsStuck a d x → IsOut a o d left → ⊥
stuck_or_out a o d x left s out = out.first.free (s.each left out.first.size out.first.unbarred)

out_same : (a : Instance) (o : Options) (d : Part) (p q : List Side) → IsOut a o d p → IsOut a o d q → p ≡ q
out_same a o d p q x y = elim (x.first.first q y.first.size y.first.unbarred y.first.free) [
  | inl same ↦ sym same
  | inr pq ↦ elim (y.first.first p x.first.size x.first.unbarred x.first.free) [
    | inl same ↦ same
    | inr qp ↦ absurd (false≢true (sym (order.precedes-self p) ∙ order.precedes-trans p q p pq qp))
  ]
]

wide_of : ℕ → List Side → WideAt → Aside
wide_of n p w = aside_of n p (cause.Wide w)

wide_same : (m n : ℕ) (p q : List Side) (v w : WideAt) → aside_of m p (cause.Wide v) ≡ aside_of n q (cause.Wide w) → ending.Overflow p v ≡ ending.Overflow q w
wide_same m n p q v w e =
    let piece : p ≡ q = ap (λ (x : Aside). x.piece) e in
    let why : cause.Wide v ≡ cause.Wide w = ap (λ (x : Aside). x.cause) e in
    let at : v ≡ w = cc in
    ap (λ r. ending.Overflow r v) piece ∙ ap (λ r. ending.Overflow q r) at

spent_same : (m n : ℕ) (p q : List Side) (v w : SpentAt) → aside_of m p (cause.Spent v) ≡ aside_of n q (cause.Spent w) → ending.PivotsSpent p v ≡ ending.PivotsSpent q w
spent_same m n p q v w e =
    let piece : p ≡ q = ap (λ (x : Aside). x.piece) e in
    let why : cause.Spent v ≡ cause.Spent w = ap (λ (x : Aside). x.cause) e in
    let at : v ≡ w = cc in
    ap (λ r. ending.PivotsSpent r v) piece ∙ ap (λ r. ending.PivotsSpent q r) at

not_both : (m n : ℕ) (p q : List Side) (v : WideAt) (w : SpentAt) → aside_of m p (cause.Wide v) ≡ aside_of n q (cause.Spent w) → ⊥
not_both m n p q v w e = let why : cause.Wide v ≡ cause.Spent w = ap (λ (x : Aside). x.cause) e in cc

pub one_ending : (a : Instance) (o : Options) (d : Part) (x y : Ending) → IsOrderly d → IsEnding a o d x → IsEnding a o d y → x ≡ y
one_ending a o d (ending.Verdict b m) (ending.Verdict c n) h x y =
    let same = one_of x.1 y.1 in
    let P : VerdictKind → Type 0 = λ v. IsCertOf d v c in
    ap (λ r. ending.Verdict r m) (cert_same d x.0 b c x.2 (subst P (sym same) y.2)) ∙ ap (λ r. ending.Verdict c r) (x.3 ∙ sym y.3)
one_ending a o d (ending.Verdict b m) (ending.Overflow p w) h x y = absurd (none_some y.1.idle.unconcluded x.1)
one_ending a o d (ending.Verdict b m) (ending.PivotsSpent p w) h x y = absurd (none_some y.1.idle.unconcluded x.1)
one_ending a o d (ending.Verdict b m) (ending.PiecesSpent n l) h x y = absurd (none_some y.1.idle.unconcluded x.1)
one_ending a o d (ending.Verdict b m) ending.NoMemory h x y = absurd y
one_ending a o d (ending.Overflow p v) (ending.Verdict c n) h x y = absurd (none_some x.1.idle.unconcluded y.1)
one_ending a o d (ending.Overflow p v) (ending.Overflow q w) h x y = wide_same x.0 y.0 p q v w (stuck_same a d (aside_of x.0 p (cause.Wide v)) (aside_of y.0 q (cause.Wide w)) h x.1 y.1)
one_ending a o d (ending.Overflow p v) (ending.PivotsSpent q w) h x y = absurd (not_both x.0 y.0 p q v w (stuck_same a d (aside_of x.0 p (cause.Wide v)) (aside_of y.0 q (cause.Spent w)) h x.1 y.1))
one_ending a o d (ending.Overflow p v) (ending.PiecesSpent n l) h x y = absurd (stuck_or_out a o d (aside_of x.0 p (cause.Wide v)) l x.1 y.1)
one_ending a o d (ending.Overflow p v) ending.NoMemory h x y = absurd y
one_ending a o d (ending.PivotsSpent p v) (ending.Verdict c n) h x y = absurd (none_some x.1.idle.unconcluded y.1)
one_ending a o d (ending.PivotsSpent p v) (ending.Overflow q w) h x y = absurd (not_both y.0 x.0 q p w v (stuck_same a d (aside_of y.0 q (cause.Wide w)) (aside_of x.0 p (cause.Spent v)) h y.1 x.1))
one_ending a o d (ending.PivotsSpent p v) (ending.PivotsSpent q w) h x y = spent_same x.0 y.0 p q v w (stuck_same a d (aside_of x.0 p (cause.Spent v)) (aside_of y.0 q (cause.Spent w)) h x.1 y.1)
one_ending a o d (ending.PivotsSpent p v) (ending.PiecesSpent n l) h x y = absurd (stuck_or_out a o d (aside_of x.0 p (cause.Spent v)) l x.1 y.1)
one_ending a o d (ending.PivotsSpent p v) ending.NoMemory h x y = absurd y
one_ending a o d (ending.PiecesSpent m l) (ending.Verdict c n) h x y = absurd (none_some x.1.idle.unconcluded y.1)
one_ending a o d (ending.PiecesSpent m l) (ending.Overflow q w) h x y = absurd (stuck_or_out a o d (aside_of y.0 q (cause.Wide w)) l y.1 x.1)
one_ending a o d (ending.PiecesSpent m l) (ending.PivotsSpent q w) h x y = absurd (stuck_or_out a o d (aside_of y.0 q (cause.Spent w)) l y.1 x.1)
one_ending a o d (ending.PiecesSpent m l) (ending.PiecesSpent n k) h x y = ap (λ r. ending.PiecesSpent r l) (x.0 ∙ sym y.0) ∙ ap (λ r. ending.PiecesSpent n r) (out_same a o d l k x.1 y.1)
one_ending a o d (ending.PiecesSpent m l) ending.NoMemory h x y = absurd y
one_ending a o d ending.NoMemory y h x w = absurd x
