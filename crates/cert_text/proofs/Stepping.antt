-- One line read behind others.
use Rattle.std.proofs.Common.{◌≡◌, ℕ, ◌+◌, Bool, true, false, cond, List, [], ◌∷◌, get_or, Ok, Err, refl, sym, ap, subst, ◌∙◌, inl, inr}
use Rattle.std.specs.Prelude.{All, bytes_eq, codes}
use Rattle.std.proofs.lemmas.Slice.Eq.{bytes_eq-Decides}
use Rattle.std.proofs.lemmas.List.Splits.{join_with_byte-slice_split}
use Rattle.cert_text.specs.declared.read.Kind.{Kind}
use Rattle.cert_text.specs.declared.read.Kind.TheVariants.{Optimal, Infeasible, Unbounded}
use Rattle.cert_text.specs.declared.fault.CertWhy.TheVariants.{BadHead, BadLine, AfterEnd}
use Rattle.cert_text.specs.Spelling.{Word, line_bytes}
use Rattle.cert_text.specs.Faults.{words, is_last}
use Rattle.cert_text.specs.Reading.{kind_at, ◌>>=◌, Reading}
use Rattle.cert_text.specs.Steps.{Found, Left, behind, at, first_of, whole_line, line_as, head_of, head_step, kind_step, over_of, behind_end}
use Rattle.cert_text.proofs.Results.{same_ok, bind_ok, unless_test, by_test, either}
use Rattle.cert_text.proofs.Numbers.{IsPlain}
use Rattle.cert_text.proofs.Joined.{words_joined}

abbrev pub head_line : List ℕ
head_line = codes "lpcc-certificate 1"

abbrev pub kind_line : Kind → List ℕ
kind_line Optimal = codes "optimal"
kind_line Infeasible = codes "infeasible"
kind_line Unbounded = codes "unbounded"

-- the next line as g reads it
abbrev pub step : {X : Type 0} → (List ℕ → Reading X) → Left → Found (X × Left)
step g left = whole_line left >>= λ line. at line.1.taken (g line.0) >>= λ x. Ok (x, line.1)

pub line_step : {X : Type 0} (f : List Word → Reading X) (left : Left) → line_as f left ≡ step (λ l. f (words l)) left
unfolding line_as
line_step f left = refl

pub kind_steps : (left : Left) → kind_step left ≡ step kind_at left
unfolding kind_step
kind_steps left = refl

-- what was read on a line that is taken
pub record Stepped {X : Type 0} (g : List ℕ → Reading X) (left : Left) (x : X) (next : Left) : Type 0 where
  pub line : List ℕ
  pub lines : left.lines ≡ line ∷ next.lines
  pub next_is : next ≡ behind left next.lines
  pub read : g line ≡ Ok x

at_ok : {X : Type 0} (n : ℕ) (r : Reading X) (x : X) → at n r ≡ Ok x → r ≡ Ok x
at_ok n (Ok y) x e = ap (λ z. Ok z) (same_ok y x e)
at_ok n (Err why) x e = absurd cc

abbrev SteppedBy : {X : Type 0} → (List ℕ → Reading X) → Left → List (List ℕ) → X × Left → Type 0
SteppedBy g left ls y = (l : List ℕ) × (ls ≡ l ∷ y.1.lines) × (y.1 ≡ behind left y.1.lines) × (g l ≡ Ok y.0)

stepped_by : {X : Type 0} (g : List ℕ → Reading X) (left : Left) (ls : List (List ℕ)) (y : X × Left)
    → (first_of left ls >>= λ line. at line.1.taken (g line.0) >>= λ x. Ok (x, line.1)) ≡ Ok y → SteppedBy g left ls y
stepped_by g left [] y e = absurd cc
stepped_by g left (l ∷ ls) y e =
    let a = bind_ok (at (left.taken + 1) (g l)) (λ x. Ok (x, behind left ls)) y e in
    subst (SteppedBy g left (l ∷ ls)) {x = (a.0, behind left ls)} (same_ok (a.0, behind left ls) y a.2) (l, refl, refl, at_ok (left.taken + 1) (g l) a.0 a.1)

pub stepped : {X : Type 0} (g : List ℕ → Reading X) (left : Left) (y : X × Left) → step g left ≡ Ok y → Stepped g left y.0 y.1
unfolding whole_line
stepped g left y e = let s = stepped_by g left left.lines y e in record { line = s.0; lines = s.1; next_is = s.2; read = s.3 }

pub line_stepped : {X : Type 0} (f : List Word → Reading X) (left : Left) (y : X × Left) → line_as f left ≡ Ok y → Stepped (λ l. f (words l)) left y.0 y.1
line_stepped f left y e = stepped (λ l. f (words l)) left y (sym (line_step f left) ∙ e)

pub kind_stepped : (left : Left) (y : Kind × Left) → kind_step left ≡ Ok y → Stepped kind_at left y.0 y.1
kind_stepped left y e = stepped kind_at left y (sym (kind_steps left) ∙ e)

-- a line is its words, one space between them
pub line_of_words : (l : List ℕ) (ws : List Word) → words l ≡ ws → l ≡ line_bytes ws
line_of_words l ws e = sym (join_with_byte-slice_split 32 l) ∙ ap line_bytes e

pub last_by : (l : List ℕ) (first : Word) (ws : List Word) (t : Bool) → words l ≡ first ∷ ws → bytes_eq first (codes "end") ≡ t → is_last l ≡ t
last_by l first ws t e h = ap (λ (vs : List Word). bytes_eq (get_or vs 0 []) (codes "end")) e ∙ h

-- ---- the first line, and the kind

abbrev HeadBy : Left → List (List ℕ) → Left → Type 0
HeadBy left ls next = (ls ≡ head_line ∷ next.lines) × (next ≡ behind left next.lines)

head_by : (left : Left) (ls : List (List ℕ)) (next : Left) → head_of left ls ≡ Ok next → HeadBy left ls next
head_by left [] next e = absurd cc
head_by left (l ∷ ls) next e =
    let g = by_test (bytes_eq l head_line) (behind left ls) (left.taken + 1, BadHead) next e in
    subst (HeadBy left (l ∷ ls)) {x = behind left ls} g.1 (ap (λ (x : List ℕ). x ∷ ls) ((bytes_eq-Decides l head_line).0 g.0), refl)

pub head_takes : (left next : Left) → head_step left ≡ Ok next → (left.lines ≡ head_line ∷ next.lines) × (next ≡ behind left next.lines)
unfolding head_step
head_takes left next e = head_by left left.lines next e

kind_is : (kind : Kind) (l : List ℕ) (k : Kind) → bytes_eq l (kind_line kind) ≡ true → kind ≡ k → l ≡ kind_line k
kind_is kind l k t e = (bytes_eq-Decides l (kind_line kind)).0 t ∙ ap kind_line e

pub kind_takes : (l : List ℕ) (k : Kind) → kind_at l ≡ Ok k → l ≡ kind_line k
unfolding kind_at
kind_takes l k e = elim (either (bytes_eq l (codes "optimal")) (Ok Optimal) (cond (bytes_eq l (codes "infeasible")) (Ok Infeasible) (cond (bytes_eq l (codes "unbounded")) (Ok Unbounded) (Err BadLine))) (Ok k) e) [
  | inl optimal ↦ kind_is Optimal l k optimal.0 (same_ok Optimal k optimal.1)
  | inr other ↦ elim (either (bytes_eq l (codes "infeasible")) (Ok Infeasible) (cond (bytes_eq l (codes "unbounded")) (Ok Unbounded) (Err BadLine)) (Ok k) other.1) [
    | inl infeasible ↦ kind_is Infeasible l k infeasible.0 (same_ok Infeasible k infeasible.1)
    | inr last ↦ let g = by_test (bytes_eq l (codes "unbounded")) Unbounded BadLine k last.1 in kind_is Unbounded l k g.0 g.1
  ]
]

-- ---- nothing behind the last line

over_by : (left : Left) (ls : List (List ℕ)) (next : Left) → over_of left ls ≡ Ok next → (ls ≡ []) × (left.cut ≡ false)
over_by left [] next e = (refl, (unless_test left.cut (Ok left) (left.taken + 1, AfterEnd) next e).0)
over_by left (l ∷ ls) next e = absurd cc

pub over_takes : (left next : Left) → behind_end left ≡ Ok next → (left.lines ≡ []) × (left.cut ≡ false)
unfolding behind_end
over_takes left next e = over_by left left.lines next e

-- ---- lines that are read again, where nothing is cut

abbrev pub left_of : ℕ → List (List ℕ) → Left
left_of t ls = record { taken = t; lines = ls; cut = false }

pub step_again : {X : Type 0} (g : List ℕ → Reading X) (t : ℕ) (l : List ℕ) (ls : List (List ℕ)) (x : X) → g l ≡ Ok x → step g (left_of t (l ∷ ls)) ≡ Ok (x, left_of (t + 1) ls)
unfolding whole_line
step_again g t l ls x e = ap (λ (r : Reading _). at (t + 1) r >>= λ y. Ok (y, left_of (t + 1) ls)) e

pub line_as_again : {X : Type 0} (f : List Word → Reading X) (t : ℕ) (w : Word) (ws : List Word) (ls : List (List ℕ)) (x : X) → All IsPlain (w ∷ ws) → f (w ∷ ws) ≡ Ok x
    → line_as f (left_of t (line_bytes (w ∷ ws) ∷ ls)) ≡ Ok (x, left_of (t + 1) ls)
line_as_again f t w ws ls x plain e =
    line_step f (left_of t (line_bytes (w ∷ ws) ∷ ls)) ∙ step_again (λ l. f (words l)) t (line_bytes (w ∷ ws)) ls x (ap f (words_joined w ws plain) ∙ e)
