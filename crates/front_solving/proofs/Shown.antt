-- From an ending of the solver to what is written of it.
use Rattle.std.proofs.Common.{ℕ, ◌≡◌, ◌∙◌, refl, sym, subst, arith, List, Option, inl, inr, ℤ}
use Rattle.std.specs.Prelude.{◌⊎◌, Ok, Err}
use Rattle.command.specs.Answers.{IsWritten}
use Rattle.lp_nums.specs.Fractions.{Fraction}
use Rattle.lpcc_case.specs.Instance.{Instance}
use Rattle.lpcc_case.specs.Points.{IsComplementary, Point}
use Rattle.lpcc_case.specs.Values.{IsValue}
use Rattle.lpcc_case.specs.declared.verdict.Verdict.{Verdict}
use Rattle.lpcc_case.specs.declared.verdict.Verdict.TheVariants as verdict
use Rattle.cert_text.specs.declared.cert.Cert.{Cert}
use Rattle.cert_text.specs.declared.cert.Cert.TheVariants.{Optimal, Infeasible, Unbounded}
use Rattle.cert_text.specs.declared.cert.CertLine.{CertLine}
use Rattle.cert_text.specs.declared.cert.CertPoint.{CertPoint}
use Rattle.cert_check.specs.Acceptance.{Accepts, Claims, GivesMet}
use Rattle.cert_check.proofs.PointLines.{point_given}
use Rattle.play.specs.declared.ending.Ending.{Ending}
use Rattle.play.specs.declared.ending.Ending.TheVariants as ending
use Rattle.play.specs.declared.event.Options.{Options}
use Rattle.engine.specs.Solved.{IsShown, IsSolved, PiecesLast, PivotsLast, VerdictsAreShown}
use Rattle.report.specs.Endings.{CanBeWritten, status_of}
use Rattle.fronting.specs.Refusals as refusals
use Rattle.fronting.specs.Runs.{IsWrittenFor}
use Rattle.fronting.specs.declared.refusal.FrontRefusal.TheVariants.{NoMemory}
use Rattle.front_solving.specs.Solving.{IsEndingGiven, IsGiven, SaysEnding}
use Rattle.front_solving.specs.Texts.{IsEndingText}

-- ---- what an accepted certificate gives

given : (a : Instance) (point : CertPoint) (z : ℤ) (lines : List CertLine) → ((w : Verdict) → Claims a (Optimal point z lines) w → Accepts a (Optimal point z lines) w) → (value : Fraction) → IsValue a z point.d value → (p : Point a.columns) × GivesMet a point p
given a point z lines accepted value is =
    let passes = (accepted (verdict.Optimal value) is).passes in
    let found = point_given a (IsComplementary a) point (λ why fails. passes 3 why (inl (refl, fails))) in
    (found.0, found.1)

is_given : (a : Instance) (o : Options) (cert : Cert) (drawn : ℕ) → IsShown a o cert drawn → IsGiven a cert
is_given a o (Optimal point z lines) drawn h = (h.form.0, h.form.1, given a point z lines h.accepted)
is_given a o (Infeasible lines) drawn h = tt
is_given a o (Unbounded piece point ray) drawn h = tt

pub ending_given : (a : Instance) (o : Options) (end : Ending) → VerdictsAreShown a o end → IsEndingGiven a end
ending_given a o (ending.Verdict cert drawn) h = is_given a o cert drawn (h cert drawn refl)
ending_given a o (ending.Overflow piece at) h = tt
ending_given a o (ending.PivotsSpent piece at) h = tt
ending_given a o (ending.PiecesSpent drawn left) h = tt
ending_given a o ending.NoMemory h = tt

pub can_be_written : (a : Instance) (o : Options) (end : Ending) → VerdictsAreShown a o end → CanBeWritten end
can_be_written a o (ending.Verdict cert drawn) h = (h cert drawn refl).form
can_be_written a o (ending.Overflow piece at) h = tt
can_be_written a o (ending.PivotsSpent piece at) h = tt
can_be_written a o (ending.PiecesSpent drawn left) h = tt
can_be_written a o ending.NoMemory h = tt

-- ---- what is written

-- how a run over a case ended, with the text of that
pub record Ended (IsText : Instance → Cert → List ℕ → Type 0) (o : Options) (end : Ending) (text : List ℕ) (a : Instance) : Type 0 where
  pub solved : IsSolved a o end
  pub shown : VerdictsAreShown a o end
  pub pieces : PiecesLast a o end
  pub pivots : PivotsLast a o end
  pub text_is : IsEndingText (IsText a) a end text

by_ending : {P : Type 0} (Says : P → List ℕ → ℕ → Type 0) (p : P) (IsText : Instance → Cert → List ℕ → Type 0) (a : Instance) (o : Options) (end : Ending) (text : List ℕ) (tb tn : Option (List ℕ)) (wb wn status : ℕ)
    → ((t : List ℕ) (meant : ℕ) → SaysEnding (IsText a) o a t meant → Says p t meant) → IsSolved a o end → Ended IsText o end text a → IsWritten tb tn wb wn text (status_of end) status
    → IsWrittenFor Says (Ok p) tb tn wb wn status ⊎ IsWrittenFor Says (Err NoMemory) tb tn wb wn status
by_ending Says p IsText a o end text tb tn wb wn status says (inl short) h w =
    let none : text ≡ refusals.text_of NoMemory = subst (λ (x : Ending). IsEndingText (IsText a) a x text) short h.text_is in
    inr (subst (λ (t : List ℕ). IsWritten tb tn wb wn t 6 status) none (subst (λ (x : Ending). IsWritten tb tn wb wn text (status_of x) status) short w))
by_ending Says p IsText a o end text tb tn wb wn status says (inr found) h w =
    inl (text, status_of end, says text (status_of end) (record { end = end; of_record = found; shown = h.shown; pieces = h.pieces; pivots = h.pivots; text_is = h.text_is; status_is = refl }), w)

-- the ending of a record over this case was written, or that memory ran out
pub written_ending : {P : Type 0} (Says : P → List ℕ → ℕ → Type 0) (p : P) (IsText : Instance → Cert → List ℕ → Type 0) (made a : Instance) (o : Options) (end : Ending) (text : List ℕ) (tb tn : Option (List ℕ)) (wb wn status : ℕ)
    → ((t : List ℕ) (meant : ℕ) → SaysEnding (IsText a) o a t meant → Says p t meant) → made ≡ a → Ended IsText o end text made → (bytes : List ℕ) (meant : ℕ) → bytes ≡ text → meant ≡ status_of end → IsWritten tb tn wb wn bytes meant status
    → IsWrittenFor Says (Ok p) tb tn wb wn status ⊎ IsWrittenFor Says (Err NoMemory) tb tn wb wn status
written_ending Says p IsText made a o end text tb tn wb wn status says same ended bytes meant eb em w =
    let h = subst (λ (x : Instance). Ended IsText o end text x) same ended in
    by_ending Says p IsText a o end text tb tn wb wn status says h.solved h
    (subst (λ (t : List ℕ). IsWritten tb tn wb wn t (status_of end) status) eb (subst (λ (n : ℕ). IsWritten tb tn wb wn bytes n status) em w))

-- ---- status 0

pub zero_is_verdict : (end : Ending) → 0 ≡ status_of end → (cert : Cert) × (drawn : ℕ) × (end ≡ ending.Verdict cert drawn)
zero_is_verdict (ending.Verdict cert drawn) e = (cert, drawn, refl)
zero_is_verdict (ending.Overflow piece at) e = absurd (omega arith)
zero_is_verdict (ending.PivotsSpent piece at) e = absurd (omega arith)
zero_is_verdict (ending.PiecesSpent drawn left) e = absurd (omega arith)
zero_is_verdict ending.NoMemory e = absurd (omega arith)

-- the certificate that was found, and what was written of it
pub record Verdicts (IsVerdictText : Cert → List ℕ → Type 0) (o : Options) (a : Instance) (text : List ℕ) : Type 0 where
  pub cert : Cert
  pub drawn : ℕ
  pub shown : IsShown a o cert drawn
  pub text_is : IsVerdictText cert text

pub verdict_of : (IsVerdictText : Cert → List ℕ → Type 0) (o : Options) (a : Instance) (text : List ℕ) (meant : ℕ) → SaysEnding IsVerdictText o a text meant → meant ≡ 0 → Verdicts IsVerdictText o a text
verdict_of IsVerdictText o a text meant says zero =
    let found = zero_is_verdict says.end (sym zero ∙ says.status_is) in
    record {
      cert = found.0;
      drawn = found.1;
      shown = says.shown found.0 found.1 found.2;
      text_is = subst (λ (x : Ending). IsEndingText IsVerdictText a x text) found.2 says.text_is;
    }
