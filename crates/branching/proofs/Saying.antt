-- The text of a verdict with its certificate.
use Rattle.std.proofs.Common.{ℕ, ◌<◌, ◌^◌, ◌≡◌, Bool, List}
use Rattle.std.specs.Prelude.{Result, Ok, Err, IfOk, length}
use Rattle.lpcc_case.specs.Instance.{Instance}
use Rattle.lpcc_case.specs.declared.verdict.Verdict.{Verdict}
use Rattle.cert_text.specs.Certs.{KeepsForm, lines_of}
use Rattle.cert_text.specs.declared.cert.Cert.{Cert}
use Rattle.cert_check.specs.Acceptance.{Accepts}
use Rattle.branching.specs.Branching.{SaysShown}
use Rattle.branching.specs.Texts.{verdict_text}

pub says_ok : {X E : Type 0} (items : X → List ℕ) (r : Result X E) (a : Instance) (nodes : ℕ) (brief : Bool) (IsIts : Cert → Verdict → Type 0) (cert : Cert) (v : Verdict) → IsIts cert v → KeepsForm cert → Accepts a cert v → length (lines_of cert) < 2 ^ 64 → IfOk r (λ t. items t ≡ verdict_text v nodes brief cert) → IfOk r (λ t. SaysShown a nodes brief IsIts (items t))
says_ok items (Ok text) a nodes brief IsIts cert v its form accepted few is = record {
  cert = cert;
  verdict = v;
  its = its;
  shown = record { form = form; accepted = accepted; few = few };
  text_is = is;
}
says_ok items (Err e) a nodes brief IsIts cert v its form accepted few is = is
