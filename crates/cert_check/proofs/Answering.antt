-- An answer that is right is the one answer that is.
use Rattle.std.proofs.Common.{ℕ, pos, ◌≤ℤ◌, Ok, Err, Result}
use Rattle.std.specs.Prelude.{IfOk, IfErr}
use Rattle.lpcc_case.specs.Instance.{Instance}
use Rattle.lpcc_case.specs.Verdicts.{IsTrueOf}
use Rattle.lpcc_case.specs.declared.verdict.Verdict.{Verdict}
use Rattle.cert_text.specs.declared.cert.Cert.{Cert}
use Rattle.cert_check.specs.declared.accept.NoWhy.{NoWhy}
use Rattle.cert_check.specs.declared.accept.CheckFault.{CheckFault}
use Rattle.cert_check.specs.declared.accept.CheckFault.TheVariants.{No, NoMemory}
use Rattle.lp_base.specs.Answers.{Gives, Refuses as IsRefused}
use Rattle.cert_check.specs.Acceptance.{Accepts, Refuses, RefusesAs, found_by}
use Rattle.cert_check.proofs.Truth.{accepted_true}
use Rattle.cert_check.proofs.Single.{one_verdict, one_refusal, not_both}

pub gives_verdict : (a : Instance) (cert : Cert) (r : Result Verdict CheckFault) (v : Verdict) → pos 1 ≤ℤ a.scale → IfOk r (Accepts a cert) → IfErr r (RefusesAs a cert) → Accepts a cert v → Gives found_by v r
gives_verdict a cert (Ok found) v scale accepted refused h = one_verdict a cert found v scale accepted h
gives_verdict a cert (Err (No line why)) v scale accepted refused h = absurd (not_both a cert v line why h refused)
gives_verdict a cert (Err (NoMemory error)) v scale accepted refused h = tt

pub gives_refusal : (a : Instance) (cert : Cert) (r : Result Verdict CheckFault) (line : ℕ) (why : NoWhy) → IfOk r (Accepts a cert) → IfErr r (RefusesAs a cert) → Refuses a cert line why → IsRefused found_by (line, why) r
gives_refusal a cert (Ok found) line why accepted refused h = absurd (not_both a cert found line why accepted h)
gives_refusal a cert (Err (No n w)) line why accepted refused h = let same = one_refusal a cert n line w why refused h in (λ i. (same.0 i, same.1 i))
gives_refusal a cert (Err (NoMemory error)) line why accepted refused h = tt

pub gives_truth : (a : Instance) (cert : Cert) (r : Result Verdict CheckFault) → IfOk r (Accepts a cert) → IfOk r (IsTrueOf a)
gives_truth a cert (Ok found) accepted = accepted_true a cert found accepted
gives_truth a cert (Err fault) accepted = tt
