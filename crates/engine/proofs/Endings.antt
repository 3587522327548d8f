-- What the ending of a record says.
use Rattle.std.proofs.Common.{inl, inr, ℕ, ◌≡◌, sym, ◌∙◌, subst, List, length}
use Rattle.std.specs.Prelude.{◌⊎◌, Some, None, Option}
use Rattle.nogoods.specs.declared.choice.Side.{Side}
use Rattle.lpcc_case.specs.Instance.{Instance}
use Rattle.lpcc_case.specs.Verdicts.{IsTrueOf}
use Rattle.lpcc_case.specs.Values.{IsValue}
use Rattle.lpcc_case.specs.declared.verdict.Verdict.{Verdict}
use Rattle.lpcc_case.specs.declared.verdict.Verdict.TheVariants as verdict
use Rattle.cert_text.specs.declared.cert.Cert.{Cert}
use Rattle.cert_text.specs.declared.cert.Cert.TheVariants as cert
use Rattle.cert_text.specs.declared.cert.CertPoint.{CertPoint}
use Rattle.cert_check.specs.Acceptance.{Accepts, Claims}
use Rattle.cert_check.proofs.Truth.{accepted_true}
use Rattle.play.specs.declared.event.Event.{Event}
use Rattle.play.specs.declared.event.Options.{Options}
use Rattle.play.specs.declared.event.VerdictKind.{VerdictKind}
use Rattle.play.specs.declared.event.VerdictKind.TheVariants as kind
use Rattle.play.specs.declared.ending.Ending.{Ending}
use Rattle.play.specs.declared.ending.Ending.TheVariants as ending
use Rattle.play.specs.Parts.{Part}
use Rattle.play.specs.Steps.{drawn_in}
use Rattle.play.specs.Truth.{AreDistinct, Says}
use Rattle.play.specs.Certificates.{IsCertOf}
use Rattle.play.specs.Endings.{IsEnding}
use Rattle.play.proofs.Draws.{carried_standing, pieces_last}
use Rattle.play.proofs.CertLaws.{cert_accepted}
use Rattle.play.proofs.TrimLaws.{cert_backed}
use Rattle.desk_part.specs.DeskParts.{IsEndingOf}
use Rattle.engine.specs.Solved.{IsSolved, PiecesLast}

-- what the certificate claims is what was concluded
says_of : (a : Instance) (d : Part) (v : VerdictKind) (c : Cert) (w : Verdict) → IsCertOf d v c → Claims a c w → Says a d v w
says_of a d kind.Optimal (cert.Optimal p z l) (verdict.Optimal value) x claims =
    let P : CertPoint → Rattle.std.specs.Prelude.ℤ → Type 0 = λ r y. IsValue a y r.d value in
    (x.0, x.1, subst (λ r. P r x.0.z) x.2 (subst (λ y. P p y) x.3 claims))
says_of a d kind.Optimal (cert.Optimal p z l) verdict.Infeasible x claims = claims
says_of a d kind.Optimal (cert.Optimal p z l) verdict.Unbounded x claims = claims
says_of a d kind.Optimal (cert.Infeasible l) w x claims = absurd x
says_of a d kind.Optimal (cert.Unbounded s p r) w x claims = absurd x
says_of a d kind.Infeasible (cert.Optimal p z l) w x claims = absurd x
says_of a d kind.Infeasible (cert.Infeasible l) (verdict.Optimal value) x claims = claims
says_of a d kind.Infeasible (cert.Infeasible l) verdict.Infeasible x claims = tt
says_of a d kind.Infeasible (cert.Infeasible l) verdict.Unbounded x claims = claims
says_of a d kind.Infeasible (cert.Unbounded s p r) w x claims = absurd x
says_of a d kind.Unbounded (cert.Optimal p z l) w x claims = absurd x
says_of a d kind.Unbounded (cert.Infeasible l) w x claims = absurd x
says_of a d kind.Unbounded (cert.Unbounded s p r) (verdict.Optimal value) x claims = claims
says_of a d kind.Unbounded (cert.Unbounded s p r) verdict.Infeasible x claims = claims
says_of a d kind.Unbounded (cert.Unbounded s p r) verdict.Unbounded x claims = tt

pub ending_accepted : (a : Instance) (o : Options) (xs : List Event) (c : Cert) (n : ℕ) (w : Verdict) → IsEndingOf a o xs (ending.Verdict c n) → Claims a c w → Accepts a c w
ending_accepted a o xs c n w e claims =
    let h = (carried_standing a o xs e.part e.carries).truth in
    cert_accepted a (drawn_in xs) e.part e.row.0 c w h (cert_backed a (drawn_in xs) e.part e.row.0 c h e.row.2) (says_of a e.part e.row.0 c w e.row.2 claims)

pub ending_true : (a : Instance) (o : Options) (xs : List Event) (c : Cert) (n : ℕ) (w : Verdict) → IsEndingOf a o xs (ending.Verdict c n) → Claims a c w → IsTrueOf a w
ending_true a o xs c n w e claims = accepted_true a c w (ending_accepted a o xs c n w e claims)

pub ending_number : (a : Instance) (o : Options) (xs : List Event) (c : Cert) (n : ℕ) → IsEndingOf a o xs (ending.Verdict c n) → n ≡ length (drawn_in xs)
ending_number a o xs c n e = e.row.3 ∙ (carried_standing a o xs e.part e.carries).count

pub ending_distinct : (a : Instance) (o : Options) (xs : List Event) (e : Ending) → IsEndingOf a o xs e → AreDistinct (drawn_in xs)
ending_distinct a o xs end e = (carried_standing a o xs e.part e.carries).distinct

never : {n : ℕ} {left : List Side} → ending.NoMemory ≡ ending.PiecesSpent n left → ⊥
never e = cc

pub solved_pieces : (a : Instance) (o : Options) (e : Ending) → IsSolved a o e → PiecesLast a o e
solved_pieces a o e (inl none) enough n left is = never (sym none ∙ is)
solved_pieces a o e (inr found) enough n left is =
    let x = found.1 in
    let row : IsEnding a o x.part (ending.PiecesSpent n left) = subst (IsEnding a o x.part) is x.row in
    pieces_last a o (drawn_in found.0) x.part left (carried_standing a o found.0 x.part x.carries) (row.1.idle.unconcluded, x.settled row.1.idle.unconcluded) enough row.1
