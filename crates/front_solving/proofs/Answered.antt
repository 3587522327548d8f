-- What status 0 says of a run.
use Rattle.std.proofs.Common.{ℕ, ◌≡◌, ◌+◌, List, Option, Some}
use Rattle.play.specs.declared.event.Options.{Options}
use Rattle.front_text.specs.Texts.{FailsAsBilevel, FailsAsLcp, SpellsBilevel, SpellsLcp}
use Rattle.fronting.specs.Runs.{IsBilevelRun, IsLcpRun}
use Rattle.fronting.proofs.FrontRuns.{told}
use Rattle.front_solving.specs.Solving.{IsBilevelAnswered, IsLcpAnswered, SaysOfBilevel, SaysOfLcp, bilevel_case, lcp_case}
use Rattle.front_solving.specs.Texts.{IsBilevelText, IsLcpText}
use Rattle.front_solving.proofs.Shown.{verdict_of}
use Rattle.front_solving.proofs.Meaning.{BilevelLaws, LcpLaws, bilevel_answered, lcp_answered}

pub lcp_status : LcpLaws → (o : Options) (left : Option (List ℕ)) (rb rn : ℕ) (tb tn : Option (List ℕ)) (wb wn status : ℕ) (bytes : List ℕ) → IsLcpRun (SaysOfLcp o) left rb rn tb tn wb wn status → left ≡ Some bytes → status ≡ 0 → IsLcpAnswered bytes tb tn
lcp_status l o left rb rn tb tn wb wn status bytes run is zero =
    let t = told SpellsLcp FailsAsLcp (SaysOfLcp o) left rb rn tb tn wb wn status bytes run is zero in
    let v = verdict_of (IsLcpText t.p.size (lcp_case t.p)) o (lcp_case t.p) t.text t.meant t.says t.zero in
    (t.p, t.spelled, lcp_answered l t.p t.spelled.rules o v.cert v.drawn t.text tb tn v.shown v.text_is t.written)

pub bilevel_status : BilevelLaws → (o : Options) (left : Option (List ℕ)) (rb rn : ℕ) (tb tn : Option (List ℕ)) (wb wn status : ℕ) (bytes : List ℕ) → IsBilevelRun (SaysOfBilevel o) left rb rn tb tn wb wn status → left ≡ Some bytes → status ≡ 0 → IsBilevelAnswered bytes tb tn
bilevel_status l o left rb rn tb tn wb wn status bytes run is zero =
    let t = told SpellsBilevel FailsAsBilevel (SaysOfBilevel o) left rb rn tb tn wb wn status bytes run is zero in
    let v = verdict_of (IsBilevelText (t.p.nx + t.p.ny) (bilevel_case t.p)) o (bilevel_case t.p) t.text t.meant t.says t.zero in
    (t.p, t.spelled, bilevel_answered l t.p t.spelled.rules o v.cert v.drawn t.text tb tn v.shown v.text_is t.written)
