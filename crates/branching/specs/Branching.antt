-- What a run of the command says of a case, and what its verdict means.
use Rattle.std.specs.Prelude.{◌≡◌, ◌<◌, ◌≤◌, ◌+◌, ◌^◌, ℕ, Bool, List, Option, length}
use Rattle.std.specs.Io.KnownBytes.{Appends}
use Rattle.nogoods.specs.declared.choice.Choice.{Choice}
use Rattle.nogoods.specs.declared.choice.Side.{Side}
use Rattle.lpcc_case.specs.Instance.{Instance}
use Rattle.lpcc_case.specs.declared.verdict.Verdict.{Verdict}
use Rattle.lpcc_case.specs.declared.verdict.Verdict.TheVariants as verdict
use Rattle.cuts.specs.declared.reason.WideAt.{WideAt}
use Rattle.orders.specs.Counts.{choose}
use Rattle.walks.specs.Ends.{IsWideAt}
use Rattle.cert_text.specs.Certs.{KeepsForm, lines_of}
use Rattle.cert_text.specs.declared.cert.Cert.{Cert}
use Rattle.cert_check.specs.Acceptance.{Accepts}
use Rattle.cert2_text.specs.Spelling2.{spelling2}
use Rattle.cert2_text.specs.Texts2 as certificate_texts
use Rattle.cert2_text.specs.declared.cert2.AnyCert.TheVariants as either
use Rattle.cert2_check.specs.Acceptance2.{AcceptsAny}
use Rattle.migrating.specs.Migration.{migrated}
use Rattle.report.specs.Endings.{overflow_text, pivots_text}
use Rattle.command.specs.Inputs.{IsTrueOfBytes, SpellsAlone}
use Rattle.tree_engine.specs.Answers.{HasNodes, IsBranch, IsWholeTree}
use Rattle.tree_engine.specs.Bests.{IsVerdictOf}
use Rattle.tree_engine.specs.Paths.{ArePieceChoices}
use Rattle.tree_engine.specs.declared.answer.Branch.{Branch}
use Rattle.tree_engine.specs.declared.answer.Branch.TheVariants.{Closed, Unbounded, Overflow, PivotsSpent, NodesSpent}
use Rattle.tree_engine.specs.declared.answer.BranchOptions.{BranchOptions}
use Rattle.tree_certs.specs.Certs.{IsTreeCert, direction_cert}
use Rattle.branching.specs.Texts.{nodes_text, status_of, verdict_text}

-- the certificate keeps the rules of its form, is accepted with the verdict, and the count of its lines can be written
pub record IsShown (a : Instance) (cert : Cert) (v : Verdict) : Type 0 where
  pub form : KeepsForm cert
  pub accepted : Accepts a cert v
  pub few : length (lines_of cert) < 2 ^ 64

-- that the text says the verdict with this certificate
pub record SaysShown (a : Instance) (nodes : ℕ) (brief : Bool) (IsIts : Cert → Verdict → Type 0) (text : List ℕ) : Type 0 where
  pub cert : Cert
  pub verdict : Verdict
  pub its : IsIts cert verdict
  pub shown : IsShown a cert verdict
  pub text_is : text ≡ verdict_text verdict nodes brief cert

-- the text of an answer: a verdict with the certificate of its tree, or of its point and ray, or what happened
abbrev pub IsTextOf : Instance → Bool → Branch → List ℕ → Type 0
IsTextOf a brief (Closed best tree nodes) text = SaysShown a nodes brief (λ cert v. IsTreeCert best tree cert × IsVerdictOf a best v) text
IsTextOf a brief (Unbounded piece point ray nodes) text = SaysShown a nodes brief (λ cert v. (cert ≡ direction_cert piece point ray) × (v ≡ verdict.Unbounded)) text
IsTextOf a brief (Overflow piece at run) text = text ≡ overflow_text piece at
IsTextOf a brief (PivotsSpent piece at run) text = text ≡ pivots_text piece at
IsTextOf a brief (NodesSpent nodes left run) text = text ≡ nodes_text nodes left

-- in a stage as many pivots are allowed as there are choices of the columns among columns and constraints
abbrev pub IsWholeStage : Instance → BranchOptions → Type 0
IsWholeStage a o = choose (a.columns + length a.constraints) a.columns ≤ o.pivots

-- the pivots of a stage are not spent
abbrev pub HasPivots : Branch → Type 0
HasPivots (Closed best tree nodes) = Unit {0}
HasPivots (Unbounded piece point ray nodes) = Unit {0}
HasPivots (Overflow piece at run) = Unit {0}
HasPivots (PivotsSpent piece at run) = ⊥
HasPivots (NodesSpent nodes left run) = Unit {0}

-- the text and the status of an answer of a search over the case
pub record Says (o : BranchOptions) (brief : Bool) (a : Instance) (text : List ℕ) (status : ℕ) : Type 0 where
  pub answer : Branch
  pub is_answer : IsBranch a o answer
  pub enough : IsWholeTree a o → HasNodes answer
  pub pivots : IsWholeStage a o → HasPivots answer
  pub text_is : IsTextOf a brief answer text
  pub status_is : status ≡ status_of answer

-- What status 0 says: the verdict is true of the deck, and its text is what was written, with a certificate in form 2 that
-- is accepted with this verdict, unless it was to be brief.
pub record SaysVerdict (bytes : List ℕ) (brief : Bool) (taken_before taken_now : Option (List ℕ)) : Type 0 where
  pub verdict : Verdict
  pub is_true : IsTrueOfBytes bytes verdict
  pub a : Instance
  pub spelled : SpellsAlone bytes a
  pub cert : Cert
  pub accepted : AcceptsAny a (either.Two (migrated cert)) verdict
  pub certificate : certificate_texts.SpellsAny (spelling2 (migrated cert)) (either.Two (migrated cert))
  pub nodes : ℕ
  pub written : Appends taken_before taken_now (verdict_text verdict nodes brief cert)

-- as many nodes as a tree over all pairs has, and as many pivots as a stage may need
abbrev pub AreEnough : Instance → BranchOptions → Type 0
AreEnough a o = IsWholeTree a o × IsWholeStage a o

-- no walk of a piece has a next step to a wide dictionary
abbrev pub NoneIsWide : Instance → Type 0
NoneIsWide a = (piece : List Side) (choices : List Choice) (at : WideAt) → ArePieceChoices a piece choices → IsWideAt a choices at → ⊥
