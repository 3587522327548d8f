-- What a run of the command says.
use Rattle.std.proofs.Common.{ℕ, ◌<◌, ◌^◌, ◌≡◌, ◌∙◌, sym, ap, subst, arith, Bool, List, Option, Some}
use Rattle.std.specs.Prelude.{◌↔◌, Result, Ok, Err, IfOk}
use Rattle.std.specs.Io.KnownBytes.{Appends}
use Rattle.lpcc_case.specs.Instance.{Instance}
use Rattle.lpcc_case.specs.Cases.{IsCase}
use Rattle.lpcc_case.specs.Verdicts.{IsTrueOf}
use Rattle.lpcc_case.specs.declared.verdict.Verdict.{Verdict}
use Rattle.cert_text.specs.declared.cert.Cert.{Cert}
use Rattle.cert_check.proofs.Truth.{accepted_true}
use Rattle.cert2_text.proofs.Certificates2.{spelling_spells}
use Rattle.migrating.specs.Migration.{migrated}
use Rattle.migrating.proofs.Accepting.{accepted_alike}
use Rattle.migrating.proofs.Keeping.{counts_alike, keeps_form}
use Rattle.decks.specs.Decks.{IsDeck}
use Rattle.decks.specs.Texts.{Spells}
use Rattle.decks.specs.declared.deck.Deck as decks
use Rattle.deck_case.specs.DeckCases.{HasCase}
use Rattle.deck_case.specs.DeckVerdicts.{IsTrueOfDeck}
use Rattle.walks.proofs.Walks.{large_budget_is_not_spent}
use Rattle.command.specs.Inputs.{IsReadAlone, IsTrueOfBytes, SpellsAlone}
use Rattle.command.specs.Refusals as refusals
use Rattle.command.specs.Runs.{IsRun}
use Rattle.command.specs.declared.reading.TheConstants.{MOST_DECK_BYTES}
use Rattle.command.specs.declared.refusal.Refusal.{Refusal}
use Rattle.command.specs.declared.refusal.Refusal.TheVariants.{Deck, NoMemory, ReadFault, RowWide, TooLong, TooMany}
use Rattle.command.proofs.CaseRuns.{IsOther, Told, eight_is_other, told, zero_is_other}
use Rattle.tree_engine.specs.Answers.{HasNodes, IsBranch}
use Rattle.tree_engine.specs.declared.answer.Branch.{Branch}
use Rattle.tree_engine.specs.declared.answer.Branch.TheVariants.{Closed, Unbounded, Overflow, PivotsSpent, NodesSpent}
use Rattle.tree_engine.specs.declared.answer.BranchOptions.{BranchOptions}
use Rattle.branching.specs.Branching.{AreEnough, HasPivots, IsShown, IsTextOf, IsWholeStage, NoneIsWide, Says, SaysShown, SaysVerdict}
use Rattle.branching.specs.Texts.{status_of, verdict_text}

-- what the crates below promise of decks
pub record Laws : Type 0 where
  pub decks_keep : (text : List ℕ) (d : decks.Deck) (p : ℕ) → Spells text d p → IsDeck d
  pub same_truth : (d : decks.Deck) (a : Instance) (v : Verdict) → IsDeck d → HasCase d a → IsTrueOf a v ↔ IsTrueOfDeck d v

abbrev pub ReadOnce : Type 0
ReadOnce = (limit : ℕ) (bytes : List ℕ) (x y : Result Instance Refusal) → IsReadAlone limit bytes x → IsReadAlone limit bytes y → x ≡ y

-- ---- budgets

has_pivots : (a : Instance) (o : BranchOptions) (b : Branch) → IsCase a → IsWholeStage a o → IsBranch a o b → HasPivots b
has_pivots a o (Closed best tree nodes) kept whole h = tt
has_pivots a o (Unbounded piece point ray nodes) kept whole h = tt
has_pivots a o (Overflow piece at run) kept whole h = tt
has_pivots a o (PivotsSpent piece at run) kept whole h = large_budget_is_not_spent a h.choices at.stage o.pivots kept whole h.ends.reached
has_pivots a o (NodesSpent nodes left run) kept whole h = tt

pub pivots_last : {E : Type 0} (a : Instance) (o : BranchOptions) (r : Result Branch E) → IsCase a → IsWholeStage a o → IfOk r (IsBranch a o) → IfOk r HasPivots
pivots_last a o (Ok b) kept whole h = has_pivots a o b kept whole h
pivots_last a o (Err e) kept whole h = h

never_eight : (answer : Branch) → HasNodes answer → HasPivots answer → 8 ≡ status_of answer → ⊥
never_eight (Closed best tree nodes) n p e = omega arith
never_eight (Unbounded piece point ray nodes) n p e = omega arith
never_eight (Overflow piece at run) n p e = omega arith
never_eight (PivotsSpent piece at run) n p e = p
never_eight (NodesSpent nodes left run) n p e = n

never_seven : (a : Instance) (o : BranchOptions) (answer : Branch) → NoneIsWide a → IsBranch a o answer → 7 ≡ status_of answer → ⊥
never_seven a o (Closed best tree nodes) none h e = omega arith
never_seven a o (Unbounded piece point ray nodes) none h e = omega arith
never_seven a o (Overflow piece at run) none h e = none piece h.choices at h.are h.ends
never_seven a o (PivotsSpent piece at run) none h e = omega arith
never_seven a o (NodesSpent nodes left run) none h e = omega arith

seven_is_other : IsOther 7
seven_is_other = (λ five. omega arith, not_refused)
  where
    not_refused : (r : Refusal) → 7 ≡ refusals.status_of r → ⊥
    not_refused ReadFault e = omega arith
    not_refused TooLong e = omega arith
    not_refused (Deck line why) e = omega arith
    not_refused (RowWide line) e = omega arith
    not_refused (TooMany line) e = omega arith
    not_refused NoMemory e = omega arith

-- ---- verdicts

-- the verdict that a text says, with its certificate
record Shown (a : Instance) (brief : Bool) (text : List ℕ) : Type 0 where
  nodes : ℕ
  cert : Cert
  verdict : Verdict
  shown : IsShown a cert verdict
  text_is : text ≡ verdict_text verdict nodes brief cert

shown_by : (a : Instance) (nodes : ℕ) (brief : Bool) (IsIts : Cert → Verdict → Type 0) (text : List ℕ) → SaysShown a nodes brief IsIts text → Shown a brief text
shown_by a nodes brief IsIts text h = record { nodes = nodes; cert = h.cert; verdict = h.verdict; shown = h.shown; text_is = h.text_is }

zero_is_shown : (a : Instance) (brief : Bool) (answer : Branch) (text : List ℕ) → IsTextOf a brief answer text → status_of answer ≡ 0 → Shown a brief text
zero_is_shown a brief (Closed best tree nodes) text h e = shown_by a nodes brief _ text h
zero_is_shown a brief (Unbounded piece point ray nodes) text h e = shown_by a nodes brief _ text h
zero_is_shown a brief (Overflow piece at run) text h e = absurd (omega arith)
zero_is_shown a brief (PivotsSpent piece at run) text h e = absurd (omega arith)
zero_is_shown a brief (NodesSpent nodes left run) text h e = absurd (omega arith)

true_of_bytes : Laws → (bytes : List ℕ) (a : Instance) (v : Verdict) → SpellsAlone bytes a → IsTrueOf a v → IsTrueOfBytes bytes v
true_of_bytes l bytes a v spelled truth =
    let s = spelled.1 in
    record {
      deck = s.deck;
      place = s.place;
      spelled = s.spelled;
      is_true = (l.same_truth s.deck a v (l.decks_keep bytes s.deck s.place s.spelled) s.case).0 truth;
    }

verdict_said : Laws → (bytes : List ℕ) (brief : Bool) (tb tn : Option (List ℕ)) (a : Instance) (text : List ℕ) → SpellsAlone bytes a → Shown a brief text → Appends tb tn text → SaysVerdict bytes brief tb tn
verdict_said l bytes brief tb tn a text spelled s written = record {
  verdict = s.verdict;
  is_true = true_of_bytes l bytes a s.verdict spelled (accepted_true a s.cert s.verdict s.shown.accepted);
  a = a;
  spelled = spelled;
  cert = s.cert;
  accepted = (accepted_alike a s.cert s.verdict s.shown.form).0 s.shown.accepted;
  certificate = spelling_spells (migrated s.cert) (keeps_form s.cert s.shown.form s.shown.few) (subst (λ (k : ℕ). k < 2 ^ 64) (sym (counts_alike s.cert)) s.shown.few);
  nodes = s.nodes;
  written = subst (λ (x : List ℕ). Appends tb tn x) s.text_is written;
}

pub says_verdict : Laws → (o : BranchOptions) (brief : Bool) (left : Option (List ℕ)) (rb rn : ℕ) (tb tn : Option (List ℕ)) (wb wn status : ℕ) (bytes : List ℕ) → IsRun (Says o brief) left rb rn tb tn wb wn status → left ≡ Some bytes → status ≡ 0 → SaysVerdict bytes brief tb tn
says_verdict l o brief left rb rn tb tn wb wn status bytes run is zero =
    let t : Told (Says o brief) bytes tb tn 0 = told (Says o brief) left rb rn tb tn wb wn 0 bytes (subst (λ (n : ℕ). IsRun (Says o brief) left rb rn tb tn wb wn n) zero run) is zero_is_other in
    verdict_said l bytes brief tb tn t.a t.text t.cause.1 (zero_is_shown t.a brief t.says.answer t.text t.says.text_is (sym (t.status_is ∙ t.says.status_is))) t.written

-- ---- what is never said

value_in : Instance → Result Instance Refusal → Instance
value_in default (Ok a) = a
value_in default (Err r) = default

-- the case that the run speaks of is that of the deck
same_case : ReadOnce → (o : BranchOptions) (brief : Bool) (tb tn : Option (List ℕ)) (status : ℕ) (bytes : List ℕ) (a : Instance) (t : Told (Says o brief) bytes tb tn status) → SpellsAlone bytes a → a ≡ t.a
unfolding value_in
same_case once o brief tb tn status bytes a t spelled = ap (value_in a) (once MOST_DECK_BYTES bytes (Ok a) (Ok t.a) (t.cause.0, spelled) t.cause)

pub never_spent : ReadOnce → (o : BranchOptions) (brief : Bool) (left : Option (List ℕ)) (rb rn : ℕ) (tb tn : Option (List ℕ)) (wb wn status : ℕ) (bytes : List ℕ) (a : Instance) → IsRun (Says o brief) left rb rn tb tn wb wn status → left ≡ Some bytes → SpellsAlone bytes a → AreEnough a o → status ≡ 8 → ⊥
never_spent once o brief left rb rn tb tn wb wn status bytes a run is spelled enough eight =
    let t : Told (Says o brief) bytes tb tn 8 = told (Says o brief) left rb rn tb tn wb wn 8 bytes (subst (λ (n : ℕ). IsRun (Says o brief) left rb rn tb tn wb wn n) eight run) is eight_is_other in
    let whole : AreEnough t.a o = subst (λ (x : Instance). AreEnough x o) (same_case once o brief tb tn 8 bytes a t spelled) enough in
    never_eight t.says.answer (t.says.enough whole.0) (t.says.pivots whole.1) (t.status_is ∙ t.says.status_is)

pub never_wide : ReadOnce → (o : BranchOptions) (brief : Bool) (left : Option (List ℕ)) (rb rn : ℕ) (tb tn : Option (List ℕ)) (wb wn status : ℕ) (bytes : List ℕ) (a : Instance) → IsRun (Says o brief) left rb rn tb tn wb wn status → left ≡ Some bytes → SpellsAlone bytes a → NoneIsWide a → status ≡ 7 → ⊥
never_wide once o brief left rb rn tb tn wb wn status bytes a run is spelled narrow seven =
    let t : Told (Says o brief) bytes tb tn 7 = told (Says o brief) left rb rn tb tn wb wn 7 bytes (subst (λ (n : ℕ). IsRun (Says o brief) left rb rn tb tn wb wn n) seven run) is seven_is_other in
    never_seven t.a o t.says.answer (subst NoneIsWide (same_case once o brief tb tn 7 bytes a t spelled) narrow) t.says.is_answer (t.status_is ∙ t.says.status_is)
