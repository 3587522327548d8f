-- What a run of the command says.
use Rattle.std.proofs.Common.{ℕ, ◌<◌, ◌^◌, ◌≡◌, ◌∙◌, refl, sym, ap, subst, arith, List, Option, Some, ◌⊎◌, inl, inr}
use Rattle.std.specs.Prelude.{◌↔◌, Result, Ok, Err, length}
use Rattle.std.specs.Io.KnownBytes.{Appends}
use Rattle.lpcc_case.specs.Instance.{Instance}
use Rattle.lpcc_case.specs.Verdicts.{IsTrueOf}
use Rattle.lpcc_case.specs.declared.verdict.Verdict.{Verdict}
use Rattle.cert_text.specs.Certs.{KeepsForm, lines_of}
use Rattle.cert_text.specs.declared.cert.Cert.{Cert}
use Rattle.cert_text.proofs.Certificates.{spelling_spells}
use Rattle.cert_check.specs.Acceptance.{Accepts}
use Rattle.cert2_text.specs.declared.cert2.AnyCert.TheVariants as either
use Rattle.cert2_text.specs.Texts2.{SpellsAny}
use Rattle.cert2_text.proofs.Certificates2.{spelling_spells as spelling_spells2}
use Rattle.cert2_check.specs.Acceptance2.{AcceptsAny}
use Rattle.migrating.specs.Migration.{migrated}
use Rattle.migrating.proofs.Accepting.{accepted_alike}
use Rattle.migrating.proofs.Keeping.{counts_alike, keeps_form}
use Rattle.decks.specs.Decks.{IsDeck}
use Rattle.decks.specs.Texts.{Spells}
use Rattle.decks.specs.declared.deck.Deck as decks
use Rattle.deck_case.specs.DeckCases.{HasCase}
use Rattle.deck_case.specs.DeckVerdicts.{IsTrueOfDeck}
use Rattle.nogoods.specs.declared.choice.Side.{Side}
use Rattle.cuts.specs.declared.reason.SpentAt.{SpentAt}
use Rattle.play.specs.declared.ending.Ending.{Ending}
use Rattle.play.specs.declared.ending.Ending.TheVariants as ending
use Rattle.play.specs.declared.event.Options.{Options}
use Rattle.desk_part.specs.DeskParts.{IsEndingOfRecord}
use Rattle.engine.specs.Solved.{IsShown, IsSolved, PiecesLast, PivotsLast, VerdictsAreShown}
use Rattle.command.specs.Inputs.{IsReadAlone, IsTrueOfBytes, SpellsAlone}
use Rattle.command.specs.Runs.{IsRun}
use Rattle.command.specs.declared.reading.TheConstants.{MOST_DECK_BYTES}
use Rattle.command.specs.declared.refusal.Refusal.{Refusal}
use Rattle.command.proofs.CaseRuns.{Told, eight_is_other, told, zero_is_other}
use Rattle.report.specs.declared.style.Style.{Style}
use Rattle.report.specs.declared.style.Style.TheVariants.{Brief, One, Two}
use Rattle.report.specs.Endings.{CanBeWritten, IsTextOf, in_form, status_of, verdict_text, whole}
use Rattle.solving.specs.Solving.{AreEnough, HasFewLines, Says, SaysVerdict}
use Rattle.solving.proofs.Comments.{comments_spell, comments_spell2}

-- what the crates below promise of decks
pub record Laws : Type 0 where
  pub decks_keep : (text : List ℕ) (d : decks.Deck) (p : ℕ) → Spells text d p → IsDeck d
  pub same_truth : (d : decks.Deck) (a : Instance) (v : Verdict) → IsDeck d → HasCase d a → IsTrueOf a v ↔ IsTrueOfDeck d v

abbrev pub ReadOnce : Type 0
ReadOnce = (limit : ℕ) (bytes : List ℕ) (x y : Result Instance Refusal) → IsReadAlone limit bytes x → IsReadAlone limit bytes y → x ≡ y

-- ---- an ending that is written

pub of_record : (a : Instance) (o : Options) (end : Ending) → IsSolved a o end → (end ≡ ending.NoMemory → ⊥) → IsEndingOfRecord a o end
of_record a o end (inl none) some = absurd (some none)
of_record a o end (inr found) some = found

pub shown_form : (a : Instance) (o : Options) (end : Ending) → VerdictsAreShown a o end → CanBeWritten end
shown_form a o (ending.Verdict cert drawn) h = (h cert drawn refl).form
shown_form a o (ending.Overflow piece at) h = tt
shown_form a o (ending.PivotsSpent piece at) h = tt
shown_form a o (ending.PiecesSpent drawn left) h = tt
shown_form a o ending.NoMemory h = tt

-- ---- by the status

zero_is_verdict : (end : Ending) → status_of end ≡ 0 → (cert : Cert) × (drawn : ℕ) × (end ≡ ending.Verdict cert drawn)
zero_is_verdict (ending.Verdict cert drawn) e = (cert, drawn, refl)
zero_is_verdict (ending.Overflow piece at) e = absurd (omega arith)
zero_is_verdict (ending.PivotsSpent piece at) e = absurd (omega arith)
zero_is_verdict (ending.PiecesSpent drawn left) e = absurd (omega arith)
zero_is_verdict ending.NoMemory e = absurd (omega arith)

never_eight : (a : Instance) (o : Options) (end : Ending) → PiecesLast a o end → PivotsLast a o end → AreEnough a o → 8 ≡ status_of end → ⊥
never_eight a o (ending.Verdict cert drawn) pieces pivots enough e = omega arith
never_eight a o (ending.Overflow piece at) pieces pivots enough e = omega arith
never_eight a o (ending.PivotsSpent piece at) pieces pivots enough e = pivots enough.1 piece at refl
never_eight a o (ending.PiecesSpent drawn left) pieces pivots enough e = pieces enough.0 drawn left refl
never_eight a o ending.NoMemory pieces pivots enough e = omega arith

true_of_bytes : Laws → (bytes : List ℕ) (a : Instance) (v : Verdict) → SpellsAlone bytes a → IsTrueOf a v → IsTrueOfBytes bytes v
true_of_bytes l bytes a v spelled truth =
    let s = spelled.1 in
    record {
      deck = s.deck;
      place = s.place;
      spelled = s.spelled;
      is_true = (l.same_truth s.deck a v (l.decks_keep bytes s.deck s.place s.spelled) s.case).0 truth;
    }

accepted_in : (style : Style) (a : Instance) (cert : Cert) (v : Verdict) → KeepsForm cert → Accepts a cert v → AcceptsAny a (in_form style cert) v
accepted_in Brief a cert v form h = (accepted_alike a cert v form).0 h
accepted_in One a cert v form h = record { passes = h.passes; claims = h.claims }
accepted_in Two a cert v form h = (accepted_alike a cert v form).0 h

spelled_two : (v : Verdict) (n : ℕ) (cert : Cert) → KeepsForm cert → length (lines_of cert) < 2 ^ 64 → SpellsAny (verdict_text v n Two cert) (either.Two (migrated cert))
spelled_two v n cert form few =
    comments_spell2 v n (migrated cert) (spelling_spells2 (migrated cert) (keeps_form cert form few) (subst (λ (k : ℕ). k < 2 ^ 64) (sym (counts_alike cert)) few))

spelled_in : (style : Style) (v : Verdict) (n : ℕ) (cert : Cert) → KeepsForm cert → length (lines_of cert) < 2 ^ 64 → SpellsAny (verdict_text v n (whole style) cert) (in_form style cert)
spelled_in Brief v n cert form few = spelled_two v n cert form few
spelled_in One v n cert form few = comments_spell v n cert (spelling_spells cert form few)
spelled_in Two v n cert form few = spelled_two v n cert form few

verdict_said : Laws → (bytes : List ℕ) (o : Options) (style : Style) (tb tn : Option (List ℕ)) (a : Instance) (cert : Cert) (drawn : ℕ) (text : List ℕ) → SpellsAlone bytes a → IsShown a o cert drawn → length (lines_of cert) < 2 ^ 64 → IsTextOf a style (ending.Verdict cert drawn) text → Appends tb tn text → SaysVerdict bytes o style tb tn
verdict_said l bytes o style tb tn a cert drawn text spelled shown few text_is written =
    let v = text_is.0 in
    record {
      verdict = v;
      is_true = true_of_bytes l bytes a v spelled (shown.truth v text_is.1);
      a = a;
      spelled = spelled;
      cert = cert;
      accepted = accepted_in style a cert v shown.form (shown.accepted v text_is.1);
      drawn = drawn;
      certificate = spelled_in style v drawn cert shown.form few;
      written = subst (λ (x : List ℕ). Appends tb tn x) text_is.2 written;
      events = shown.events;
      ending = shown.ending;
      number = shown.number;
      distinct = shown.distinct;
    }

pub says_verdict : Laws → (o : Options) (style : Style) (left : Option (List ℕ)) (rb rn : ℕ) (tb tn : Option (List ℕ)) (wb wn status : ℕ) (bytes : List ℕ) → IsRun (Says o style) left rb rn tb tn wb wn status → left ≡ Some bytes → status ≡ 0 → SaysVerdict bytes o style tb tn
says_verdict l o style left rb rn tb tn wb wn status bytes run is zero =
    let t : Told (Says o style) bytes tb tn 0 = told (Says o style) left rb rn tb tn wb wn 0 bytes (subst (λ (n : ℕ). IsRun (Says o style) left rb rn tb tn wb wn n) zero run) is zero_is_other in
    let found = zero_is_verdict t.says.end (sym (t.status_is ∙ t.says.status_is)) in
    verdict_said l bytes o style tb tn t.a found.0 found.1 t.text t.cause.1 (t.says.shown found.0 found.1 found.2) (subst HasFewLines found.2 t.says.few) (subst (λ (x : Ending). IsTextOf t.a style x t.text) found.2 t.says.text_is) t.written

value_in : Instance → Result Instance Refusal → Instance
value_in default (Ok a) = a
value_in default (Err r) = default

pub never_spent : ReadOnce → (o : Options) (style : Style) (left : Option (List ℕ)) (rb rn : ℕ) (tb tn : Option (List ℕ)) (wb wn status : ℕ) (bytes : List ℕ) (a : Instance) → IsRun (Says o style) left rb rn tb tn wb wn status → left ≡ Some bytes → SpellsAlone bytes a → AreEnough a o → status ≡ 8 → ⊥
unfolding value_in
never_spent once o style left rb rn tb tn wb wn status bytes a run is spelled enough eight =
    let t : Told (Says o style) bytes tb tn 8 = told (Says o style) left rb rn tb tn wb wn 8 bytes (subst (λ (n : ℕ). IsRun (Says o style) left rb rn tb tn wb wn n) eight run) is eight_is_other in
    let same : a ≡ t.a = ap (value_in a) (once MOST_DECK_BYTES bytes (Ok a) (Ok t.a) (t.cause.0, spelled) t.cause) in
    never_eight t.a o t.says.end t.says.pieces t.says.pivots (subst (λ (x : Instance). AreEnough x o) same enough) (t.status_is ∙ t.says.status_is)
