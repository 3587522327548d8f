-- What a run of the command says.
use Rattle.std.proofs.Common.{ℕ, ◌≡◌, ◌∙◌, refl, sym, ap, subst, arith, List, Option, Some}
use Rattle.std.specs.Prelude.{◌↔◌, Result, Ok, Err}
use Rattle.std.specs.Io.KnownBytes.{Appends}
use Rattle.lpcc_case.specs.Instance.{Instance}
use Rattle.lpcc_case.specs.Verdicts.{IsTrueOf}
use Rattle.lpcc_case.specs.declared.verdict.Verdict.{Verdict}
use Rattle.decks.specs.Decks.{IsDeck}
use Rattle.decks.specs.Texts.{Spells}
use Rattle.decks.specs.declared.deck.Deck as decks
use Rattle.deck_case.specs.DeckCases.{HasCase}
use Rattle.deck_case.specs.DeckVerdicts.{IsTrueOfDeck, relaxed, relaxed_deck}
use Rattle.command.specs.Inputs.{IsReadAlone, SpellsAlone}
use Rattle.command.specs.Runs.{IsRun}
use Rattle.command.specs.declared.reading.TheConstants.{MOST_DECK_BYTES}
use Rattle.command.specs.declared.refusal.Refusal.{Refusal}
use Rattle.command.proofs.CaseRuns.{Told, eight_is_other, told, zero_is_other}
use Rattle.report.specs.Relaxations.{status_of, text_of}
use Rattle.report.specs.declared.relaxation.Relaxation.{Relaxation}
use Rattle.report.specs.declared.relaxation.Relaxation.TheVariants.{Solved, Wide, Spent}
use Rattle.relaxing.specs.Relaxing.{AreEnough, IsEndOf, IsNotSpent, Says, SaysVerdict}

-- what the crates below promise of decks
pub record Laws : Type 0 where
  pub decks_keep : (text : List ℕ) (d : decks.Deck) (p : ℕ) → Spells text d p → IsDeck d
  pub same_truth : (d : decks.Deck) (a : Instance) (v : Verdict) → IsDeck d → HasCase d a → IsTrueOf (relaxed a) v ↔ IsTrueOfDeck (relaxed_deck d) v

abbrev pub ReadOnce : Type 0
ReadOnce = (limit : ℕ) (bytes : List ℕ) (x y : Result Instance Refusal) → IsReadAlone limit bytes x → IsReadAlone limit bytes y → x ≡ y

zero_is_solved : (end : Relaxation) → status_of end ≡ 0 → (v : Verdict) × (end ≡ Solved v)
zero_is_solved (Solved v) e = (v, refl)
zero_is_solved (Wide place) e = absurd (omega arith)
zero_is_solved (Spent place) e = absurd (omega arith)

eight_is_spent : (end : Relaxation) → status_of end ≡ 8 → IsNotSpent end → ⊥
eight_is_spent (Solved v) e h = omega arith
eight_is_spent (Wide place) e h = omega arith
eight_is_spent (Spent place) e h = h

pub says_verdict : Laws → (pivots : ℕ) (left : Option (List ℕ)) (rb rn : ℕ) (tb tn : Option (List ℕ)) (wb wn status : ℕ) (bytes : List ℕ) → IsRun (Says pivots) left rb rn tb tn wb wn status → left ≡ Some bytes → status ≡ 0 → SaysVerdict bytes tb tn
says_verdict l pivots left rb rn tb tn wb wn status bytes run is zero =
    let t : Told (Says pivots) bytes tb tn 0 = told (Says pivots) left rb rn tb tn wb wn 0 bytes (subst (λ (n : ℕ). IsRun (Says pivots) left rb rn tb tn wb wn n) zero run) is zero_is_other in
    let found = zero_is_solved t.says.end (sym (t.status_is ∙ t.says.status_is)) in
    let spelled = t.cause.1.1 in
    let right : IsEndOf t.a pivots (Solved found.0) = subst (λ (x : Relaxation). IsEndOf t.a pivots x) found.1 t.says.is_end in
    record {
      verdict = found.0;
      deck = spelled.deck;
      place = spelled.place;
      spelled = spelled.spelled;
      is_true = (l.same_truth spelled.deck t.a found.0 (l.decks_keep bytes spelled.deck spelled.place spelled.spelled) spelled.case).0 right.0;
      written = subst (λ (x : List ℕ). Appends tb tn x) (t.says.text_is ∙ ap text_of found.1) t.written;
    }

value_in : Instance → Result Instance Refusal → Instance
value_in default (Ok a) = a
value_in default (Err r) = default

pub never_spent : ReadOnce → (pivots : ℕ) (left : Option (List ℕ)) (rb rn : ℕ) (tb tn : Option (List ℕ)) (wb wn status : ℕ) (bytes : List ℕ) (a : Instance) → IsRun (Says pivots) left rb rn tb tn wb wn status → left ≡ Some bytes → SpellsAlone bytes a → AreEnough a pivots → status ≡ 8 → ⊥
unfolding value_in
never_spent once pivots left rb rn tb tn wb wn status bytes a run is spelled enough eight =
    let t : Told (Says pivots) bytes tb tn 8 = told (Says pivots) left rb rn tb tn wb wn 8 bytes (subst (λ (n : ℕ). IsRun (Says pivots) left rb rn tb tn wb wn n) eight run) is eight_is_other in
    let same : a ≡ t.a = ap (value_in a) (once MOST_DECK_BYTES bytes (Ok a) (Ok t.a) (t.cause.0, spelled) t.cause) in
    eight_is_spent t.says.end (sym (t.status_is ∙ t.says.status_is)) (t.says.enough (subst (λ (x : Instance). AreEnough x pivots) same enough))
