-- A deck, and behind it what the solver wrote.
use Rattle.std.proofs.Common.{ℕ, ◌+◌, ◌-◌, ◌<◌, ◌≤◌, ◌≡◌, ◌∙◌, refl, sym, ap, subst, arith, true, List, [], ◌++◌, Option, Some, take, drop, length, inl, inr}
use Rattle.std.specs.Prelude.{◌⊎◌}
use Rattle.std.specs.Io.KnownBytes.{Appends}
use Rattle.std.proofs.lemmas.List.{length-take}
use Rattle.std.proofs.Math.Seq.{drop-append_seam}
use Rattle.lp_io.specs.Faults.{Rose}
use Rattle.lpcc_case.specs.Instance.{Instance}
use Rattle.lpcc_case.specs.declared.verdict.Verdict.{Verdict}
use Rattle.mps_lex.specs.Lines.{ends_with}
use Rattle.decks.specs.Texts.{Spells}
use Rattle.decks.specs.declared.deck.Deck as decks
use Rattle.deck_case.specs.DeckCases.{HasCase}
use Rattle.cert2_text.specs.Texts2 as certificate_texts
use Rattle.command.specs.Inputs.{SpellsCase}
use Rattle.command.specs.declared.extent.Extent.TheVariants.{Prefix}
use Rattle.play.specs.declared.event.Options.{Options}
use Rattle.report.specs.declared.style.Style.{Style}
use Rattle.report.specs.declared.style.Style.TheVariants.{Brief, One, Two}
use Rattle.report.specs.Endings.{in_form, verdict_text, whole}
use Rattle.verifier.specs.Answers.{text_of}
use Rattle.verifier.specs.Causes.{IsAccepted}
use Rattle.verifier.specs.Runs.{IsChecked}
use Rattle.verifier.specs.declared.answer.Answer.TheVariants.{Yes}
use Rattle.agreement.specs.Agreement.{IsAgreed, IsSolved, SaysYesToo}

abbrev pub Once : Type 0
Once = (text : List ℕ) (d e : decks.Deck) (p q : ℕ) → Spells text d p → Spells text e q → (d ≡ e) × (p ≡ q)

abbrev pub Within : Type 0
Within = (text : List ℕ) (d : decks.Deck) (p : ℕ) → Spells text d p → p ≤ length text

abbrev pub WhateverFollows : Type 0
WhateverFollows = (text more : List ℕ) (d : decks.Deck) (p : ℕ) → Spells text d p → ends_with 10 (take p text) ≡ true → Spells (take p text ++ more) d p

behind_front : (p : ℕ) (bytes text : List ℕ) → p ≤ length bytes → drop p (take p bytes ++ text) ≡ text
behind_front p bytes text within =
    let size : length (take p bytes) ≡ p = omega (arith, length-take p bytes, within) in
    ap (λ n. drop n (take p bytes ++ text)) (sym size) ∙ drop-append_seam (take p bytes) text

-- the deck alone is the front of the bytes, so it has the same case
spells_case : WhateverFollows → Within → (bytes text : List ℕ) (d : decks.Deck) (p : ℕ) (a : Instance) → Spells bytes d p → ends_with 10 (take p bytes) ≡ true → HasCase d a → SpellsCase Prefix (take p bytes ++ text) a text
spells_case follows within bytes text d p a spelled ended case = record {
  deck = d;
  place = p;
  spelled = follows bytes text d p spelled ended;
  alone = refl;
  case = case;
  behind = sym (behind_front p bytes text (within bytes d p spelled));
}

whole_twice : (style : Style) → whole (whole style) ≡ whole style
whole_twice Brief = refl
whole_twice One = refl
whole_twice Two = refl

pub agreed : Once → Within → WhateverFollows → (bytes deck text : List ℕ) (o : Options) (style : Style) → IsSolved bytes deck text o style → (v : Verdict) × IsAgreed deck text v
agreed once within follows bytes deck text o style h =
    let s = h.said in
    let c = s.spelled.1 in
    let same : c.deck ≡ h.spelled_deck = (once bytes c.deck h.spelled_deck c.place h.place c.spelled h.spelled).0 in
    let case : HasCase h.spelled_deck s.a = subst (λ (d : decks.Deck). HasCase d s.a) same c.case in
    let ended = subst (λ (l : List ℕ). ends_with 10 l ≡ true) h.deck_is h.ended in
    let front = spells_case follows within bytes text h.spelled_deck h.place s.a h.spelled ended case in
    let here = subst (λ (l : List ℕ). SpellsCase Prefix (l ++ text) s.a text) (sym h.deck_is) front in
    let names : text ≡ verdict_text s.verdict s.drawn (whole style) s.cert = s.written in
    let spelled_so = subst (λ (x : Style). certificate_texts.SpellsAny (verdict_text s.verdict s.drawn x s.cert) (in_form (whole style) s.cert)) (whole_twice style) s.certificate in
    let certificate = subst (λ (l : List ℕ). certificate_texts.SpellsAny l (in_form (whole style) s.cert)) (sym names) spelled_so in (
      s.verdict,
      record {
        drawn = s.drawn;
        style = whole style;
        cert = s.cert;
        names = names;
        accepted = (h.few, s.a, in_form (whole style) s.cert, record { rest = text; deck = here; certificate = certificate }, s.accepted);
      },
    )

abbrev pub Answered : Type 0
Answered = (left : Option (List ℕ)) (rb rn : ℕ) (tb tn : Option (List ℕ)) (wb wn status : ℕ) (bytes : List ℕ) (v : Verdict) → IsChecked left rb rn tb tn wb wn status → left ≡ Some bytes → IsAccepted bytes v → ((status ≡ 0) × Appends tb tn (text_of (Yes v))) ⊎ (status ≡ 4) ⊎ (status ≡ 5) ⊎ (status ≡ 6)

pub answered_yes : Answered → (deck text : List ℕ) (rb rn : ℕ) (tb tn : Option (List ℕ)) (wb wn status : ℕ) → IsChecked (Some (deck ++ text)) rb rn tb tn wb wn status → (status ≡ 4 → ⊥) → (status ≡ 5 → ⊥) → ((v : Verdict) × IsAgreed deck text v) → SaysYesToo deck text tb tn status
answered_yes answered deck text rb rn tb tn wb wn status checked read write found = by (answered (Some (deck ++ text)) rb rn tb tn wb wn status (deck ++ text) found.0 checked refl found.1.accepted)
  where
    by : ((status ≡ 0) × Appends tb tn (text_of (Yes found.0))) ⊎ (status ≡ 4) ⊎ (status ≡ 5) ⊎ (status ≡ 6) → SaysYesToo deck text tb tn status
    by (inl told) = inl (found.0, found.1, told.0, told.1)
    by (inr (inl four)) = absurd (read four)
    by (inr (inr (inl five))) = absurd (write five)
    by (inr (inr (inr six))) = inr six
