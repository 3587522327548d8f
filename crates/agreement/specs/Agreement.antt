-- What solving writes, and what checking answers to it.
use Rattle.std.specs.Prelude.{◌≡◌, ◌≤◌, ◌⊎◌, ◌++◌, ℕ, true, List, [], Option, Some, length, take}
use Rattle.std.specs.Io.KnownBytes.{Appends}
use Rattle.lpcc_case.specs.declared.verdict.Verdict.{Verdict}
use Rattle.mps_lex.specs.Lines.{ends_with}
use Rattle.decks.specs.Texts.{Spells}
use Rattle.decks.specs.declared.deck.Deck as decks
use Rattle.cert_text.specs.declared.cert.Cert.{Cert}
use Rattle.play.specs.declared.event.Options.{Options}
use Rattle.report.specs.declared.style.Style.{Style}
use Rattle.report.specs.Endings.{verdict_text, whole}
use Rattle.solving.specs.Solving.{SaysVerdict}
use Rattle.verifier.specs.Answers.{text_of}
use Rattle.verifier.specs.Causes.{IsAccepted}
use Rattle.verifier.specs.declared.answer.Answer.TheVariants.{Yes}
use Rattle.verifier.specs.declared.judging.TheConstants.{MOST_BYTES}

-- The bytes begin with a deck, whose lines up to and with that of ENDATA are `deck` and end with LF; the solver wrote this text
-- with status 0 and its certificate; and both together are no more bytes than the checker takes.
pub record IsSolved (bytes deck text : List ℕ) (o : Options) (style : Style) : Type 0 where
  pub spelled_deck : decks.Deck
  pub place : ℕ
  pub spelled : Spells bytes spelled_deck place
  pub deck_is : deck ≡ take place bytes
  pub ended : ends_with 10 deck ≡ true
  pub said : SaysVerdict bytes o (whole style) (Some []) (Some text)
  pub few : length (deck ++ text) ≤ MOST_BYTES

-- the text names the verdict in its first line, and behind the deck it is a certificate that is accepted with this verdict
pub record IsAgreed (deck text : List ℕ) (v : Verdict) : Type 0 where
  pub drawn : ℕ
  pub style : Style
  pub cert : Cert
  pub names : text ≡ verdict_text v drawn style cert
  pub accepted : IsAccepted (deck ++ text) v

-- `yes` is written, with the verdict that the text names; or memory ran out
abbrev pub SaysYesToo : List ℕ → List ℕ → Option (List ℕ) → Option (List ℕ) → ℕ → Type 0
SaysYesToo deck text taken_before taken_now status =
    ((v : Verdict) × IsAgreed deck text v × (status ≡ 0) × Appends taken_before taken_now (text_of (Yes v))) ⊎ (status ≡ 6)
