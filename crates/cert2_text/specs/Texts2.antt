-- Which certificate of either form a text spells, and which fault is its first.
use Rattle.std.specs.Prelude.{◌≡◌, ◌^◌, ◌<◌, ◌⊎◌, ℕ, Bool, true, false, List, [], ◌∷◌}
use Rattle.lp_base.specs.Answers.{UnlessShort}
use Rattle.cert_text.specs.declared.fault.CertWhy.{CertWhy}
use Rattle.cert_text.specs.declared.fault.CertFault.{CertFault}
use Rattle.cert_text.specs.Lines.{content, is_cut}
use Rattle.cert_text.specs.Texts.{Spells, Fails, FailsBy, found_by}
use Rattle.cert2_text.specs.declared.cert2.AnyCert.{AnyCert}
use Rattle.cert2_text.specs.declared.cert2.AnyCert.TheVariants.{One, Two}
use Rattle.cert2_text.specs.declared.cert2.Cert2.{Cert2}
use Rattle.cert2_text.specs.Certs2.{KeepsForm2, lines2_of, count_of}
use Rattle.cert2_text.specs.Spelling2.{cert2_lines}
use Rattle.cert2_text.specs.Faults2.{is_head2, fault2_of}

-- the content lines of the text are the lines of the certificate, and the certificate keeps the rules of its form
pub record Spells2 (text : List ℕ) (cert : Cert2) : Type 0 where
  pub form : KeepsForm2 cert
  -- the number on the last line
  pub few : count_of (lines2_of cert) < 2 ^ 64
  pub lines : content text ≡ cert2_lines cert
  pub whole : is_cut text ≡ false

abbrev pub begins_two : List (List ℕ) → Bool
begins_two [] = false
begins_two (line ∷ lines) = is_head2 line

-- the first content line is the head of form 2; every other text is judged as one of form 1
abbrev pub is_two : List ℕ → Bool
is_two text = begins_two (content text)

abbrev pub SpellsAny : List ℕ → AnyCert → Type 0
SpellsAny text (One cert) = Spells text cert
SpellsAny text (Two cert) = Spells2 text cert

-- the first fault of a text, with its content line, from 1
abbrev pub FailsAny : List ℕ → ℕ → CertWhy → Type 0
FailsAny text number why = ((is_two text ≡ true) × FailsBy fault2_of text number why) ⊎ ((is_two text ≡ false) × Fails text number why)

-- the fault that a call names is the text's first, unless memory is short
abbrev pub FailsAnyAs : CertFault → List ℕ → Type 0
FailsAnyAs fault text = UnlessShort found_by (λ found. FailsAny text found.0 found.1) fault
