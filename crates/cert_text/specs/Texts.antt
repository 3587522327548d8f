-- Which certificate a text spells, and which fault is its first.
use Rattle.std.specs.Prelude.{◌≡◌, ◌+◌, ◌^◌, ◌<◌, ◌⊎◌, ℕ, Bool, false, List, [], ◌∷◌, ◌++◌, length, Option, Some, None}
use Rattle.lp_base.specs.Answers.{UnlessShort}
use Rattle.cert_text.specs.declared.cert.Cert.{Cert}
use Rattle.cert_text.specs.declared.fault.CertWhy.{CertWhy}
use Rattle.cert_text.specs.declared.fault.CertFault.{CertFault}
use Rattle.cert_text.specs.declared.fault.CertFault.TheVariants.{NoMemory, At}
use Rattle.cert_text.specs.Certs.{KeepsForm, lines_of}
use Rattle.cert_text.specs.Spelling.{cert_lines}
use Rattle.cert_text.specs.Lines.{content, is_cut}
use Rattle.cert_text.specs.Faults.{fault_of, end_fault}

-- the content lines of the text are the lines of the certificate, and the certificate keeps the rules of its form
pub record Spells (text : List ℕ) (cert : Cert) : Type 0 where
  pub form : KeepsForm cert
  -- the number on the last line
  pub few : length (lines_of cert) < 2 ^ 64
  pub lines : content text ≡ cert_lines cert
  pub whole : is_cut text ≡ false

-- the fault of a line behind the lines before it
abbrev pub Judge : Type 0
Judge = List (List ℕ) → List ℕ → Option CertWhy

-- no line has a fault behind the lines before it
abbrev pub IsClean : Judge → List (List ℕ) → List (List ℕ) → Type 0
IsClean judge before [] = Unit {0}
IsClean judge before (line ∷ lines) = (judge before line ≡ None) × IsClean judge (before ++ line ∷ []) lines

-- behind the lines before, the first of these lines with a fault
pub record FailsBehind (judge : Judge) (before lines : List (List ℕ)) (number : ℕ) (why : CertWhy) : Type 0 where
  pub front : List (List ℕ)
  pub line : List ℕ
  pub rest : List (List ℕ)
  pub lines_are : lines ≡ front ++ line ∷ rest
  pub clean : IsClean judge before front
  pub fault : judge (before ++ front) line ≡ Some why
  pub number_is : number ≡ length (before ++ front) + 1

-- none of the lines has a fault, but what stands behind all of them, or is missing there
pub record EndFails (judge : Judge) (lines : List (List ℕ)) (cut : Bool) (number : ℕ) (why : CertWhy) : Type 0 where
  pub clean : IsClean judge [] lines
  pub fault : end_fault lines cut ≡ Some why
  pub number_is : number ≡ length lines + 1

-- the first fault of a text whose lines are judged so, with its content line, from 1
abbrev pub FailsBy : Judge → List ℕ → ℕ → CertWhy → Type 0
FailsBy judge text number why = FailsBehind judge [] (content text) number why ⊎ EndFails judge (content text) (is_cut text) number why

abbrev pub Fails : List ℕ → ℕ → CertWhy → Type 0
Fails text number why = FailsBy fault_of text number why

-- the content line and the fault that a call names, none where memory is short
abbrev pub found_by : CertFault → Option (ℕ × CertWhy)
found_by (NoMemory e) = None
found_by (At line why) = Some (line, why)

-- the fault that a call names is the text's first, unless memory is short
abbrev pub FailsAs : CertFault → List ℕ → Type 0
FailsAs fault text = UnlessShort found_by (λ found. Fails text found.0 found.1) fault
