-- What a run of the solver over a deck says, and what its verdict means.
use Rattle.std.specs.Prelude.{◌≡◌, ◌≤◌, ◌<◌, ◌+◌, ◌^◌, ⊤, ℕ, List, Option, length}
use Rattle.std.specs.Io.KnownBytes.{Appends}
use Rattle.lpcc_case.specs.Instance.{Instance}
use Rattle.lpcc_case.specs.declared.verdict.Verdict.{Verdict}
use Rattle.cert_text.specs.Certs.{lines_of}
use Rattle.cert2_text.specs.Texts2 as certificate_texts
use Rattle.cert_text.specs.declared.cert.Cert.{Cert}
use Rattle.cert2_check.specs.Acceptance2.{AcceptsAny}
use Rattle.orders.specs.Counts.{choose}
use Rattle.play.specs.Steps.{drawn_in}
use Rattle.play.specs.Truth.{AreDistinct}
use Rattle.play.specs.declared.ending.Ending.{Ending}
use Rattle.play.specs.declared.ending.Ending.TheVariants as ending
use Rattle.play.specs.declared.event.Event.{Event}
use Rattle.play.specs.declared.event.Options.{Options}
use Rattle.desk_part.specs.DeskParts.{IsEndingOf, IsEndingOfRecord}
use Rattle.engine.specs.Solved.{PiecesLast, PivotsLast, VerdictsAreShown}
use Rattle.report.specs.declared.style.Style.{Style}
use Rattle.report.specs.Endings.{IsTextOf, in_form, status_of, verdict_text, whole}
use Rattle.command.specs.Inputs.{IsTrueOfBytes, SpellsAlone}

-- the count of no-good lines can be written
abbrev pub HasFewLines : Ending → Type 0
HasFewLines (ending.Verdict cert drawn) = length (lines_of cert) < 2 ^ 64
HasFewLines (ending.Overflow piece at) = ⊤
HasFewLines (ending.PivotsSpent piece at) = ⊤
HasFewLines (ending.PiecesSpent drawn left) = ⊤
HasFewLines ending.NoMemory = ⊤

-- the text and the status of the ending of a record
pub record Says (o : Options) (style : Style) (a : Instance) (text : List ℕ) (status : ℕ) : Type 0 where
  pub end : Ending
  pub of_record : IsEndingOfRecord a o end
  pub shown : VerdictsAreShown a o end
  pub pieces : PiecesLast a o end
  pub pivots : PivotsLast a o end
  pub few : HasFewLines end
  pub text_is : IsTextOf a style end text
  pub status_is : status ≡ status_of end

-- What status 0 says: the verdict is true of the deck; what was written is its two comment lines and, unless it was to be
-- brief, a certificate in its form; with it, the text spells a certificate that acceptance accepts with this verdict. The
-- number of draws is that of a record, and each piece was drawn but once.
pub record SaysVerdict (bytes : List ℕ) (o : Options) (style : Style) (taken_before taken_now : Option (List ℕ)) : Type 0 where
  pub verdict : Verdict
  pub is_true : IsTrueOfBytes bytes verdict
  pub a : Instance
  pub spelled : SpellsAlone bytes a
  pub cert : Cert
  pub accepted : AcceptsAny a (in_form style cert) verdict
  pub drawn : ℕ
  pub certificate : certificate_texts.SpellsAny (verdict_text verdict drawn (whole style) cert) (in_form style cert)
  pub written : Appends taken_before taken_now (verdict_text verdict drawn style cert)
  pub events : List Event
  pub ending : IsEndingOf a o events (ending.Verdict cert drawn)
  pub number : drawn ≡ length (drawn_in events)
  pub distinct : AreDistinct (drawn_in events)

-- as many draws as there are pieces, and as many pivots as there are choices of the columns among columns and constraints
abbrev pub AreEnough : Instance → Options → Type 0
AreEnough a o = (2 ^ length a.pairs ≤ o.pieces) × (choose (a.columns + length a.constraints) a.columns ≤ o.pivots)
