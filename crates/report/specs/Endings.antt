-- The texts and statuses of the ways in which a run of the solver ends.
use Rattle.std.specs.Prelude.{◌≡◌, ℕ, List, [], ◌∷◌, ◌++◌, map, codes}
use Rattle.std.specs.Fmt.{decimal}
use Rattle.std.specs.List.{join_with_byte}
use Rattle.lp_nums.specs.Texts.{fraction_text}
use Rattle.nogoods.specs.declared.choice.Side.{Side}
use Rattle.lpcc_case.specs.Instance.{Instance}
use Rattle.lpcc_case.specs.declared.verdict.Verdict.{Verdict}
use Rattle.lpcc_case.specs.declared.verdict.Verdict.TheVariants.{Optimal, Infeasible, Unbounded}
use Rattle.cert_text.specs.declared.cert.Cert.{Cert}
use Rattle.cert_text.specs.Spelling.{choice_word, spelling}
use Rattle.cert_text.specs.Certs.{KeepsForm}
use Rattle.cert_check.specs.Acceptance.{Claims}
use Rattle.cert2_text.specs.declared.cert2.AnyCert.{AnyCert}
use Rattle.cert2_text.specs.declared.cert2.AnyCert.TheVariants as either
use Rattle.cert2_text.specs.Spelling2.{spelling2}
use Rattle.migrating.specs.Migration.{migrated}
use Rattle.cuts.specs.declared.reason.SpentAt.{SpentAt}
use Rattle.cuts.specs.declared.reason.WideAt.{WideAt}
use Rattle.play.specs.declared.ending.Ending.{Ending}
use Rattle.play.specs.declared.ending.Ending.TheVariants as ending
use Rattle.play.specs.Points.{choices_from, choices_of}
use Rattle.report.specs.declared.style.Style.{Style}
use Rattle.report.specs.declared.style.Style.TheVariants.{Brief, One, Two}
use Rattle.report.specs.Forms.{form_word, forms_text}

-- one space between the choices of these sides, the pairs counted from k
abbrev pub choices_text : ℕ → List Side → List ℕ
choices_text k sides = join_with_byte 32 (map choice_word (choices_from k sides))

-- the choices of a piece, or `-` where there are no pairs
abbrev pub piece_text : List Side → List ℕ
piece_text [] = codes "-"
piece_text (s ∷ sides) = choices_text 0 (s ∷ sides)

-- ---- two lines that a certificate takes for comments

abbrev pub verdict_line : Verdict → List ℕ
verdict_line (Optimal value) = codes "* optimal " ++ fraction_text value
verdict_line Infeasible = codes "* infeasible"
verdict_line Unbounded = codes "* unbounded"

-- with the number of pieces drawn
abbrev pub drawn_line : ℕ → List ℕ
drawn_line drawn = codes "* drawn " ++ decimal drawn

abbrev pub comments : Verdict → ℕ → List ℕ
comments verdict drawn = (verdict_line verdict ++ 10 ∷ []) ++ drawn_line drawn ++ 10 ∷ []

-- the certificate in its form, or nothing
abbrev pub certificate_text : Style → Cert → List ℕ
certificate_text Brief cert = []
certificate_text One cert = spelling cert
certificate_text Two cert = spelling2 (migrated cert)

-- the certificate that a text of this style has, or would have if it were not brief
abbrev pub in_form : Style → Cert → AnyCert
in_form Brief cert = either.Two (migrated cert)
in_form One cert = either.One cert
in_form Two cert = either.Two (migrated cert)

-- the style of a text with a certificate in the same form
abbrev pub whole : Style → Style
whole Brief = Two
whole One = One
whole Two = Two

-- the comments, and behind them the certificate, unless the text is to be brief
abbrev pub verdict_text : Verdict → ℕ → Style → Cert → List ℕ
verdict_text verdict drawn style cert = comments verdict drawn ++ certificate_text style cert

-- ---- endings

abbrev pub overflow_text : List Side → WideAt → List ℕ
overflow_text piece at = codes "overflow piece " ++ piece_text piece ++ codes " pivots " ++ decimal at.pivots ++ codes " forms " ++ forms_text at.forms ++ 10 ∷ []

abbrev pub pivots_text : List Side → SpentAt → List ℕ
pivots_text piece at = codes "budget pivots " ++ decimal at.pivots ++ codes " piece " ++ piece_text piece ++ codes " stage " ++ form_word at.stage ++ 10 ∷ []

abbrev pub pieces_text : ℕ → List Side → List ℕ
pieces_text drawn left = codes "budget pieces " ++ decimal drawn ++ codes " left " ++ piece_text left ++ 10 ∷ []

-- the text of an ending; that of a verdict names the value that the certificate claims
abbrev pub IsTextOf : Instance → Style → Ending → List ℕ → Type 0
IsTextOf a style (ending.Verdict cert drawn) text = (verdict : Verdict) × Claims a cert verdict × (text ≡ verdict_text verdict drawn style cert)
IsTextOf a style (ending.Overflow piece at) text = text ≡ overflow_text piece at
IsTextOf a style (ending.PivotsSpent piece at) text = text ≡ pivots_text piece at
IsTextOf a style (ending.PiecesSpent drawn left) text = text ≡ pieces_text drawn left
IsTextOf a style ending.NoMemory text = text ≡ codes "no memory" ++ 10 ∷ []

abbrev pub status_of : Ending → ℕ
status_of (ending.Verdict cert drawn) = 0
status_of (ending.Overflow piece at) = 7
status_of (ending.PivotsSpent piece at) = 8
status_of (ending.PiecesSpent drawn left) = 8
status_of ending.NoMemory = 6

-- the certificate of a verdict keeps the rules of its form
abbrev pub CanBeWritten : Ending → Type 0
CanBeWritten (ending.Verdict cert drawn) = KeepsForm cert
CanBeWritten (ending.Overflow piece at) = Unit {0}
CanBeWritten (ending.PivotsSpent piece at) = Unit {0}
CanBeWritten (ending.PiecesSpent drawn left) = Unit {0}
CanBeWritten ending.NoMemory = Unit {0}
