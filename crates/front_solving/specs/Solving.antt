-- What solving a problem says, and what its answer means.
use Rattle.std.specs.Prelude.{◌≡◌, ◌≤◌, ◌+◌, ◌^◌, ◌⊎◌, ◌*ℤ◌, ◌<ℤ◌, ◌≤ℤ◌, ℕ, ℤ, pos, List, [], ◌∷◌, ◌++◌, Option, length, take, unsigned_abs}
use Rattle.std.specs.Io.KnownBytes.{Appends}
use Rattle.lpcc_case.specs.Instance.{Instance}
use Rattle.lpcc_case.specs.Points.{Point}
use Rattle.cert_text.specs.Certs.{IsPoint}
use Rattle.cert_text.specs.declared.cert.Cert.{Cert}
use Rattle.cert_text.specs.declared.cert.CertPoint.{CertPoint}
use Rattle.lp_nums.specs.Fractions.{Fraction, IsReduced, SameValue}
use Rattle.lpcc_case.specs.Values.{IsValue}
use Rattle.cert_text.specs.declared.cert.Cert.TheVariants as cert
use Rattle.lpcc_case.specs.declared.verdict.Verdict.TheVariants.{Infeasible, Unbounded}
use Rattle.cert_check.specs.Acceptance.{GivesMet}
use Rattle.deck_case.specs.DeckCases.{case_of_deck}
use Rattle.play.specs.declared.ending.Ending.{Ending}
use Rattle.play.specs.declared.ending.Ending.TheVariants as ending
use Rattle.play.specs.declared.event.Options.{Options}
use Rattle.desk_part.specs.DeskParts.{IsEndingOfRecord}
use Rattle.engine.specs.Solved.{PiecesLast, PivotsLast, VerdictsAreShown}
use Rattle.report.specs.Endings.{status_of, verdict_line}
use Rattle.front_deck.specs.Meanings.{spent}
use Rattle.front_text.specs.declared.problem.Bilevel.{Bilevel}
use Rattle.front_text.specs.declared.problem.Lcp.{Lcp}
use Rattle.front_text.specs.Texts.{SpellsBilevel, SpellsLcp}
use Rattle.kkt_front.specs.Decks.{bilevel_deck, lcp_deck}
use Rattle.kkt_front.specs.Solutions.{IsLeastFollower, IsSolution, IsWithMultipliers}
use Rattle.front_solving.specs.Texts.{IsBilevelText, IsEndingText, IsLcpText, no_solution_text, optimum_text, solution_text}

-- the ending of a record of a run over this case, its verdicts being written so, and the status that goes with it
pub record SaysEnding (IsVerdictText : Cert → List ℕ → Type 0) (o : Options) (a : Instance) (text : List ℕ) (status : ℕ) : Type 0 where
  pub end : Ending
  pub of_record : IsEndingOfRecord a o end
  pub shown : VerdictsAreShown a o end
  pub pieces : PiecesLast a o end
  pub pivots : PivotsLast a o end
  pub text_is : IsEndingText IsVerdictText a end text
  pub status_is : status ≡ status_of end

-- the cases of the decks of problems, whose lines are not counted
abbrev pub lcp_case : Lcp → Instance
lcp_case p = case_of_deck (lcp_deck p 0)

abbrev pub bilevel_case : Bilevel → Instance
bilevel_case b = case_of_deck (bilevel_deck b 0 0)

abbrev pub SaysOfLcp : Options → Lcp → List ℕ → ℕ → Type 0
SaysOfLcp o p text status = SaysEnding (IsLcpText p.size (lcp_case p)) o (lcp_case p) text status

abbrev pub SaysOfBilevel : Options → Bilevel → List ℕ → ℕ → Type 0
SaysOfBilevel o b text status = SaysEnding (IsBilevelText (b.nx + b.ny) (bilevel_case b)) o (bilevel_case b) text status

-- the value of the line has a point of the case
abbrev pub IsGivenPoint : Instance → CertPoint → ℤ → Type 0
IsGivenPoint a point z = (value : Fraction) → IsValue a z point.d value → (p : Point a.columns) × GivesMet a point p

-- the certificate of an optimum gives a point of the case
abbrev pub IsGiven : Instance → Cert → Type 0
IsGiven a (cert.Optimal point z lines) = IsPoint point × (unsigned_abs z ≤ 2 ^ 126) × IsGivenPoint a point z
IsGiven a (cert.Infeasible lines) = Unit {0}
IsGiven a (cert.Unbounded piece point ray) = Unit {0}

abbrev pub IsEndingGiven : Instance → Ending → Type 0
IsEndingGiven a (ending.Verdict c drawn) = IsGiven a c
IsEndingGiven a (ending.Overflow piece at) = Unit {0}
IsEndingGiven a (ending.PivotsSpent piece at) = Unit {0}
IsEndingGiven a (ending.PiecesSpent drawn left) = Unit {0}
IsEndingGiven a ending.NoMemory = Unit {0}

-- ---- what status 0 says

-- z is a solution, and that is what was written
abbrev pub SaysSolution : Lcp → Option (List ℕ) → Option (List ℕ) → Type 0
SaysSolution p taken_before taken_now = (z : Point p.size) × IsSolution p z × Appends taken_before taken_now (solution_text (pos z.d) z.x)

-- there is no solution, and that is what was written
abbrev pub SaysNone : Lcp → Option (List ℕ) → Option (List ℕ) → Type 0
SaysNone p taken_before taken_now = ((z : Point p.size) → IsSolution p z → ⊥) × Appends taken_before taken_now no_solution_text

-- the bytes spell a complementarity problem, and one of both was written
abbrev pub IsLcpAnswered : List ℕ → Option (List ℕ) → Option (List ℕ) → Type 0
IsLcpAnswered bytes taken_before taken_now =
    (p : Lcp) × SpellsLcp bytes p × (SaysSolution p taken_before taken_now ⊎ SaysNone p taken_before taken_now)

-- ---- bilevel problems: a point has x, y and behind them a number for each line of `low`

abbrev pub WithNumbers : Bilevel → Type 0
WithNumbers b = Point (b.nx + b.ny + length b.low)

-- the point has multipliers, y is least in `follow` for its x, and no point that has multipliers costs less
pub record IsBest (b : Bilevel) (q : WithNumbers b) : Type 0 where
  pub multipliers : IsWithMultipliers b q
  pub follower : IsLeastFollower b q
  pub lowest : (r : WithNumbers b) → IsWithMultipliers b r → (spent b q *ℤ pos r.d) ≤ℤ (spent b r *ℤ pos q.d)

-- what the point costs, in lowest terms
pub record IsCost (b : Bilevel) (q : WithNumbers b) (value : Fraction) : Type 0 where
  pub lowest : IsReduced value
  pub same : SameValue value (record { num = spent b q; den = pos q.d })

abbrev pub SaysBest : Bilevel → Option (List ℕ) → Option (List ℕ) → Type 0
SaysBest b taken_before taken_now =
    (q : WithNumbers b) × IsBest b q × (value : Fraction) × IsCost b q value × Appends taken_before taken_now (optimum_text value (pos q.d) (take (b.nx + b.ny) q.x))

-- no point has multipliers
abbrev pub SaysNowhere : Bilevel → Option (List ℕ) → Option (List ℕ) → Type 0
SaysNowhere b taken_before taken_now = ((q : WithNumbers b) → IsWithMultipliers b q → ⊥) × Appends taken_before taken_now (verdict_line Infeasible ++ 10 ∷ [])

-- points that have multipliers cost less than each whole number
abbrev pub SaysFalling : Bilevel → Option (List ℕ) → Option (List ℕ) → Type 0
SaysFalling b taken_before taken_now =
    ((bound : ℤ) → (q : WithNumbers b) × IsWithMultipliers b q × (spent b q <ℤ (bound *ℤ pos q.d))) × Appends taken_before taken_now (verdict_line Unbounded ++ 10 ∷ [])

-- the bytes spell a bilevel problem, and one of the three was written
abbrev pub IsBilevelAnswered : List ℕ → Option (List ℕ) → Option (List ℕ) → Type 0
IsBilevelAnswered bytes taken_before taken_now =
    (b : Bilevel) × SpellsBilevel bytes b × (SaysBest b taken_before taken_now ⊎ SaysNowhere b taken_before taken_now ⊎ SaysFalling b taken_before taken_now)
