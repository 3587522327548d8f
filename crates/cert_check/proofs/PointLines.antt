-- What a point line that does not fail gives.
use Rattle.std.proofs.Common.{ℕ, ◌<◌, ◌≡◌, refl, sym, ◌∙◌, arith, ℤ, pos, negsuc, ◌*ℤ◌, ◌≤ℤ◌, List, get_or, inl, inr}
use Rattle.std.specs.Prelude.{unsigned_abs}
use Rattle.std.proofs.lemmas.Int.{ints}
use Rattle.std.proofs.lemmas.List.FromFn.{length-map-range_with_len}
use Rattle.lpcc_case.specs.declared.constraint.Constraint.{Constraint}
use Rattle.lpcc_case.specs.Instance.{Instance}
use Rattle.lpcc_case.specs.Points.{Point, Relates, Meets, MeetsAll, left_side, coefficient}
use Rattle.cert_text.specs.declared.cert.CertPoint.{CertPoint}
use Rattle.cert_check.specs.declared.accept.NoWhy.{NoWhy}
use Rattle.cert_check.specs.declared.accept.NoWhy.TheVariants.{PointFails, NotComplementary}
use Rattle.cert_check.specs.Acceptance.{GivesMet, NamesColumns, PointLineFails, numbers_of}
use Rattle.cert_check.proofs.Stable.{Holds, all_stable, below_stable, le_stable, relates_stable}

abbrev pub PointLinePasses : (a : Instance) → (Point a.columns → Type 0) → CertPoint → Type 0
PointLinePasses a Asked line = (why : NoWhy) → PointLineFails a Asked line why → ⊥

-- the line cannot be without its point
given : (a : Instance) (Asked : Point a.columns → Type 0) (line : CertPoint) → PointLinePasses a Asked line → (P : Type 0) → ((p : Point a.columns) → GivesMet a line p → P) → Holds P
given a Asked line passes P from never = passes PointFails (inl (refl, λ p gives. never (from p gives)))

denominator : (a : Instance) (Asked : Point a.columns → Type 0) (line : CertPoint) → PointLinePasses a Asked line → pos 1 ≤ℤ line.d
denominator a Asked line passes =
    le_stable (pos 1) line.d (given a Asked line passes (pos 1 ≤ℤ line.d) (λ p gives. omega (arith, ints, p.positive, gives.denominator)))

pub abs_of_positive : (z : ℤ) → pos 1 ≤ℤ z → (pos (unsigned_abs z) ≡ z) × (0 < unsigned_abs z)
abs_of_positive (pos n) h = (refl, omega (arith, ints, h))
abs_of_positive (negsuc n) h = absurd (omega (arith, ints, h))

met_again : (c : Constraint) (x y : List ℤ) (d e : ℕ) → x ≡ y → pos d ≡ pos e → Relates c.kind (left_side c.terms x) (c.rhs *ℤ pos d) → Relates c.kind (left_side c.terms y) (c.rhs *ℤ pos e)
met_again c x y d e numbers same met = rw (← numbers, ← same) met

-- there is the point, and it cannot lack what is asked of it
pub point_given : (a : Instance) (Asked : Point a.columns → Type 0) (line : CertPoint) → PointLinePasses a Asked line → (p : Point a.columns) × GivesMet a line p × Holds (Asked p)
point_given a Asked line passes =
    let d = abs_of_positive line.d (denominator a Asked line passes) in
    let p : Point a.columns = record { x = numbers_of a.columns line.terms; d = unsigned_abs line.d; size = length-map-range_with_len (coefficient line.terms) 0 a.columns; positive = d.1 } in
    let columns : NamesColumns a line.terms = all_stable (λ t. t.0 < a.columns) line.terms (λ t. below_stable t.0 a.columns) (given a Asked line passes (NamesColumns a line.terms) (λ q gives. gives.columns)) in
    let met : MeetsAll a p = all_stable (Meets p) a.constraints (λ c. relates_stable c.kind (left_side c.terms p.x) (c.rhs *ℤ pos p.d))
    (given a Asked line passes (MeetsAll a p) (λ q gives k e inside. met_again (get_or a.constraints k e) q.x p.x q.d p.d gives.numbers (gives.denominator ∙ sym d.0) (gives.met k e inside))) in
    let gives : GivesMet a line p = record { columns = columns; numbers = refl; denominator = d.0; met = met } in
    (p, gives, λ never. passes NotComplementary (inr (refl, p, gives, never)))
