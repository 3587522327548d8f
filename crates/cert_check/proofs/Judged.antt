-- What the tests of single lines say of the first line that fails.
use Rattle.std.proofs.Common.{ℕ, ◌<◌, ◌≤◌, ◌≡◌, refl, sym, ap, ◌∙◌, subst, arith, ℤ, Bool, true, false, List, length, get_or, inl, inr, map, Option, Some}
use Rattle.std.specs.Prelude.{◌↔◌}
use Rattle.std.specs.List.{range_with_len}
use Rattle.std.proofs.lemmas.Bool.{both_ways}
use Rattle.std.proofs.lemmas.List.{length-map, map-id}
use Rattle.std.proofs.lemmas.List.FromFn.{fill_by_all}
use Rattle.std.proofs.Math.ListN.{get_or-map}
use Rattle.lp_base.specs.Sums.{dot}
use Rattle.nogoods.specs.declared.choice.Choice.{Choice}
use Rattle.nogoods.specs.declared.choice.Side.TheVariants.{A}
use Rattle.lpcc_case.specs.Instance.{Instance}
use Rattle.lpcc_case.specs.Points as points
use Rattle.lpcc_case.specs.Points.{MeetsAll, IsComplementary, IsTightAt}
use Rattle.lpcc_case.specs.Pieces.{NamesPairs}
use Rattle.lpcc_case.specs.NarrowPoints.{AreNumbersOf, IsPointFor, Means}
use Rattle.lpcc_case.specs.declared.point.Point.{Point}
use Rattle.lpcc_case.specs.Values.{IsValue}
use Rattle.lpcc_case.specs.declared.verdict.Verdict.TheVariants as verdict
use Rattle.lp_nums.specs.Fractions.{Fraction}
use Rattle.cert_text.specs.declared.cert.Cert.TheVariants.{Optimal, Unbounded}
use Rattle.lpcc_case.proofs.Meanings.{means_one}
use Rattle.cert_text.specs.declared.cert.CertPoint.{CertPoint}
use Rattle.cert_text.specs.declared.cert.CertLine.{CertLine}
use Rattle.cert_text.specs.Certs.{IsPoint}
use Rattle.cert_check.specs.declared.accept.NoWhy.{NoWhy}
use Rattle.cert_check.specs.declared.accept.NoWhy.TheVariants.{NotComplementary, ValueFails, RayFails}
use Rattle.cert_check.specs.declared.accept.CheckFault.{CheckFault}
use Rattle.cert_check.specs.declared.accept.CheckFault.TheVariants.{No, NoMemory}
use Rattle.cert_check.specs.Acceptance.{Accepts, GivesMet, HasCost, IsWholePiece, LineFails, NamesColumns, NoGoodsFail, PointLineFails, RayPasses, Refuses, RefusesAs, numbers_of}
use Rattle.cert_check.specs.Results.{IsPointOfLine, NamesFirst}
use Rattle.cert_check.proofs.PointLines.{PointLinePasses}
use Rattle.cert_check.proofs.Following.{whole_size, whole_at}
use Rattle.cert_check.proofs.Single.{from_first}

-- ---- points

means_from : (a : Instance) (line : CertPoint) (q : Point) → q.x ≡ numbers_of a.columns line.terms → q.d ≡ line.d → (p : points.Point a.columns) → GivesMet a line p → Means q p
means_from a line q x d p gives = (gives.numbers ∙ sym x, gives.denominator ∙ sym d)

point_of_line : (a : Instance) (line : CertPoint) (z : ℤ) (q : Point) (b : Bool) → IsPoint line → NamesColumns a line.terms → AreNumbersOf a q.x → q.x ≡ numbers_of a.columns line.terms → q.d ≡ line.d → q.z ≡ z
    → ((p : points.Point a.columns) → Means q p → (b ≡ true) ↔ MeetsAll a p) → b ≡ true → IsPointOfLine a line z q
point_of_line a line z q b form named numbers x d value exact meets =
    let fits : IsPointFor a q = record { numbers = numbers; narrow = rw d form.narrow; positive = rw d form.positive } in
    let p = means_one a q fits in
    let gives : GivesMet a line p.0 = record { columns = named; numbers = p.1.0 ∙ x; denominator = p.1.1 ∙ d; met = (exact p.0 p.1).0 meets } in
    record { fits = fits; given = (p.0, gives); means = means_from a line q x d; denominator = d; value = value }

-- the same, where the terms were read as a list of their own
pub point_read : (a : Instance) (line : CertPoint) (terms : List (ℕ × ℤ)) (z : ℤ) (q : Point) (b : Bool) → terms ≡ line.terms → IsPoint line → NamesColumns a terms → AreNumbersOf a q.x → q.x ≡ numbers_of a.columns terms → q.d ≡ line.d → q.z ≡ z
    → ((p : points.Point a.columns) → Means q p → (b ≡ true) ↔ MeetsAll a p) → b ≡ true → IsPointOfLine a line z q
point_read a line terms z q b read form named numbers x d value exact meets =
    let P : List (ℕ × ℤ) → Type 0 = λ ts. NamesColumns a ts × (q.x ≡ numbers_of a.columns ts) in
    let there = subst P read (named, x) in
    point_of_line a line z q b form there.0 numbers there.1 d value exact meets

-- the same, for a z that was read again
pub line_point : (a : Instance) (line : CertPoint) (z : ℤ) (q : Point) {again : ℤ} → again ≡ z → IsPointOfLine a line again q → IsPointOfLine a line z q
line_point a line z q same m = subst (λ y. IsPointOfLine a line y q) same m

-- ---- what is asked of a point besides

pub lacks : (a : Instance) (Asked : points.Point a.columns → Type 0) (line : CertPoint) (z : ℤ) (q : Point) (b : Bool) → IsPointOfLine a line z q
    → ((p : points.Point a.columns) → Means q p → (b ≡ true) ↔ Asked p) → b ≡ false → PointLineFails a Asked line NotComplementary
lacks a Asked line z q b m exact fails =
    inr (refl, m.given.0, m.given.1, λ asked. both_ways b fails ((exact m.given.0 (m.means m.given.0 m.given.1)).1 asked))

pub has : (a : Instance) (Asked : points.Point a.columns → Type 0) (line : CertPoint) (z : ℤ) (q : Point) (b : Bool) → IsPointOfLine a line z q
    → ((p : points.Point a.columns) → Means q p → (b ≡ true) ↔ Asked p) → b ≡ true → PointLinePasses a Asked line
has a Asked line z q b m exact holds why (inl x) = x.1 m.given.0 m.given.1
has a Asked line z q b m exact holds why (inr y) = y.3 ((exact y.1 (m.means y.1 y.2)).0 holds)

numbers_are : (a : Instance) (line : CertPoint) (z : ℤ) (q : Point) → IsPointOfLine a line z q → q.x ≡ numbers_of a.columns line.terms
numbers_are a line z q m = sym ((m.means m.given.0 m.given.1).0) ∙ m.given.1.numbers

pub right_cost : (a : Instance) (line : CertPoint) (z : ℤ) (q : Point) → IsPointOfLine a line z q → q.z ≡ dot a.cost q.x → HasCost a line z
right_cost a line z q m cost = sym m.value ∙ cost ∙ ap (dot a.cost) (numbers_are a line z q m)

pub wrong_cost : (a : Instance) (line : CertPoint) (z : ℤ) (q : Point) (b : Bool) → IsPointOfLine a line z q → (b ≡ true) ↔ (q.z ≡ dot a.cost q.x) → b ≡ false → HasCost a line z → ⊥
wrong_cost a line z q b m exact fails cost = both_ways b fails (exact.1 (m.value ∙ cost ∙ ap (dot a.cost) (sym (numbers_are a line z q m))))

-- ---- the first line that fails in a certificate of an optimum

optimal_from : (a : Instance) (line : CertPoint) (z : ℤ) (lines : List CertLine) (n : ℕ) (why : NoWhy) → LineFails a (Optimal line z lines) n why → n < 3 → ⊥
optimal_from a line z lines n why (inl x) before = omega (arith, x.0, before)
optimal_from a line z lines n why (inr (inl x)) before = omega (arith, x.0, before)
optimal_from a line z lines n why (inr (inr x)) before = from_first a (Some (z, line.d)) lines 5 n why x (omega (arith, before))

pub optimal_point_first : (a : Instance) (line : CertPoint) (z : ℤ) (lines : List CertLine) (why : NoWhy) → PointLineFails a (IsComplementary a) line why → Refuses a (Optimal line z lines) 3 why
optimal_point_first a line z lines why fails = record { fails = inl (refl, fails); first = λ m other before f. optimal_from a line z lines m other f before }

optimal_point_passed : (a : Instance) (line : CertPoint) (z : ℤ) (lines : List CertLine) (n : ℕ) (why : NoWhy) → PointLinePasses a (IsComplementary a) line → LineFails a (Optimal line z lines) n why → n < 4 → ⊥
optimal_point_passed a line z lines n why passes (inl x) before = passes why x.1
optimal_point_passed a line z lines n why passes (inr (inl x)) before = omega (arith, x.0, before)
optimal_point_passed a line z lines n why passes (inr (inr x)) before = from_first a (Some (z, line.d)) lines 5 n why x (omega (arith, before))

pub optimal_value_first : (a : Instance) (line : CertPoint) (z : ℤ) (lines : List CertLine) → PointLinePasses a (IsComplementary a) line → (HasCost a line z → ⊥) → Refuses a (Optimal line z lines) 4 ValueFails
optimal_value_first a line z lines passes fails =
    record { fails = inr (inl (refl, refl, fails)); first = λ m other before f. optimal_point_passed a line z lines m other passes f before }

-- a line that fails is one of the no-good lines
optimal_rest : (a : Instance) (line : CertPoint) (z : ℤ) (lines : List CertLine) (n : ℕ) (why : NoWhy) → PointLinePasses a (IsComplementary a) line → HasCost a line z → LineFails a (Optimal line z lines) n why → NoGoodsFail a (Some (z, line.d)) lines 5 n why
optimal_rest a line z lines n why passes cost (inl x) = absurd (passes why x.1)
optimal_rest a line z lines n why passes cost (inr (inl x)) = absurd (x.2 cost)
optimal_rest a line z lines n why passes cost (inr (inr x)) = x

-- the value, read again
pub value_again : (z d : ℤ) {y e : ℤ} → y ≡ z → e ≡ d → ◌≡◌ {A = Option (ℤ × ℤ)} (Some (y, e)) (Some (z, d))
value_again z d same_z same_d = rw (same_z, same_d) refl

pub optimal_lines_first : (a : Instance) (line : CertPoint) (z : ℤ) (lines : List CertLine) (fault : CheckFault) {value : Option (ℤ × ℤ)} → PointLinePasses a (IsComplementary a) line → HasCost a line z → value ≡ Some (z, line.d) → NamesFirst (NoGoodsFail a value lines 5) fault → RefusesAs a (Optimal line z lines) fault
optimal_lines_first a line z lines (No n why) passes cost same first =
    let here = subst (λ v. NamesFirst (NoGoodsFail a v lines 5) (No n why)) same first in
    record { fails = inr (inr here.0); first = λ m other before f. here.1 m other before (optimal_rest a line z lines m other passes cost f) }
optimal_lines_first a line z lines (NoMemory error) passes cost same first = tt

pub optimal_accepted : (a : Instance) (line : CertPoint) (z : ℤ) (lines : List CertLine) (f : Fraction) (y d : ℤ) {value : Option (ℤ × ℤ)} → PointLinePasses a (IsComplementary a) line → HasCost a line z → value ≡ Some (z, line.d) → ((n : ℕ) (why : NoWhy) → NoGoodsFail a value lines 5 n why → ⊥) → y ≡ z → d ≡ line.d → IsValue a y d f → Accepts a (Optimal line z lines) (verdict.Optimal f)
optimal_accepted a line z lines f y d passes cost same none same_z same_d is =
    let P : Option (ℤ × ℤ) → Type 0 = λ v. (n : ℕ) (why : NoWhy) → NoGoodsFail a v lines 5 n why → ⊥ in
    record {
      passes = λ n why fails. subst P same none n why (optimal_rest a line z lines n why passes cost fails);
      claims = rw (← same_z, ← same_d) is;
    }

-- ---- and in one that the cost falls without end

piece_passed : (a : Instance) (piece : List Choice) (line : CertPoint) (ray : List (ℕ × ℤ)) (n : ℕ) (why : NoWhy) → IsWholePiece a piece → LineFails a (Unbounded piece line ray) n why → n < 4 → ⊥
piece_passed a piece line ray n why whole (inl x) before = x.2 whole
piece_passed a piece line ray n why whole (inr (inl x)) before = omega (arith, x.0, before)
piece_passed a piece line ray n why whole (inr (inr x)) before = omega (arith, x.0, before)

pub unbounded_point_first : (a : Instance) (piece : List Choice) (line : CertPoint) (ray : List (ℕ × ℤ)) (why : NoWhy) → IsWholePiece a piece → PointLineFails a (λ p. IsTightAt a p piece) line why → Refuses a (Unbounded piece line ray) 4 why
unbounded_point_first a piece line ray why whole fails =
    record { fails = inr (inl (refl, fails)); first = λ m other before f. piece_passed a piece line ray m other whole f before }

unbounded_rest : (a : Instance) (piece : List Choice) (line : CertPoint) (ray : List (ℕ × ℤ)) (n : ℕ) (why : NoWhy) → IsWholePiece a piece → PointLinePasses a (λ p. IsTightAt a p piece) line → LineFails a (Unbounded piece line ray) n why → (n ≡ 5) × (RayPasses a piece ray → ⊥)
unbounded_rest a piece line ray n why whole passes (inl x) = absurd (x.2 whole)
unbounded_rest a piece line ray n why whole passes (inr (inl x)) = absurd (passes why x.1)
unbounded_rest a piece line ray n why whole passes (inr (inr x)) = (x.0, x.2)

pub ray_first : (a : Instance) (piece : List Choice) (line : CertPoint) (ray : List (ℕ × ℤ)) → IsWholePiece a piece → PointLinePasses a (λ p. IsTightAt a p piece) line → (RayPasses a piece ray → ⊥) → Refuses a (Unbounded piece line ray) 5 RayFails
ray_first a piece line ray whole passes fails = record {
  fails = inr (inr (refl, refl, fails));
  first = λ m other before f. let rest = unbounded_rest a piece line ray m other whole passes f in omega (arith, rest.0, before);
}

pub unbounded_accepted : (a : Instance) (piece : List Choice) (line : CertPoint) (ray : List (ℕ × ℤ)) → IsWholePiece a piece → PointLinePasses a (λ p. IsTightAt a p piece) line → RayPasses a piece ray → Accepts a (Unbounded piece line ray) verdict.Unbounded
unbounded_accepted a piece line ray whole passes goes = record { passes = λ n why f. (unbounded_rest a piece line ray n why whole passes f).1 goes; claims = tt }

-- ---- pieces

pub whole_names : (a : Instance) (piece : List Choice) → IsWholePiece a piece → NamesPairs a piece
whole_names a piece whole k d inside =
    let size = whole_size a piece whole in
    let within : k < length a.pairs = omega (arith, inside, size) in
    let at = whole_at a piece k d whole within in
    omega (arith, within, at)

-- a list whose places hold their numbers
counted : (xs : List ℕ) (n : ℕ) → length xs ≡ n → ((k : ℕ) → k < n → get_or xs k 0 ≡ k) → xs ≡ range_with_len 0 n
counted xs n size each = fill_by_all (λ k. k) xs n 0 size each ∙ map-id (range_with_len 0 n)

pub whole_from : (a : Instance) (piece : List Choice) → length piece ≡ length a.pairs → ((k : ℕ) (d : Choice) → k < length piece → (get_or piece k d).pair ≡ k) → IsWholePiece a piece
whole_from a piece size each =
    let none : Choice = record { pair = 0; side = A } in
    counted (map (λ c. c.pair) piece) (length a.pairs) (length-map piece (λ c. c.pair) ∙ size)
    (λ k inside. get_or-map (λ (e : Choice). e.pair) piece k none ∙ each k none (omega (arith, inside, size)))

-- what the tests of a piece find, which read the choices and the pairs as lists
pub wrong_size : (a : Instance) (piece choices : List Choice) (pairs : List (ℕ × ℕ)) → choices ≡ piece → pairs ≡ a.pairs → (length choices ≡ length pairs → ⊥) → IsWholePiece a piece → ⊥
wrong_size a piece choices pairs read there differ whole =
    differ (ap length read ∙ whole_size a piece whole ∙ sym (ap length there))

pub wrong_pair : (a : Instance) (piece choices : List Choice) (pairs : List (ℕ × ℕ)) (k : ℕ) (d : Choice) → choices ≡ piece → pairs ≡ a.pairs → length choices ≡ length pairs → k < length choices → ((get_or choices k d).pair ≡ k → ⊥) → IsWholePiece a piece → ⊥
wrong_pair a piece choices pairs k d read there size inside differ whole =
    let within : k < length a.pairs = omega (arith, inside, size, ap length there) in
    differ (ap (λ cs. (get_or cs k d).pair) read ∙ whole_at a piece k d whole within)

pub right_pairs : (a : Instance) (piece choices : List Choice) (pairs : List (ℕ × ℕ)) (n : ℕ) → choices ≡ piece → pairs ≡ a.pairs → length choices ≡ length pairs → length choices ≤ n → ((k : ℕ) (d : Choice) → k < n → (get_or choices k d).pair ≡ k) → IsWholePiece a piece
right_pairs a piece choices pairs n read there size all each =
    subst (IsWholePiece a) read (whole_from a choices (size ∙ ap length there) (λ k d inside. each k d (omega (arith, inside, all))))
