-- The texts of optima, of numbers as the code hands them on.
use Rattle.std.proofs.Common.{ℕ, ◌≤◌, ◌^◌, ◌≡◌, ◌++◌, ◌∙◌, sym, ap, subst, arith, take, List, Result, Ok, Err, ℤ, to_z, of_z}
use Rattle.std.specs.Prelude.{IfOk, unsigned_abs}
use mir.Syntax.{w128}
use Rattle.lp_base.proofs.Machine.{again}
use Rattle.lp_nums.specs.Fractions.{Fraction}
use Rattle.lpcc_case.specs.Instance.{Instance}
use Rattle.lpcc_case.specs.Values.{IsValue}
use Rattle.cert_text.specs.declared.cert.Cert.{Cert}
use Rattle.cert_text.specs.declared.cert.Cert.TheVariants.{Optimal}
use Rattle.cert_text.specs.declared.cert.CertLine.{CertLine}
use Rattle.cert_text.specs.declared.cert.CertPoint.{CertPoint}
use Rattle.front_solving.specs.Solving.{IsGiven, IsGivenPoint}
use Rattle.front_solving.specs.Texts.{IsBilevelText, IsLcpText, first_numbers, optimum_text, point_text, solution_text}

read : (z : ℤ) → unsigned_abs z ≤ 2 ^ 126 → to_z w128 (of_z w128 z) ≡ z
read z room = again z (omega (arith, room))

pub given_again : (a : Instance) (point : CertPoint) (z : ℤ) → unsigned_abs z ≤ 2 ^ 126 → IsGivenPoint a point z → IsGivenPoint a point (to_z w128 (of_z w128 z))
given_again a point z room h = subst (λ y. IsGivenPoint a point y) (sym (read z room)) h

pub given_of : (a : Instance) (cert : Cert) (point : CertPoint) (z : ℤ) (lines : List CertLine) → cert ≡ Optimal point z lines → IsGiven a cert → IsGivenPoint a point (to_z w128 (of_z w128 z))
given_of a cert point z lines e h =
    let k = subst (λ (c : Cert). IsGiven a c) e h in
    given_again a point z k.1 k.2

-- what is said of the number that was handed on is said of the number
pub value_again : {T F : Type 0} (r : Result T F) (a : Instance) (point : CertPoint) (z : ℤ) (Says : Fraction → T → Type 0) → unsigned_abs z ≤ 2 ^ 126
    → IfOk r (λ t. (value : Fraction) × IsValue a (to_z w128 (of_z w128 z)) point.d value × Says value t) → IfOk r (λ t. (value : Fraction) × IsValue a z point.d value × Says value t)
value_again (Ok t) a point z Says room h = (h.0, subst (λ y. IsValue a y point.d h.0) (read z room) h.1, h.2)
value_again (Err e) a point z Says room h = tt

-- a line with the first numbers of a point
pub line_of : {T F : Type 0} (r : Result T F) (view : T → List ℕ) (line : List ℕ → List ℕ) (bytes : List ℕ) (d e : ℤ) (n : ℕ) (x y : List ℤ) → bytes ≡ point_text e (take n y) → e ≡ d → y ≡ x → IfOk r (λ t. view t ≡ line bytes) → IfOk r (λ t. view t ≡ line (point_text d (take n x)))
line_of (Ok t) view line bytes d e n x y eb ed ex h = h ∙ ap line (eb ∙ ap (λ z. point_text z (take n y)) ed ∙ ap (λ z. point_text d (take n z)) ex)
line_of (Err f) view line bytes d e n x y eb ed ex h = tt

pub behind_front : {T F : Type 0} (r : Result T F) (view : T → List ℕ) (front behind rest : List ℕ) → behind ≡ rest → IfOk r (λ t. view t ≡ front ++ behind) → IfOk r (λ t. view t ≡ front ++ rest)
behind_front (Ok t) view front behind rest e h = h ∙ ap (λ b. front ++ b) e
behind_front (Err f) view front behind rest e h = tt

-- the text of an optimum of this value
pub with_value : {T F : Type 0} (r : Result T F) (view : T → List ℕ) (a : Instance) (point : CertPoint) (z : ℤ) (value : Fraction) (text : Fraction → List ℕ) → unsigned_abs z ≤ 2 ^ 126 → IsValue a (to_z w128 (of_z w128 z)) point.d value
    → IfOk r (λ t. view t ≡ text value) → IfOk r (λ t. (v : Fraction) × IsValue a z point.d v × (view t ≡ text v))
with_value (Ok t) view a point z value text room is h = (value, subst (λ y. IsValue a y point.d value) (read z room) is, h)
with_value (Err e) view a point z value text room is h = tt

room_of : (a : Instance) (cert : Cert) (point : CertPoint) (z : ℤ) (lines : List CertLine) → cert ≡ Optimal point z lines → IsGiven a cert → unsigned_abs z ≤ 2 ^ 126
room_of a cert point z lines e h = (subst (λ (c : Cert). IsGiven a c) e h).1

of_cert : {T F : Type 0} (r : Result T F) (P : Cert → T → Type 0) (c d : Cert) → c ≡ d → IfOk r (P d) → IfOk r (P c)
of_cert (Ok t) P c d e h = subst (λ (x : Cert). P x t) (sym e) h
of_cert (Err f) P c d e h = tt

pub lcp_optimum : {T F : Type 0} (r : Result T F) (view : T → List ℕ) (size : ℕ) (a : Instance) (cert : Cert) (point : CertPoint) (z : ℤ) (lines : List CertLine) → cert ≡ Optimal point z lines → IsGiven a cert
    → IfOk r (λ t. (value : Fraction) × IsValue a (to_z w128 (of_z w128 z)) point.d value × (view t ≡ solution_text point.d (first_numbers a point size))) → IfOk r (λ t. IsLcpText size a cert (view t))
lcp_optimum r view size a cert point z lines e h t =
    of_cert r (λ c x. IsLcpText size a c (view x)) cert (Optimal point z lines) e
    (value_again r a point z (λ value x. view x ≡ solution_text point.d (first_numbers a point size)) (room_of a cert point z lines e h) t)

pub bilevel_optimum : {T F : Type 0} (r : Result T F) (view : T → List ℕ) (variables : ℕ) (a : Instance) (cert : Cert) (point : CertPoint) (z : ℤ) (lines : List CertLine) → cert ≡ Optimal point z lines → IsGiven a cert
    → IfOk r (λ t. (value : Fraction) × IsValue a (to_z w128 (of_z w128 z)) point.d value × (view t ≡ optimum_text value point.d (first_numbers a point variables))) → IfOk r (λ t. IsBilevelText variables a cert (view t))
bilevel_optimum r view variables a cert point z lines e h t =
    of_cert r (λ c x. IsBilevelText variables a c (view x)) cert (Optimal point z lines) e
    (value_again r a point z (λ value x. view x ≡ optimum_text value point.d (first_numbers a point variables)) (room_of a cert point z lines e h) t)
