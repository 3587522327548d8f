-- When the tests of a point and a ray say that the ray recedes for a point of the piece.
use Rattle.std.proofs.Common.{◌≡◌, sym, subst, List, Bool, true, false}
use Rattle.std.specs.Prelude.{◌↔◌, IsTrue}
use Rattle.std.proofs.lemmas.Bool.{false≢true}
use Rattle.nogoods.specs.declared.choice.Choice.{Choice}
use Rattle.nogoods.specs.declared.choice.Side.{Side}
use Rattle.lpcc_case.specs.Instance.{Instance}
use Rattle.lpcc_case.specs.Points as points
use Rattle.lpcc_case.specs.Points.{IsTightAt, MeetsAll, Recedes}
use Rattle.lpcc_case.specs.Pieces.{IsPiece, NamesPairs}
use Rattle.lpcc_case.specs.NarrowPoints.{AreNumbersOf, IsPointOf, Means}
use Rattle.lpcc_case.specs.declared.point.Point.{Point}
use Rattle.lpcc_case.specs.declared.point.Ray.{Ray}
use Rattle.lpcc_case.proofs.Meanings.{means_one}
use Rattle.play.specs.Points.{IsDirection, choices_of, direction}
use Rattle.play.proofs.Choices.{choices_named, lies_in_piece}
use Rattle.play.proofs.Verdicts.{tight_in_piece}

-- the choices of a piece of the case name its pairs
pub named_choices : (a : Instance) (sides : List Side) (tight : List Choice) → tight ≡ choices_of sides → IsPiece a sides → NamesPairs a tight
named_choices a sides tight e is = subst (NamesPairs a) (sym e) (choices_named a sides is)

pub not_piece : (a : Instance) (sides : List Side) (q : Point) (ray : Ray) (b : Bool) → IsTrue b ↔ IsPiece a sides → (b ≡ true → ⊥) → IsTrue false ↔ IsDirection a (direction sides q ray)
not_piece a sides q ray b exact not = ((λ e. absurd (false≢true e)), (λ x. absurd (not (exact.1 x.piece))))

pub not_of : (a : Instance) (sides : List Side) (q : Point) (ray : Ray) (b : Bool) → IsTrue b ↔ IsPointOf a q → (b ≡ true → ⊥) → IsTrue false ↔ IsDirection a (direction sides q ray)
not_of a sides q ray b exact not = ((λ e. absurd (false≢true e)), (λ x. absurd (not (exact.1 x.point))))

pub not_numbers : (a : Instance) (sides : List Side) (q : Point) (ray : Ray) (b : Bool) → IsTrue b ↔ AreNumbersOf a ray.r → (b ≡ true → ⊥) → IsTrue false ↔ IsDirection a (direction sides q ray)
not_numbers a sides q ray b exact not = ((λ e. absurd (false≢true e)), (λ x. absurd (not (exact.1 x.numbers))))

pub not_met : (a : Instance) (sides : List Side) (q : Point) (ray : Ray) (b : Bool) → ((p : points.Point a.columns) → Means q p → IsTrue b ↔ MeetsAll a p) → (b ≡ true → ⊥) → IsTrue false ↔ IsDirection a (direction sides q ray)
not_met a sides q ray b exact not = (
  (λ e. absurd (false≢true e)),
  (λ x. let p = means_one a q x.point.fits in absurd (not ((exact p.0 p.1).1 (x.lies p.0 p.1).met))),
)

pub not_tight : (a : Instance) (sides : List Side) (q : Point) (ray : Ray) (tight : List Choice) (b : Bool) → tight ≡ choices_of sides → ((p : points.Point a.columns) → Means q p → IsTrue b ↔ IsTightAt a p tight) → (b ≡ true → ⊥) → IsTrue false ↔ IsDirection a (direction sides q ray)
not_tight a sides q ray tight b e exact not = (
  (λ h. absurd (false≢true h)),
  (λ x. let p = means_one a q x.point.fits in absurd (not ((exact p.0 p.1).1 (subst (IsTightAt a p.0) (sym e) (tight_in_piece a sides p.0 (x.lies p.0 p.1)))))),
)

-- the point is one of the piece, and it is asked for the ray
pub if_recedes : (a : Instance) (sides : List Side) (q : Point) (ray : Ray) (tight : List Choice) (met there r : Bool) → tight ≡ choices_of sides → IsPiece a sides → IsPointOf a q → AreNumbersOf a ray.r
    → ((p : points.Point a.columns) → Means q p → IsTrue met ↔ MeetsAll a p) → met ≡ true
    → ((p : points.Point a.columns) → Means q p → IsTrue there ↔ IsTightAt a p tight) → there ≡ true
    → IsTrue r ↔ Recedes a tight ray.r → IsTrue r ↔ IsDirection a (direction sides q ray)
if_recedes a sides q ray tight met there r e is of numbers meets m ties t recedes = (
  (λ h. record {
    piece = is;
    point = of;
    numbers = numbers;
    lies = λ p means. lies_in_piece a sides p ((meets p means).0 m) (subst (IsTightAt a p) e ((ties p means).0 t));
    recedes = subst (λ cs. Recedes a cs ray.r) e (recedes.0 h);
  }),
  (λ x. recedes.1 (subst (λ cs. Recedes a cs ray.r) (sym e) x.recedes)),
)

pub ruleset directions = (named_choices, not_piece, not_of, not_numbers, not_met, not_tight, if_recedes)
