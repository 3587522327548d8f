-- Equal parts make equal constraints.
use Rattle.std.proofs.Common.{◌≡◌, List, [], ◌∷◌, Bool, IsTrue, ap}
use Rattle.lpcc_case.specs.declared.constraint.Constraint.{Constraint}
use Rattle.lpcc_case.specs.Instance.{Instance}

pub same_parts : (a b : Constraint) → a.kind ≡ b.kind → a.rhs ≡ b.rhs → a.terms ≡ b.terms → a ≡ b
same_parts a b k r t = λ i. record { kind = k i; terms = t i; rhs = r i }

pub same_instance : (a b : Instance) → a.columns ≡ b.columns → a.cost ≡ b.cost → a.scale ≡ b.scale → a.offset ≡ b.offset → a.sense ≡ b.sense → a.constraints ≡ b.constraints → a.pairs ≡ b.pairs → a ≡ b
same_instance a b c k s o w n p = λ i. record { columns = c i; cost = k i; scale = s i; offset = o i; sense = w i; constraints = n i; pairs = p i }

-- lists with equal heads are equal where their tails are
pub same_list : {T : Type 0} (b : Bool) (x y : T) (xs ys : List T) → x ≡ y → (IsTrue b → xs ≡ ys) → IsTrue b → x ∷ xs ≡ y ∷ ys
same_list b x y xs ys e f h = λ i. e i ∷ f h i

abbrev tail : {T : Type 0} → List T → List T
tail [] = []
tail (z ∷ zs) = zs

pub same_tail : {T : Type 0} (b : Bool) (x y : T) (xs ys : List T) → (xs ≡ ys → IsTrue b) → x ∷ xs ≡ y ∷ ys → IsTrue b
same_tail b x y xs ys f e = f (ap tail e)

pub same_pair : {A B : Type 0} (p q : A × B) → p.0 ≡ q.0 → p.1 ≡ q.1 → p ≡ q
same_pair p q e f = λ i. (e i, f i)

pub ruleset equals = (same_parts, same_instance, same_list, same_tail, same_pair)
