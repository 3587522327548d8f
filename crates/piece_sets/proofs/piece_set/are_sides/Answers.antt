use Rattle.std.proofs.Common.{◌≡◌, refl}
use Rattle.std.specs.Bool.{Decides}
use Rattle.std.proofs.lemmas.Bool.{false≢true}
use Rattle.std.proofs.lemmas.Slice.Eq.{slice_eq-Decides}
use Rattle.nogoods.specs.declared.choice.Side.{Side}
use Rattle.nogoods.specs.declared.choice.Side.TheVariants.{A, B}
use Rattle.nogoods.specs.contracts.choice.SidePartialEq.TheImpl as sides
use Rattle.piece_sets.proofs.piece_set.are_sides.Goals as goal

decided : (a b : Side) → Decides (sides.eq-value.it a b) (a ≡ b)
decided A A = (λ h. refl, λ h. refl)
decided A B = (λ h. absurd (false≢true h), λ h. absurd (cc))
decided B A = (λ h. absurd (false≢true h), λ h. absurd (cc))
decided B B = (λ h. refl, λ h. refl)

pub returns : goal.returns
returns c =
    let d = slice_eq-Decides decided c.sides.result.now c.args.sides.now c.eq.result c.eq.ensures in
    rw (← c.sides.ensures) d
