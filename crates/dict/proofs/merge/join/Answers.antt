use Rattle.std.proofs.Common.{ℕ, ℤ, ◌+ℤ◌, ◌*ℤ◌, ◌≡◌, OnOk, subst}
use Rattle.dict.specs.Terms.{weigh}
use Rattle.dict.proofs.Machine.{joined}
use Rattle.dict.proofs.merge.join.Goals as goal

pub returns-clause-weighs : goal.returns-clause-weighs
returns-clause-weighs c =
    subst (λ (z : ℤ). OnOk c.put.result ((v : ℕ → ℤ) → weigh c.put.new.out.items v ≡ weigh c.args.out.now.items v +ℤ (z *ℤ v c.args.at)))
    (joined c.args.p c.args.x c.args.a c.args.y c.mixed.result c.requires.p c.requires.x c.requires.a c.requires.y c.mixed.ensures.value c.mixed.ensures.small)
    c.put.ensures.weighs
