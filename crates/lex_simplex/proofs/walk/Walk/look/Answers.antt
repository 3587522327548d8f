use Rattle.std.proofs.Common.{ℕ, ◌≡◌, ◌<◌, sym, subst, length}
use Rattle.lpcc_case.specs.declared.form.Form.TheVariants as form
use Rattle.dict.specs.Dictionaries.{Dictionary, form_at}
use Rattle.walks.specs.Duals.{IsPlaced}
use Rattle.walks.specs.Steps.{IsSized}
use Rattle.lex_simplex.proofs.Steps.{walk_sized}
use Rattle.lex_simplex.proofs.Nexts.{walk_placed}
use Rattle.lex_simplex.proofs.Looks.{looked_at_is_basic}
use Rattle.lex_simplex.proofs.walk.Walk.look.Goals as goal

pub look_at-requires-clause-sized : goal.look_at-requires-clause-sized
look_at-requires-clause-sized c = subst (λ (d : Dictionary). IsSized c.args.case.now d) (sym c.dict.ensures) (walk_sized c.args.case.now c.args.tight.now c.args.self.now c.constraints-constraints.ensures.kept c.requires.on)

pub look_at-requires-clause-placed : goal.look_at-requires-clause-placed
look_at-requires-clause-placed c = subst (λ (d : Dictionary). IsPlaced c.args.case.now d) (sym c.dict.ensures) (walk_placed c.args.case.now c.args.tight.now c.args.self.now c.constraints-constraints.ensures.kept c.requires.on)

pub look_at-requires-clause-basic : goal.look_at-requires-clause-basic
look_at-requires-clause-basic c =
    subst (λ (d : Dictionary). (j : ℕ) → j < length d.nonbasic → form_at d.nonbasic j ≡ form.Con c.looked.result → ⊥) (sym c.dict.ensures)
    (subst (λ (k : ℕ). (j : ℕ) → j < length c.args.self.now.at.nonbasic → form_at c.args.self.now.at.nonbasic j ≡ form.Con k → ⊥) (sym c.looked.ensures) (looked_at_is_basic c.args.case.now c.args.tight.now c.args.self.now c.requires.on c.requires.looked))
