use Rattle.std.proofs.Common.{ℤ, arith, rules, ◌+◌, ◌∙◌, ap, ◌++◌, ◌∷◌, []}
use Rattle.std.proofs.lemmas.Int.{to_z-of_z}
use mir.Syntax.{w128}
use Rattle.dict.proofs.SparseSums.{terms_higher}
use Rattle.dict.proofs.Merges.{put_weighs, put_terms}
use Rattle.dict.proofs.merge.put.Goals as goal

pub returns-in_ok-push-clause-weighs : goal.returns-in_ok-push-clause-weighs
returns-in_ok-push-clause-weighs c = put_weighs c.args.out.now.items c.push.new.self.items c.args.at c.args.value (c.in_ok-push.ensures.items ∙ ap (λ (z : ℤ). c.args.out.now.items ++ (c.args.at, z) ∷ []) (to_z-of_z w128 c.args.value c.ranges.value))

pub returns-in_ok-push-clause-terms : goal.returns-in_ok-push-clause-terms
returns-in_ok-push-clause-terms c = put_terms c.args.out.now.items c.push.new.self.items c.args.at c.args.value (c.in_ok-push.ensures.items ∙ ap (λ (z : ℤ). c.args.out.now.items ++ (c.args.at, z) ∷ []) (to_z-of_z w128 c.args.value c.ranges.value)) (search rules)

pub returns-else-value-ne0-clause-terms : goal.returns-else-value-ne0-clause-terms
returns-else-value-ne0-clause-terms c = λ bound low small h. terms_higher bound low c.args.at (c.args.at + 1) c.args.out.now.items h (omega arith)
