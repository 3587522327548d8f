use Rattle.std.proofs.Common.{sym, subst, List}
use Rattle.dict.specs.Dictionaries.{Dictionary}
use Rattle.dict.specs.Equations.{Equation}
use Rattle.dict.specs.Forms.{IsDictionaryAt, IsWideDictionary, with_rows}
use Rattle.walks.specs.Duals.{IsPlaced}
use Rattle.walks.specs.Steps.{IsSized}
use Rattle.lex_simplex.proofs.Steps.{walk_sized}
use Rattle.lex_simplex.proofs.Nexts.{walk_placed}
use Rattle.lex_simplex.proofs.Results.{some_join, none_map}
use Rattle.lex_simplex.proofs.EndLaws.{end_point, some_steps_of_point}
use Rattle.lex_simplex.proofs.ends.point_here.Goals as goal

pub point_of-requires-clause-sized : goal.point_of-requires-clause-sized
point_of-requires-clause-sized c = subst (λ (d : Dictionary). IsSized c.args.case.now d) (sym c.dict.ensures) (walk_sized c.args.case.now c.args.tight.now c.args.walk.now c.constraints-constraints.ensures.kept c.requires.on)

pub point_of-requires-clause-placed : goal.point_of-requires-clause-placed
point_of-requires-clause-placed c = subst (λ (d : Dictionary). IsPlaced c.args.case.now d) (sym c.dict.ensures) (walk_placed c.args.case.now c.args.tight.now c.args.walk.now c.constraints-constraints.ensures.kept c.requires.on)

pub returns-clause-point : goal.returns-clause-point
returns-clause-point c =
    some_join c.point_of.result (λ q numbers base lowest. (end_point c.args.case.now c.args.tight.now c.args.walk.now c.dict.result.now q c.dict.ensures c.constraints-constraints.ensures.kept c.requires.on c.requires.looked c.requires.last numbers base lowest).point) c.point_of.ensures.numbers c.point_of.ensures.basic c.point_of.ensures.lowest

pub returns-clause-value : goal.returns-clause-value
returns-clause-value c =
    some_join c.point_of.result (λ q numbers base lowest. (end_point c.args.case.now c.args.tight.now c.args.walk.now c.dict.result.now q c.dict.ensures c.constraints-constraints.ensures.kept c.requires.on c.requires.looked c.requires.last numbers base lowest).value) c.point_of.ensures.numbers c.point_of.ensures.basic c.point_of.ensures.lowest

pub returns-clause-some : goal.returns-clause-some
returns-clause-some c = none_map c.point_of.result (λ wide. some_steps_of_point c.args.case.now c.args.tight.now c.args.walk.now c.dict.result.now c.dict.ensures c.requires.on wide) c.point_of.ensures.none

pub returns-clause-wide : goal.returns-clause-wide
returns-clause-wide c = none_map c.point_of.result (λ wide. subst (λ (d : Dictionary). (rows : List Equation) → IsDictionaryAt c.args.case.now (with_rows rows d) → IsWideDictionary (with_rows rows d)) c.dict.ensures wide) c.point_of.ensures.wide
