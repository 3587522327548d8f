use Rattle.std.proofs.Common.{◌<◌, sym, subst, List, length}
use Rattle.dict.specs.Dictionaries.{Dictionary}
use Rattle.dict.specs.Equations.{Equation}
use Rattle.dict.specs.Forms.{IsDictionaryAt, IsWideDictionary, with_rows}
use Rattle.walks.specs.Duals.{IsPlaced}
use Rattle.walks.specs.Steps.{IsSized}
use Rattle.lex_simplex.proofs.Steps.{walk_sized}
use Rattle.lex_simplex.proofs.Nexts.{walk_placed}
use Rattle.lex_simplex.proofs.Results.{some_join, none_map}
use Rattle.lex_simplex.proofs.EndLaws.{end_ray, some_steps_of_ray}
use Rattle.lex_simplex.proofs.ends.ray_here.Goals as goal

pub is_down-down-requires : goal.is_down-down-requires
is_down-down-requires c = subst (λ (d : Dictionary). c.args.row < length d.rows) (sym c.dict-dict.ensures) c.requires.row.within

pub ray_of-requires-clause-sized : goal.ray_of-requires-clause-sized
ray_of-requires-clause-sized c = subst (λ (d : Dictionary). IsSized c.args.case.now d) (sym c.dict-dict.ensures) (walk_sized c.args.case.now c.args.tight.now c.args.walk.now c.constraints-constraints.ensures.kept c.requires.on)

pub ray_of-requires-clause-placed : goal.ray_of-requires-clause-placed
ray_of-requires-clause-placed c = subst (λ (d : Dictionary). IsPlaced c.args.case.now d) (sym c.dict-dict.ensures) (walk_placed c.args.case.now c.args.tight.now c.args.walk.now c.constraints-constraints.ensures.kept c.requires.on)

pub ray_of-requires-clause-col : goal.ray_of-requires-clause-col
ray_of-requires-clause-col c = subst (λ (d : Dictionary). c.args.col < length d.nonbasic) (sym c.dict-dict.ensures) c.requires.enters.within

pub returns-clause-ray : goal.returns-clause-ray
returns-clause-ray c =
    some_join c.ray_of.result (λ ray numbers direction lowest. end_ray c.args.case.now c.args.tight.now c.args.walk.now c.dict-dict.result.now c.stage.result c.args.row c.args.col c.is_down-down.result ray c.dict-dict.ensures c.stage.ensures c.is_down-down.ensures c.constraints-constraints.ensures.kept c.requires.on c.requires.looked c.requires.last c.requires.row c.requires.enters c.requires.none numbers direction lowest) c.ray_of.ensures.numbers c.ray_of.ensures.direction c.ray_of.ensures.lowest

pub returns-clause-some : goal.returns-clause-some
returns-clause-some c = none_map c.ray_of.result (λ wide. some_steps_of_ray c.args.case.now c.args.tight.now c.args.walk.now c.dict-dict.result.now c.is_down-down.result c.args.col c.dict-dict.ensures c.requires.on wide) c.ray_of.ensures.none

pub returns-clause-wide : goal.returns-clause-wide
returns-clause-wide c = none_map c.ray_of.result (λ wide. subst (λ (d : Dictionary). (rows : List Equation) → IsDictionaryAt c.args.case.now (with_rows rows d) → IsWideDictionary (with_rows rows d)) c.dict-dict.ensures wide) c.ray_of.ensures.wide
