use Rattle.std.proofs.Common.{ap, get_or, map, sym, ◌∙◌}
use Rattle.std.proofs.lemmas.Bool.{false≢true}
use Rattle.cuts.specs.Cuts.{no_good_of}
use Rattle.play.specs.declared.event.Aside.{Aside}
use Rattle.desk_part.proofs.CloseLaws.{barred_stays, best_inside, lowest_new, lowest_stays}
use Rattle.desk_part.proofs.stuck.better.Goals as goal

pub is_behind-requires-clause-best : goal.is_behind-requires-clause-best
is_behind-requires-clause-best c = best_inside (map no_good_of c.args.absorbed.now) c.args.aside.now c.args.best c.args.at c.requires.within c.requires.best

pub returns-then-is_behind : goal.returns-then-is_behind
returns-then-is_behind c = lowest_stays c.args.absorbed.now c.args.aside.now c.args.best c.args.at (c.is_behind.ensures.behind c.if-is_behind.true) c.requires.best

pub returns-then-is_barred : goal.returns-then-is_barred
returns-then-is_barred c =
    let read : Aside → Aside = λ d. get_or c.args.aside.now c.args.at d in
    barred_stays c.args.absorbed.now c.args.aside.now c.args.best c.args.at (read c.index-aside-at.result) c.requires.within (ap read c.index-aside-at.is) (c.is_barred.ensures.0 c.if-is_barred.true) c.requires.best

pub returns : goal.returns
returns c =
    let read : Aside → Aside = λ d. get_or c.args.aside.now c.args.at d in
    lowest_new c.args.absorbed.now c.args.aside.now c.args.best c.args.at (read c.index-aside-at.result) c.requires.within (ap read c.index-aside-at.is) (λ any. false≢true (sym c.if-is_barred.false ∙ c.is_barred.ensures.1 any)) (c.is_behind.ensures.before c.if-is_behind.false) c.requires.best
