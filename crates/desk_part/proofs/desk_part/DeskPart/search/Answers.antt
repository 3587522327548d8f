use Rattle.std.proofs.Common.{ap, sym, subst, length, ◌∙◌}
use Rattle.play.specs.Parts.{Part}
use Rattle.desk_part.specs.DeskParts.{IsCarried, Learns}
use Rattle.desk_part.proofs.DrawLaws.{named_log, shows_result, learns_of}
use Rattle.desk_part.proofs.SearchLaws.{look_searched, searched_open}
use Rattle.desk_part.specs.contracts.desk_part.DeskPart.{the_view}
use Rattle.desk_part.proofs.desk_part.DeskPart.search.Goals as goal

pub look-found-requires-clause-named : goal.look-found-requires-clause-named
look-found-requires-clause-named c = named_log c.args.case.now c.args.options.now c.args.self.now c.self.inside.log c.pairs.result.now c.requires.carried (ap (λ (x : Part). x.log) (sym c.self.view_is)) c.pairs.ensures.list

pub look-found-requires-clause-goes_on : goal.look-found-requires-clause-goes_on
look-found-requires-clause-goes_on c = c.self.invariant.search

pub invariant_of-self : goal.invariant_of-self
invariant_of-self c = look_searched (the_view c.self.inside) c.look-found.new.log c.self.inside.blocked c.self.inside.kept c.look-found.new.kept c.self.invariant c.look-found.ensures.goes_on

pub returns-clause-shows : goal.returns-clause-shows
returns-clause-shows c =
    let d : Part = the_view c.self.inside in
    shows_result c.args.case.now c.args.options.now d c.self.inside.blocked c.look-found.new.log c.look-found.result (length c.pairs.result.now) (subst (IsCarried c.args.case.now c.args.options.now) (sym c.self.view_is) c.requires.carried) (ap length c.pairs.ensures.list)
    (searched_open d c.args.self.now c.self.inside.blocked c.self.inside.kept c.self.view_is c.requires.waiting c.requires.settled c.self.invariant) c.look-found.ensures.found c.look-found.ensures.empty

pub returns-clause-learns : goal.returns-clause-learns
returns-clause-learns c =
    let d : Part = the_view c.self.inside in
    let P : Part → Type 0 = λ x. Learns c.args.case.now c.args.options.now x (record d { log = c.look-found.new.log }) in
    subst P c.self.view_is (learns_of c.args.case.now c.args.options.now d c.look-found.new.log (length c.pairs.result.now) (sym (ap (λ (x : Part). x.verdict) (sym c.self.view_is)) ∙ c.requires.waiting) c.steps.ensures.kept (ap length c.pairs.ensures.list) c.look-found.ensures.grown)
