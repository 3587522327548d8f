use Rattle.derivation.specs.Logs.{no_goods}
use Rattle.search.proofs.Resolving.{more_resolvent}
use Rattle.search.proofs.resolve.resolve_more.Goals as goal

pub returns : goal.returns
returns c =
    more_resolvent (no_goods c.args.log.now) c.args.sides.now c.args.resolvent.marks.items c.mark.new.marks.items c.args.resolvent.hints.items c.insert.new.self.items c.args.first c.choices_of.result.now c.choices_of.ensures.list c.mark.ensures.kept c.mark.ensures.marked c.in_ok-insert.ensures.items c.requires.first c.requires.second
