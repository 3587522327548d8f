use Rattle.std.proofs.lemmas.List.Elements.{All-map}
use Rattle.derivation.specs.HintRuns.{NamesBelow}
use Rattle.derivation.specs.Logs.{no_good_of}
use Rattle.search_tests.proofs.logs.find.Goals as goal

pub next-requires-clause-named : goal.next-requires-clause-named
next-requires-clause-named c = All-map (NamesBelow c.args.pairs) no_good_of c.args.log.now (c.are_named.ensures c.if-are_named.true)
