use Rattle.std.proofs.Common.{rules}
use Rattle.cut_words.specs.Words.{AreWordsOf, IsInPlace}
use Rattle.cut_words.proofs.Readings.{passing_same}
use Rattle.worker.proofs.noting.cut_of.Goals as goal

pub returns-clause-passes : goal.returns-clause-passes
returns-clause-passes c =
    let place : IsInPlace c.args.case.now c.in-Some.cut = search rules in
    let words : AreWordsOf c.args.case.now c.in-Some.cut c.args.words.now = search rules in
    passing_same c.args.case.now c.in-Some.cut c.args.words.now place words c.requires.fact
