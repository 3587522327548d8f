use Rattle.std.proofs.Common.{◌∙◌, sym, rules}
use Rattle.std.proofs.lemmas.Bool.{false≢true}
use Rattle.cut_words.specs.Words.{AreWordsOf, IsInPlace}
use Rattle.worker.proofs.LaneLaws.{not_against}
use Rattle.worker.proofs.noting.barring_cut.Goals as goal

pub returns-else-serves : goal.returns-else-serves
returns-else-serves c =
    let case = c.args.case.now in
    let cut = c.in_ok-cut.cut in
    let place : IsInPlace c.args.case.now c.in_ok-cut.cut = search rules in
    let words : AreWordsOf c.args.case.now c.in_ok-cut.cut c.args.words.now = search rules in
    not_against case c.args.piece.now c.args.known.now.incumbent cut c.args.words.now place words (λ p. false≢true (sym c.if-serves.false ∙ c.serves.ensures.1 p))
