use Rattle.std.proofs.Common.{◌≡◌, sym, subst, true, rules}
use Rattle.worker.specs.Reading.{IsReading}
use Rattle.worker.proofs.LaneLaws.{read_end, read_more}
use Rattle.worker.proofs.reading.read_next.Goals as goal

pub returns-then-not-next-clause-reading : goal.returns-then-not-next-clause-reading
returns-then-not-next-clause-reading c =
    let none : c.next.result ≡ true → ⊥ = search rules in
    read_end c.args.case.now c.args.piece.now c.args.known.now.incumbent c.args.reach.now c.next.new.self c.args.lane _ _ c.next.result c.args.found.now none c.next.ensures.same c.next.ensures.next c.requires.reading

pub returns-clause-reading : goal.returns-clause-reading
returns-clause-reading c =
    let came : c.next.result ≡ true = search rules in
    let was = c.take-before.ensures.value in
    let best = c.learn.new.known.incumbent in
    let reading = subst (λ f. IsReading c.args.case.now c.args.piece.now c.args.known.now.incumbent c.args.reach.now f) (sym was) c.requires.reading in
    let reading' = subst (λ b. IsReading c.args.case.now c.args.piece.now b c.args.reach.now c.take-before.result) (sym c.learn.ensures.incumbent) reading in
    read_more c.args.case.now c.args.piece.now best c.args.reach.now c.next.new.self c.args.lane c.given-place.result _ _ c.next.result c.take-before.result c.in_ok-found.field-0 c.requires.other c.requires.lane c.given-place.ensures came c.next.ensures.same c.next.ensures.next c.in_ok-found.ensures reading'
