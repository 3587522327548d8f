use Rattle.std.proofs.Common.{ap, arith, ◌∙◌, ◌+◌, ◌∷◌, [], ℕ, length}
use Rattle.cert_parts.specs.Lines.{starts_of}
use Rattle.cert_parts.proofs.LineLaws.{count_is, count_read, counts_next}
use Rattle.cert_parts.proofs.lines.add_count.Goals as goal

pub counted-count-requires : goal.counted-count-requires
counted-count-requires c = omega (arith, count_read c.args.steps.now c.args.at c.index.result.now c.args.made.now.items c.requires.counted c.index.ensures, count_is c.args.steps.now c.args.at c.args.made.now.items c.requires.within c.requires.counted)

pub returns : goal.returns
returns c =
    let more : ℕ → ℕ = λ n. n + length (starts_of (c.index-steps-at.result ∷ [])) in
    counts_next c.args.steps.now c.args.at c.index-steps-at.result c.counted-count.result c.args.made.now.items c.push.new.self.items c.requires.within c.index-steps-at.is
    (c.counted-count.ensures ∙ ap more (count_read c.args.steps.now c.args.at c.index.result.now c.args.made.now.items c.requires.counted c.index.ensures)) c.requires.counted c.in_ok-push.ensures.items
