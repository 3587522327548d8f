use Rattle.std.proofs.Common.{ap, ◌∙◌, ◌++◌, ◌∷◌, [], List, ℕ}
use Rattle.cert_parts.proofs.LineLaws.{counts_begin}
use Rattle.cert_parts.proofs.lines.starts_before.Goals as goal

pub loop-at-init : goal.loop-at-init
loop-at-init c =
    let first : List ℕ → List ℕ = λ l. l ++ 0 ∷ [] in
    counts_begin c.args.steps.now c.push.new.self.items (c.in_ok-push.ensures.items ∙ ap first c.new-made.ensures.items)
