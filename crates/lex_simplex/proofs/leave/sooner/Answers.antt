use Rattle.std.proofs.Common.{arith}
use Rattle.walks.specs.Values.{parts}
use Rattle.lex_simplex.specs.Ratios.{lead}
use Rattle.lex_simplex.proofs.Scans.{scanned_wide}
use Rattle.lex_simplex.proofs.leave.sooner.Goals as goal

pub returns-then-lead-ne0 : goal.returns-then-lead-ne0
returns-then-lead-ne0 c =
    scanned_wide (parts c.args.case.now) 0 (lead c.args.case.now c.args.tight.now c.args.dict.now c.args.col c.args.down c.args.c.row c.args.b.row) c.lead_of-lead.result (omega arith) (λ q lt. absurd (omega (arith, lt))) c.lead_of-lead.ensures.value c.lead_of-lead.ensures.small c.if-lead-ne0.true
