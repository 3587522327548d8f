use Rattle.std.proofs.Common.{◌∙◌, sym, arith}
use Rattle.lex_simplex.proofs.Scans.{zero_bits_wide}
use Rattle.lex_simplex.proofs.Ties.{earliest_new, seen_here}
use Rattle.lex_simplex.proofs.tie.earlier_at.Goals as goal

pub returns-then-lead-eq0-clause-seen : goal.returns-then-lead-eq0-clause-seen
returns-then-lead-eq0-clause-seen c =
    seen_here c.args.case.now c.args.tight.now c.args.dict.now c.args.col c.args.down c.args.c.row c.args.b.row c.args.e c.args.place c.args.k c.requires.form
    (sym c.lead_at-lead.ensures.value ∙ zero_bits_wide c.lead_at-lead.result c.lead_at-lead.ensures.small c.if-lead-eq0.true)

pub returns-clause-kept : goal.returns-clause-kept
returns-clause-kept c =
    earliest_new c.args.case.now c.args.tight.now c.args.dict.now c.args.col c.args.down c.args.c.row c.args.b.row c.args.e c.args.k c.lead_at-lead.result c.requires.e (omega (arith, c.if-k-e.false)) c.lead_at-lead.ensures.value c.lead_at-lead.ensures.small c.if-lead-eq0.false
