use Rattle.std.proofs.Common.{sym}
use Rattle.std.proofs.lemmas.Result.{err_from_is_err_and}
use Rattle.edit_text.proofs.Going.{command_refused, end_refused, ends, keeps_on, not_ended, starts}
use Rattle.edit_text.proofs.read.parse_commands.Goals as goal

pub loop-line-init : goal.loop-line-init
loop-line-init c = starts c.new-commands.result c.args.text.now c.new-commands.ensures

pub returns-in_err-parse_end : goal.returns-in_err-parse_end
returns-in_err-parse_end c =
    let p = err_from_is_err_and c.from_residual.result c.from_residual.ensures.1 in
    rw (p.1, p.2) (end_refused c.in_err-parse_end.field-0.0 c.loop-line.commands c.loop-line.number c.loop-line.rest.now c.in-Some.line.now c.in-Some.behind.now _ c.loop-line.invariant.1.0 c.in-Some.ensures (sym c.if-is_end.ensures) c.in_err-parse_end.ensures c.loop-line.invariant.0)

pub returns-then-is_end : goal.returns-then-is_end
returns-then-is_end c =
    ends c.loop-line.commands c.loop-line.number c.loop-line.rest.now c.in-Some.line.now c.in-Some.behind.now _ c.loop-line.invariant.1.0 c.in-Some.ensures (sym c.if-is_end.ensures) c.in_ok-parse_end.ensures c.loop-line.invariant.0

pub returns-in_err-parse_line : goal.returns-in_err-parse_line
returns-in_err-parse_line c =
    let p = err_from_is_err_and c.from_residual-in_err-parse_line.result c.from_residual-in_err-parse_line.ensures.1 in
    rw (p.1, p.2) (command_refused c.in_err-parse_line.field-0.0 c.loop-line.commands c.loop-line.number c.loop-line.rest.now c.in-Some.line.now c.in-Some.behind.now _ c.loop-line.invariant.1.0 c.in-Some.ensures (sym c.if-is_end.ensures) c.in_err-parse_line.ensures c.loop-line.invariant.0)

pub loop-line-preserved : goal.loop-line-preserved
loop-line-preserved c =
    keeps_on c.loop-line.commands c.push.new.self c.loop-line.number c.loop-line.rest.now c.in-Some.line.now c.in-Some.behind.now c.args.text.now c.in_ok-parse_line.field-0 c.loop-line.invariant c.in-Some.ensures (sym c.if-is_end.ensures) c.in_ok-parse_line.ensures c.in_ok-push.ensures.ok

pub returns : goal.returns
returns c = not_ended c.loop-line.commands c.loop-line.number c.loop-line.rest.now _ c.loop-line.invariant.1.0 c.in_default.ensures c.loop-line.invariant.0
