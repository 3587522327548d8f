use Rattle.edit_solving.proofs.Saying.{ended_at, gone_on_at, refused_at, stopped_at}
use Rattle.edit_solving.proofs.scripts.say.Goals as goal

pub returns-in-Err-clause-refused : goal.returns-in-Err-clause-refused
returns-in-Err-clause-refused c = refused_at c.args.session.now c.loop-command.session c.args.commands.now c.loop-command.command-index c.loop-command.line c.command-item.result c.loop-command.text.items c.in-Err.refusal c.loop-command-test.true c.command-item.is c.in-Err.ensures.refused c.loop-command.invariant.1

pub returns-then-status-ne0-clause-said : goal.returns-then-status-ne0-clause-said
returns-then-status-ne0-clause-said c = stopped_at c.args.session.now c.loop-command.session c.follow.new.session c.args.commands.now c.loop-command.command-index c.loop-command.line c.in-Ok.status c.command-item.result c.loop-command.text.items c.follow.new.text.items c.loop-command-test.true c.command-item.is c.in-Ok.ensures.done c.if-status-ne0.true c.loop-command.invariant.1

pub loop-command-preserved : goal.loop-command-preserved
loop-command-preserved c = gone_on_at c.args.session.now c.loop-command.session c.follow.new.session c.args.commands.now c.loop-command.command-index c.loop-command.line c.in-Ok.status c.command-item.result c.loop-command.text.items c.follow.new.text.items c.loop-command-test.true c.command-item.is c.in-Ok.ensures.done c.if-status-ne0.false c.loop-command.invariant

pub returns-clause-said : goal.returns-clause-said
returns-clause-said c = ended_at c.args.session.now c.loop-command.session c.args.commands.now c.loop-command.command-index c.loop-command.line c.loop-command.text.items c.loop-command-test.false c.loop-command.invariant.1
