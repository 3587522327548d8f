use Rattle.std.proofs.Common.{◌+◌, ◌≡◌, drop}
use Rattle.edit_solving.proofs.Saying.{GoesOn}
use Rattle.edit_solving.proofs.scripts.say.Given as goal

abbrev pub invariant-loop-command : goal.invariant-loop-command
invariant-loop-command l = (l.line ≡ l.command-index + 1) × GoesOn l.fn.session l.commands l.session l.line (drop l.command-index l.commands) l.text.items
