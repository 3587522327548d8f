use Rattle.std.proofs.Common.{subst, string_bytes}
use Rattle.lpcc_run.specs.Commands.{ReadsNothing}
use Rattle.lpcc_run.proofs.Tails.{mapped_behind, none_behind}
use Rattle.lpcc_run.proofs.running.run_behind_name.Goals as goal

pub returns-in-empty-clause-reads_nothing : goal.returns-in-empty-clause-reads_nothing
returns-in-empty-clause-reads_nothing g c = λ nothing. c.run.ensures.reads_nothing (subst ReadsNothing (none_behind string_bytes c.args.called.now c.in-empty.len_below) nothing)

pub returns-in-len1-up-clause-reads_nothing : goal.returns-in-len1-up-clause-reads_nothing
returns-in-len1-up-clause-reads_nothing g c = λ nothing. c.run-in-len1-up.ensures.reads_nothing (subst ReadsNothing (mapped_behind string_bytes c.args.called.now) nothing)
