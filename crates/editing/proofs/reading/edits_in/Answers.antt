use Rattle.editing.proofs.Exits.{refused_behind, rules_kept, spelled_edits}
use Rattle.editing.proofs.reading.edits_in.Goals as goal

pub returns-in-Ok-script_behind-clause-spelled : goal.returns-in-Ok-script_behind-clause-spelled
returns-in-Ok-script_behind-clause-spelled c = spelled_edits c.args.input.now c.in-Ok.place c.in-Ok.case c.in-Ok-script_behind.script c.in-Ok.ensures.spelled c.in-Ok-script_behind.ensures.spelled

pub returns-in-Err-script_behind-clause-refused : goal.returns-in-Err-script_behind-clause-refused
returns-in-Err-script_behind-clause-refused c = refused_behind c.args.input.now c.in-Ok.place c.in-Ok.case c.in-Err-script_behind.refusal c.requires c.in-Ok.ensures.spelled c.in-Err-script_behind.ensures.refused

pub returns-in-Ok-script_behind-clause-rules : goal.returns-in-Ok-script_behind-clause-rules
returns-in-Ok-script_behind-clause-rules c = rules_kept c.args.input.now c.in-Ok.place c.in-Ok-script_behind.script c.requires c.in-Ok-script_behind.ensures.spelled
