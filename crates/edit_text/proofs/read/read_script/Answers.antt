use Rattle.edit_text.proofs.Clauses.{given_fails, given_only, given_only_fails, given_spelled}
use Rattle.edit_text.proofs.read.read_script.Goals as goal

pub returns-clause-spelled : goal.returns-clause-spelled
returns-clause-spelled c = given_spelled c.parse_script.result c.args.text.now c.parse_script.ensures

pub returns-clause-only : goal.returns-clause-only
returns-clause-only c = given_only c.parse_script.result c.args.text.now c.parse_script.ensures

pub returns-clause-fails : goal.returns-clause-fails
returns-clause-fails c = given_fails c.parse_script.result c.args.text.now c.parse_script.ensures

pub returns-clause-only_fails : goal.returns-clause-only_fails
returns-clause-only_fails c = given_only_fails c.parse_script.result c.args.text.now c.parse_script.ensures
