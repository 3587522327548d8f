use Rattle.std.proofs.Common.{rules, ◌∙◌, ap, map}
use Rattle.mps_lex.specs.Shown.{shown}
use Rattle.mps_pairs.proofs.First.{fault_held, data_held}
use Rattle.mps_pairs.proofs.tables.Tables.parse_data.Goals as goal

pub returns-clause-fault : goal.returns-clause-fault
returns-clause-fault c = fault_held c.parse_fields.result c.args.current c.args.self.now _ _ (search rules) (ap (map shown) c.deref.ensures.value ∙ c.requires) c.parse_fields.ensures.fault

pub returns-clause-ok : goal.returns-clause-ok
returns-clause-ok c = data_held c.parse_fields.result c.parse_fields.new.self c.args.current c.args.self.now c.args.line.now.number _ _ (search rules) (ap (map shown) c.deref.ensures.value ∙ c.requires) c.parse_fields.ensures.ok
