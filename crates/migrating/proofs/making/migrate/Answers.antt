use Rattle.migrating.proofs.Keeping.{made_keeps, made_few}
use Rattle.migrating.proofs.making.migrate.Goals as goal

pub returns-clause-form : goal.returns-clause-form
returns-clause-form c = made_keeps c.args.cert.now c.line_count-count.result c.make.result c.line_count-count.ensures.value c.line_count-count.ensures.few c.requires c.make.ensures

pub returns-clause-few : goal.returns-clause-few
returns-clause-few c = made_few c.args.cert.now c.line_count-count.result c.make.result c.line_count-count.ensures.value c.line_count-count.ensures.few c.make.ensures
