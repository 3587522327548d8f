use Rattle.migrating.proofs.Keeping.{keeps_form}
use Rattle.migrating.proofs.laws.migrations_keep_their_form.Goals as goal

pub returns : goal.returns
returns c = keeps_form
