use Rattle.migrating.proofs.Keeping.{counts_alike}
use Rattle.migrating.proofs.laws.migrations_count_alike.Goals as goal

pub returns : goal.returns
returns c = counts_alike
