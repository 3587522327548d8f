use Rattle.migrating.proofs.Accepting.{accepted_alike}
use Rattle.migrating.proofs.laws.migrations_are_accepted_alike.Goals as goal

pub returns : goal.returns
returns c = accepted_alike
