use Rattle.migrating.proofs.Saying.{says_the_same}
use Rattle.migrating.proofs.laws.migrations_say_the_same.Goals as goal

pub returns : goal.returns
returns c = says_the_same
