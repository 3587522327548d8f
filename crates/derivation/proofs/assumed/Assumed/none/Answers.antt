use Rattle.derivation.proofs.FlagLaws.{none_flagged}
use Rattle.derivation.proofs.assumed.Assumed.none.Goals as goal

pub returns : goal.returns
returns c choice named = none_flagged 512 choice.side choice.pair
