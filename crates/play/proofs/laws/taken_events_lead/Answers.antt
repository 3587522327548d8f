use Rattle.play.proofs.MachineLaws.{taken_leads}
use Rattle.play.proofs.laws.taken_events_lead.Goals as goal

pub returns : goal.returns
returns c = taken_leads
