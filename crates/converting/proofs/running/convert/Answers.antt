use Rattle.std.proofs.Common.{Ok, Err}
use Rattle.converting.proofs.Exits.{converted, said}
use Rattle.converting.proofs.running.convert.Goals as goal

pub returns-in-Ok-clause-answered : goal.returns-in-Ok-clause-answered
returns-in-Ok-clause-answered g c = converted _ _ _ _ _ _ _ _ (Ok c.in-Ok.cert) c.in-Ok.ensures.right c.give_certificate.ensures

pub returns-in-Ok-clause-converted : goal.returns-in-Ok-clause-converted
returns-in-Ok-clause-converted g c = λ zero bytes told.
    said _ _ _ _ _ _ _ _ bytes (converted _ _ _ _ _ _ _ _ (Ok c.in-Ok.cert) c.in-Ok.ensures.right c.give_certificate.ensures) zero told

pub returns-in-Err-clause-answered : goal.returns-in-Err-clause-answered
returns-in-Err-clause-answered g c = converted _ _ _ _ _ _ _ _ (Err c.in-Err.refusal) c.in-Err.ensures.right c.give_refusal.ensures

pub returns-in-Err-clause-converted : goal.returns-in-Err-clause-converted
returns-in-Err-clause-converted g c = λ zero bytes told.
    said _ _ _ _ _ _ _ _ bytes (converted _ _ _ _ _ _ _ _ (Err c.in-Err.refusal) c.in-Err.ensures.right c.give_refusal.ensures) zero told
