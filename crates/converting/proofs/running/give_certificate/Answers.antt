use Rattle.std.proofs.Common.{◌∙◌, refl, Err, inr}
use Rattle.converting.specs.declared.refusal.Refusal.TheVariants.{NoMemory}
use Rattle.converting.proofs.Exits.{given_text}
use Rattle.converting.proofs.running.give_certificate.Goals as goal

pub returns-in-Ok : goal.returns-in-Ok
returns-in-Ok g c = given_text _ _ _ _ _ c.as_slice.result.now c.args.cert.now (c.as_slice.ensures.value ∙ c.in-Ok.ensures) c.give.ensures

pub returns-in-Err : goal.returns-in-Err
returns-in-Err g c = (Err NoMemory, inr refl, c.give_no_memory.ensures)
