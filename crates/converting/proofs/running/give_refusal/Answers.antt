use Rattle.std.proofs.Common.{◌∙◌, refl, Err, inr}
use Rattle.converting.specs.declared.refusal.Refusal.TheVariants.{NoMemory}
use Rattle.converting.proofs.Exits.{given_refusal}
use Rattle.converting.proofs.running.give_refusal.Goals as goal

pub returns-in-Ok : goal.returns-in-Ok
returns-in-Ok g c = given_refusal _ _ _ _ _ c.as_bytes.result.now c.status.result c.args.why (c.as_bytes.ensures.value ∙ c.in-Ok.ensures) c.status.ensures c.give.ensures

pub returns-in-Err : goal.returns-in-Err
returns-in-Err g c = (Err NoMemory, inr refl, c.give_no_memory.ensures)
