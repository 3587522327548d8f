use Rattle.std.proofs.Common.{refl, inr}
use Rattle.command.specs.declared.refusal.Refusal.TheVariants.{NoMemory}
use Rattle.editing.specs.declared.refusal.EditRefusal.TheVariants.{Input}
use Rattle.editing.proofs.refusal.give_edit_refusal.Goals as goal

pub returns-in-Err : goal.returns-in-Err
returns-in-Err g c = (Input NoMemory, inr refl, c.give_no_memory.ensures)
