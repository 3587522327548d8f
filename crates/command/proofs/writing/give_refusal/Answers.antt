use Rattle.std.proofs.Common.{refl, inr}
use Rattle.command.specs.declared.refusal.Refusal.TheVariants.{NoMemory}
use Rattle.command.proofs.writing.give_refusal.Goals as goal

pub returns-in-Err : goal.returns-in-Err
returns-in-Err g c = (NoMemory, inr refl, c.give_no_memory.ensures)
