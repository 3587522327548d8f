-- The first of two faults with their lines.
use Rattle.std.proofs.Common.{◌≡◌, Option, None, Result, Ok, Err, ap, ◌∙◌}
use Rattle.decks.specs.declared.fault.DeckFault.{DeckFault}
use Rattle.decks.specs.declared.fault.DeckFault.TheVariants.{NoMemory, At}
use Rattle.decks.specs.Faults.{◌or◌, Found}
use Rattle.mps_pairs.specs.Answers.{TellsAt, JudgesAt}

pub first_tells_at : (f : DeckFault) (a b : Option Found) → TellsAt f a → TellsAt f (a or b)
first_tells_at (NoMemory m) a b h = tt
first_tells_at (At line w) a b h = ap (λ (x : Option Found). x or b) h

pub then_tells_at : (f : DeckFault) (a b : Option Found) → a ≡ None → TellsAt f b → TellsAt f (a or b)
then_tells_at (NoMemory m) a b e h = tt
then_tells_at (At line w) a b e h = ap (λ (x : Option Found). x or b) e ∙ h

pub then_judges_at : {X : Type 0} (r : Result X DeckFault) (a b : Option Found) → a ≡ None → JudgesAt r b → JudgesAt r (a or b)
then_judges_at (Ok x) a b e h = ap (λ (y : Option Found). y or b) e ∙ h
then_judges_at (Err f) a b e h = then_tells_at f a b e h
