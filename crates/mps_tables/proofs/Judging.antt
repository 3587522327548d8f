-- The first of two faults.
use Rattle.std.proofs.Common.{◌≡◌, Option, Some, None, Result, Ok, Err, ap, ◌∙◌}
use Rattle.decks.specs.declared.fault.DeckWhy.{DeckWhy}
use Rattle.mps_tables.specs.declared.fault.Fault.{Fault}
use Rattle.mps_tables.specs.declared.fault.Fault.TheVariants as faults
use Rattle.decks.specs.Faults.{◌or◌}
use Rattle.mps_tables.specs.Answers.{Tells, Judges}

pub first_is : (w : DeckWhy) (a b : Option DeckWhy) → a ≡ Some w → (a or b) ≡ Some w
first_is w a b e = ap (λ (x : Option DeckWhy). x or b) e

pub then_is : (a b c : Option DeckWhy) → a ≡ None → b ≡ c → (a or b) ≡ c
then_is a b c e h = ap (λ (x : Option DeckWhy). x or b) e ∙ h

pub first_tells : (f : Fault) (a b : Option DeckWhy) → Tells f a → Tells f (a or b)
first_tells faults.Memory a b h = tt
first_tells (faults.Of w) a b h = ap (λ (x : Option DeckWhy). x or b) h

pub then_judges : {X : Type 0} (r : Result X Fault) (a b : Option DeckWhy) → a ≡ None → Judges r b → Judges r (a or b)
then_judges (Ok x) a b e h = then_is a b None e h
then_judges (Err faults.Memory) a b e h = tt
then_judges (Err (faults.Of w)) a b e h = then_is a b (Some w) e h
