use Rattle.basic_solutions.proofs.PlaceSteps.{PlacesUpto}
use Rattle.basic_solutions.proofs.places.places_of.Given as goal

abbrev pub invariant-loop-j : goal.invariant-loop-j
invariant-loop-j l = PlacesUpto l.case l.dict l.places.items l.j
