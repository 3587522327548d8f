use Rattle.std.proofs.Common.{◌∙◌, refl, inl}
use Rattle.fronting.proofs.running.give_bilevel_deck.Goals as goal

pub returns-in-Ok : goal.returns-in-Ok
returns-in-Ok g c = inl (c.as_slice.result.now, 0, (c.as_slice.ensures.value ∙ c.in-Ok.ensures, refl), c.give.ensures)
