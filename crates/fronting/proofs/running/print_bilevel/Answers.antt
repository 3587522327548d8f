use Rattle.std.specs.Prelude.{Ok}
use Rattle.front_text.specs.Texts.{FailsAsBilevel, SpellsBilevel}
use Rattle.front_deck.specs.Meanings.{IsDeckOfBilevel}
use Rattle.kkt_front.specs.DeckTexts.{bilevel_text}
use Rattle.fronting.specs.Runs.{IsBilevelDeck}
use Rattle.fronting.proofs.FrontRuns.{printed, refused, run_of}
use Rattle.fronting.proofs.running.print_bilevel.Goals as goal

pub returns-in-Ok-clause-answered : goal.returns-in-Ok-clause-answered
returns-in-Ok-clause-answered g c = run_of SpellsBilevel FailsAsBilevel IsBilevelDeck _ _ _ _ _ _ _ _ (Ok c.in-Ok.bilevel) c.in-Ok.ensures.right c.give_bilevel_deck.ensures

pub returns-in-Ok-clause-printed : goal.returns-in-Ok-clause-printed
returns-in-Ok-clause-printed g c = λ zero bytes told.
    let run = run_of SpellsBilevel FailsAsBilevel IsBilevelDeck _ _ _ _ _ _ _ _ (Ok c.in-Ok.bilevel) c.in-Ok.ensures.right c.give_bilevel_deck.ensures in
    printed SpellsBilevel FailsAsBilevel bilevel_text IsDeckOfBilevel (λ text p spelled. c.printed_decks_are_those_of_their_problems.ensures.bilevel p spelled.rules) _ _ _ _ _ _ _ _ bytes run told zero

pub returns-in-Err-clause-answered : goal.returns-in-Err-clause-answered
returns-in-Err-clause-answered g c = refused SpellsBilevel FailsAsBilevel IsBilevelDeck _ _ _ _ _ _ _ _ c.in-Err.refusal c.in-Err.ensures.right c.give_front_refusal.ensures

pub returns-in-Err-clause-printed : goal.returns-in-Err-clause-printed
returns-in-Err-clause-printed g c = λ zero bytes told.
    let run = refused SpellsBilevel FailsAsBilevel IsBilevelDeck _ _ _ _ _ _ _ _ c.in-Err.refusal c.in-Err.ensures.right c.give_front_refusal.ensures in
    printed SpellsBilevel FailsAsBilevel bilevel_text IsDeckOfBilevel (λ text p spelled. c.printed_decks_are_those_of_their_problems.ensures.bilevel p spelled.rules) _ _ _ _ _ _ _ _ bytes run told zero
