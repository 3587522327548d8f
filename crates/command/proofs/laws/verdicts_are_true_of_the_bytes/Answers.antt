use Rattle.command.proofs.laws.verdicts_are_true_of_the_bytes.Goals as goal

pub returns : goal.returns
returns c = λ e bytes a rest v h k. record {
  deck = h.deck;
  place = h.place;
  spelled = h.spelled;
  is_true = (c.verdicts_are_those_of_the_deck.ensures h.deck a v (c.spelled_decks_keep.ensures bytes h.deck h.place h.spelled) h.case).0 k;
}
