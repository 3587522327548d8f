use Rattle.command.proofs.laws.spelled_cases_are_cases.Goals as goal

pub returns : goal.returns
returns c = λ e bytes a rest h. c.a_decks_case_keeps_the_limits.ensures h.deck a (c.spelled_decks_keep.ensures bytes h.deck h.place h.spelled) h.case
