use Rattle.probe.proofs.within.is_within.Goals as goal

pub returns : goal.returns
returns c = λ h. rw (c.choices.ensures.list, c.choices-2.ensures.list) at (c.are_among.ensures h)
