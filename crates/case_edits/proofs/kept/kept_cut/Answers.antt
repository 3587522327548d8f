use Rattle.case_edits.proofs.kept.kept_cut.Goals as goal

pub returns-in-Point : goal.returns-in-Point
returns-in-Point c = rw c.in-Point.is (c.kept_point.ensures c.in-Point.v)
