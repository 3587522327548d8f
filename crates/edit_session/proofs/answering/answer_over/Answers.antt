use Rattle.edit_session.proofs.RunLaws.{answer_is, may_close}
use Rattle.edit_session.proofs.answering.answer_over.Goals as goal

pub close-requires : goal.close-requires
close-requires c = record { over = may_close c.args.case.now c.args.options.now c.args.kept.now c.play.new.desk c.play.new.settled.items c.in_ok-play.ensures.played }

pub returns-clause-answer : goal.returns-clause-answer
returns-clause-answer c =
    answer_is c.args.case.now c.args.options.now c.args.kept.now c.play.new.desk c.play.new.settled.items c.in_ok-ending.ending c.in_ok-play.ensures.played c.in_ok-ending.ensures.each c.in_ok-ending.ensures.form
