use Rattle.engine.proofs.Turns.{may_settle}
use Rattle.edit_session.proofs.RunLaws.{always_ok, err_ok, settle_goes_on, settled_pass}
use Rattle.edit_session.proofs.turn.settle_piece.Goals.{in-Ok, in-Err}
use Rattle.edit_session.proofs.turn.settle_piece.Goals as goal

pub settle-requires : goal.settle-requires
settle-requires c = record {
  may = may_settle c.args.case.now c.args.options.now c.args.ticket c.in_ok-outcome.outcome c.args.desk.now c.requires.one c.requires.holds c.in_ok-outcome.ensures.outcome;
}

pub returns-clause-passes : goal.returns-clause-passes
returns-clause-passes c =
    always_ok c.match-settle.result (settled_pass c.args.case.now c.args.options.now c.args.ticket c.in_ok-outcome.outcome c.args.settled.now.items c.note_cut.new.settled.items c.in_ok-outcome.ensures.outcome c.in_ok-note_cut.ensures c.requires.passes)

pub returns-clause-run : goal.returns-clause-run
returns-clause-run c = elim c.match-settle.branch [
  | in-Ok w ↦ always_ok c.match-settle.result (λ kept waiting run. settle_goes_on c.args.case.now c.args.options.now kept c.args.desk.now c.settle.new.self c.args.ticket c.in_ok-outcome.outcome waiting c.args.settled.now.items c.note_cut.new.settled.items w.in-Ok.ensures.ok c.in_ok-note_cut.ensures run)
  | in-Err w ↦ err_ok _ c.match-settle.result _ w.result-is
]
