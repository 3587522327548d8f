use Rattle.std.proofs.Common.{ap}
use Rattle.play.specs.Parts.{Part}
use Rattle.desk_part.proofs.CloseLaws.{blocked_by, idle_learned, piece_ending_by, refuted_not, stuck_is_ending, stuck_keeps_form}
use Rattle.desk_part.proofs.desk_part.DeskPart.unsolved.Goals as goal

pub unreachable-requires : goal.unreachable-requires
unreachable-requires c = refuted_not c.args.case.now c.args.options.now c.args.self c.search.new.self c.in_ok-left.field-0 c.requires.carried c.requires.waiting c.requires.over c.in_ok-left.ensures.learns c.in-Refuted.is c.in_ok-left.ensures.shows

pub returns-in-Piece-clause-ending : goal.returns-in-Piece-clause-ending
returns-in-Piece-clause-ending c = piece_ending_by c.args.case.now c.args.options.now c.args.self c.search.new.self c.in_ok-left.field-0 c.in-Piece.left c.part.inside.drawn c.requires.waiting c.requires.over c.in_ok-left.ensures.learns c.in-Piece.is c.in_ok-left.ensures.shows (ap (λ (x : Part). x.drawn) c.part.view_is)

pub stuck-requires-clause-idle : goal.stuck-requires-clause-idle
stuck-requires-clause-idle c = idle_learned c.args.case.now c.args.options.now c.args.self c.search.new.self c.requires.waiting c.requires.over c.in_ok-left.ensures.learns

pub stuck-requires-clause-blocked : goal.stuck-requires-clause-blocked
stuck-requires-clause-blocked c = blocked_by c.args.case.now c.search.new.self c.in_ok-left.field-0 c.in-Blocked.is c.in_ok-left.ensures.shows

pub returns-in-Blocked-clause-ending : goal.returns-in-Blocked-clause-ending
returns-in-Blocked-clause-ending c = stuck_is_ending c.args.case.now c.args.options.now c.args.self c.search.new.self c.stuck.result c.in_ok-left.ensures.learns c.stuck.ensures

pub returns-in-Blocked-clause-form : goal.returns-in-Blocked-clause-form
returns-in-Blocked-clause-form c = stuck_keeps_form c.args.case.now c.search.new.self c.stuck.result c.stuck.ensures
