use Rattle.play.specs.Parts.{start}
use Rattle.edit_session.proofs.Unbarred.{drawn_unbarred}
use Rattle.edit_session.proofs.laws.no_drawn_piece_is_barred_by_a_kept_ray_cut.Goals as goal

pub returns : goal.returns
returns c a o kept settled end answer ng mult piece held drawn bars =
    drawn_unbarred a o kept ng mult start answer.events answer.ending.part piece answer.ending.carries answer.absorbed held drawn bars
