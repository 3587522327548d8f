use Rattle.std.proofs.Common.{[], ◌∷◌}
use Rattle.std.specs.Prelude.{codes}
use Rattle.std.specs.Fmt.{decimal}
use Rattle.cert_text.specs.Spelling.{point_words, piece_words, ray_words}
use Rattle.cert_write.specs.Writing.{text_line, text_lines}
use Rattle.cert_write.proofs.Pushes.{five, on_ok}
use Rattle.cert2_text.specs.Spelling2.{head2_words}
use Rattle.cert2_write.proofs.Pushes2.{unbounded_is}
use Rattle.cert2_write.proofs.write2.push_unbounded.Goals as goal

pub returns : goal.returns
returns c =
    on_ok c.push_end.result _ _
    (five c.args.out.now.items c.push_kind.new.out.items c.push_piece.new.out.items c.push_point.new.out.items c.push_ray.new.out.items c.push_end.new.out.items
    (text_lines (head2_words ∷ (codes "unbounded" ∷ []) ∷ [])) (text_line (piece_words c.args.piece.now)) (text_line (point_words c.args.point.now)) (text_line (ray_words c.args.ray.now)) (text_line (codes "end" ∷ decimal 0 ∷ [])) _
    c.in_ok-push_kind.ensures c.in_ok-push_piece.ensures c.in_ok-push_point.ensures c.in_ok-push_ray.ensures (unbounded_is c.args.piece.now c.args.point.now c.args.ray.now)) c.push_end.ensures
