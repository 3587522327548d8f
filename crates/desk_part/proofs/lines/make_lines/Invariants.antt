use Rattle.std.proofs.Common.{◌≡◌, map, take}
use Rattle.std.specs.Prelude.{All}
use Rattle.cert_text.specs.Certs.{IsLine}
use Rattle.play.specs.Certificates.{line_at}
use Rattle.desk_part.proofs.lines.make_lines.Given as goal

abbrev pub invariant-loop-at : goal.invariant-loop-at
invariant-loop-at l = record { lines : l.made ≡ map (line_at l.absorbed l.log l.places) (take l.at l.places); form : All IsLine l.made }
