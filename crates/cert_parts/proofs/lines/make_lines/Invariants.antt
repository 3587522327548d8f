use Rattle.std.proofs.Common.{◌≡◌, map, take}
use Rattle.std.specs.Prelude.{All}
use Rattle.cert_text.specs.Certs.{IsLine}
use Rattle.cert_parts.specs.Lines.{line_at}
use Rattle.cert_parts.proofs.lines.make_lines.Given as goal

abbrev pub invariant-loop-at : goal.invariant-loop-at
invariant-loop-at l = record { lines : l.made ≡ map (line_at l.known l.log l.places) (take l.at l.places); form : All IsLine l.made }
