-- What the form of a line says of its no-good.
use Rattle.std.proofs.Common.{List, map}
use Rattle.std.specs.Prelude.{All}
use Rattle.std.proofs.lemmas.List.Elements.{All-weaker, All-map}
use Rattle.cert_text.specs.declared.cert.CertLine.{CertLine}
use Rattle.cert_text.specs.declared.cert.CertLine.TheVariants.{Ray, Point, Derived}
use Rattle.cert_text.specs.Certs.{IsLine, no_good_of}
use Rattle.derivation.specs.HintRuns.{NamesBelow}

pub line_names : (line : CertLine) → IsLine line → NamesBelow 512 (no_good_of line)
line_names (Ray ng mult) is = is.0.pairs_named
line_names (Point ng e mult) is = is.0.pairs_named
line_names (Derived ng hints) is = is.0.pairs_named

pub lines_name : (lines : List CertLine) → All IsLine lines → All (NamesBelow 512) (map no_good_of lines)
lines_name lines are = All-map (NamesBelow 512) no_good_of lines (All-weaker IsLine (λ line. NamesBelow 512 (no_good_of line)) line_names lines are)
