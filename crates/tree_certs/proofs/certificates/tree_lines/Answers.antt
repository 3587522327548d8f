use Rattle.std.proofs.Common.{◌≡◌, map, subst, sym}
use Rattle.std.specs.Prelude.{All}
use Rattle.std.specs.Option.{option_copied}
use Rattle.cuts.specs.Cuts.{Passes, no_good_of}
use Rattle.cert_parts.specs.Lines.{starts_of}
use Rattle.tree_certs.proofs.CertLaws.{cuts_pass, tree_lines_are, tree_lines_backed}
use Rattle.tree_certs.proofs.certificates.tree_lines.Goals as goal

pub lines_of-requires-clause-passing : goal.lines_of-requires-clause-passing
lines_of-requires-clause-passing c = subst (All (Passes c.args.case.now)) (sym c.as_slice.ensures) (cuts_pass c.args.case.now (option_copied c.args.best) c.in_ok-made.made c.in_ok-made.ensures.sound)

pub lines_of-requires-clause-starts : goal.lines_of-requires-clause-starts
lines_of-requires-clause-starts c = subst (λ k. starts_of c.in_ok-made.made.log ≡ map no_good_of k) (sym c.as_slice.ensures) c.in_ok-made.ensures.sound.starts

pub returns-clause-lines : goal.returns-clause-lines
returns-clause-lines c = tree_lines_are c.lines_of.result c.args.case.now (option_copied c.args.best) c.args.tree.now c.in_ok-made.made c.as_slice.result.now c.in_ok-made.ensures c.as_slice.ensures c.lines_of.ensures.lines

pub returns-clause-backed : goal.returns-clause-backed
returns-clause-backed c = tree_lines_backed c.lines_of.result c.args.case.now (option_copied c.args.best) c.args.tree.now c.in_ok-made.made c.as_slice.result.now c.in_ok-made.ensures c.as_slice.ensures c.lines_of.ensures.lines
