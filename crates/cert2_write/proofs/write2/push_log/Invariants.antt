use Rattle.std.proofs.Common.{◌≡◌, ◌≤◌, ◌++◌, drop, take}
use Rattle.cert2_text.specs.Certs2.{count_of}
use Rattle.cert2_write.proofs.Pushes2.{log_text}
use Rattle.cert2_write.proofs.write2.push_log.Given as goal

abbrev pub invariant-loop-line : goal.invariant-loop-line
invariant-loop-line l =
    (l.out.items ++ log_text (drop l.line-index l.lines) ≡ l.fn.out.items ++ log_text l.lines)
    × (l.count ≡ count_of (take l.line-index l.lines)) × (l.count ≤ l.line-index)
