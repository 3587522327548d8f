use Rattle.std.proofs.Common.{rules, ◌-◌, ◌≡◌, length, suc, eqb, get_or, true, false}
use Rattle.mps_lex.proofs.Cutting.{cut_yes, cut_no, cut_nil}
use Rattle.mps_lex.proofs.split.without_end.Goals as goal
use Rattle.mps_lex.proofs.split.without_end.Goals.{else-not-is_empty-via-then-not-is_empty+else-text-byte, else-not-is_empty-via-else-not-is_empty}

pub returns-then-text-byte-clause-value : goal.returns-then-text-byte-clause-value
returns-then-text-byte-clause-value c =
    let long : length c.args.text.now ≡ suc (length c.args.text.now - 1) = search rules in
    let same : eqb (get_or c.args.text.now (length c.args.text.now - 1) 0) c.args.byte ≡ true = search rules in
    cut_yes c.args.byte c.args.text.now (length c.args.text.now - 1) long same

pub returns-clause-value : goal.returns-clause-value
returns-clause-value c = elim c.else-not-is_empty.branch [
  | else-not-is_empty-via-then-not-is_empty+else-text-byte w ↦
      let long : length c.args.text.now ≡ suc (length c.args.text.now - 1) = search rules in
      let other : eqb (get_or c.args.text.now (length c.args.text.now - 1) 0) c.args.byte ≡ false = search rules in
      cut_no c.args.byte c.args.text.now (length c.args.text.now - 1) long other
  | else-not-is_empty-via-else-not-is_empty w ↦
      let none : length c.args.text.now ≡ 0 = search rules in cut_nil c.args.byte c.args.text.now none
]
