use Rattle.std.proofs.Common.{ℕ, ℤ, List, ◌∙◌, ap, sym, to_z}
use mir.Syntax.{w64}
use Rattle.lpcc_case.specs.Points.{coefficient}
use Rattle.dict.proofs.Machine.{read_again}
use Rattle.dict.proofs.Exchanges.{stays}
use Rattle.dict.proofs.pivot.next_row.Goals as goal

pub returns-then-a-eq0-clause-next : goal.returns-then-a-eq0-clause-next
returns-then-a-eq0-clause-next c = record {
  row = c.requires.row;
  reduced = c.requires.reduced;
  carries = stays c.args.e c.args.row.now c.args.entering.now (ap (λ (ts : List (ℕ × ℤ)). coefficient ts c.args.e) (sym c.entries.ensures) ∙ sym c.number_in-a.ensures.value ∙ sym (read_again c.number_in-a.result c.number_in-a.ensures.narrow) ∙ ap (λ (n : ℕ). to_z w64 n) c.if-a-eq0.true);
}
