use Rattle.std.proofs.Common.{ℕ, ◌^◌, sym, subst}
use Rattle.dict.specs.Equations.{IsRow}
use Rattle.dict.specs.Dictionaries.{row_at}
use Rattle.dict.proofs.Dictionaries.{independent_forms}
use Rattle.dict.proofs.laws.exchange_keeps_independence.Goals as goal

pub returns : goal.returns
returns c = λ a places row col d is of within_row within_col some.
    independent_forms a (2 ^ 63) row col d within_row within_col (subst (λ (n : ℕ). IsRow (2 ^ 63) n (row_at d.rows row)) (sym is.nonbasic) (is.rows row within_row).0) some of
