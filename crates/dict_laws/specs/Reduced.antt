-- Dictionaries whose rows are reduced each by itself, and may have numbers of any size.
use Rattle.std.specs.Prelude.{◌≡◌, ◌<◌, ℕ, length}
use Rattle.lpcc_case.specs.Instance.{Instance}
use Rattle.dict.specs.Equations.{IsRow, IsReduced}
use Rattle.dict.specs.Dictionaries.{Dictionary, row_at, basic_after, nonbasic_after}
use Rattle.dict.specs.Forms.{IsDictionaryOf}

-- e is the dictionary after the exchange of the form of the row with the form at the place col
pub record IsExchanged (a : Instance) (row col : ℕ) (d e : Dictionary) : Type 0 where
  pub of : IsDictionaryOf a e
  pub basic : e.basic ≡ basic_after row col d
  pub nonbasic : e.nonbasic ≡ nonbasic_after row col d
  pub size : length e.rows ≡ length d.rows
  pub bound : ℕ
  pub rows : (i : ℕ) → i < length e.rows → IsRow bound (length e.nonbasic) (row_at e.rows i)
  pub reduced : (i : ℕ) → i < length e.rows → IsReduced (row_at e.rows i)
