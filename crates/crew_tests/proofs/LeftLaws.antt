-- What the second of three workers has read.
use Rattle.std.proofs.Common.{ℕ, ◌<◌, ◌≤◌, ◌≡◌, ◌≢◌, sym, ◌∙◌, arith, List, length, None}
use Rattle.nogoods.specs.declared.choice.Side.{Side}
use Rattle.lpcc_case.specs.Instance.{Instance}
use Rattle.cut_pool.specs.Reaches.{ReachView}
use Rattle.cut_pool.specs.Shelves.{Readied}
use Rattle.desk.specs.Settling.{HasReadAll}
use Rattle.worker.specs.Reading.{AreDry, IsReading}
use Rattle.worker.proofs.OwnLaws.{nothing_read, readied}

-- of the lanes below the third its own is passed over
pub own_is_passed : (r : ReachView) → r.worker ≡ 1 → AreDry r 1 → AreDry r 2
own_is_passed r own D k h other = D k (omega (arith, h, own, below)) other
  where
    below : k ≢ 1
    below e = other (e ∙ sym own)

-- every lane of another was read to its end, and nothing came
pub all_read : (a : Instance) (piece : List Side) (r : ReachView) → length r.lanes ≡ 3 → IsReading a piece None r None → AreDry r 3 → HasReadAll r piece
all_read a piece r three R D = ((λ k h other. D k (omega (arith, h, three)) other), R.finds)

pub just_readied : (a : Instance) (piece : List Side) (r s : ReachView) → r.case ≡ a → Readied r s → 1 ≤ s.spare → IsReading a piece None s None
just_readied a piece r s is R room = nothing_read a piece None s (R.case ∙ is) (readied r s R room)
