-- When a ticket may be settled.
use Rattle.std.proofs.Common.{ℕ, ◌+◌, ◌<◌, ◌≤◌, ◌≡◌, ◌≢◌, refl, sym, ap, ◌∙◌, subst, arith, List, [], ◌∷◌, length, drop, true, false, All, Some, None}
use Rattle.std.specs.Prelude.{Option, is_some, slice_index_or}
use Rattle.std.proofs.lemmas.Bool.{false≢true}
use Rattle.std.proofs.lemmas.List.{length-drop}
use Rattle.nogoods.specs.declared.choice.Side.{Side}
use Rattle.lpcc_case.specs.Instance.{Instance}
use Rattle.lpcc_case.specs.declared.point.Point.{Point}
use Rattle.cut_pool.specs.Lanes.{LaneView, given}
use Rattle.cut_pool.specs.Reaches.{HasCaughtUp, ReachView, lane_at, no_lane}
use Rattle.cut_pool.specs.Shelves.{Readied}
use Rattle.play.specs.Lawful.{PointFits}
use Rattle.play.specs.Points.{IsBest}
use Rattle.play.specs.declared.event.Options.{Options}
use Rattle.play.specs.declared.event.Ticket.{Ticket}
use Rattle.play.specs.declared.outcome.Outcome.{Outcome}
use Rattle.play.specs.declared.outcome.Outcome.TheVariants as outcome
use Rattle.settling.specs.Outcomes.{IsOutcomeOf}
use Rattle.desk.specs.Settling.{HasReadAll, IsFromReach, IsRayCutAgainst, NoRayCutBars}
use Rattle.worker.specs.declared.noting.Barring.{Barring}
use Rattle.worker.specs.Reading.{IsBarring, IsReading}
use Rattle.worker.specs.Turns.{CutPasses, IsOwn, IsReachOf, IsReady, IsSameBut, MaySettleBy}

from_reach : (r : ReachView) (piece : List Side) (what : Outcome) → IsOwn what → HasReadAll r piece → IsFromReach r piece what
from_reach r piece (outcome.Cut c kept best) own read = read
from_reach r piece (outcome.Barred lane place c best) own read = absurd own
from_reach r piece (outcome.Unbounded point ray) own read = read
from_reach r piece (outcome.Wide at) own read = read
from_reach r piece (outcome.Spent at) own read = read

-- an outcome of one's own, where every lane was read and no ray cut bars the piece
pub own_settles : (a : Instance) (o : Options) (t : Ticket) (r : ReachView) (what : Outcome) → IsOutcomeOf a o t.piece what → IsOwn what → HasReadAll r t.piece → MaySettleBy a o t r what
own_settles a o t r what O own read = record {
  fits = O.fits;
  may = O.may t refl;
  truth = O.true_outcome t refl;
  reach = from_reach r t.piece what own read;
}

passes_of : (a : Instance) (o : Options) (t : Ticket) (what : Outcome) → IsOutcomeOf a o t.piece what → CutPasses a what
passes_of a o t (outcome.Cut c kept best) O = (O.may t refl).passes
passes_of a o t (outcome.Barred lane place c best) O = (O.may t refl).passes
passes_of a o t (outcome.Unbounded point ray) O = tt
passes_of a o t (outcome.Wide at) O = tt
passes_of a o t (outcome.Spent at) O = tt

pub own_passes : (a : Instance) (o : Options) (t : Ticket) (what : Outcome) → IsOutcomeOf a o t.piece what → CutPasses a what
own_passes = passes_of

best_fits : (a : Instance) (best : Option Point) → IsBest a best → PointFits a best
best_fits a None b = tt
best_fits a (Some q) b = b.of

-- another worker's cut that was read
pub other_settles : (a : Instance) (o : Options) (t : Ticket) (r : ReachView) (best : Option Point) (b : Barring) → IsReachOf a o t.worker r → IsBarring a t.piece best r b → MaySettleBy a o t r (outcome.Barred b.lane b.place b.cut best)
other_settles a o t r best b R B = record {
  fits = (omega (arith, B.known, R.lanes), B.may.passes.indexed.pairs_named, best_fits a best B.may.candidate);
  may = B.may;
  truth = tt;
  reach = (B.other, B.given);
}

-- what was read stays read where only publications came
pub still_read : (r s : ReachView) (piece : List Side) → IsSameBut r s → HasReadAll r piece → HasReadAll s piece
still_read r s piece S R =
    let lane : (k : ℕ) → lane_at s k ≡ lane_at r k = λ k. ap (λ (l : List LaneView). lane_of l k) S.lanes in (
      (λ k h other. ap (λ (l : LaneView). l.dry) (lane k) ∙ R.0 k (omega (arith, h, ap length S.lanes)) (λ e. other (e ∙ sym S.worker))),
      (λ k h other.
          subst (λ (b : Instance). All (λ words. IsRayCutAgainst b piece words → ⊥) (drop (lane_at s k).at_ready (given (lane_at s k)))) (sym S.case)
          (subst (λ (l : LaneView). All (λ words. IsRayCutAgainst r.case piece words → ⊥) (drop l.at_ready (given l))) (sym (lane k)) (R.1 k (omega (arith, h, ap length S.lanes)) (λ e. other (e ∙ sym S.worker))))),
    )
  where
    lane_of : List LaneView → ℕ → LaneView
    lane_of l k = slice_index_or l k no_lane

-- at first nothing was given since the reach was readied
pub nothing_read : (a : Instance) (piece : List Side) (best : Option Point) (r : ReachView) → r.case ≡ a → IsReady r → IsReading a piece best r None
nothing_read a piece best r is R = record {
  case = is;
  marks = λ k h. omega (arith, R.marks k h);
  finds = λ k h other j d n. absurd (omega (arith, n, R.marks k h, length-drop (lane_at r k).at_ready (given (lane_at r k))));
}

-- a reach is ready once it was readied
pub readied : (r s : ReachView) → Readied r s → 1 ≤ s.spare → IsReady s
readied r s R room = record {
  room = room;
  marks = λ k h. let l = R.lanes k (omega (arith, h, R.count)) in l.at_ready ∙ ap length (sym l.same);
}

-- no cut was found
pub heard_none : (a : Instance) (piece : List Side) (best : Option Point) (r : ReachView) (found : Option Barring) → is_some found ≡ false → IsReading a piece best r found → IsReading a piece best r None
heard_none a piece best r None no_cut R = R
heard_none a piece best r (Some b) no_cut R = absurd (false≢true (sym no_cut))
