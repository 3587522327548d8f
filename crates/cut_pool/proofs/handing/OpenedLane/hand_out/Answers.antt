use Rattle.std.proofs.Common.{◌<◌, sym, subst, List, length}
use Rattle.std.specs.Prelude.{Option}
use Rattle.cut_pool.specs.Pages.{PageView}
use Rattle.cut_pool.specs.Opened.{Waits}
use Rattle.cut_pool.proofs.handing.OpenedLane.hand_out.Goals as goal

pub take_lane-requires-clause-waits : goal.take_lane-requires-clause-waits
take_lane-requires-clause-waits c = λ j h lt. subst (λ (l : List (List (Option PageView))). Waits c.args.reach.now.case l c.args.worker j) (sym c.self.view_is) (c.requires.waits j h (subst (λ (l : List (List (Option PageView))). j < length l) c.self.view_is lt))
