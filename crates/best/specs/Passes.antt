-- What callers see of a best and its passes.
use Rattle.std.specs.Prelude.{◌≡◌, Bool, false, List, [], ◌∷◌, ◌++◌, map, Option, None}
use Rattle.best.specs.History.{history, newest}
use Rattle.best.specs.Rules.{own, others, offers}
use Rattle.best.specs.declared.rule.Turn.{Turn}
use Rattle.best.specs.declared.passes.Best.{Best}
use Rattle.best.specs.declared.passes.BestPass.{BestPass}

module _ {T : Type 0} where
  -- the turns that the pass has seen, the newest first: a beginning of the record of turns
  abbrev pub seen : BestPass T → List (Turn T)
  seen p = p.seat.me.0.seen

  -- the entry that the last exchange of the pass gave, or none
  abbrev pub last_of : BestPass T → Option T
  last_of p = p.last

  -- the pass is one of this best, and in no turn
  pub record IsPassOf (b : Best T) (p : BestPass T) : Type 0 where
    pub ours : p.seat.table_id ≡ b.table.shared.table_id
    pub waits : p.seat.me.0.waits ≡ false
    pub turns : p.seat.me.0.turns ≡ false
    pub empty : p.seat.me.1 ≡ []

  -- a pass that has seen nothing
  abbrev pub IsNewPassOf : Best T → BestPass T → Type 0
  IsNewPassOf b p = IsPassOf b p × (seen p ≡ []) × (last_of p ≡ None)

  -- one turn more was seen, the pass's own with this offer, behind all that was seen and the turns of others in between
  abbrev pub AddsTurn : Option T → List (Turn T) → List (Turn T) → Type 0
  AddsTurn offer before after = (between : List (Option T)) × (after ≡ own offer ∷ (map others between ++ before))

  -- the newest entry of the history of all turns that the pass has seen
  abbrev pub newest_seen : (T → T → Bool) → BestPass T → Option T
  newest_seen lower p = newest (history lower (offers (seen p)))
