-- The rule of the best, and what its steps tell.
use Rattle.std.specs.Prelude.{◌≡◌, ◌≢◌, Bool, true, false, ℕ, ◌+◌, ◌-◌, ◌^◌, ◌%◌, ◌<◌, ◌≤◌, if◌then◌else◌, List, [], ◌∷◌, ◌++◌, map, length, slice_index, Option as Maybe, None, sum_by}
use mathlib.Core.Option.{Option, some}
use lib.ListN.{get_elem?}
use Rattle.atomic_table.specs.Table.{State, Me, Step, rest}
use Rattle.best.specs.History.{history, newest, Since}
use Rattle.best.specs.declared.rule.Turn.{Turn}
use Rattle.best.specs.declared.rule.View.{View}

module _ {T : Type 0} where
  abbrev pub own : Maybe T → Turn T
  own o = record { own = true; offer = o }

  abbrev pub others : Maybe T → Turn T
  others o = record { own = false; offer = o }

  -- the offers of these turns
  abbrev pub offers : List (Turn T) → List (Maybe T)
  offers turns = map (λ t. t.offer) turns

  -- a pass that has seen nothing, and may make so many passes
  abbrev pub maker : ℕ → View T
  maker makes = record { waits = false; ticket = 0; turns = false; offer = None; seen = []; makes = makes }

  abbrev pub newcomer : View T
  newcomer = maker 0

  abbrev pub with_one_less : View T → View T
  with_one_less v = record v { makes = v.makes - 1 }

  -- how many hold a ticket
  abbrev pub waiting : List (View T) → ℕ
  waiting views = sum_by (λ v. if v.waits then 1 else 0) views

  -- how many passes may still be made
  abbrev pub to_make : List (View T) → ℕ
  to_make views = sum_by (λ v. v.makes) views

  -- what a view has to do with the record of turns, where this many tickets were drawn
  pub record Fits (log : List (Maybe T)) (drawn : ℕ) (v : View T) : Type 0 where
    -- it has seen a beginning
    pub begins : Since log (offers v.seen)
    pub ticket : v.waits ≡ true → (length log ≤ v.ticket) × (v.ticket < drawn)
    -- in its turn it has seen all
    pub turn : v.turns ≡ true → (v.waits ≡ true) × (v.ticket ≡ length log) × (offers v.seen ≡ log)

  -- this is the record of turns
  pub record Has (lower : T → T → Bool) (words : List ℕ) (homes : List (Option (Maybe T))) (views : List (View T)) (log : List (Maybe T)) : Type 0 where
    pub drawn : slice_index words 0 ≡ (length log + waiting views) % 2 ^ 64
    pub served : slice_index words 1 ≡ length log % 2 ^ 64
    pub few : length views + to_make views ≤ 2 ^ 32
    pub fits : (id : ℕ) (v : View T) → get_elem? views id ≡ some v → Fits log (length log + waiting views) v
    pub apart : (i j : ℕ) (v u : View T) → get_elem? views i ≡ some v → get_elem? views j ≡ some u → v.waits ≡ true → u.waits ≡ true → v.ticket ≡ u.ticket → i ≡ j
    -- while no one is in its turn, the slot is at home with the newest entry
    pub home : ((id : ℕ) (v : View T) → get_elem? views id ≡ some v → v.turns ≡ true → ⊥) → get_elem? homes 0 ≡ some (some (newest (history lower log)))

  abbrev pub Kept : (T → T → Bool) → State (Maybe T) (View T) → Type 0
  Kept lower s = (length s.words ≡ 2) × ((log : List (Maybe T)) × Has lower s.words s.homes s.views log)

  -- a ticket was drawn, whose number modulo 2^64 was found
  pub record DrawsTicket (step : Step (Maybe T)) (me : Me (Maybe T) (View T)) (found : ℕ) (after : Me (Maybe T) (View T)) : Type 0 where
    pub view : after.0 ≡ record me.0 { waits = true; ticket = after.0.ticket }
    pub found_is : found ≡ after.0.ticket % 2 ^ 64
    pub slots : after.1 ≡ me.1

  -- the turn came: all turns are seen, and the slot is in hand, with the newest entry
  abbrev pub TakesTurn : (T → T → Bool) → Maybe T → Me (Maybe T) (View T) → Me (Maybe T) (View T) → Type 0
  TakesTurn lower offer me after =
      (between : List (Maybe T))
      × (after.0 ≡ record me.0 { turns = true; offer = offer; seen = map others between ++ me.0.seen })
      × (after.1 ≡ (0, newest (history lower (offers after.0.seen))) ∷ me.1)

  -- the turn came where as many turns had ended as the ticket says; else nothing changed
  abbrev pub LooksForTurn : (T → T → Bool) → Step (Maybe T) → Me (Maybe T) (View T) → ℕ → Me (Maybe T) (View T) → Type 0
  LooksForTurn lower step me found after =
      (found ≡ step.first → (offer : Maybe T) → step.said ≡ some offer → TakesTurn lower offer me after)
      × (found ≢ step.first → after ≡ me)

  -- the turn ended with its offer, and the slot was given back
  abbrev pub EndsTurn : Step (Maybe T) → Me (Maybe T) (View T) → ℕ → Me (Maybe T) (View T) → Type 0
  EndsTurn step me found after =
      (after.0 ≡ record me.0 { waits = false; turns = false; seen = own me.0.offer ∷ me.0.seen }) × (after.1 ≡ rest me.1)
