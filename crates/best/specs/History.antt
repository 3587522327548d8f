-- The history that a record of turns makes. The newest turn, and the newest entry, comes first.
use Rattle.std.specs.Prelude.{◌≡◌, Bool, true, ◌&&◌, if◌then◌else◌, List, [], ◌∷◌, ◌++◌, Option, Some, None}

module _ {T : Type 0} where
  -- an offer joins the history exactly where it is lower than the newest entry, or there is none
  abbrev pub joined : (T → T → Bool) → List T → Option T → List T
  joined lower entries None = entries
  joined lower [] (Some x) = x ∷ []
  joined lower (y ∷ ys) (Some x) = if lower x y then x ∷ y ∷ ys else y ∷ ys

  -- the history of these offers, one for each turn
  abbrev pub history : (T → T → Bool) → List (Option T) → List T
  history lower [] = []
  history lower (o ∷ os) = joined lower (history lower os) o

  abbrev pub newest : List T → Option T
  newest [] = None
  newest (x ∷ xs) = Some x

  -- each entry is lower than the one before it
  abbrev pub falls : (T → T → Bool) → List T → Bool
  falls lower [] = true
  falls lower (x ∷ []) = true
  falls lower (x ∷ y ∷ xs) = lower x y && falls lower (y ∷ xs)

  -- the offer where it is lower than the entry, or there is none
  abbrev pub lower_of : (T → T → Bool) → Option T → Option T → Option T
  lower_of lower had None = had
  lower_of lower None (Some x) = Some x
  lower_of lower (Some y) (Some x) = if lower x y then Some x else Some y

  -- the record began as this
  abbrev pub Since : List (Option T) → List (Option T) → Type 0
  Since log seen = (newer : List (Option T)) × (log ≡ newer ++ seen)
