-- Lines that are left out by a test.
use Rattle.std.proofs.Common.{ℕ, ◌+◌, ◌≡◌, Bool, true, false, cond, List, [], ◌∷◌, ◌++◌, None, refl, ap, ◌∙◌}
use Rattle.std.specs.Prelude.{not}
use Rattle.std.specs.Str.{bytes_eq}
use Rattle.mps_lex.specs.Kinds.{Name}
use Rattle.mps_lex.specs.Lines.{Line}
use Rattle.decks.specs.declared.fault.DeckWhy.TheVariants.{SecondSet}
use Rattle.decks.specs.Spelling.{first_set}
use Rattle.decks.specs.Faults.{fault_if, set_fault}
use Rattle.decks.proofs.KeptNames.{own_name}
use Rattle.decks.proofs.KeptSlices.{FaultBehind, IsRightBy}
use Rattle.deck_print.proofs.Lined.{all_said, said}

-- a line that may be missing, and the lines behind it
pub right_by : (t : Bool) (fault : FaultBehind) (before : List Line) (n : ℕ) (ws : List Name) (rest : List (List Name)) → (t ≡ true → IsRightBy fault before (all_said n rest))
    → (t ≡ false → (fault before ws ≡ None) × IsRightBy fault (before ++ said n ws ∷ []) (all_said (n + 1) rest)) → IsRightBy fault before (all_said n (cond t [] (ws ∷ []) ++ rest))
right_by true fault before n ws rest skip take = skip refl
right_by false fault before n ws rest skip take = take refl

-- all lines name one set
pub one_set : (set_on : List Name → Name) (w : Name) (before : List Line) (l : Line) → set_on l.fields ≡ w → set_fault (first_set set_on before) w ≡ None → set_fault (first_set set_on (before ++ l ∷ [])) w ≡ None
one_set set_on w [] l e h = ap (λ s. fault_if (not (bytes_eq s w)) SecondSet) e ∙ ap (λ t. fault_if (not t) SecondSet) (own_name w)
one_set set_on w (m ∷ ms) l e h = h
