-- Unit propagation over a list of hints. Choices are assumed, to derive that they cannot be kept together.
use Rattle.std.specs.Prelude.{◌<◌, ℕ, All, Bool, true, false, not, ◌&&◌, nat_lt, if◌then◌else◌, List, [], ◌∷◌, length, slice_index_or}
use Rattle.std.specs.List.{list_any}
use Rattle.nogoods.specs.declared.choice.Choice.{Choice}
use Rattle.nogoods.specs.Choices.{same_choice, other}

-- each pair number is below this
abbrev pub NamesBelow : ℕ → List Choice → Type 0
NamesBelow pairs choices = All (λ c. c.pair < pairs) choices

abbrev pub is_assumed : List Choice → Choice → Bool
is_assumed assumed c = list_any (λ d. same_choice d c) assumed

-- the choices that are not assumed
abbrev pub unassumed : List Choice → List Choice → List Choice
unassumed assumed [] = []
unassumed assumed (c ∷ cs) = if is_assumed assumed c then unassumed assumed cs else c ∷ unassumed assumed cs

abbrev pub is_last : List ℕ → Bool
is_last [] = true
is_last (h ∷ hints) = false

-- One hint, by the choices of its no-good that are not assumed. Where there is none the run is closed, and
-- this must be the last hint. Where there is one, and its other side is not assumed, its other side is assumed
-- from now on. Every other hint fails.
abbrev pub hint_run : List Choice → List Choice → Bool → (List Choice → Bool) → Bool
hint_run [] assumed last go_on = last
hint_run (c ∷ []) assumed last go_on = not (is_assumed assumed (other c)) && go_on (other c ∷ assumed)
hint_run (c ∷ d ∷ cs) assumed last go_on = false

-- the run over these hints, numbers of earlier no-goods, closes
abbrev pub closes : List (List Choice) → List Choice → List ℕ → Bool
closes earlier assumed [] = false
closes earlier assumed (h ∷ hints) =
    nat_lt h (length earlier)
    && hint_run (unassumed assumed (slice_index_or earlier h [])) assumed (is_last hints) (λ more. closes earlier more hints)
