-- How a hint run goes on at each kind of hint.
use Rattle.std.proofs.Common.{ℕ, ◌+◌, ◌<◌, ◌≤◌, ◌≡◌, refl, sym, ap, ◌∙◌, arith, Bool, true, false, ◌||◌, List, [], ◌∷◌, length, get_or, drop}
use Rattle.std.proofs.lemmas.Bool.{lt-ltb, le-ltb}
use Rattle.std.proofs.lemmas.List.{drop_more}
use Rattle.nogoods.specs.declared.choice.Choice.{Choice}
use Rattle.nogoods.specs.Choices.{same_choice, other}
use Rattle.derivation.specs.declared.assumed.Assumed.{Assumed}
use Rattle.derivation.specs.Flags.{flag_of, Shows}
use Rattle.derivation.specs.HintRuns.{is_assumed, unassumed, is_last, hint_run, closes}

pub at_past : (earlier : List (List Choice)) (list : List Choice) (h : ℕ) (hints : List ℕ) → length earlier ≤ h → closes earlier list (h ∷ hints) ≡ false
at_past earlier list h hints past = rw (le-ltb h (length earlier) past) refl

pub at_none : (earlier : List (List Choice)) (list : List Choice) (h : ℕ) (hints : List ℕ) → h < length earlier → unassumed list (get_or earlier h []) ≡ [] → closes earlier list (h ∷ hints) ≡ is_last hints
at_none earlier list h hints here left = rw (lt-ltb h (length earlier) here, left) refl

pub at_held : (earlier : List (List Choice)) (list : List Choice) (h : ℕ) (hints : List ℕ) (c : Choice) → h < length earlier → unassumed list (get_or earlier h []) ≡ c ∷ [] → is_assumed list (other c) ≡ true → closes earlier list (h ∷ hints) ≡ false
at_held earlier list h hints c here left held = rw (lt-ltb h (length earlier) here, left, held) refl

pub at_one : (earlier : List (List Choice)) (list : List Choice) (h : ℕ) (hints : List ℕ) (c : Choice) → h < length earlier → unassumed list (get_or earlier h []) ≡ c ∷ [] → is_assumed list (other c) ≡ false → closes earlier list (h ∷ hints) ≡ closes earlier (other c ∷ list) hints
at_one earlier list h hints c here left free = rw (lt-ltb h (length earlier) here, left, free) refl

two_left : (left list : List Choice) (last : Bool) (go_on : List Choice → Bool) → 2 ≤ length left → hint_run left list last go_on ≡ false
two_left [] list last go_on two = absurd (omega arith)
two_left (c ∷ []) list last go_on two = absurd (omega arith)
two_left (c ∷ d ∷ cs) list last go_on two = refl

pub at_more : (earlier : List (List Choice)) (list : List Choice) (h : ℕ) (hints : List ℕ) → h < length earlier → 2 ≤ length (unassumed list (get_or earlier h [])) → closes earlier list (h ∷ hints) ≡ false
at_more earlier list h hints here two =
    rw (lt-ltb h (length earlier) here) (two_left (unassumed list (get_or earlier h [])) list (is_last hints) (λ more. closes earlier more hints) two)

-- the run so far, and what the rest gives at its next hint
pub ends : (earlier : List (List Choice)) (ng list : List Choice) (hints : List ℕ) (at : ℕ) (result : Bool) → at < length hints → closes earlier ng hints ≡ closes earlier list (drop at hints) → closes earlier list (get_or hints at 0 ∷ drop (at + 1) hints) ≡ result → closes earlier ng hints ≡ result
ends earlier ng list hints at result inside so_far next = so_far ∙ ap (closes earlier list) (drop_more hints at 0 inside) ∙ next

-- the other side of the choice that is left is assumed already
pub held_ends : (earlier : List (List Choice)) (ng list cs : List Choice) (hints : List ℕ) (at count : ℕ) (choice implied : Choice) → at < length hints → closes earlier ng hints ≡ closes earlier list (drop at hints) → count ≡ length earlier → get_or hints at 0 < count → cs ≡ get_or earlier (get_or hints at 0) [] → unassumed list cs ≡ choice ∷ [] → implied ≡ other choice → is_assumed list implied ≡ true → closes earlier ng hints ≡ false
held_ends earlier ng list cs hints at count choice implied more so_far counted inside read left is held =
    let here : get_or hints at 0 < length earlier = rw counted at inside in
    let left_there : unassumed list (get_or earlier (get_or hints at 0) []) ≡ choice ∷ [] = rw (← read) left in
    let held_there : is_assumed list (other choice) ≡ true = ap (is_assumed list) (sym is) ∙ held in
    ends earlier ng list hints at false more so_far (at_held earlier list (get_or hints at 0) (drop (at + 1) hints) choice here left_there held_there)

-- it becomes assumed, and the run goes on
pub one_goes_on : (earlier : List (List Choice)) (ng list cs : List Choice) (hints : List ℕ) (at count : ℕ) (choice implied : Choice) → at < length hints → closes earlier ng hints ≡ closes earlier list (drop at hints) → count ≡ length earlier → get_or hints at 0 < count → cs ≡ get_or earlier (get_or hints at 0) [] → unassumed list cs ≡ choice ∷ [] → implied ≡ other choice → is_assumed list implied ≡ false → closes earlier ng hints ≡ closes earlier (other choice ∷ list) (drop (at + 1) hints)
one_goes_on earlier ng list cs hints at count choice implied more so_far counted inside read left is free =
    let here : get_or hints at 0 < length earlier = rw counted at inside in
    let left_there : unassumed list (get_or earlier (get_or hints at 0) []) ≡ choice ∷ [] = rw (← read) left in
    let free_there : is_assumed list (other choice) ≡ false = ap (is_assumed list) (sym is) ∙ free in
    ends earlier ng list hints at (closes earlier (other choice ∷ list) (drop (at + 1) hints)) more so_far (at_one earlier list (get_or hints at 0) (drop (at + 1) hints) choice here left_there free_there)

-- the flags with the choice added
pub one_shows : (before after : Assumed) (list : List Choice) (choice implied : Choice) → Shows before list → ((c : Choice) → flag_of after c ≡ (same_choice implied c || flag_of before c)) → implied ≡ other choice → Shows after (other choice ∷ list)
one_shows before after list choice implied shows added is c named =
    added c ∙ ap (λ b. same_choice implied c || b) (shows c named) ∙ ap (λ d. same_choice d c || is_assumed list c) is
