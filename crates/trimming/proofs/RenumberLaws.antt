-- Hint runs with hints renumbered.
use Rattle.std.proofs.Common.{ℕ, ◌<◌, ◌≤◌, ◌≡◌, refl, sym, ap, ◌∙◌, subst, arith, Bool, true, not, nat_lt, List, [], ◌∷◌, length, get_or, map, take, Some}
use Rattle.std.specs.Prelude.{All, slice_get}
use Rattle.std.specs.List.{AllByRecursion}
use Rattle.std.proofs.lemmas.List.{length-map, length-take-le, take-map, get_or-take}
use Rattle.std.proofs.lemmas.List.Elements.{All-from_recursion}
use Rattle.std.proofs.lemmas.Option.{slice_get-get_or}
use Rattle.derivation.specs.declared.step.Step.{Step}
use Rattle.derivation.specs.declared.step.Step.TheVariants.{Start, Derived}
use Rattle.derivation.specs.Logs.{IsLog, no_goods, no_good_of}
use Rattle.std.proofs.lemmas.Bool.{false≢true, ltb-true, lt-ltb, and_parts, and_from}
use Rattle.nogoods.specs.declared.choice.Choice.{Choice}
use Rattle.nogoods.specs.Choices.{other}
use Rattle.trimming.specs.Marks.{Moves}
use Rattle.trimming.specs.Trimmed.{hints_of, step_at}
use Rattle.derivation.specs.HintRuns.{is_assumed, unassumed, is_last, hint_run, closes}

goes_on : (left assumed : List Choice) (last : Bool) (one two : List Choice → Bool) → ((more : List Choice) → one more ≡ true → two more ≡ true) → hint_run left assumed last one ≡ true → hint_run left assumed last two ≡ true
goes_on [] assumed last one two more e = e
goes_on (c ∷ []) assumed last one two more e =
    let both = and_parts (not (is_assumed assumed (other c))) (one (other c ∷ assumed)) e in
    and_from (not (is_assumed assumed (other c))) (two (other c ∷ assumed)) both.0 (more (other c ∷ assumed) both.1)
goes_on (c ∷ d ∷ cs) assumed last one two more e = e

still_last : (f : ℕ → ℕ) (hints : List ℕ) → is_last (map f hints) ≡ is_last hints
still_last f [] = refl
still_last f (h ∷ hints) = refl

pub renumbered : (earlier out : List (List Choice)) (f : ℕ → ℕ) (hints : List ℕ) (assumed : List Choice) → AllByRecursion (Moves earlier out f) hints → closes earlier assumed hints ≡ true → closes out assumed (map f hints) ≡ true
renumbered earlier out f [] assumed all e = absurd (false≢true e)
renumbered earlier out f (h ∷ hints) assumed all e =
    let both = and_parts (nat_lt h (length earlier)) (hint_run (unassumed assumed (get_or earlier h [])) assumed (is_last hints) (λ more. closes earlier more hints)) e in
    let run : hint_run (unassumed assumed (get_or earlier h [])) assumed (is_last hints) (λ more. closes out more (map f hints)) ≡ true =
    goes_on (unassumed assumed (get_or earlier h [])) assumed (is_last hints) (λ more. closes earlier more hints) (λ more. closes out more (map f hints)) (λ more go. renumbered earlier out f hints more all.1 go) both.1 in
    let P : Bool → Type 0 = λ b. hint_run (unassumed assumed (get_or earlier h [])) assumed b (λ more. closes out more (map f hints)) ≡ true in
    let Q : List Choice → Type 0 = λ l. hint_run (unassumed assumed l) assumed (is_last (map f hints)) (λ more. closes out more (map f hints)) ≡ true in
    and_from (nat_lt (f h) (length out)) (hint_run (unassumed assumed (get_or out (f h) [])) assumed (is_last (map f hints)) (λ more. closes out more (map f hints)))
    (lt-ltb (f h) (length out) all.0.0) (subst Q (sym all.0.1) (subst P (sym (still_last f hints)) run))

rest_below : (n : ℕ) (left assumed : List Choice) (hints : List ℕ) (go : List Choice → Bool) → hint_run left assumed (is_last hints) go ≡ true → ((more : List Choice) → go more ≡ true → AllByRecursion (λ h. h < n) hints) → AllByRecursion (λ h. h < n) hints
rest_below n [] assumed [] go e more = tt
rest_below n [] assumed (h ∷ hints) go e more = absurd (false≢true e)
rest_below n (c ∷ []) assumed hints go e more = more (other c ∷ assumed) (and_parts (not (is_assumed assumed (other c))) (go (other c ∷ assumed)) e).1
rest_below n (c ∷ d ∷ cs) assumed hints go e more = absurd (false≢true e)

-- each hint of a run that closes is the number of an earlier no-good
pub hints_below : (earlier : List (List Choice)) (assumed : List Choice) (hints : List ℕ) → closes earlier assumed hints ≡ true → AllByRecursion (λ h. h < length earlier) hints
hints_below earlier assumed [] e = tt
hints_below earlier assumed (h ∷ hints) e =
    let both = and_parts (nat_lt h (length earlier)) (hint_run (unassumed assumed (get_or earlier h [])) assumed (is_last hints) (λ more. closes earlier more hints)) e in
    (ltb-true h (length earlier) both.0, rest_below (length earlier) (unassumed assumed (get_or earlier h [])) assumed hints (λ more. closes earlier more hints) both.1 (λ more go. hints_below earlier more hints go))

-- ---- in a log

pub before_same : (log : List Step) (at h : ℕ) → at ≤ length log → h < length (no_goods (take at log)) → (h < at) × (get_or (no_goods (take at log)) h [] ≡ get_or (no_goods log) h [])
before_same log at h low here =
    let below : h < at = omega (arith, length-map (take at log) no_good_of, length-take-le at log low) in
    (below, ap (λ l. get_or l h []) (sym (take-map no_good_of at log)) ∙ get_or-take at (no_goods log) h [] below)

-- each hint of a step is below its number
each_below : (log : List Step) (at : ℕ) (hints : List ℕ) → at ≤ length log → AllByRecursion (λ h. h < length (no_goods (take at log))) hints → AllByRecursion (λ h. h < at) hints
each_below log at [] low all = tt
each_below log at (h ∷ hints) low all = ((before_same log at h low all.0).0, each_below log at hints low all.1)

below_at : (log : List Step) (at : ℕ) (s : Step) → IsLog log → at ≤ length log → slice_get log at ≡ Some s → AllByRecursion (λ h. h < at) (hints_of s)
below_at log at (Start ng) is_log low found = tt
below_at log at (Derived ng hints) is_log low found = each_below log at hints low (hints_below (no_goods (take at log)) ng hints (is_log at (Derived ng hints) found))

pub step_hints_below : (log : List Step) (at : ℕ) → IsLog log → at < length log → All (λ h. h < at) (hints_of (step_at log at))
step_hints_below log at is_log within = All-from_recursion (λ h. h < at) (hints_of (step_at log at)) (below_at log at (step_at log at) is_log (omega arith) (slice_get-get_or log at (Start []) within))
