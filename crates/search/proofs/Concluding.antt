-- A hint run closes over more no-goods too.
use Rattle.std.proofs.Common.{ℕ, ◌<◌, ◌≤◌, ◌≡◌, sym, subst, arith, Bool, true, not, nat_lt, List, [], ◌∷◌, ◌++◌, length, get_or}
use Rattle.std.specs.Prelude.{All, Contains, OnOk, Result, Ok, Err}
use Rattle.std.proofs.lemmas.Bool.{false≢true, ltb-true, lt-ltb, and_parts, and_from}
use Rattle.std.proofs.lemmas.List.Elements.{All-nil, All-weaker, Contains-push}
use Rattle.std.proofs.lemmas.Option.{slice_get_within}
use Rattle.nogoods.specs.declared.choice.Choice.{Choice}
use Rattle.nogoods.specs.declared.choice.Side.{Side}
use Rattle.nogoods.specs.Choices.{other}
use Rattle.nogoods.specs.Pieces.{IsChoiceOf}
use Rattle.derivation.specs.HintRuns.{NamesBelow, is_assumed, unassumed, is_last, hint_run, closes}
use Rattle.search.specs.Growth.{Adds}
use Rattle.search.specs.Walks.{IsResolvent}

goes_on : (left assumed : List Choice) (last : Bool) (one two : List Choice → Bool) → ((more : List Choice) → one more ≡ true → two more ≡ true) → hint_run left assumed last one ≡ true → hint_run left assumed last two ≡ true
goes_on [] assumed last one two more e = e
goes_on (c ∷ []) assumed last one two more e =
    let both = and_parts (not (is_assumed assumed (other c))) (one (other c ∷ assumed)) e in
    and_from (not (is_assumed assumed (other c))) (two (other c ∷ assumed)) both.0 (more (other c ∷ assumed) both.1)
goes_on (c ∷ d ∷ cs) assumed last one two more e = e

pub closes_onwards : (n : ℕ) (ngs more : List (List Choice)) (assumed : List Choice) (hints : List ℕ) → Adds n ngs more → closes ngs assumed hints ≡ true → closes more assumed hints ≡ true
closes_onwards n ngs more assumed [] adds e = absurd (false≢true e)
closes_onwards n ngs more assumed (h ∷ hints) adds e =
    let both = and_parts (nat_lt h (length ngs)) (hint_run (unassumed assumed (get_or ngs h [])) assumed (is_last hints) (λ list. closes ngs list hints)) e in
    let kept = adds.kept h (ltb-true h (length ngs) both.0) in
    let run : hint_run (unassumed assumed (get_or ngs h [])) assumed (is_last hints) (λ list. closes more list hints) ≡ true =
    goes_on (unassumed assumed (get_or ngs h [])) assumed (is_last hints) (λ list. closes ngs list hints) (λ list. closes more list hints) (λ list go. closes_onwards n ngs more list hints adds go) both.1 in
    let Q : List Choice → Type 0 = λ l. hint_run (unassumed assumed l) assumed (is_last hints) (λ list. closes more list hints) ≡ true in
    and_from (nat_lt h (length more)) (hint_run (unassumed assumed (get_or more h [])) assumed (is_last hints) (λ list. closes more list hints)) (lt-ltb h (length more) kept.0) (subst Q (sym kept.1) run)

-- a resolvent of no sides is the no-good without choices
pub ends_closed : (ngs : List (List Choice)) (w : List Side) (marks : List Bool) (hints : List ℕ) → length w ≡ 0 → IsResolvent ngs w marks hints → closes ngs [] hints ≡ true
ends_closed ngs [] marks hints none r =
    r.follows [] (All-nil (IsChoiceOf [])) (λ p s marked is. let inside = slice_get_within [] p s is in absurd (omega (arith, inside)))
ends_closed ngs (s ∷ w) marks hints none r = absurd (omega (arith, none))

pub names_weaker : (n m : ℕ) (list : List Choice) → n ≤ m → NamesBelow n list → NamesBelow m list
names_weaker n m list low all = All-weaker (λ c. c.pair < n) (λ c. c.pair < m) (λ c h. omega arith) list all

pub all_names_weaker : (n m : ℕ) (ngs : List (List Choice)) → n ≤ m → All (NamesBelow n) ngs → All (NamesBelow m) ngs
all_names_weaker n m ngs low all = All-weaker (NamesBelow n) (NamesBelow m) (λ list h. names_weaker n m list low h) ngs all

-- ---- the last step, as the code made it

pub conclusion_closes : (n : ℕ) (ngs more : List (List Choice)) (ng : List Choice) (hints given : List ℕ) → Adds n ngs more → ng ≡ [] → given ≡ hints → closes ngs [] hints ≡ true → closes more ng given ≡ true
conclusion_closes n ngs more ng hints given adds none same closed =
    let P : List Choice → Type 0 = λ l. closes more l given ≡ true in
    let Q : List ℕ → Type 0 = λ l. closes more [] l ≡ true in
    subst P (sym none) (subst Q (sym same) (closes_onwards n ngs more [] hints adds closed))

pub conclusion_is_there : {T E : Type 0} (ngs new : List (List Choice)) (ng : List Choice) (r : Result T E) → ng ≡ [] → OnOk r (new ≡ ngs ++ ng ∷ []) → OnOk r (Contains new [])
conclusion_is_there ngs new ng (Ok u) none added =
    let P : List Choice → Type 0 = λ l. Contains (ngs ++ l ∷ []) [] in
    let Q : List (List Choice) → Type 0 = λ l. Contains l [] in
    subst Q (sym added) (subst P (sym none) (Contains-push ngs []))
conclusion_is_there ngs new ng (Err e) none added = added
