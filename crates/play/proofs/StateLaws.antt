-- What the tests of single parts say of the rows of the events.
use Rattle.std.proofs.Common.{ℕ, ◌≡◌, refl, sym, ap, ◌∙◌, subst, inl, inr, Bool, true, false, List, [], ◌∷◌, map, Option, Some, None}
use Rattle.std.specs.Prelude.{◌↔◌, nat_eq, Any, Contains, IsTrue, Result, Ok, Err, is_ok, if◌then◌else◌}
use Rattle.std.proofs.lemmas.Bool.{eqb-true, false≢true}
use Rattle.std.proofs.lemmas.List.Elements.{Contains-append_cases, Contains-append_left, Contains-append_right}
use Rattle.nogoods.specs.declared.choice.Side.{Side}
use Rattle.nogoods.specs.Pieces.{Bars}
use Rattle.lpcc_case.specs.Instance.{Instance}
use Rattle.cuts.specs.declared.cut.Cut.{Cut}
use Rattle.cuts.specs.declared.cut.CutFault.{CutFault}
use Rattle.cuts.specs.declared.cut.CutFault.TheVariants.{Index, Sign, Sum, Bound}
use Rattle.cuts.specs.Cuts.{IsJudged, Passes, no_good_of}
use Rattle.derivation.specs.declared.step.Step.{Step}
use Rattle.derivation.specs.Logs as logs
use Rattle.derivation.specs.Logs.{no_goods}
use Rattle.search.specs.FirstPieces.{IsBarred}
use Rattle.play.specs.declared.event.Aside.{Aside}
use Rattle.play.specs.declared.event.Ticket.{Ticket}
use Rattle.play.specs.declared.event.VerdictKind.{VerdictKind}
use Rattle.play.specs.declared.outcome.Outcome.{Outcome}
use Rattle.play.specs.Parts.{Part, barring, flight_of, piece_aside, piece_of, taken, without}
use Rattle.play.specs.Steps.{land, settle, take_open, take_outcome}
use Rattle.play.proofs.ListLaws.{any_of, from_map, in_map}

-- ---- cuts

-- the test of a cut answers Ok exactly where it passes
judged_when : {T : Type 0} (a : Instance) (c : Cut) (r : Result T CutFault) → IsJudged a c r → IsTrue (is_ok r) ↔ Passes a c
judged_when a c (Ok done) h = ((λ e. h), (λ p. refl))
judged_when a c (Err Index) h = ((λ e. absurd (false≢true e)), (λ p. absurd (h p.indexed)))
judged_when a c (Err Sign) h = ((λ e. absurd (false≢true e)), (λ p. absurd (h.1 p.signs)))
judged_when a c (Err Sum) h = ((λ e. absurd (false≢true e)), (λ p. absurd (h.2 p.sums)))
judged_when a c (Err Bound) h = ((λ e. absurd (false≢true e)), (λ p. absurd (h.3 p.bound)))

pub judged_exactly : {T : Type 0} (a : Instance) (c : Cut) (r : Result T CutFault) (b : Bool) → IsJudged a c r → b ≡ is_ok r → IsTrue b ↔ Passes a c
judged_exactly a c r b h e = subst (λ x. IsTrue x ↔ Passes a c) (sym e) (judged_when a c r h)

-- ---- lists that are made of others

pub any_in_map : {X Y : Type 0} (P : Y → Type 0) (f : X → Y) (xs : List X) → Any (λ x. P (f x)) xs → Any P (map f xs)
any_in_map P f xs any = any_of P (map f xs) (f any.1) (in_map f xs any.1 (any.0, any.2, any.3)) any.4

pub any_from_map : {X Y : Type 0} (P : Y → Type 0) (f : X → Y) (xs : List X) → Any P (map f xs) → Any (λ x. P (f x)) xs
any_from_map P f xs any =
    let found = from_map f xs any.1 (any.0, any.2, any.3) in
    any_of (λ x. P (f x)) xs found.0 found.1 (subst P (sym found.2) any.4)

pub any_to_contains : {X Y : Type 0} (f : X → Y) (xs : List X) (y : Y) → Any (λ x. f x ≡ y) xs → Contains (map f xs) y
any_to_contains f xs y any = subst (Contains (map f xs)) any.4 (in_map f xs any.1 (any.0, any.2, any.3))

pub contains_to_any : {X Y : Type 0} (f : X → Y) (xs : List X) (y : Y) → Contains (map f xs) y → Any (λ x. f x ≡ y) xs
contains_to_any f xs y has =
    let found = from_map f xs y has in
    any_of (λ x. f x ≡ y) xs found.0 found.1 found.2

-- some absorbed cut bars the piece
pub barred_exactly : (absorbed : List Cut) (d : Part) (piece : List Side) (b : Bool) → absorbed ≡ d.absorbed → IsTrue b ↔ Any (λ c. Bars (no_good_of c) piece) absorbed → IsTrue b ↔ IsBarred (barring d) piece
barred_exactly absorbed d piece b same exact =
    let at : IsTrue b ↔ Any (λ c. Bars (no_good_of c) piece) d.absorbed = subst (λ cs. IsTrue b ↔ Any (λ c. Bars (no_good_of c) piece) cs) same exact in
    ((λ e. any_in_map (λ ng. Bars ng piece) no_good_of d.absorbed (at.0 e)), (λ is. at.1 (any_from_map (λ ng. Bars ng piece) no_good_of d.absorbed is)))

-- a worker has the piece
pub taken_flying : (flight : List Ticket) (d : Part) (piece : List Side) (b : Bool) → flight ≡ d.flight → IsTrue b ↔ Any (λ t. t.piece ≡ piece) flight → b ≡ true → IsTrue true ↔ Contains (taken d) piece
taken_flying flight d piece b same exact is =
    let any : Any (λ t. t.piece ≡ piece) d.flight = subst (Any (λ (t : Ticket). t.piece ≡ piece)) same (exact.0 is) in
    ((λ e. Contains-append_left (map piece_of d.flight) (map piece_aside d.aside) piece (any_to_contains piece_of d.flight piece any)), (λ has. refl))

-- no worker has it, so it was set aside if it is taken
pub taken_aside : (flight : List Ticket) (aside : List Aside) (d : Part) (piece : List Side) (b c : Bool) → flight ≡ d.flight → aside ≡ d.aside → IsTrue b ↔ Any (λ t. t.piece ≡ piece) flight → (b ≡ true → ⊥) → IsTrue c ↔ Any (λ x. x.piece ≡ piece) aside → IsTrue c ↔ Contains (taken d) piece
taken_aside flight aside d piece b c same too flying not lying =
    let fly : IsTrue b ↔ Any (λ t. t.piece ≡ piece) d.flight = subst (λ ts. IsTrue b ↔ Any (λ (t : Ticket). t.piece ≡ piece) ts) same flying in
    let lie : IsTrue c ↔ Any (λ x. x.piece ≡ piece) d.aside = subst (λ xs. IsTrue c ↔ Any (λ (x : Aside). x.piece ≡ piece) xs) too lying in (
      (λ e. Contains-append_right (map piece_of d.flight) (map piece_aside d.aside) piece (any_to_contains piece_aside d.aside piece (lie.0 e))),
      (λ has. elim (Contains-append_cases (map piece_of d.flight) (map piece_aside d.aside) piece has) [
        | inl front ↦ absurd (not (fly.1 (contains_to_any piece_of d.flight piece front)))
        | inr last ↦ lie.1 (contains_to_any piece_aside d.aside piece last)
      ]),
    )

-- some step is without choices
pub empty_exactly : (steps : List Step) (log : List Step) (b : Bool) → steps ≡ log → IsTrue b ↔ Any (λ s. logs.no_good_of s ≡ []) steps → IsTrue b ↔ Contains (no_goods log) []
empty_exactly steps log b same exact =
    let at : IsTrue b ↔ Any (λ s. logs.no_good_of s ≡ []) log = subst (λ l. IsTrue b ↔ Any (λ s. logs.no_good_of s ≡ []) l) same exact in
    ((λ e. any_to_contains logs.no_good_of log [] (at.0 e)), (λ has. at.1 (contains_to_any logs.no_good_of log [] has)))

-- ---- settlements

-- behind a verdict nothing is taken
pub taken_back : (v : Option VerdictKind) (t : Ticket) (what : Outcome) (d : Part) → (v ≡ None → ⊥) → d ≡ take_open v t what d
taken_back None t what d some = absurd (some refl)
taken_back (Some verdict) t what d some = refl

pub taken_open : (v : Option VerdictKind) (t : Ticket) (what : Outcome) (d e : Part) → v ≡ None → e ≡ take_outcome t what d → e ≡ take_open v t what d
taken_open v t what d e none taken = taken ∙ ap (λ w. take_open w t what d) (sym none)

found_cond : (b : Bool) (number : ℕ) (u t : Ticket) (rest : Option Ticket) → nat_eq u.number number ≡ b → (rest ≡ Some t → t.number ≡ number) → (if b then Some u else rest) ≡ Some t → t.number ≡ number
found_cond true number u t rest is more e = let same : u ≡ t = cc in subst (λ (x : Ticket). x.number ≡ number) same (eqb-true u.number number is)
found_cond false number u t rest is more e = more e

-- the ticket that is found has this number
pub found_number : (number : ℕ) (ts : List Ticket) (t : Ticket) → flight_of number ts ≡ Some t → t.number ≡ number
found_number number [] t e = absurd (cc)
found_number number (u ∷ us) t e = found_cond (nat_eq u.number number) number u t (flight_of number us) refl (found_number number us t) e

-- the ticket is no longer in flight
pub settled : (d m e : Part) (number : ℕ) (t : Ticket) (what : Outcome) → flight_of number d.flight ≡ Some t → m ≡ take_open d.verdict t what d → e ≡ land number m → e ≡ settle (flight_of number d.flight) what d
settled d m e number t what found taken gone =
    let n : t.number ≡ number = found_number number d.flight t found in
    gone ∙ ap (land number) taken ∙ ap (λ k. land k (take_open d.verdict t what d)) (sym n) ∙ ap (λ f. settle f what d) (sym found)

-- only what is in flight has changed
pub landed : (v m : Part) (number : ℕ) (flight : List Ticket) → v ≡ m → flight ≡ without number v.flight → (record v { flight = flight }) ≡ land number m
landed v m number flight same e = ap (λ f. record v { flight = f }) e ∙ ap (land number) same

pub ruleset settlements = (taken_back, taken_open)
