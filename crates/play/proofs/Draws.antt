-- Drawn pieces are distinct, so there are at most as many as pieces.
use Rattle.std.proofs.Common.{inl, inr, ℕ, zero, suc, ◌+◌, ◌^◌, ◌<◌, ◌≤◌, ◌≡◌, refl, sym, ap, ◌∙◌, subst, arith, Bool, true, false, eqb, List, [], ◌∷◌, ◌++◌, length, map, append_assoc}
use Rattle.std.specs.Prelude.{◌||◌, All, Contains, Option, Some, None}
use Rattle.std.specs.List.{AllByRecursion, IsDistinct, list_any}
use Rattle.std.proofs.Math.Nat.{pow-suc}
use Rattle.std.proofs.lemmas.Bool.{eqb-true}
use Rattle.std.proofs.lemmas.List.{append-nil, length-append, length-map}
use Rattle.std.proofs.lemmas.List.Elements.{All-contains, All-push, All-nil, Contains-push_cases, recursion_from_All}
use Rattle.std.proofs.lemmas.Option.{slice_get_within}
use Rattle.std.proofs.lemmas.Map.Steps.{length-le_from_distinct_below}
use Rattle.nogoods.specs.declared.choice.Side.{Side}
use Rattle.nogoods.specs.declared.choice.Side.TheVariants.{A, B}
use Rattle.lpcc_case.specs.Instance.{Instance}
use Rattle.lpcc_case.specs.Pieces.{IsPiece, NamesPairs}
use Rattle.play.specs.declared.event.Event.{Event}
use Rattle.play.specs.declared.event.Event.TheVariants.{Publish, Read, Offer, Draw, Absorb, Learn, Settle, Conclude}
use Rattle.play.specs.declared.event.Options.{Options}
use Rattle.play.specs.declared.event.Ticket.{Ticket}
use Rattle.play.specs.declared.event.VerdictKind.{VerdictKind}
use Rattle.play.specs.declared.outcome.Outcome.{Outcome}
use Rattle.play.specs.declared.outcome.Outcome.TheVariants as outcome
use Rattle.play.specs.Parts.{Part, start, flight_of, taken, piece_of, piece_aside}
use Rattle.play.specs.Steps.{after, settle, take_outcome, take_open, drawn_by, drawn_in}
use Rattle.play.specs.Lawful.{IsOpen, IsLawfulOnDesk, MayDraw}
use Rattle.play.specs.Truth.{IsTrueToBest, IsAccounted, IsSoundCut, IsStanding, AreDistinct}
use Rattle.play.specs.Records.{Leads, LeadsLawfully, Carries}
use Rattle.play.specs.Endings.{IsOut}
use Rattle.play.proofs.ListLaws.{there}
use Rattle.play.proofs.Keeping.{keeps_true}

-- ---- distinct

distinct_push : (ps : List (List Side)) (p : List Side) → AreDistinct ps → (Contains ps p → ⊥) → AreDistinct (ps ++ p ∷ [])
distinct_push [] p apart new = (λ c. absurd (omega (arith, c.1)), tt)
distinct_push (q ∷ ps) p apart new = (
  λ c. elim (Contains-push_cases ps p q c) [
    | inl old ↦ apart.0 old
    | inr same ↦ new (0, omega arith, sym same)
  ],
  distinct_push ps p apart.1 (λ c. new (there q ps p c)),
)

drawn_new : (a : Instance) (drawn : List (List Side)) (d : Part) (worker number : ℕ) (piece : List Side) → IsTrueToBest a drawn d → MayDraw d worker number piece → Contains drawn piece → ⊥
drawn_new a drawn d worker number piece h may c = elim (All-contains (IsAccounted d) drawn piece (h.drawn_pieces may.opened) c) [
  | inl still ↦ may.fresh still
  | inr barred ↦ may.unbarred barred
]

outcome_count : (t : Ticket) (what : Outcome) (d : Part) → (take_outcome t what d).drawn ≡ d.drawn
outcome_count t (outcome.Cut c kept best) d = refl
outcome_count t (outcome.Barred lane place c best) d = refl
outcome_count t (outcome.Unbounded point ray) d = refl
outcome_count t (outcome.Wide at) d = refl
outcome_count t (outcome.Spent at) d = refl

open_count : (v : Option VerdictKind) (t : Ticket) (what : Outcome) (d : Part) → (take_open v t what d).drawn ≡ d.drawn
open_count None t what d = outcome_count t what d
open_count (Some v) t what d = refl

settle_count : (f : Option Ticket) (what : Outcome) (d : Part) → (settle f what d).drawn ≡ d.drawn
settle_count None what d = refl
settle_count (Some t) what d = open_count d.verdict t what d

-- an event that draws nothing
standing_same : (a : Instance) (drawn : List (List Side)) (d e : Part) → IsStanding a drawn d → IsTrueToBest a (drawn ++ []) e → e.drawn ≡ d.drawn → IsStanding a (drawn ++ []) e
standing_same a drawn d e h truth count =
    let P : List (List Side) → Type 0 = λ l. AreDistinct l in
    let Q : List (List Side) → Type 0 = λ l. All (IsPiece a) l in
    record {
      truth = truth;
      distinct = subst P (sym (append-nil drawn)) h.distinct;
      sizes = subst Q (sym (append-nil drawn)) h.sizes;
      count = count ∙ h.count ∙ ap length (sym (append-nil drawn));
    }

pub keeps_standing : (a : Instance) (n : ℕ) (drawn : List (List Side)) (d : Part) (x : Event) → IsLawfulOnDesk a n d x → IsStanding a drawn d → IsStanding a (drawn ++ drawn_by x) (after x d)
keeps_standing a n drawn d (Publish lane c) l h = standing_same a drawn d d h (keeps_true a n drawn d (Publish lane c) l h.truth) refl
keeps_standing a n drawn d (Read worker lane place) l h = standing_same a drawn d d h (keeps_true a n drawn d (Read worker lane place) l h.truth) refl
keeps_standing a n drawn d (Offer worker point) l h = standing_same a drawn d d h (keeps_true a n drawn d (Offer worker point) l h.truth) refl
keeps_standing a n drawn d (Draw worker number piece) l h = record {
  truth = keeps_true a n drawn d (Draw worker number piece) l h.truth;
  distinct = distinct_push drawn piece h.distinct (drawn_new a drawn d worker number piece h.truth l.row);
  sizes = All-push (IsPiece a) drawn piece h.sizes l.fits.1;
  count = let more = length-append drawn (piece ∷ []) in omega (arith, h.count, more);
}
keeps_standing a n drawn d (Absorb c) l h = standing_same a drawn d (after (Absorb c) d) h (keeps_true a n drawn d (Absorb c) l h.truth) refl
keeps_standing a n drawn d (Learn ng hints) l h = standing_same a drawn d (after (Learn ng hints) d) h (keeps_true a n drawn d (Learn ng hints) l h.truth) refl
keeps_standing a n drawn d (Settle worker number what) l h =
    standing_same a drawn d (after (Settle worker number what) d) h (keeps_true a n drawn d (Settle worker number what) l h.truth) (settle_count (flight_of number d.flight) what d)
keeps_standing a n drawn d (Conclude v) l h = standing_same a drawn d (after (Conclude v) d) h (keeps_true a n drawn d (Conclude v) l h.truth) refl

-- ---- over lists of events

pub leads_standing : (a : Instance) (n : ℕ) (drawn : List (List Side)) (d : Part) (xs : List Event) (e : Part) → LeadsLawfully a n d xs e → IsStanding a drawn d → IsStanding a (drawn ++ drawn_in xs) e
leads_standing a n drawn d [] e leads h =
    let P : List (List Side) → Part → Type 0 = λ l x. IsStanding a l x in
    subst (λ l. P l e) (sym (append-nil drawn)) (subst (λ x. P drawn x) leads h)
leads_standing a n drawn d (x ∷ xs) e leads h =
    let P : List (List Side) → Type 0 = λ l. IsStanding a l e in
    subst P (append_assoc drawn (drawn_by x) (drawn_in xs)) (leads_standing a n (drawn ++ drawn_by x) (after x d) xs e leads.1 (keeps_standing a n drawn d x leads.0 h))

pub start_standing : (a : Instance) → IsStanding a [] start
start_standing a = record {
  truth = record {
    cuts = All-nil (IsSoundCut a start.best);
    best = tt;
    unbounded = tt;
    log = λ k step e. absurd (omega (arith, slice_get_within [] k step e));
    starts = refl;
    named = All-nil (NamesPairs a);
    drawn_pieces = λ opened. All-nil (IsAccounted start);
    concluded = λ v e. absurd (no_verdict v e);
  };
  distinct = tt;
  sizes = All-nil (IsPiece a);
  count = refl;
}
  where
    no_verdict : (v : VerdictKind) → None ≡ Some v → ⊥
    no_verdict v e = cc

pub lawfully : (a : Instance) (o : Options) (d : Part) (xs : List Event) (e : Part) → Leads a o d xs e → LeadsLawfully a o.workers d xs e
lawfully a o d [] e leads = leads
lawfully a o d (x ∷ xs) e leads = (leads.0.lawful, lawfully a o (after x d) xs e leads.1)

-- what a record leads to stands, with the pieces that it draws
pub carried_standing : (a : Instance) (o : Options) (xs : List Event) (d : Part) → Carries a o xs d → IsStanding a (drawn_in xs) d
carried_standing a o xs d carries = leads_standing a o.workers [] start xs d (lawfully a o start xs d carries) (start_standing a)

-- ---- how many pieces there are

number : List Side → ℕ
number [] = 0
number (A ∷ w) = number w + number w
number (B ∷ w) = number w + number w + 1

number_below : (w : List Side) (n : ℕ) → length w ≡ n → number w < 2 ^ n
unfolding number
number_below [] zero e = omega arith
number_below [] (suc n) e = absurd (omega (arith, e))
number_below (s ∷ w) zero e = absurd (omega (arith, e))
number_below (A ∷ w) (suc n) e = omega (arith, number_below w n (omega (arith, e)), pow-suc 2 n)
number_below (B ∷ w) (suc n) e = omega (arith, number_below w n (omega (arith, e)), pow-suc 2 n)

number_same : (v w : List Side) → length v ≡ length w → number v ≡ number w → v ≡ w
unfolding number
number_same [] [] l e = refl
number_same [] (s ∷ w) l e = absurd (omega (arith, l))
number_same (s ∷ v) [] l e = absurd (omega (arith, l))
number_same (A ∷ v) (A ∷ w) l e = ap (λ z. A ∷ z) (number_same v w (omega (arith, l)) (omega (arith, e)))
number_same (A ∷ v) (B ∷ w) l e = absurd (omega (arith, e))
number_same (B ∷ v) (A ∷ w) l e = absurd (omega (arith, e))
number_same (B ∷ v) (B ∷ w) l e = ap (λ z. B ∷ z) (number_same v w (omega (arith, l)) (omega (arith, e)))

apart_by : (b : Bool) (x y : ℕ) → eqb x y ≡ b → (x ≡ y → ⊥) → eqb x y ≡ false
apart_by true x y e h = absurd (h (eqb-true x y e))
apart_by false x y e h = e

apart_from : (n : ℕ) (p : List Side) (ps : List (List Side)) → length p ≡ n → AllByRecursion (λ q. length q ≡ n) ps → (Contains ps p → ⊥) → AllByRecursion (λ y. eqb (number p) y ≡ false) (map number ps)
apart_from n p [] size sizes new = tt
apart_from n p (q ∷ ps) size sizes new = (
  apart_by (eqb (number p) (number q)) (number p) (number q) refl (λ e. new (0, omega arith, number_same q p (sizes.0 ∙ sym size) (sym e))),
  apart_from n p ps size sizes.1 (λ c. new (there q ps p c)),
)

numbers_distinct : (n : ℕ) (ps : List (List Side)) → AllByRecursion (λ q. length q ≡ n) ps → AreDistinct ps → IsDistinct eqb (map number ps)
unfolding IsDistinct
numbers_distinct n [] sizes apart = tt
numbers_distinct n (p ∷ ps) sizes apart = (apart_from n p ps sizes.0 sizes.1 apart.0, numbers_distinct n ps sizes.1 apart.1)

any_by : (b c : Bool) (P : Type 0) → (b ≡ true → P) → (c ≡ true → P) → (b || c) ≡ true → P
any_by true c P f g h = f refl
any_by false c P f g h = g h

numbers_below : (n q : ℕ) (ps : List (List Side)) → AllByRecursion (λ p. length p ≡ n) ps → list_any (eqb q) (map number ps) ≡ true → q < 2 ^ n
numbers_below n q [] sizes h = absurd (cc)
numbers_below n q (p ∷ ps) sizes h =
    any_by (eqb q (number p)) (list_any (eqb q) (map number ps)) (q < 2 ^ n)
    (λ this. omega (arith, eqb-true q (number p) this, number_below p n sizes.0))
    (λ later. numbers_below n q ps sizes.1 later) h

pub few_pieces : (n : ℕ) (ps : List (List Side)) → All (λ p. length p ≡ n) ps → AreDistinct ps → length ps ≤ 2 ^ n
few_pieces n ps sizes apart =
    let by_steps = recursion_from_All (λ p. length p ≡ n) ps sizes in
    let few = length-le_from_distinct_below (map number ps) (2 ^ n) (numbers_distinct n ps by_steps apart) (λ q h. numbers_below n q ps by_steps h) in
    omega (arith, few, length-map ps number)

landed : (d : Part) (p : List Side) → d.flight ≡ [] → Contains (taken d) p → Contains (map piece_aside d.aside) p
landed d p e c =
    let P : List Ticket → Type 0 = λ l. Contains (map piece_of l ++ map piece_aside d.aside) p in
    subst P e c

-- a piece that is left when as many are drawn as there are pieces
pub pieces_last : (a : Instance) (o : Options) (drawn : List (List Side)) (d : Part) (left : List Side) → IsStanding a drawn d → IsOpen d → 2 ^ length a.pairs ≤ o.pieces → IsOut a o d left → ⊥
pieces_last a o drawn d left h opened enough out =
    let new : Contains drawn left → ⊥ = λ c. elim (All-contains (IsAccounted d) drawn left (h.truth.drawn_pieces opened) c) [
      | inl still ↦ out.first.free (landed d left out.idle.landed still)
      | inr barred ↦ out.first.unbarred barred
    ] in
    let few = few_pieces (length a.pairs) (drawn ++ left ∷ []) (All-push (IsPiece a) drawn left h.sizes out.first.size) (distinct_push drawn left h.distinct new) in
    omega (arith, few, length-append drawn (left ∷ []), h.count, out.spent, enough)

-- ---- no more draws than the budget

one_few : (a : Instance) (o : Options) (d : Part) (x : Event) → Rattle.play.specs.Records.IsNext a o d x → d.drawn ≤ o.pieces → (after x d).drawn ≤ o.pieces
one_few a o d (Publish lane c) next few = few
one_few a o d (Read worker lane place) next few = few
one_few a o d (Offer worker point) next few = few
one_few a o d (Draw worker number piece) next few = omega (arith, next.recorded.0)
one_few a o d (Absorb c) next few = few
one_few a o d (Learn ng hints) next few = few
one_few a o d (Settle worker number what) next few = omega (arith, few, settle_count (flight_of number d.flight) what d)
one_few a o d (Conclude v) next few = few

pub drawn_few : (a : Instance) (o : Options) (d : Part) (xs : List Event) (e : Part) → Leads a o d xs e → d.drawn ≤ o.pieces → e.drawn ≤ o.pieces
drawn_few a o d [] e leads few =
    let P : Part → Type 0 = λ x. x.drawn ≤ o.pieces in
    subst P leads few
drawn_few a o d (x ∷ xs) e leads few = drawn_few a o (after x d) xs e leads.1 (one_few a o d x leads.0 few)

pub carried_few : (a : Instance) (o : Options) (xs : List Event) (d : Part) → Carries a o xs d → d.drawn ≤ o.pieces
carried_few a o xs d carries = drawn_few a o start xs d carries (omega arith)
