-- The tickets of a worker among those in flight.
use Rattle.std.proofs.Common.{ℕ, ◌≡◌, ◌≢◌, refl, sym, ◌∙◌, subst, arith, Bool, true, false, nat_eq, List, [], ◌∷◌}
use Rattle.std.specs.Prelude.{All, Contains, Option, Some, None, if◌then◌else◌}
use Rattle.std.proofs.lemmas.Bool.{eq-eqb, eqb-false, eqb-true, false≢true}
use Rattle.std.proofs.lemmas.List.Elements.{All-contains, All-nil, All-cons, All-head, All-tail}
use Rattle.play.specs.declared.event.Ticket.{Ticket}
use Rattle.play.specs.Parts.{flight_of}
use Rattle.play.specs.Lawful.{IsFree}
use Rattle.play.specs.Truth.{AreApart, number_of}
use Rattle.play.proofs.Orders.{found_in}
use Rattle.cut_pool.proofs.Equal.{same_list, same_tail}
use Rattle.desk.specs.Tickets.{Holds, listed, tickets_of}

pub same_parts : (t u : Ticket) → t.worker ≡ u.worker → t.number ≡ u.number → t.piece ≡ u.piece → t ≡ u
same_parts t u w n p = λ i. record { worker = w i; number = n i; piece = p i }

pub ruleset equals = (same_parts, same_list, same_tail)

free_cond : (b : Bool) (w : ℕ) (u : Ticket) (us rest : List Ticket) → nat_eq u.worker w ≡ b → (rest ≡ [] → IsFree w us) → (if b then u ∷ rest else rest) ≡ [] → IsFree w (u ∷ us)
free_cond true w u us rest is more none = absurd (cc)
free_cond false w u us rest is more none = All-cons (λ t. t.worker ≢ w) u us (eqb-false u.worker w is) (more none)

pub free_of : (w : ℕ) (ts : List Ticket) → tickets_of w ts ≡ [] → IsFree w ts
free_of w [] none = All-nil (λ (t : Ticket). t.worker ≢ w)
free_of w (u ∷ us) none = free_cond (nat_eq u.worker w) w u us (tickets_of w us) refl (free_of w us) none

none_cond : (b : Bool) (w : ℕ) (u : Ticket) (rest : List Ticket) → nat_eq u.worker w ≡ b → u.worker ≢ w → rest ≡ [] → (if b then u ∷ rest else rest) ≡ []
none_cond true w u rest is other none = absurd (other (eqb-true u.worker w is))
none_cond false w u rest is other none = none

pub none_of : (w : ℕ) (ts : List Ticket) → IsFree w ts → tickets_of w ts ≡ []
none_of w [] free = refl
none_of w (u ∷ us) free = none_cond (nat_eq u.worker w) w u (tickets_of w us) refl (All-head (λ t. t.worker ≢ w) u us free) (none_of w us (All-tail (λ t. t.worker ≢ w) u us free))

pub holds_of : (w : ℕ) (ts : List Ticket) (t : Option Ticket) → tickets_of w ts ≡ listed t → Holds w ts t
holds_of w ts None e = free_of w ts e
holds_of w ts (Some t) e = e

pub of_holds : (w : ℕ) (ts : List Ticket) (t : Option Ticket) → Holds w ts t → tickets_of w ts ≡ listed t
of_holds w ts None h = none_of w ts h
of_holds w ts (Some t) h = h

-- ---- a worker's one ticket is the one of its number

here_cond : (b : Bool) (u t : Ticket) (rest : Option Ticket) → nat_eq u.number t.number ≡ b → u ≡ t → (if b then Some u else rest) ≡ Some t
here_cond true u t rest is same = cc
here_cond false u t rest is same = absurd (false≢true (sym is ∙ eq-eqb u.number t.number (subst (λ (x : Ticket). u.number ≡ x.number) same refl)))

behind_cond : (b : Bool) (u t : Ticket) (rest : Option Ticket) → nat_eq u.number t.number ≡ b → (t.number ≡ u.number → ⊥) → rest ≡ Some t → (if b then Some u else rest) ≡ Some t
behind_cond true u t rest is apart found = absurd (apart (sym (eqb-true u.number t.number is)))
behind_cond false u t rest is apart found = found

one_cond : (b : Bool) (w : ℕ) (u t : Ticket) (us own : List Ticket) → AreApart number_of (u ∷ us) → (own ≡ t ∷ [] → flight_of t.number us ≡ Some t) → (if b then u ∷ own else own) ≡ t ∷ [] → flight_of t.number (u ∷ us) ≡ Some t
one_cond true w u t us own apart more e = let same : u ≡ t = cc in here_cond (nat_eq u.number t.number) u t (flight_of t.number us) refl same
one_cond false w u t us own apart more e =
    let found = more e in
    behind_cond (nat_eq u.number t.number) u t (flight_of t.number us) refl (All-contains (λ y. number_of y ≢ number_of u) us t apart.0 (found_in t.number us t found)) found

pub one_flying : (w : ℕ) (ts : List Ticket) (t : Ticket) → AreApart number_of ts → tickets_of w ts ≡ t ∷ [] → flight_of t.number ts ≡ Some t
one_flying w [] t apart e = absurd (cc)
one_flying w (u ∷ us) t apart e = one_cond (nat_eq u.worker w) w u t us (tickets_of w us) apart (one_flying w us t apart.1) e
