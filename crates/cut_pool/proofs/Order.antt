-- The order in which the items of a lane are given.
use Rattle.std.proofs.Common.{ℕ, zero, suc, ◌+◌, ◌*◌, ◌<◌, ◌≤◌, ◌≡◌, ◌≢◌, ◌^◌, refl, sym, ap, ◌∙◌, subst, arith, List, [], ◌∷◌, ◌++◌, length, get_or, set, Bool, IsTrue, true, false, cond, append_assoc, length-append, inl, inr, ⊎_elim, Some, map}
use Rattle.std.proofs.lemmas.Bool.{false≢true}
use Rattle.lpcc_case.specs.Instance.{Instance}
use Rattle.cut_words.specs.Words.{SpellsPassing}
use Rattle.std.specs.Prelude.{All, slice_get}
use Rattle.std.specs.List.{AllByRecursion}
use Rattle.std.proofs.lemmas.List.{append-nil}
use Rattle.std.proofs.lemmas.List.Elements.{All-from_recursion, recursion_from_All}
use Rattle.cut_pool.specs.Pages.{PageView, given_of, IsSized, IsUsedUp, AreFresh, IsAt}
use Rattle.cut_pool.specs.Lanes.{LaneView, case_of, room_of, ArePagesOf, GivesNext, NextOf, StepsOn}

fresh_given : (ps : List PageView) → AreFresh ps → given_of ps ≡ []
fresh_given [] f = refl
fresh_given (p ∷ ps) f = ap (λ (t : List (List ℕ)). t ++ given_of ps) f.1 ∙ fresh_given ps f.2

-- the page in hand has given as many as the place says, and has room
pub at_here : (ps : List PageView) (at place : ℕ) (p : PageView) → IsAt ps at place → slice_get ps at ≡ Some p → (length p.seen ≡ place) × (place < p.room) × IsSized p
at_here [] at place p h e = absurd (cc)
at_here (q ∷ ps) zero place p h e = subst (λ (o : PageView). (length o.seen ≡ place) × (place < o.room) × IsSized o) (some_same q p e) (h.1, h.2, h.0)
  where
    some_same : (a b : PageView) → Some a ≡ Some b → a ≡ b
    some_same a b e = cc
at_here (q ∷ ps) (suc at) place p h e = at_here ps at place p h.2 e

-- every page before it is used up
pub at_earlier : (ps : List PageView) (at place j : ℕ) (o : PageView) → IsAt ps at place → j < at → slice_get ps j ≡ Some o → IsUsedUp o
at_earlier [] at place j o h lt e = absurd (cc)
at_earlier (q ∷ ps) zero place j o h lt e = absurd (omega arith)
at_earlier (q ∷ ps) (suc at) place zero o h lt e = subst IsUsedUp (some_same q o e) h.1
  where
    some_same : (a b : PageView) → Some a ≡ Some b → a ≡ b
    some_same a b e = cc
at_earlier (q ∷ ps) (suc at) place (suc j) o h lt e = at_earlier ps at place j o h.2 (omega arith) e

used_by_recursion : (ps : List PageView) (at place : ℕ) → IsAt ps at place → length ps ≤ at → AllByRecursion IsUsedUp ps
used_by_recursion [] at place h le = tt
used_by_recursion (p ∷ ps) zero place h le = absurd (omega arith)
used_by_recursion (p ∷ ps) (suc at) place h le = (h.1, used_by_recursion ps at place h.2 (omega arith))

-- past the last page all are used up
pub all_used : (ps : List PageView) (at place : ℕ) → IsAt ps at place → length ps ≤ at → All IsUsedUp ps
all_used ps at place h le = All-from_recursion IsUsedUp ps (used_by_recursion ps at place h le)

-- an item more of the page in hand is an item more of the lane
pub given_more : (ps : List PageView) (at place : ℕ) (p q : PageView) (x : List ℕ) → IsAt ps at place → slice_get ps at ≡ Some p → q.seen ≡ p.seen ++ x ∷ [] → given_of (set ps at q) ≡ given_of ps ++ x ∷ []
given_more [] at place p q x h e s = absurd (cc)
given_more (o ∷ ps) zero place p q x h e s =
    let same : o ≡ p = cc in
    let empty = fresh_given ps h.3 in
    rw (s, empty) (append-nil (p.seen ++ x ∷ []) ∙ sym (ap (λ (t : List (List ℕ)). t ++ x ∷ []) (append-nil o.seen ∙ ap (λ (r : PageView). r.seen) same)))
given_more (o ∷ ps) (suc at) place p q x h e s =
    ap (λ (t : List (List ℕ)). o.seen ++ t) (given_more ps at place p q x h.2 e s) ∙ sym (append_assoc o.seen (given_of ps) (x ∷ []))

-- a page that has seen the same changes nothing
pub given_same : (ps : List PageView) (at : ℕ) (p q : PageView) → slice_get ps at ≡ Some p → q.seen ≡ p.seen → given_of (set ps at q) ≡ given_of ps
given_same [] at p q e s = refl
given_same (o ∷ ps) zero p q e s =
    let same : o ≡ p = cc in
    ap (λ (t : List (List ℕ)). t ++ given_of ps) (s ∙ sym (ap (λ (r : PageView). r.seen) same))
given_same (o ∷ ps) (suc at) p q e s = ap (λ (t : List (List ℕ)). o.seen ++ t) (given_same ps at p q e s)

pub at_same : (ps : List PageView) (at place : ℕ) (p q : PageView) → IsAt ps at place → slice_get ps at ≡ Some p → q.room ≡ p.room → q.seen ≡ p.seen → IsAt (set ps at q) at place
at_same [] at place p q h e r s = h
at_same (o ∷ ps) zero place p q h e r s =
    let same : o ≡ p = cc in
    let room : q.room ≡ o.room = r ∙ sym (ap (λ (t : PageView). t.room) same) in
    let seen : q.seen ≡ o.seen = s ∙ sym (ap (λ (t : PageView). t.seen) same) in
    ((omega (arith, room, h.0.0), omega (arith, room, h.0.1)), ap length seen ∙ h.1, omega (arith, room, h.2), h.3)
at_same (o ∷ ps) (suc at) place p q h e r s = (h.0, h.1, at_same ps at place p q h.2 e r s)

-- the page in hand has given one more, and has room yet
pub at_more : (ps : List PageView) (at place : ℕ) (p q : PageView) → IsAt ps at place → slice_get ps at ≡ Some p → q.room ≡ p.room → length q.seen ≡ place + 1 → place + 1 ≢ q.room → IsAt (set ps at q) at (place + 1)
at_more [] at place p q h e r s n = absurd (cc)
at_more (o ∷ ps) zero place p q h e r s n =
    let same : o ≡ p = cc in
    let room : q.room ≡ o.room = r ∙ sym (ap (λ (t : PageView). t.room) same) in
    let left : place + 1 < q.room = by_neq (place + 1) q.room (omega (arith, room, h.2)) n in
    ((omega (arith, room, h.0.0), omega (arith, room, h.0.1)), s, left, h.3)
  where
    by_neq : (a b : ℕ) → a ≤ b → a ≢ b → a < b
    by_neq a b le ne = omega arith
at_more (o ∷ ps) (suc at) place p q h e r s n = (h.0, h.1, at_more ps at place p q h.2 e r s n)

fresh_at : (ps : List PageView) → AreFresh ps → IsAt ps 0 0
fresh_at [] f = (refl, refl)
fresh_at (p ∷ ps) f = (f.0, ap length f.1, f.0.0, f.2)

-- the page in hand is used up, and the next one is in hand
pub at_turn : (ps : List PageView) (at place : ℕ) (p q : PageView) → IsAt ps at place → slice_get ps at ≡ Some p → q.room ≡ p.room → length q.seen ≡ place + 1 → place + 1 ≡ q.room → IsAt (set ps at q) (suc at) 0
at_turn [] at place p q h e r s n = absurd (cc)
at_turn (o ∷ ps) zero place p q h e r s n =
    let same : o ≡ p = cc in
    let room : q.room ≡ o.room = r ∙ sym (ap (λ (t : PageView). t.room) same) in
    ((omega (arith, room, h.0.0), omega (arith, room, h.0.1)), s ∙ n, fresh_at ps h.3)
at_turn (o ∷ ps) (suc at) place p q h e r s n = (h.0, h.1, at_turn ps at place p q h.2 e r s n)

fresh_added : (ps : List PageView) (q : PageView) → AreFresh ps → IsSized q → q.seen ≡ [] → AreFresh (ps ++ q ∷ [])
fresh_added [] q f z s = (z, s, tt)
fresh_added (p ∷ ps) q f z s = (f.0, f.1, fresh_added ps q f.2 z s)

-- a fresh page behind the others
pub at_added : (ps : List PageView) (at place : ℕ) (q : PageView) → IsAt ps at place → IsSized q → q.seen ≡ [] → IsAt (ps ++ q ∷ []) at place
at_added [] at place q h z s = subst (λ (n : ℕ). IsAt (q ∷ []) n place) (sym h.0) (z, ap length s ∙ sym h.1, omega (arith, h.1, z.0), tt)
at_added (p ∷ ps) zero place q h z s = (h.0, h.1, h.2, fresh_added ps q h.3 z s)
at_added (p ∷ ps) (suc at) place q h z s = (h.0, h.1, at_added ps at place q h.2 z s)

pub given_added : (ps : List PageView) (q : PageView) → q.seen ≡ [] → given_of (ps ++ q ∷ []) ≡ given_of ps
given_added [] q s = append-nil q.seen ∙ s
given_added (p ∷ ps) q s = ap (λ (t : List (List ℕ)). p.seen ++ t) (given_added ps q s)

-- less than 2^32 items of each page
few_fresh : (ps : List PageView) → AreFresh ps → length (given_of ps) ≤ length ps * 2 ^ 32
few_fresh ps f = omega (arith, ap length (fresh_given ps f))

pub few_given : (ps : List PageView) (at place : ℕ) → IsAt ps at place → length (given_of ps) ≤ length ps * 2 ^ 32
few_given [] at place h = omega arith
few_given (p ∷ ps) zero place h = omega (arith, length-append p.seen (given_of ps), h.1, h.2, h.0.1, few_fresh ps h.3)
few_given (p ∷ ps) (suc at) place h = omega (arith, length-append p.seen (given_of ps), h.1, h.0.1, few_given ps at place h.2)

pub map_set : {B : Type 0} (f : PageView → B) (ps : List PageView) (at : ℕ) (p q : PageView) → slice_get ps at ≡ Some p → f q ≡ f p → map f (set ps at q) ≡ map f ps
map_set f [] at p q e s = refl
map_set f (o ∷ ps) zero p q e s = let same : o ≡ p = cc in ap (λ t. t ∷ map f ps) (s ∙ sym (ap f same))
map_set f (o ∷ ps) (suc at) p q e s = ap (λ t. f o ∷ t) (map_set f ps at p q e s)

pub get_set : (ps : List PageView) (at : ℕ) (p q : PageView) → slice_get ps at ≡ Some p → slice_get (set ps at q) at ≡ Some q
get_set [] at p q e = absurd (cc)
get_set (o ∷ ps) zero p q e = refl
get_set (o ∷ ps) (suc at) p q e = get_set ps at p q e

-- a page was added, or there was no memory
pub added : (b : Bool) (ps new : List PageView) (at place n : ℕ) (q : PageView) → new ≡ cond b (ps ++ q ∷ []) ps → IsSized q → q.seen ≡ [] → IsAt ps at place → n ≡ length (given_of ps) → IsAt new at place × (n ≡ length (given_of new))
added true ps new at place n q e z s h g = rw e (at_added ps at place q h z s, g ∙ sym (ap length (given_added ps q s)))
added false ps new at place n q e z s h g = rw e (h, g)

pub get_at : (ps : List PageView) (at : ℕ) (p : PageView) → at < length ps → p ≡ get_or ps at p → slice_get ps at ≡ Some p
get_at [] at p h e = absurd (omega arith)
get_at (o ∷ ps) zero p h e = ap Some (sym e)
get_at (o ∷ ps) (suc at) p h e = get_at ps at p (omega arith) e

pub some_page : (p q : PageView) → Some p ≡ Some q → p ≡ q
some_page p q e = cc

-- a look in vain leaves all as it was
pub vain : (ps new : List PageView) (at place : ℕ) (into words : List ℕ) (b : Bool) → IsAt ps at place → GivesNext ps at new into words b → (IsTrue b → ⊥) → IsAt new at place × (given_of new ≡ given_of ps)
vain ps new at place into words b h G n =
    let s = G.same n in
    rw G.put (at_same ps at place G.page G.next h G.here G.rooms s.0, given_same ps at G.page G.next G.here s.0)

-- an item more
pub step : (ps new : List PageView) (at place : ℕ) (into words : List ℕ) (b : Bool) (next : ℕ × ℕ) → IsAt ps at place → GivesNext ps at new into words b → IsTrue b → ((p : PageView) → slice_get new at ≡ Some p → StepsOn p.room at place next) → IsAt new next.0 next.1 × (given_of new ≡ given_of ps ++ words ∷ [])
step ps new at place into words b next h G t steps =
    let seen = G.more t in
    let was = at_here ps at place G.page h G.here in
    let size : length G.next.seen ≡ place + 1 = omega (arith, ap length seen, length-append G.page.seen (words ∷ []), was.0) in
    let here : slice_get new at ≡ Some G.next = ap (λ (l : List PageView). slice_get l at) G.put ∙ get_set ps at G.page G.next G.here in (
      subst (λ (l : List PageView). IsAt l next.0 next.1) (sym G.put) (⊎_elim
          (λ (r : (place + 1 ≡ G.next.room) × (next.0 ≡ at + 1) × (next.1 ≡ 0)). rw (r.1, r.2) (at_turn_on ps at place G.page G.next h G.here G.rooms size r.0))
          (λ (r : (place + 1 ≢ G.next.room) × (next.0 ≡ at) × (next.1 ≡ place + 1)). rw (r.1, r.2) (at_more ps at place G.page G.next h G.here G.rooms size r.0))
          (steps G.next here)),
      rw G.put (given_more ps at place G.page G.next words h G.here seen),
    )
  where
    at_turn_on : (ps : List PageView) (at place : ℕ) (p q : PageView) → IsAt ps at place → slice_get ps at ≡ Some p → q.room ≡ p.room → length q.seen ≡ place + 1 → place + 1 ≡ q.room → IsAt (set ps at q) (at + 1) 0
    at_turn_on ps at place p q h e r s n = subst (λ (k : ℕ). IsAt (set ps at q) k 0) (omega arith) (at_turn ps at place p q h e r s n)

-- ---- what `next` tells of the lane

pub next_none : (l : LaneView) (at place : ℕ) (into : List ℕ) → IsAt l.pages at place → at ≡ length l.pages → NextOf l (record l { dry = true }) into into false
next_none l at place into h e = record {
  ready = refl;
  more = λ t. absurd (false≢true t);
  same = λ _. (refl, refl);
  still = λ t. absurd (false≢true t);
  dry = λ _. refl;
  cause = λ _. inl (all_used l.pages at place h (omega arith), refl);
  cases = refl;
  rooms = refl;
}

pub next_vain : (l : LaneView) (new : List PageView) (at place : ℕ) (into words : List ℕ) (b : Bool) → IsAt l.pages at place → GivesNext l.pages at new into words b → (IsTrue b → ⊥) → NextOf l (record { pages = new; at_ready = l.at_ready; dry = true }) into words false
next_vain l new at place into words b h G n =
    let s = G.same n in
    let was = at_here l.pages at place G.page h G.here in
    let v = vain l.pages new at place into words b h G n in
    record {
      ready = refl;
      more = λ t. absurd (false≢true t);
      same = λ _. (v.1, s.1);
      still = λ t. absurd (false≢true t);
      dry = λ _. refl;
      cause = λ _. inr (
        at,
        G.page,
        G.next,
        record {
          page = G.here;
          left = omega (arith, was.0, was.1);
          earlier = λ j o lt e. at_earlier l.pages at place j o h lt e;
          later = ap (λ (t : List PageView). slice_get t at) G.put ∙ get_set l.pages at G.page G.next G.here;
          one = G.one;
          place = G.place;
          none = s.2;
        },
      );
      cases = rw G.put (map_set case_of l.pages at G.page G.next G.here G.cases);
      rooms = rw G.put (map_set room_of l.pages at G.page G.next G.here G.rooms);
    }

pub next_more : (l : LaneView) (new : List PageView) (at place : ℕ) (into words : List ℕ) (b : Bool) → IsAt l.pages at place → GivesNext l.pages at new into words b → IsTrue b → NextOf l (record { pages = new; at_ready = l.at_ready; dry = l.dry }) into words true
next_more l new at place into words b h G t = record {
  ready = refl;
  more = λ _. rw G.put (given_more l.pages at place G.page G.next words h G.here (G.more t));
  same = λ n. absurd (n refl);
  still = λ _. refl;
  dry = λ n. absurd (n refl);
  cause = λ n. absurd (n refl);
  cases = rw G.put (map_set case_of l.pages at G.page G.next G.here G.cases);
  rooms = rw G.put (map_set room_of l.pages at G.page G.next G.here G.rooms);
}

-- an element's fact
pub page_fact : (a : Instance) (ps : List PageView) (at : ℕ) (p : PageView) → ArePagesOf a ps → slice_get ps at ≡ Some p → p.case ≡ a
page_fact a ps at p all e = go ps at (recursion_from_All (λ q. q.case ≡ a) ps all) e
  where
    go : (ps : List PageView) (at : ℕ) → AllByRecursion (λ q. q.case ≡ a) ps → slice_get ps at ≡ Some p → p.case ≡ a
    go [] at r e = absurd (cc)
    go (o ∷ ps) zero r e = ap (λ (q : PageView). q.case) (sym (some_page o p e)) ∙ r.0
    go (o ∷ ps) (suc at) r e = go ps at r.1 e

pub next_fact : (ps new : List PageView) (at : ℕ) (into words : List ℕ) (b : Bool) → GivesNext ps at new into words b → IsTrue b → (a : Instance) → ArePagesOf a ps → SpellsPassing a words
next_fact ps new at into words b G t a all = subst (λ (c : Instance). SpellsPassing c words) (page_fact a ps at G.page all G.here) (G.fact t)

-- where the lane goes on, there is room
pub room_left : (ps new : List PageView) (at place : ℕ) (into words : List ℕ) (b : Bool) (p : PageView) → IsAt ps at place → GivesNext ps at new into words b → slice_get new at ≡ Some p → place < p.room
room_left ps new at place into words b p h G e =
    let was = at_here ps at place G.page h G.here in
    let here : slice_get new at ≡ Some G.next = ap (λ (l : List PageView). slice_get l at) G.put ∙ get_set ps at G.page G.next G.here in
    let same : G.next ≡ p = some_page G.next p (sym here ∙ e) in
    omega (arith, was.1, G.rooms, ap (λ (q : PageView). q.room) same)

pub at_within : (ps : List PageView) (at place : ℕ) → IsAt ps at place → at ≢ length ps → at < length ps
at_within [] at place h n = absurd (n h.0)
at_within (p ∷ ps) zero place h n = omega arith
at_within (p ∷ ps) (suc at) place h n =
    let inner : at ≢ length ps = λ e. n (ap suc e) in
    omega (arith, at_within ps at place h.2 inner)
