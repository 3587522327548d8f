-- Each step keeps the rule.
use Rattle.std.proofs.Common.{ℕ, zero, suc, ◌+◌, ◌<◌, ◌≤◌, ◌≡◌, ◌≢◌, ◌^◌, ◌%◌, eqb, refl, sym, ap, ◌∙◌, subst, arith, List, [], ◌∷◌, ◌++◌, map, length, get_or, set, Bool, true, false, cond, ⊎_elim, get_or-set_other, get_or-set_same, length-set, length-append, None}
use Rattle.std.specs.Prelude.{Option as Maybe}
use Rattle.std.proofs.lemmas.List.{append-nil, set-get_or}
use Rattle.std.proofs.lemmas.List.Sums.{sum_by_push}
use Rattle.std.proofs.lemmas.Bool.{false≢true, cases_eq, cases_lt}
use mathlib.Core.Option.{Option, some, none, some-injective, some-ne-none}
use lib.ListN.{get_elem?}
use prog.Atomic.{either}
use Rattle.atomic_table.specs.Table.{Me, Act, keeps, takes, gives, step, stepped, Valid, carried_after, Allows, Splits, opening, rest}
use Rattle.atomic_table.proofs.Lists.{at_set, set_here, set_else, set_again, at_longer, at_snoc, one_turn, exchanged}
use Rattle.best.specs.History.{history, newest}
use Rattle.best.specs.Rules.{own, others, offers, maker, newcomer, with_one_less, waiting, to_make, Fits, Has, Kept, DrawsTicket, TakesTurn, LooksForTurn, EndsTurn}
use Rattle.best.specs.declared.rule.Turn.{Turn}
use Rattle.best.specs.declared.rule.View.{View}
use Rattle.best.proofs.Counts.{in_range, total_set, few_of, counts, counts_not, next_number}

module _ {T : Type 0} where
  abbrev no_one : List (View T) → Type 0
  no_one views = (id : ℕ) (v : View T) → get_elem? views id ≡ some v → v.turns ≡ true → ⊥

  -- where no one is in its turn after a view changed that was in none, no one was before
  no_one_before : (views : List (View T)) (id : ℕ) (v w : View T) → get_elem? views id ≡ some v → v.turns ≡ false → no_one (set views id w) → no_one views
  no_one_before views id v w at idle free j u f t = ⊎_elim
      (λ (r : j ≡ id).
      let same : v ≡ u = some-injective v u (sym at ∙ subst (λ (k : ℕ). get_elem? views k ≡ some u) r f) in
      false≢true (sym idle ∙ ap (λ (z : View T). z.turns) same ∙ t))
      (λ (n : j ≢ id). free j u (set_else views id j w n ∙ f) t)
      (cases_eq j id)

  -- a view that may hold other tickets, where more tickets were drawn
  fits_more : (log : List (Maybe T)) (n m : ℕ) (v : View T) → n ≤ m → Fits log n v → Fits log m v
  fits_more log n m v h F = record {
    begins = F.begins;
    ticket = λ w. let t = F.ticket w in (t.0, omega (arith, t.1, h));
    turn = F.turn;
  }

  flag : View T → ℕ
  flag v = cond v.waits 1 0

  abbrev with_ticket : View T → ℕ → View T
  with_ticket v t = record v { waits = true; ticket = t }

  drawn : (lower : T → T → Bool) (words : List ℕ) (homes : List (Option (Maybe T))) (views : List (View T)) (log : List (Maybe T)) (id : ℕ) (v : View T) → Has lower words homes views log → get_elem? views id ≡ some v → v.waits ≡ false → v.turns ≡ false → 0 < length words
      → Has lower (set words 0 ((get_or words 0 0 + 1) % 2 ^ 64)) homes (set views id (with_ticket v (length log + waiting views))) log
  drawn lower words homes views log id v H at idle out room =
      let t : ℕ = length log + waiting views in
      let w : View T = with_ticket v t in
      let x : ℕ = (get_or words 0 0 + 1) % 2 ^ 64 in
      let more : waiting (set views id w) ≡ waiting views + 1 = omega (arith, total_set (λ (z : View T). cond z.waits 1 0) views id v w at, counts_not v.waits idle) in
      let makes : to_make (set views id w) ≡ to_make views = omega (arith, total_set (λ (z : View T). z.makes) views id v w at) in
      let mine = H.fits id v at in
      record {
        drawn = get_or-set_same words 0 x 0 room ∙ next_number (get_or words 0 0) (2 ^ 64) t H.drawn ∙ ap (λ (n : ℕ). n % 2 ^ 64) (omega (arith, more));
        served = get_or-set_other words 0 1 x 0 (λ e. absurd (omega (arith, e))) ∙ H.served;
        few = omega (arith, H.few, length-set views id w, makes);
        fits = λ j u f. ⊎_elim
            (λ (r : (j ≡ id) × (w ≡ u)). subst (λ (z : View T). Fits log (length log + waiting (set views id w)) z) r.1 record {
              begins = mine.begins;
              ticket = λ _. (omega arith, omega (arith, more));
              turn = λ a. absurd (false≢true (sym out ∙ a));
            })
            (λ (r : (j ≢ id) × (get_elem? views j ≡ some u)). fits_more log t (length log + waiting (set views id w)) u (omega (arith, more)) (H.fits j u r.1))
            (at_set views id j w u f);
        apart = λ i j u z f g h k e. ⊎_elim
            (λ (r : (i ≡ id) × (w ≡ u)). ⊎_elim
            (λ (q : (j ≡ id) × (w ≡ z)). r.0 ∙ sym q.0)
            (λ (q : (j ≢ id) × (get_elem? views j ≡ some z)).
            let below = ((H.fits j z q.1).ticket k).1 in
            absurd (omega (arith, below, e, ap (λ (y : View T). y.ticket) r.1)))
            (at_set views id j w z g))
            (λ (r : (i ≢ id) × (get_elem? views i ≡ some u)). ⊎_elim
            (λ (q : (j ≡ id) × (w ≡ z)).
            let below = ((H.fits i u r.1).ticket h).1 in
            absurd (omega (arith, below, e, ap (λ (y : View T). y.ticket) q.1)))
            (λ (q : (j ≢ id) × (get_elem? views j ≡ some z)). H.apart i j u z r.1 q.1 h k e)
            (at_set views id j w z g))
            (at_set views id i w u f);
        home = λ free. H.home (no_one_before views id v w at out free);
      }

  pub draw_allowed : (lower : T → T → Bool) (slots id : ℕ) (me : Me (Maybe T) (View T)) → me.0.waits ≡ false → me.0.turns ≡ false → Allows (Kept lower) slots id me 0 (λ n. (n + 1) % 2 ^ 64) (DrawsTicket (step slots 0 1 0 none) me)
  draw_allowed lower slots id me idle out s kept homes at fits =
      let log = kept.1.0 in
      let H = kept.1.1 in
      let t : ℕ = length log + waiting s.views in
      let room : 0 < length s.words = omega (arith, kept.0) in (
        with_ticket me.0 t,
        keeps,
        tt,
        (length-set s.words 0 ((get_or s.words 0 0 + 1) % 2 ^ 64) ∙ kept.0, (log, drawn lower s.words s.homes s.views log id me.0 H at idle out room)),
        record { view = refl; found_is = H.drawn; slots = refl },
      )

  offers_others : (between : List (Maybe T)) (turns : List (Turn T)) → offers (map others between ++ turns) ≡ between ++ offers turns
  offers_others [] turns = refl
  offers_others (x ∷ xs) turns = ap (λ (l : List (Maybe T)). x ∷ l) (offers_others xs turns)

  abbrev in_turn : View T → Maybe T → List (Maybe T) → View T
  in_turn v offer between = record v { turns = true; offer = offer; seen = map others between ++ v.seen }

  -- no one else is in its turn where as many turns have ended as a ticket says
  alone : (lower : T → T → Bool) (words : List ℕ) (homes : List (Option (Maybe T))) (views : List (View T)) (log : List (Maybe T)) (id : ℕ) (v : View T) → Has lower words homes views log → get_elem? views id ≡ some v → v.waits ≡ true → v.ticket ≡ length log
      → (j : ℕ) (u : View T) → get_elem? views j ≡ some u → u.turns ≡ true → j ≡ id
  alone lower words homes views log id v H at waits here j u f t =
      let turn = (H.fits j u f).turn t in
      H.apart j id u v f at turn.0 waits (turn.1 ∙ sym here)

  taken : (lower : T → T → Bool) (words : List ℕ) (homes : List (Option (Maybe T))) (views : List (View T)) (log : List (Maybe T)) (id : ℕ) (v : View T) (offer : Maybe T) (between : List (Maybe T)) → Has lower words homes views log → get_elem? views id ≡ some v → v.waits ≡ true → v.ticket ≡ length log → log ≡ between ++ offers v.seen
      → Has lower words (set homes 0 none) (set views id (in_turn v offer between)) log
  taken lower words homes views log id v offer between H at waits here all =
      let w : View T = in_turn v offer between in
      let same : waiting (set views id w) ≡ waiting views = omega (arith, total_set (λ (z : View T). cond z.waits 1 0) views id v w at) in
      let makes : to_make (set views id w) ≡ to_make views = omega (arith, total_set (λ (z : View T). z.makes) views id v w at) in
      let mine = H.fits id v at in
      let seen : offers w.seen ≡ log = offers_others between v.seen ∙ sym all in
      record {
        drawn = H.drawn ∙ ap (λ (n : ℕ). (length log + n) % 2 ^ 64) (sym same);
        served = H.served;
        few = omega (arith, H.few, length-set views id w, makes);
        fits = λ j u f. subst (λ (n : ℕ). Fits log (length log + n) u) (sym same) (⊎_elim
            (λ (r : (j ≡ id) × (w ≡ u)). subst (λ (z : View T). Fits log (length log + waiting views) z) r.1 record {
              begins = ([], sym seen);
              ticket = mine.ticket;
              turn = λ _. (waits, here, seen);
            })
            (λ (r : (j ≢ id) × (get_elem? views j ≡ some u)). H.fits j u r.1)
            (at_set views id j w u f));
        apart = λ i j u z f g h k e. ⊎_elim
            (λ (r : (i ≡ id) × (w ≡ u)). ⊎_elim
            (λ (q : (j ≡ id) × (w ≡ z)). r.0 ∙ sym q.0)
            (λ (q : (j ≢ id) × (get_elem? views j ≡ some z)). r.0 ∙ H.apart id j v z at q.1 waits k (ap (λ (y : View T). y.ticket) r.1 ∙ e))
            (at_set views id j w z g))
            (λ (r : (i ≢ id) × (get_elem? views i ≡ some u)). ⊎_elim
            (λ (q : (j ≡ id) × (w ≡ z)). H.apart i id u v r.1 at h waits (e ∙ sym (ap (λ (y : View T). y.ticket) q.1)) ∙ sym q.0)
            (λ (q : (j ≢ id) × (get_elem? views j ≡ some z)). H.apart i j u z r.1 q.1 h k e)
            (at_set views id j w z g))
            (at_set views id i w u f);
        home = λ free. absurd (free id w (set_here views id w (in_range views id v at)) refl);
      }

  -- a ticket is the number of ended turns where the two are the same modulo 2^64
  turn_is : (lower : T → T → Bool) (words : List ℕ) (homes : List (Option (Maybe T))) (views : List (View T)) (log : List (Maybe T)) (id : ℕ) (v : View T) → Has lower words homes views log → get_elem? views id ≡ some v → v.waits ≡ true → get_or words 1 0 ≡ v.ticket % 2 ^ 64 → v.ticket ≡ length log
  turn_is lower words homes views log id v H at waits e =
      let t = (H.fits id v at).ticket waits in
      let few = few_of (λ (z : View T). z.waits) views in
      sym (one_turn (length log) v.ticket (2 ^ 64) t.0 (omega (arith, t.1, few, H.few)) (sym H.served ∙ e))

  pub look_allowed : (lower : T → T → Bool) (slots id : ℕ) (me : Me (Maybe T) (View T)) (ticket : ℕ) (offer : Maybe T) → me.0.waits ≡ true → me.0.turns ≡ false → ticket ≡ me.0.ticket % 2 ^ 64
      → Allows (Kept lower) slots id me 1 (λ n. either (eqb n ticket) ticket n) (LooksForTurn lower (step slots 1 ticket ticket (some offer)) me)
  look_allowed lower slots id me ticket offer waits out is s kept homes at fits =
      let n = get_or s.words 1 0 in
      let log = kept.1.0 in
      let H = kept.1.1 in
      exchanged n ticket ticket (λ (m : ℕ). (w : View T) × (a : Act (Maybe T)) × Valid s.homes me.1 a × Kept lower (stepped s 1 m id me.1 w a) × LooksForTurn lower (step slots 1 ticket ticket (some offer)) me n (w, carried_after me.1 a))
      (λ e.
      let here : me.0.ticket ≡ length log = turn_is lower s.words s.homes s.views log id me.0 H at waits (e ∙ is) in
      let starts = (H.fits id me.0 at).begins in
      let between = starts.0 in
      let w : View T = in_turn me.0 offer between in
      let seen : offers w.seen ≡ log = offers_others between me.0.seen ∙ sym starts.1 in
      let free : no_one s.views = λ j u f t.
      let same : j ≡ id = alone lower s.words s.homes s.views log id me.0 H at waits here j u f t in
      let view : me.0 ≡ u = some-injective me.0 u (sym at ∙ subst (λ (k : ℕ). get_elem? s.views k ≡ some u) same f) in
      false≢true (sym out ∙ ap (λ (z : View T). z.turns) view ∙ t) in
      let words_same : set s.words 1 ticket ≡ s.words = ap (λ (m : ℕ). set s.words 1 m) (sym e) ∙ set-get_or s.words 1 0 in
      let top : Maybe T = newest (history lower log) in (
        w,
        takes 0 top,
        H.home free,
        (ap length words_same ∙ kept.0, (log, subst (λ (l : List ℕ). Has lower l (set s.homes 0 none) (set s.views id w) log) (sym words_same) (taken lower s.words s.homes s.views log id me.0 offer between H at waits here starts.1))),
        (
          (λ _ o q. subst (λ (x : Maybe T). TakesTurn lower x me (w, (0, top) ∷ me.1)) (some-injective offer o q) (between, refl, ap (λ (l : List (Maybe T)). (0, newest (history lower l)) ∷ me.1) (sym seen))),
          (λ ne. absurd (ne e)),
        ),
      ))
      (λ ne.
      let words_same : set s.words 1 n ≡ s.words = set-get_or s.words 1 0 in
      let views_same : set s.views id me.0 ≡ s.views = set_again s.views id me.0 at in (
        me.0,
        keeps,
        tt,
        (ap length words_same ∙ kept.0, (log, subst (λ (l : List ℕ). Has lower l s.homes (set s.views id me.0) log) (sym words_same) (subst (λ (l : List (View T)). Has lower s.words s.homes l log) (sym views_same) H))),
        ((λ e. absurd (ne e)), (λ _. refl)),
      ))

  abbrev ended : View T → View T
  ended v = record v { waits = false; turns = false; seen = own v.offer ∷ v.seen }

  gave : (lower : T → T → Bool) (words : List ℕ) (homes : List (Option (Maybe T))) (views : List (View T)) (log : List (Maybe T)) (id : ℕ) (v : View T) (x : ℕ) (y : Maybe T) → Has lower words homes views log → get_elem? views id ≡ some v → v.turns ≡ true → x ≡ (v.ticket + 1) % 2 ^ 64 → y ≡ newest (history lower (v.offer ∷ log)) → 1 < length words → 0 < length homes
      → Has lower (set words 1 x) (set homes 0 (some y)) (set views id (ended v)) (v.offer ∷ log)
  gave lower words homes views log id v x y H at turns next top room slot =
      let w : View T = ended v in
      let mine = H.fits id v at in
      let turn = mine.turn turns in
      let fewer : waiting (set views id w) + 1 ≡ waiting views = omega (arith, total_set (λ (z : View T). cond z.waits 1 0) views id v w at, counts v.waits turn.0) in
      let makes : to_make (set views id w) ≡ to_make views = omega (arith, total_set (λ (z : View T). z.makes) views id v w at) in
      let sums : length (v.offer ∷ log) + waiting (set views id w) ≡ length log + waiting views = omega (arith, fewer) in
      let only : (j : ℕ) (u : View T) → get_elem? views j ≡ some u → u.turns ≡ true → j ≡ id = alone lower words homes views log id v H at turn.0 turn.1 in
      record {
        drawn = get_or-set_other words 1 0 x 0 (λ e. absurd (omega (arith, e))) ∙ H.drawn ∙ ap (λ (n : ℕ). n % 2 ^ 64) (sym sums);
        served = get_or-set_same words 1 x 0 room ∙ next ∙ ap (λ (n : ℕ). n % 2 ^ 64) (omega (arith, turn.1));
        few = omega (arith, H.few, length-set views id w, makes);
        fits = λ j u f. subst (λ (n : ℕ). Fits (v.offer ∷ log) n u) (sym sums) (⊎_elim
            (λ (r : (j ≡ id) × (w ≡ u)). subst (λ (z : View T). Fits (v.offer ∷ log) (length log + waiting views) z) r.1 record {
              begins = ([], ap (λ (l : List (Maybe T)). v.offer ∷ l) (sym turn.2));
              ticket = λ a. absurd (false≢true a);
              turn = λ a. absurd (false≢true a);
            })
            (λ (r : (j ≢ id) × (get_elem? views j ≡ some u)).
            let F = H.fits j u r.1 in record {
              begins = (v.offer ∷ F.begins.0, ap (λ (l : List (Maybe T)). v.offer ∷ l) F.begins.1);
              ticket = λ a.
                  let t = F.ticket a in
                  let other : u.ticket ≢ length log = λ e. r.0 (H.apart j id u v r.1 at a turn.0 (e ∙ sym turn.1)) in
                  (below_or_at (length log) u.ticket t.0 other, t.1);
              turn = λ a. absurd (r.0 (only j u r.1 a));
            })
            (at_set views id j w u f));
        apart = λ i j u z f g h k e. ⊎_elim
            (λ (r : (i ≡ id) × (w ≡ u)). absurd (false≢true (ap (λ (y : View T). y.waits) r.1 ∙ h)))
            (λ (r : (i ≢ id) × (get_elem? views i ≡ some u)). ⊎_elim
            (λ (q : (j ≡ id) × (w ≡ z)). absurd (false≢true (ap (λ (y : View T). y.waits) q.1 ∙ k)))
            (λ (q : (j ≢ id) × (get_elem? views j ≡ some z)). H.apart i j u z r.1 q.1 h k e)
            (at_set views id j w z g))
            (at_set views id i w u f);
        home = λ _. set_here homes 0 (some y) slot ∙ ap (λ (z : Maybe T). some (some z)) top;
      }
    where
      below_or_at : (n m : ℕ) → n ≤ m → m ≢ n → suc n ≤ m
      below_or_at n m h ne = ⊎_elim (λ (lt : n < m). omega arith) (λ (ge : m ≤ n). absurd (ne (omega arith))) (cases_lt n m)

  end_at : (lower : T → T → Bool) (slots id : ℕ) (v : View T) (ticket x : ℕ) (y : Maybe T) → 0 < slots → v.turns ≡ true → x ≡ (v.ticket + 1) % 2 ^ 64 → y ≡ newest (history lower (v.offer ∷ offers v.seen))
      → Allows (Kept lower) slots id (v, (0, y) ∷ []) 1 (λ _. x) (λ _. EndsTurn (step slots 1 x 0 none) (v, (0, y) ∷ []) x)
  end_at lower slots id v ticket x y some_slot turns next top s kept homes at fits =
      let log = kept.1.0 in
      let H = kept.1.1 in
      let all : offers v.seen ≡ log = ((H.fits id v at).turn turns).2 in
      let top' : y ≡ newest (history lower (v.offer ∷ log)) = top ∙ ap (λ (l : List (Maybe T)). newest (history lower (v.offer ∷ l))) all in
      let room : 1 < length s.words = omega (arith, kept.0) in
      let slot : 0 < length s.homes = omega (arith, homes, some_slot) in (
        ended v,
        gives,
        tt,
        (length-set s.words 1 x ∙ kept.0, (v.offer ∷ log, gave lower s.words s.homes s.views log id v x y H at turns next top' room slot)),
        (refl, refl),
      )

  pub end_allowed : (lower : T → T → Bool) (slots id : ℕ) (me : Me (Maybe T) (View T)) (ticket x : ℕ) (y : Maybe T) → me.1 ≡ (0, y) ∷ [] → 0 < slots → me.0.turns ≡ true → x ≡ (me.0.ticket + 1) % 2 ^ 64 → y ≡ newest (history lower (me.0.offer ∷ offers me.0.seen))
      → Allows (Kept lower) slots id me 1 (λ _. x) (λ _. EndsTurn (step slots 1 x 0 none) me x)
  end_allowed lower slots id me ticket x y e some_slot turns next top =
      subst (λ (c : List (ℕ × Maybe T)). Allows (Kept lower) slots id (me.0, c) 1 (λ _. x) (λ _. EndsTurn (step slots 1 x 0 none) (me.0, c) x)) (sym e) (end_at lower slots id me.0 ticket x y some_slot turns next top)

  -- the slot in hand, as its loan asks for it
  pub in_hand : (c : List (ℕ × Maybe T)) (y : Maybe T) → c ≡ (0, y) ∷ [] → (old : Maybe T) × (c ≡ (0, old) ∷ rest c)
  in_hand c y e = (y, e ∙ ap (λ (l : List (ℕ × Maybe T)). (0, y) ∷ l) (sym (ap rest e)))

  -- one pass more, which has seen nothing
  pub splits : (lower : T → T → Bool) (id : ℕ) (v : View T) → 0 < v.makes → Splits (Kept lower) id v (with_one_less v) newcomer
  splits lower id v some_left s kept at =
      let log = kept.1.0 in
      let H = kept.1.1 in
      let w : View T = with_one_less v in
      let new : View T = newcomer in
      let mid : List (View T) = set s.views id w in
      let all : List (View T) = mid ++ new ∷ [] in
      let same : waiting all ≡ waiting s.views = omega (arith, sum_by_push (λ (z : View T). cond z.waits 1 0) mid new, total_set (λ (z : View T). cond z.waits 1 0) s.views id v w at) in
      let makes : to_make all + 1 ≡ to_make s.views = omega (arith, sum_by_push (λ (z : View T). z.makes) mid new, total_set (λ (z : View T). z.makes) s.views id v w at, some_left) in
      let before : (j : ℕ) (u : View T) → get_elem? mid j ≡ some u → (z : View T) × (get_elem? s.views j ≡ some z) × (u ≡ record z { makes = u.makes }) = λ j u f. ⊎_elim
      (λ (r : (j ≡ id) × (w ≡ u)). (v, subst (λ (k : ℕ). get_elem? s.views k ≡ some v) (sym r.0) at, sym r.1 ∙ ap (λ (z : View T). record v { makes = z.makes }) r.1))
      (λ (r : (j ≢ id) × (get_elem? s.views j ≡ some u)). (u, r.1, refl))
      (at_set s.views id j w u f) in
      let after : Has lower s.words s.homes all log = record {
        drawn = H.drawn ∙ ap (λ (n : ℕ). (length log + n) % 2 ^ 64) (sym same);
        served = H.served;
        few = omega (arith, H.few, length-set s.views id w, length-append mid (new ∷ []), makes);
        fits = λ j u f. subst (λ (n : ℕ). Fits log (length log + n) u) (sym same) (⊎_elim
            (λ (g : get_elem? mid j ≡ some u).
            let b = before j u g in
            let F = H.fits j b.0 b.1 in
            subst (λ (z : View T). Fits log (length log + waiting s.views) z) (sym b.2) record { begins = F.begins; ticket = F.ticket; turn = F.turn })
            (λ (g : new ≡ u). subst (λ (z : View T). Fits log (length log + waiting s.views) z) g record {
              begins = (log, sym (append-nil log));
              ticket = λ a. absurd (false≢true a);
              turn = λ a. absurd (false≢true a);
            })
            (at_snoc mid new u j f));
        apart = λ i j u z f g h k e. ⊎_elim
            (λ (p : get_elem? mid i ≡ some u). ⊎_elim
            (λ (q : get_elem? mid j ≡ some z).
            let a = before i u p in
            let b = before j z q in
            H.apart i j a.0 b.0 a.1 b.1 (sym (ap (λ (y : View T). y.waits) a.2) ∙ h) (sym (ap (λ (y : View T). y.waits) b.2) ∙ k) (sym (ap (λ (y : View T). y.ticket) a.2) ∙ e ∙ ap (λ (y : View T). y.ticket) b.2))
            (λ (q : new ≡ z). absurd (false≢true (ap (λ (y : View T). y.waits) q ∙ k)))
            (at_snoc mid new z j g))
            (λ (p : new ≡ u). absurd (false≢true (ap (λ (y : View T). y.waits) p ∙ h)))
            (at_snoc mid new u i f);
        home = λ free. H.home (λ j u f t. ⊎_elim
            (λ (r : j ≡ id).
            let view : v ≡ u = some-injective v u (sym at ∙ subst (λ (k : ℕ). get_elem? s.views k ≡ some u) r f) in
            free id w (at_longer mid (new ∷ []) id w (set_here s.views id w (in_range s.views id v at))) (ap (λ (z : View T). z.turns) view ∙ t))
            (λ (n : j ≢ id). free j u (at_longer mid (new ∷ []) j u (set_else s.views id j w n ∙ f)) t)
            (cases_eq j id));
      } in
      (kept.0, (log, after))

  only_one : (a b : View T) (j : ℕ) → get_elem? (a ∷ []) j ≡ some b → (j ≡ 0) × (a ≡ b)
  only_one a b zero e = (refl, some-injective a b e)
  only_one a b (suc j) e = absurd (some-ne-none b (sym e))

  pub opens : (lower : T → T → Bool) (makes : ℕ) → makes < 2 ^ 32 → Kept lower (opening (0 ∷ 0 ∷ []) (None ∷ []) (maker makes))
  opens lower makes small = (
    refl,
    (
      [],
      record {
        drawn = refl;
        served = refl;
        few = omega (arith, small);
        fits = λ j v f.
            let t = only_one (maker makes) v j f in
            subst (λ (z : View T). Fits [] 0 z) t.1 record {
              begins = ([], refl);
              ticket = λ a. absurd (false≢true a);
              turn = λ a. absurd (false≢true a);
            };
        apart = λ i j v u f g _ _ _. (only_one (maker makes) v i f).0 ∙ sym (only_one (maker makes) u j g).0;
        home = λ _. refl;
      },
    ),
  )
