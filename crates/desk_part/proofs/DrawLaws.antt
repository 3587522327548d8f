-- What a draw adds to a record.
use Rattle.std.proofs.Common.{inl, inr, ℕ, ◌+◌, ◌<◌, ◌≤◌, ◌^◌, ◌-◌, ◌≡◌, refl, sym, ap, ◌∙◌, subst, arith, List, [], ◌∷◌, ◌++◌, length, map, append_assoc}
use Rattle.std.specs.Prelude.{◌≢◌, All, Contains, Some, None, slice_get, Result, Ok, Err, IfOk, OnOk, OnErr}
use Rattle.std.proofs.lemmas.List.{append-nil, length-append, take_at}
use Rattle.std.proofs.lemmas.List.Elements.{All-nil, All-cons, All-head, All-tail, All-contains}
use Rattle.nogoods.specs.declared.choice.Choice.{Choice}
use Rattle.nogoods.specs.declared.choice.Side.{Side}
use Rattle.lpcc_case.specs.Instance.{Instance}
use Rattle.derivation.specs.declared.step.Step.{Step}
use Rattle.derivation.specs.declared.step.Step.TheVariants.{Start, Derived}
use Rattle.derivation.specs.HintRuns.{NamesBelow}
use Rattle.derivation.specs.Logs.{IsLog, Follows, no_goods}
use Rattle.search.specs.FirstPieces.{IsBarred, IsFirst, IsFound, HasEmpty, AllBlocked}
use Rattle.search.specs.Growth.{Grown, IsDerivedBelow}
use Rattle.search.specs.declared.found.Found.{Found}
use Rattle.search.specs.declared.found.Found.TheVariants as found
use Rattle.play.specs.declared.event.Event.{Event}
use Rattle.play.specs.declared.event.Event.TheVariants.{Publish, Read, Offer, Draw, Absorb, Learn, Settle, Conclude}
use Rattle.play.specs.declared.outcome.Outcome.{Outcome}
use Rattle.play.specs.declared.event.Options.{Options}
use Rattle.play.specs.declared.event.Ticket.{Ticket}
use Rattle.play.specs.declared.event.VerdictKind.{VerdictKind}
use Rattle.play.specs.Parts.{Part, start, barring, taken, piece_of, piece_aside}
use Rattle.play.specs.Steps.{after}
use Rattle.play.specs.Lawful.{IsFree, MayConclude}
use Rattle.play.specs.Truth.{IsTrueToBest}
use Rattle.play.specs.Records.{IsNext, Leads}
use Rattle.play.specs.declared.ending.Ending.{Ending}
use Rattle.play.specs.Endings.{IsEnding, IsIdle}
use Rattle.play.proofs.StartLaws.{barred_by_starts, barred_by_steps}
use Rattle.play.proofs.Draws.{carried_standing, carried_few}
use Rattle.play.proofs.Verdicts.{each_barred}
use Rattle.desk_part.specs.declared.answer.Draw.{Draw as Answer}
use Rattle.desk_part.specs.declared.answer.Draw.TheVariants as draw
use Rattle.desk_part.specs.Searches.{AreSameButBarred}
use Rattle.desk_part.specs.DeskParts.{AddedBy, AnswersBy, CarriesMore, Draws, IsCarried, IsGiven, IsLearn, IsOver, IsEndingOfRecord, IsSettled, Learns, LearnsOn, Shows, DrawsOn, Settles, SettlesOn, Standing, settled_events, standing}

-- ---- events behind events

pub leads_join : (a : Instance) (o : Options) (d : Part) (xs : List Event) (e : Part) (ys : List Event) (f : Part) → Leads a o d xs e → Leads a o e ys f → Leads a o d (xs ++ ys) f
leads_join a o d [] e ys f x y = subst (λ z. Leads a o z ys f) (sym x) y
leads_join a o d (v ∷ xs) e ys f x y = (x.0, leads_join a o (after v d) xs e ys f x.1 y)

pub carries_more : (a : Instance) (o : Options) (d : Part) (xs : List Event) (e : Part) → Leads a o d xs e → CarriesMore a o d xs e
carries_more a o d xs e leads before carries = leads_join a o start before d xs e carries leads

pub carried_more : (a : Instance) (o : Options) (d : Part) (xs : List Event) (e : Part) → Leads a o d xs e → IsCarried a o d → IsCarried a o e
carried_more a o d xs e leads h = (h.0 ++ xs, carries_more a o d xs e leads h.0 h.1)

-- ---- learned steps

pub learn_of : Step → Event
learn_of (Start ng) = Learn ng []
learn_of (Derived ng hints) = Learn ng hints

at_joint : (log rest : List Step) (s : Step) → slice_get (log ++ s ∷ rest) (length log) ≡ Some s
at_joint [] rest s = refl
at_joint (t ∷ log) rest s = at_joint log rest s

joint_follows : (log rest : List Step) (s : Step) → IsLog (log ++ s ∷ rest) → Follows (no_goods log) s
joint_follows log rest s is =
    let P : List Step → Type 0 = λ l. Follows (no_goods l) s in
    subst P (take_at log (s ∷ rest) (length log) refl) (is (length log) s (at_joint log rest s))

abbrev with_log : Part → List Step → Part
with_log d log = record d { log = log }

pub learn_leads : (a : Instance) (o : Options) (d : Part) (added : List Step) → d.verdict ≡ None → IsLog (d.log ++ added) → All (IsDerivedBelow (length a.pairs)) added → Leads a o d (map learn_of added) (record d { log = d.log ++ added })
unfolding learn_of
learn_leads a o d [] waiting is derived = ap (λ l. record d { log = l }) (sym (append-nil d.log))
learn_leads a o d (Start ng ∷ rest) waiting is derived = absurd (All-head (IsDerivedBelow (length a.pairs)) (Start ng) rest derived)
learn_leads a o d (Derived ng hints ∷ rest) waiting is derived =
    let joined = append_assoc d.log (Derived ng hints ∷ []) rest in
    let P : List Step → Type 0 = λ l. Leads a o (after (Learn ng hints) d) (map learn_of rest) (record d { log = l }) in
    let is_next : IsNext a o d (Learn ng hints) = record {
      lawful = record { fits = All-head (IsDerivedBelow (length a.pairs)) (Derived ng hints) rest derived; row = (waiting, joint_follows d.log rest (Derived ng hints) is) };
      recorded = tt;
    } in
    (is_next, subst P joined (learn_leads a o (after (Learn ng hints) d) rest waiting (subst IsLog (sym joined) is) (All-tail (IsDerivedBelow (length a.pairs)) (Derived ng hints) rest derived)))

learn_all : (n : ℕ) (added : List Step) → All (IsDerivedBelow n) added → All IsLearn (map learn_of added)
unfolding learn_of
learn_all n [] derived = All-nil IsLearn
learn_all n (Start ng ∷ rest) derived = absurd (All-head (IsDerivedBelow n) (Start ng) rest derived)
learn_all n (Derived ng hints ∷ rest) derived = All-cons IsLearn (Learn ng hints) (map learn_of rest) tt (learn_all n rest (All-tail (IsDerivedBelow n) (Derived ng hints) rest derived))

pub grown_learns : (a : Instance) (o : Options) (d e : Part) → d.verdict ≡ None → IsLog e.log → Grown (length a.pairs) d.log e.log → e ≡ record d { log = e.log } → Learns a o d e
grown_learns a o d e waiting is grown same =
    let added = grown.grows.added in
    let P : Part → Type 0 = λ x. Leads a o d (map learn_of added) x in
    let there : record d { log = d.log ++ added } ≡ e = ap (λ l. with_log d l) (sym grown.grows.joined) ∙ sym same in
    record {
      learned = map learn_of added;
      learns = learn_all (length a.pairs) added grown.grows.derived;
      leads = subst P there (learn_leads a o d added waiting (subst IsLog grown.grows.joined is) grown.grows.derived);
      same = same;
    }

-- ---- what the search finds

from_log : (a : Instance) (d : Part) (drawn : List (List Side)) (p : List Side) → IsTrueToBest a drawn d → length p ≡ length a.pairs → IsBarred (no_goods d.log) p → IsBarred (barring d) p
from_log a d drawn p h size barred =
    let P : List (List Choice) → Type 0 = λ l. IsBarred l p in
    let Q : ℕ → Type 0 = λ n. All (NamesBelow n) (no_goods d.log) in
    subst P h.starts (barred_by_starts d.log p h.log (subst Q (sym size) h.named) barred)

to_log : (a : Instance) (d : Part) (drawn : List (List Side)) (p : List Side) → IsTrueToBest a drawn d → IsBarred (barring d) p → IsBarred (no_goods d.log) p
to_log a d drawn p h barred =
    let P : List (List Choice) → Type 0 = λ l. IsBarred l p in
    barred_by_steps d.log p (subst P (sym h.starts) barred)

pub shows_found : (a : Instance) (d : Part) (drawn : List (List Side)) (blocked : List (List Side)) (log : List Step) (it : Found) → IsTrueToBest a drawn d → AreSameButBarred (barring d) (taken d) blocked → IsFound (length a.pairs) (no_goods d.log) blocked it → HasEmpty (no_goods log) it → Shows a (record d { log = log }) it
shows_found a d drawn blocked log (found.Piece p) h same is empty = record {
  size = is.size;
  unbarred = λ barred. is.unbarred (to_log a d drawn p h barred);
  free = λ c. elim (same.there p c) [
    | inl held ↦ is.free held
    | inr barred ↦ is.unbarred (to_log a d drawn p h barred)
  ];
  first = λ q size unbarred free. is.first q size (λ barred. unbarred (from_log a d drawn q h size barred)) (λ c. elim (same.back q c) [
    | inl held ↦ free held
    | inr barred ↦ unbarred barred
  ]);
}
shows_found a d drawn blocked log found.Refuted h same is empty = empty
shows_found a d drawn blocked log found.Blocked h same is empty =
    let w = is.some in
    record {
      each = λ p size. elim (is.each p size) [
        | inl barred ↦ inl (from_log a d drawn p h size barred)
        | inr held ↦ elim (same.back p held) [
          | inl still ↦ inr still
          | inr barred ↦ inl barred
        ]
      ];
      some = (
        w.0,
        w.1,
        elim (same.back w.0 w.2) [
          | inl still ↦ still
          | inr barred ↦ absurd (w.3 (to_log a d drawn w.0 h barred))
        ],
        λ barred. w.3 (to_log a d drawn w.0 h barred),
      );
    }

-- ---- the answers

-- the piece that is handed out
pub gives : (a : Instance) (o : Options) (d : Part) (worker number : ℕ) (piece : List Side) → d.verdict ≡ None → d.unbounded ≡ None → worker < o.workers → IsFree worker d.flight → number ≡ d.drawn → number < o.pieces → o.pieces ≤ 2 ^ 64 - 1 → IsFirst (length a.pairs) (barring d) (taken d) piece → IsNext a o d (Draw worker number piece)
gives a o d worker number piece waiting settled known free is few most first = record {
  lawful = record {
    fits = (known, first.size);
    row = record { opened = (waiting, settled); free = free; ticket = is; room = omega (arith, few, most); unbarred = first.unbarred; fresh = first.free };
  };
  recorded = (omega (arith, few, is), first);
}

pub given : (a : Instance) (o : Options) (d e : Part) (worker number : ℕ) (piece : List Side) → IsNext a o d (Draw worker number piece) → e ≡ after (Draw worker number piece) d → Draws a o worker d e (draw.Piece (record { worker = worker; number = number; piece = piece }))
given a o d e worker number piece is_next same =
    let t : Ticket = record { worker = worker; number = number; piece = piece } in
    let P : Part → Type 0 = λ x. IsGiven a o d x t in
    let row = is_next.lawful.row in
    record {
      learned = [];
      behind = Draw worker number piece ∷ [];
      learns = All-nil IsLearn;
      adds = (refl, refl);
      leads = (is_next, sym same);
      answers = subst P (sym same) (record {
        number = row.ticket;
        few = is_next.recorded.0;
        drawn = refl;
        flight = refl;
        best = refl;
        unconcluded = row.opened.0;
        size = is_next.lawful.fits.1;
        unbarred = row.unbarred;
      });
    }

-- nothing is added
pub stays : (a : Instance) (o : Options) (d : Part) (worker : ℕ) (answer : Answer) → AddedBy worker answer [] → AnswersBy a o d d answer → Draws a o worker d d answer
stays a o d worker answer adds answers = record { learned = []; behind = []; learns = All-nil IsLearn; adds = adds; leads = refl; answers = answers }

pub concludes : (a : Instance) (o : Options) (d e : Part) (worker : ℕ) (v : VerdictKind) → d.verdict ≡ None → MayConclude d v → e ≡ after (Conclude v) d → Draws a o worker d e draw.Done
concludes a o d e worker v waiting may same =
    let P : Part → Type 0 = λ x. IsOver a o x in
    record {
      learned = [];
      behind = Conclude v ∷ [];
      learns = All-nil IsLearn;
      adds = inr (v, refl);
      leads = (record { lawful = record { fits = tt; row = (waiting, may) }; recorded = tt }, sym same);
      answers = subst P (sym same) (inl (v, refl));
    }

no_flight : (d : Part) (p : List Side) → d.flight ≡ [] → Contains (taken d) p → Contains (map piece_aside d.aside) p
no_flight d p e c =
    let P : List Ticket → Type 0 = λ l. Contains (map piece_of l ++ map piece_aside d.aside) p in
    subst P e c

-- with nothing in flight and all draws made
pub out : (a : Instance) (o : Options) (d : Part) (worker : ℕ) (piece : List Side) → IsCarried a o d → d.verdict ≡ None → d.flight ≡ [] → o.pieces ≤ d.drawn → IsFirst (length a.pairs) (barring d) (taken d) piece → Draws a o worker d d draw.Done
out a o d worker piece carried waiting landed spent first =
    let T : List Ticket → Type 0 = λ l. IsFirst (length a.pairs) (barring d) (map piece_of l ++ map piece_aside d.aside) piece in
    let idle : IsIdle d = record { unconcluded = waiting; landed = landed } in
    stays a o d worker draw.Done (inl refl) (inr (idle, inr (piece, record { idle = idle; spent = omega (arith, spent, carried_few a o carried.0 d carried.1); first = subst T landed first })))

pub pauses_spent : (a : Instance) (o : Options) (d : Part) (worker : ℕ) → d.verdict ≡ None → d.flight ≢ [] → o.pieces ≤ d.drawn → Draws a o worker d d draw.Pause
pauses_spent a o d worker waiting flying spent = stays a o d worker draw.Pause refl (record { unconcluded = waiting; flying = flying; none = inr spent })

pub pauses_refuted : (a : Instance) (o : Options) (d : Part) (worker : ℕ) → IsCarried a o d → d.verdict ≡ None → d.flight ≢ [] → Contains (no_goods d.log) [] → Draws a o worker d d draw.Pause
pauses_refuted a o d worker carried waiting flying empty =
    let h = carried_standing a o carried.0 d carried.1 in
    stays a o d worker draw.Pause refl (record { unconcluded = waiting; flying = flying; none = inl (λ p piece. inl (each_barred a _ d h.truth empty p piece)) })

pub pauses_blocked : (a : Instance) (o : Options) (d : Part) (worker : ℕ) → d.verdict ≡ None → d.flight ≢ [] → AllBlocked (length a.pairs) (barring d) (taken d) → Draws a o worker d d draw.Pause
pauses_blocked a o d worker waiting flying blocked =
    stays a o d worker draw.Pause refl (record { unconcluded = waiting; flying = flying; none = inl (λ p piece. blocked.each p piece) })

pub done_blocked : (a : Instance) (o : Options) (d : Part) (worker : ℕ) → d.verdict ≡ None → d.flight ≡ [] → AllBlocked (length a.pairs) (barring d) (taken d) → Draws a o worker d d draw.Done
done_blocked a o d worker waiting landed blocked =
    let T : List Ticket → Type 0 = λ l. AllBlocked (length a.pairs) (barring d) (map piece_of l ++ map piece_aside d.aside) in
    let idle : IsIdle d = record { unconcluded = waiting; landed = landed } in
    stays a o d worker draw.Done (inl refl) (inr (idle, inl (subst T landed blocked)))

-- ---- a search and then an answer

-- learning leaves all but the log
given_before : (a : Instance) (o : Options) (d m e : Part) (answer : Answer) → m ≡ record d { log = m.log } → AnswersBy a o m e answer → AnswersBy a o d e answer
given_before a o d m e (draw.Piece t) same g =
    let drawn : m.drawn ≡ d.drawn = ap (λ (x : Part). x.drawn) same in
    record {
      number = g.number ∙ drawn;
      few = omega (arith, g.few, drawn);
      drawn = omega (arith, g.drawn, drawn);
      flight = g.flight ∙ ap (λ l. l ++ t ∷ []) (ap (λ (x : Part). x.flight) same);
      best = g.best ∙ ap (λ (x : Part). x.best) same;
      unconcluded = g.unconcluded;
      size = g.size;
      unbarred = g.unbarred;
    }
given_before a o d m e draw.Pause same p = p
given_before a o d m e draw.Done same p = p

pub learns_then : (a : Instance) (o : Options) (worker : ℕ) (d m e : Part) (answer : Answer) → Learns a o d m → Draws a o worker m e answer → Draws a o worker d e answer
learns_then a o worker d m e answer l r = record {
  learned = l.learned ++ r.learned;
  behind = r.behind;
  learns = Rattle.std.proofs.lemmas.List.Elements.All-append IsLearn l.learned r.learned l.learns r.learns;
  adds = r.adds;
  leads =
      let P : List Event → Type 0 = λ xs. Leads a o d xs e in
      subst P (sym (append_assoc l.learned r.learned r.behind)) (leads_join a o d l.learned m (r.learned ++ r.behind) e l.leads r.leads);
  answers = given_before a o d m e answer l.same r.answers;
}

-- ---- as the code has them

pub learns_carried : (a : Instance) (o : Options) (d e : Part) → Learns a o d e → IsCarried a o d → IsCarried a o e
learns_carried a o d e l h = carried_more a o d l.learned e l.leads h

pub then_result : {E : Type 0} (a : Instance) (o : Options) (worker : ℕ) (d m e : Part) (r : Result Answer E) → Learns a o d m → IfOk r (Draws a o worker m e) → IfOk r (Draws a o worker d e)
then_result a o worker d m e (Ok answer) l draws = learns_then a o worker d m e answer l draws
then_result a o worker d m e (Err x) l draws = draws

pub named_log : (a : Instance) (o : Options) (d : Part) (log : List Step) (pairs : List (ℕ × ℕ)) → IsCarried a o d → d.log ≡ log → pairs ≡ a.pairs → All (NamesBelow (length pairs)) (no_goods log)
named_log a o d log pairs h e same =
    let P : List Step → Type 0 = λ l. All (NamesBelow (length a.pairs)) (no_goods l) in
    let Q : List (ℕ × ℕ) → Type 0 = λ l. All (NamesBelow (length l)) (no_goods log) in
    subst Q (sym same) (subst P e (carried_standing a o h.0 d h.1).truth.named)

pub shows_result : {E : Type 0} (a : Instance) (o : Options) (d : Part) (blocked : List (List Side)) (log : List Step) (r : Result Found E) (n : ℕ) → IsCarried a o d → n ≡ length a.pairs → AreSameButBarred (barring d) (taken d) blocked → IfOk r (IsFound n (no_goods d.log) blocked) → IfOk r (HasEmpty (no_goods log)) → IfOk r (Shows a (record d { log = log }))
shows_result a o d blocked log (Ok it) n h size same is empty =
    let P : ℕ → Type 0 = λ m. IsFound m (no_goods d.log) blocked it in
    shows_found a d _ blocked log it (carried_standing a o h.0 d h.1).truth same (subst P size is) empty
shows_result a o d blocked log (Err x) n h size same is empty = is

pub learns_of : (a : Instance) (o : Options) (d : Part) (log : List Step) (n : ℕ) → d.verdict ≡ None → IsLog log → n ≡ length a.pairs → Grown n d.log log → Learns a o d (record d { log = log })
learns_of a o d log n waiting is size grown =
    let P : ℕ → Type 0 = λ m. Grown m d.log log in
    grown_learns a o d (record d { log = log }) waiting is (subst P size grown) refl

pub drawn_same : (d : Part) (flight : List Ticket) (worker number : ℕ) (copy piece : List Side) → copy ≡ piece → flight ≡ d.flight ++ (record { worker = worker; number = number; piece = copy }) ∷ [] → (record d { flight = flight; drawn = d.drawn + 1 }) ≡ after (Draw worker number piece) d
drawn_same d flight worker number copy piece same pushed =
    let t : List Side → Ticket = λ p. record { worker = worker; number = number; piece = p } in
    ap (λ l. record d { flight = l; drawn = d.drawn + 1 }) (pushed ∙ ap (λ p. d.flight ++ t p ∷ []) same)

-- ---- what a draw keeps

learn_step : (x : Event) (d : Part) → IsLearn x → IsSettled d → IsSettled (after x d)
learn_step (Learn ng hints) d quiet h = h
learn_step (Publish lane c) d quiet h = absurd quiet
learn_step (Read worker lane place) d quiet h = absurd quiet
learn_step (Offer worker point) d quiet h = absurd quiet
learn_step (Draw worker number piece) d quiet h = absurd quiet
learn_step (Absorb c) d quiet h = absurd quiet
learn_step (Settle worker number what) d quiet h = absurd quiet
learn_step (Conclude verdict) d quiet h = absurd quiet

no_none : {V : Type 0} {v : V} → Some v ≡ None → ⊥
no_none e = cc

behind_settled : (a : Instance) (o : Options) (worker : ℕ) (answer : Answer) (ys : List Event) (d e : Part) → AddedBy worker answer ys → Leads a o d ys e → IsSettled d → IsSettled e
behind_settled a o worker (draw.Piece t) ys d e adds leads h =
    let P : List Event → Type 0 = λ l. Leads a o d l e in
    let there : P (Draw t.worker t.number t.piece ∷ []) = subst P adds.1 leads in
    subst IsSettled there.1 h
behind_settled a o worker draw.Pause ys d e adds leads h =
    let P : List Event → Type 0 = λ l. Leads a o d l e in
    subst IsSettled (subst P adds leads) h
behind_settled a o worker draw.Done ys d e (inl none) leads h =
    let P : List Event → Type 0 = λ l. Leads a o d l e in
    subst IsSettled (subst P none leads) h
behind_settled a o worker draw.Done ys d e (inr some) leads h =
    let P : List Event → Type 0 = λ l. Leads a o d l e in
    let there : P (Conclude some.0 ∷ []) = subst P some.1 leads in
    subst IsSettled there.1 (λ none. absurd (no_none none))

draws_settled : (a : Instance) (o : Options) (worker : ℕ) (answer : Answer) (xs ys : List Event) (d e : Part) → All IsLearn xs → AddedBy worker answer ys → Leads a o d (xs ++ ys) e → IsSettled d → IsSettled e
draws_settled a o worker answer [] ys d e learns adds leads h = behind_settled a o worker answer ys d e adds leads h
draws_settled a o worker answer (x ∷ xs) ys d e learns adds leads h =
    draws_settled a o worker answer xs ys (after x d) e (All-tail IsLearn x xs learns) adds leads.1 (learn_step x d (All-head IsLearn x xs learns) h)

learns_settled : (a : Instance) (o : Options) (d e : Part) → Learns a o d e → IsSettled d → IsSettled e
learns_settled a o d e l h =
    let P : Part → Type 0 = λ x. IsSettled x in
    subst P (sym l.same) h

pub draw_keeps : {E : Type 0} (a : Instance) (o : Options) (worker : ℕ) (d e : Part) (r : Result Answer E) → IfOk r (Draws a o worker d e) → OnErr r (Learns a o d e) → IsCarried a o d × IsSettled d → IsCarried a o e × IsSettled e
draw_keeps a o worker d e (Ok answer) ok err h = (carried_more a o d (ok.learned ++ ok.behind) e ok.leads h.0, draws_settled a o worker answer ok.learned ok.behind d e ok.learns ok.adds ok.leads h.1)
draw_keeps a o worker d e (Err x) ok err h = (learns_carried a o d e err h.0, learns_settled a o d e err h.1)

pub drawn_on : {E : Type 0} (a : Instance) (o : Options) (worker : ℕ) (d e : Part) (r : Result Answer E) → IfOk r (Draws a o worker d e) → IfOk r (DrawsOn worker (standing a o d) (standing a o e))
drawn_on a o worker d e (Ok answer) ok = record { case_stays = refl; options_stay = refl; draws = ok; carries = carries_more a o d (ok.learned ++ ok.behind) e ok.leads }
drawn_on a o worker d e (Err x) ok = ok

pub drawn_from : {E : Type 0} (worker : ℕ) (s t u : Standing) (r : Result Answer E) → s ≡ t → IfOk r (DrawsOn worker s u) → IfOk r (DrawsOn worker t u)
drawn_from worker s t u r same h = subst (λ x. IfOk r (DrawsOn worker x u)) same h

pub settle_keeps : {T E : Type 0} (a : Instance) (o : Options) (t : Ticket) (what : Outcome) (d e : Part) (r : Result T E) → OnOk r (Settles a o d t what e) → IsSettled e → OnErr r (e ≡ d) → IsCarried a o d × IsSettled d → IsCarried a o e × IsSettled e
settle_keeps a o t what d e (Ok u) ok settled err h = (carried_more a o d (settled_events d t what) e ok.leads h.0, settled)
settle_keeps a o t what d e (Err x) ok settled err h = (subst (IsCarried a o) (sym err) h.0, settled)

pub settled_on : {T E : Type 0} (a : Instance) (o : Options) (t : Ticket) (what : Outcome) (d e : Part) (s : Standing) (r : Result T E) → standing a o d ≡ s → OnOk r (Settles a o d t what e) → OnOk r (SettlesOn t what s (standing a o e))
settled_on a o t what d e s (Ok u) same ok =
    let P : Standing → Type 0 = λ x. SettlesOn t what x (standing a o e) in
    subst P same (record { case_stays = refl; options_stay = refl; settles = ok; carries = carries_more a o d (settled_events d t what) e ok.leads })
settled_on a o t what d e s (Err x) same ok = ok

pub unsettled_on : {T E : Type 0} (a : Instance) (o : Options) (d e : Part) (s : Standing) (r : Result T E) → standing a o d ≡ s → OnErr r (e ≡ d) → OnErr r (standing a o e ≡ s)
unsettled_on a o d e s (Ok u) same err = err
unsettled_on a o d e s (Err x) same err = ap (λ p. standing a o p) err ∙ same

pub learned_on : {T E : Type 0} (a : Instance) (o : Options) (d e : Part) (s : Standing) (r : Result T E) → standing a o d ≡ s → OnErr r (Learns a o d e) → OnErr r (LearnsOn s (standing a o e))
learned_on a o d e s (Ok x) same err = err
learned_on a o d e s (Err x) same err =
    let P : Standing → Type 0 = λ z. LearnsOn z (standing a o e) in
    subst P same (record { case_stays = refl; options_stay = refl; learns = err })

pub over_on : (s t : Standing) → s ≡ t → IsOver t.case_of t.options t.part → IsOver s.case_of s.options s.part
over_on s t same h = subst (λ x. IsOver x.case_of x.options x.part) (sym same) h

pub closed_on : {E : Type 0} (s t : Standing) (r : Result Ending E) → s ≡ t → IsCarried s.case_of s.options s.part × IsSettled s.part → IfOk r (IsEnding s.case_of s.options s.part) → IfOk r (IsEndingOfRecord t.case_of t.options)
closed_on s t (Ok end) same h is =
    subst (λ x. IsEndingOfRecord x.case_of x.options end) same (h.0.0, record { part = s.part; carries = h.0.1; settled = h.1; row = is })
closed_on s t (Err x) same h is = is
