-- What a search finds, told of the log as it was.
use Rattle.std.proofs.Common.{inl, inr, ℕ, ◌<◌, ◌≡◌, refl, sym, subst, arith, Bool, true, List, [], length, get_or}
use Rattle.std.specs.Prelude.{Contains, Result, Ok, Err, IfOk, Option, Some, None, IfSome, IfNone}
use Rattle.std.proofs.lemmas.List.Elements.{All-nil}
use Rattle.nogoods.specs.declared.choice.Choice.{Choice}
use Rattle.nogoods.specs.declared.choice.Side.{Side}
use Rattle.nogoods.specs.Pieces.{IsChoiceOf, Bars}
use Rattle.search.specs.declared.walk.Reason.{Reason}
use Rattle.search.specs.declared.found.Found.{Found}
use Rattle.search.specs.declared.found.Found.TheVariants.{Piece, Refuted, Blocked}
use Rattle.search.specs.FirstPieces.{IsBarred, IsFirst, AllBarred, AllBlocked, IsFound, HasEmpty, found_or}
use Rattle.search.specs.Growth.{Adds}
use Rattle.search.specs.Walks.{Witnessed, AllExhausted, IsWalk}
use Rattle.search.proofs.WalkLaws.{barred_by, barred_onwards, is_first}

pub walk_none : (fresh : Bool) (n : ℕ) (ngs : List (List Choice)) (blocked : List (List Side)) → IsWalk fresh n ngs blocked [] []
walk_none fresh n ngs blocked = record { sizes = refl; fits = omega arith; justified = λ i inside. absurd (omega arith) }

pub walk_empty : (fresh : Bool) (n : ℕ) (ngs : List (List Choice)) (blocked : List (List Side)) (w : List Side) (reasons : List Reason) → w ≡ [] → reasons ≡ [] → IsWalk fresh n ngs blocked w reasons
walk_empty fresh n ngs blocked w reasons e f = rw (e, f) (walk_none fresh n ngs blocked)

pub all_barred : (n : ℕ) (ngs : List (List Choice)) (k : ℕ) → k < length ngs → get_or ngs k [] ≡ [] → AllBarred n ngs
all_barred n ngs k within empty p size =
    let P : List Choice → Type 0 = λ l. Bars l p in
    barred_by ngs p k within (subst P (sym empty) (All-nil (IsChoiceOf p)))

pub has_empty : (ngs : List (List Choice)) (k : ℕ) → k < length ngs → get_or ngs k [] ≡ [] → Contains ngs []
has_empty ngs k within empty = (k, within, empty)

pub first_at : (fresh : Bool) (n : ℕ) (ngs : List (List Choice)) (blocked : List (List Side)) (w u p : List Side) (reasons : List Reason) → IsWalk fresh n ngs blocked w reasons → length w ≡ n → u ≡ w → ¬ (IsBarred ngs u) → ¬ (Contains blocked u) → p ≡ w → IsFirst n ngs blocked p
first_at fresh n ngs blocked w u p reasons h full e unbarred free f =
    let P : List Side → Type 0 = λ l. IsFirst n ngs blocked l in
    let Q : List Side → Type 0 = λ l. ¬ (IsBarred ngs l) in
    let R : List Side → Type 0 = λ l. ¬ (Contains blocked l) in
    subst P (sym f) (is_first fresh n ngs blocked w reasons h full (subst Q e unbarred) (subst R e free))

pub found_before : (n : ℕ) (ngs more : List (List Choice)) (blocked : List (List Side)) (found : Found) → Adds n ngs more → IsFound n more blocked found → IsFound n ngs blocked found
found_before n ngs more blocked (Piece p) adds f = record {
  size = f.size;
  unbarred = λ barred. f.unbarred (barred_onwards n ngs more p adds barred);
  free = f.free;
  first = λ other size apart outside. f.first other size (λ barred. apart (adds.bars other size barred)) outside;
}
found_before n ngs more blocked Refuted adds f = λ p size. adds.bars p size (f p size)
found_before n ngs more blocked Blocked adds f = record {
  each = λ p size. elim (f.each p size) [ inl barred ↦ inl (adds.bars p size barred) | inr inside ↦ inr inside ];
  some = (f.some.0, f.some.1, f.some.2, λ barred. f.some.3 (barred_onwards n ngs more f.some.0 adds barred));
}

pub result_before : {E : Type 0} (n : ℕ) (ngs more : List (List Choice)) (blocked : List (List Side)) (r : Result Found E) → Adds n ngs more → IfOk r (IsFound n more blocked) → IfOk r (IsFound n ngs blocked)
result_before n ngs more blocked (Ok found) adds f = found_before n ngs more blocked found adds f
result_before n ngs more blocked (Err e) adds f = f

pub all_blocked : (n : ℕ) (ngs : List (List Choice)) (blocked : List (List Side)) → AllExhausted n ngs blocked → Witnessed true n ngs blocked → AllBlocked n ngs blocked
all_blocked n ngs blocked each some = record { each = each; some = some }

pub next_found : (n : ℕ) (ngs more : List (List Choice)) (blocked : List (List Side)) (ended : Option Found) (found : Found) → found ≡ found_or ended → Adds n ngs more → IfSome ended (IsFound n more blocked) → IfNone ended (AllExhausted n more blocked) → IfNone ended (Witnessed true n more blocked) → IsFound n ngs blocked found
next_found n ngs more blocked (Some f) found e adds is each some =
    let P : Found → Type 0 = λ x. IsFound n ngs blocked x in
    subst P (sym e) (found_before n ngs more blocked f adds is)
next_found n ngs more blocked None found e adds is each some =
    let P : Found → Type 0 = λ x. IsFound n ngs blocked x in
    subst P (sym e) (found_before n ngs more blocked Blocked adds (all_blocked n more blocked each some))

pub next_empty : (ngs : List (List Choice)) (ended : Option Found) (found : Found) → found ≡ found_or ended → IfSome ended (HasEmpty ngs) → HasEmpty ngs found
next_empty ngs (Some f) found e has = let P : Found → Type 0 = λ x. HasEmpty ngs x in subst P (sym e) has
next_empty ngs None found e has = let P : Found → Type 0 = λ x. HasEmpty ngs x in subst P (sym e) tt

pub if_ok : {T E : Type 0} (r : Result T E) (P : Type 0) → P → IfOk r (λ x. P)
if_ok (Ok x) P p = p
if_ok (Err e) P p = tt
