-- The rows of a deck: one objective, each row at its number, and not too many.
use Rattle.std.proofs.Common.{ℕ, zero, suc, ◌+◌, ◌≤◌, ◌≡◌, Bool, true, false, not, ◌&&◌, ◌||◌, cond, List, [], ◌∷◌, ◌++◌, length, Option, Some, None, refl, sym, ap, subst, ◌∙◌, leb, arith}
use Rattle.std.proofs.lemmas.Bool.{leb-false, or_parts, true≢false}
use Rattle.std.proofs.lemmas.List.{append-nil, length-append}
use Rattle.std.proofs.lemmas.List.Elements.{filter-append}
use Rattle.std.proofs.lemmas.List.Folds.{list_any-append}
use Rattle.std.proofs.lemmas.List.Sums.{fold_push, sum_by_push}
use Rattle.std.proofs.lemmas.Option.{same_Some}
use Rattle.std.specs.Prelude.{slice_get, is_some}
use Rattle.std.specs.List.{list_any, find, position_or_len, AllByRecursion}
use Rattle.std.specs.Str.{bytes_eq}
use Rattle.mps_lex.specs.Kinds.{Name}
use Rattle.mps_lex.specs.Lines.{Line}
use Rattle.decks.specs.declared.deck.Letter.{Letter}
use Rattle.decks.specs.declared.deck.Letter.TheVariants.{N, E, L, G}
use Rattle.decks.specs.declared.fault.DeckWhy.TheVariants.{RowLetter, NameTwice, TooMany}
use Rattle.decks.specs.Spelling.{field, letter_of, is_n, RowLine, has_objective, kept, number_behind, row_line, add_row, rows_of, other_rows, row_named, number_of_row}
use Rattle.decks.specs.Faults.{◌or◌, fault_if, is_letter, row_fault, many_rows_fault}
use Rattle.decks.proofs.KeptParts.{second_none, if_none, all_append, all_weaker, all_at, get_front, get_last}
use Rattle.decks.proofs.KeptNames.{one, same_name}
use Rattle.decks.proofs.KeptSlices.{IsRightBy, rows_fault, by_lines}

abbrev pub names_objective : RowLine → Bool
names_objective r = is_n r.letter

-- ---- at most one objective

abbrev IsOther : RowLine → Type 0
IsOther r = is_n r.letter ≡ false

abbrev Either : Bool → Type 0 → Type 0 → Type 0
Either true A B = A
Either false A B = B

abbrev pub HasOne : List RowLine → Type 0
HasOne [] = Unit {0}
HasOne (r ∷ rs) = Either (is_n r.letter) (AllByRecursion IsOther rs) (HasOne rs)

one_more : (rs : List RowLine) (y : RowLine) → is_n y.letter ≡ false → HasOne rs → HasOne (rs ++ y ∷ [])
one_more [] y e h = by (is_n y.letter)
  where
    by : (b : Bool) → Either b (Unit {0}) (Unit {0})
    by true = tt
    by false = tt
one_more (r ∷ rs) y e h = by (is_n r.letter) h (λ q. one_more rs y e q)
  where
    by : (b : Bool) → Either b (AllByRecursion IsOther rs) (HasOne rs) → (HasOne rs → HasOne (rs ++ y ∷ [])) → Either b (AllByRecursion IsOther (rs ++ y ∷ [])) (HasOne (rs ++ y ∷ []))
    by true q next = all_append IsOther rs (y ∷ []) q (e, tt)
    by false q next = next q

first_one : (rs : List RowLine) (y : RowLine) → AllByRecursion IsOther rs → HasOne (rs ++ y ∷ [])
first_one [] y h = by (is_n y.letter)
  where
    by : (b : Bool) → Either b (Unit {0}) (Unit {0})
    by true = tt
    by false = tt
first_one (r ∷ rs) y h = subst (λ (b : Bool). Either b (AllByRecursion IsOther (rs ++ y ∷ [])) (HasOne (rs ++ y ∷ []))) (sym h.0) (first_one rs y h.1)

pub other_row : (rs : List RowLine) (k : ℕ) (r : RowLine) → HasOne rs → slice_get rs k ≡ Some r → (k ≡ position_or_len names_objective rs → ⊥) → is_n r.letter ≡ false
other_row [] k r h e n = absurd cc
other_row (x ∷ rs) k r h e n = by (is_n x.letter) refl k h e n (λ i q f m. other_row rs i r q f m)
  where
    by : (b : Bool) → is_n x.letter ≡ b → (i : ℕ) → Either b (AllByRecursion IsOther rs) (HasOne rs) → slice_get (x ∷ rs) i ≡ Some r → (i ≡ cond (not b) (1 + position_or_len names_objective rs) 0 → ⊥)
        → ((i : ℕ) → HasOne rs → slice_get rs i ≡ Some r → (i ≡ position_or_len names_objective rs → ⊥) → is_n r.letter ≡ false) → is_n r.letter ≡ false
    by true q zero g f m next = absurd (m refl)
    by true q (suc i) g f m next = all_at IsOther rs i r g f
    by false q zero g f m next = subst IsOther (same_Some x r f) q
    by false q (suc i) g f m next = next i g f (λ s. m (ap suc s ∙ sym (one (position_or_len names_objective rs))))

pub letter_n : (l : Letter) → is_n l ≡ true → l ≡ N
letter_n N e = refl
letter_n E e = absurd cc
letter_n L e = absurd cc
letter_n G e = absurd cc

-- ---- numbers

-- a dropped row is an N row, and any other one stands at its number
abbrev pub PlacedAs : List RowLine → RowLine → Option ℕ → Type 0
PlacedAs ks r None = is_n r.letter ≡ true
PlacedAs ks r (Some k) = slice_get ks k ≡ Some r

abbrev pub IsPlaced : List RowLine → RowLine → Type 0
IsPlaced ks r = PlacedAs ks r r.number

placed_front : (ks more : List RowLine) (r : RowLine) → IsPlaced ks r → IsPlaced (ks ++ more) r
placed_front ks more r h = by r.number h
  where
    by : (o : Option ℕ) → PlacedAs ks r o → PlacedAs (ks ++ more) r o
    by None q = q
    by (Some k) q = get_front ks more k r q

pub record IsNumbered (rs : List RowLine) : Type 0 where
  pub placed : AllByRecursion (IsPlaced (kept rs)) rs
  pub one : HasOne (kept rs)
  pub others : has_objective rs ≡ false → AllByRecursion IsOther (kept rs)
  pub objective : has_objective rs ≡ true → list_any names_objective (kept rs) ≡ true
  pub few_others : has_objective rs ≡ false → length (kept rs) ≤ other_rows rs
  pub few : length (kept rs) ≤ other_rows rs + 1

kept_push : (rs : List RowLine) (r : RowLine) (b : Bool) → is_some r.number ≡ b → kept (rs ++ r ∷ []) ≡ kept rs ++ cond b (r ∷ []) []
kept_push rs r b e = filter-append (λ x. is_some x.number) rs (r ∷ []) ∙ ap (λ (x : Bool). kept rs ++ cond x (r ∷ []) []) e

objective_push : (rs : List RowLine) (r : RowLine) → has_objective (rs ++ r ∷ []) ≡ (has_objective rs || (is_n r.letter || false))
objective_push rs r = list_any-append names_objective rs (r ∷ [])

abbrev counted : Bool → ℕ
counted b = cond (not b) 1 0

others_push : (rs : List RowLine) (r : RowLine) → other_rows (rs ++ r ∷ []) ≡ other_rows rs + cond (not (is_n r.letter)) 1 0
others_push rs r = sum_by_push (λ (x : RowLine). cond (not (is_n x.letter)) 1 0) rs r

-- an N row behind the objective is dropped
dropped : (rs : List RowLine) (r : RowLine) → r.number ≡ None → is_n r.letter ≡ true → has_objective rs ≡ true → IsNumbered rs → IsNumbered (rs ++ r ∷ [])
dropped rs r number n some h =
    let same : kept (rs ++ r ∷ []) ≡ kept rs = kept_push rs r false (ap is_some number) ∙ append-nil (kept rs) in
    let all : AllByRecursion (IsPlaced (kept rs)) (rs ++ r ∷ []) = all_append (IsPlaced (kept rs)) rs (r ∷ []) h.placed (subst (PlacedAs (kept rs) r) (sym number) n, tt) in
    let still : has_objective (rs ++ r ∷ []) ≡ false → ⊥ = λ e. true≢false (sym some ∙ (or_parts _ _ (sym (objective_push rs r) ∙ e)).0) in
    record {
      placed = subst (λ (ks : List RowLine). AllByRecursion (IsPlaced ks) (rs ++ r ∷ [])) (sym same) all;
      one = subst HasOne (sym same) h.one;
      others = λ e. absurd (still e);
      objective = λ e. ap (list_any names_objective) same ∙ h.objective some;
      few_others = λ e. absurd (still e);
      few = omega (arith, h.few, ap length same, others_push rs r);
    }

-- any other row is kept, behind those that are kept already
kept_one : (rs : List RowLine) (r : RowLine) → r.number ≡ Some (length (kept rs)) → (is_n r.letter ≡ true → has_objective rs ≡ false) → IsNumbered rs → IsNumbered (rs ++ r ∷ [])
kept_one rs r number new h =
    let more : kept (rs ++ r ∷ []) ≡ kept rs ++ r ∷ [] = kept_push rs r true (ap is_some number) in
    let here : IsPlaced (kept rs ++ r ∷ []) r = subst (PlacedAs (kept rs ++ r ∷ []) r) (sym number) (get_last (kept rs) r) in
    let all : AllByRecursion (IsPlaced (kept rs ++ r ∷ [])) (rs ++ r ∷ []) =
    all_append (IsPlaced (kept rs ++ r ∷ [])) rs (r ∷ []) (all_weaker (IsPlaced (kept rs)) (IsPlaced (kept rs ++ r ∷ [])) (placed_front (kept rs) (r ∷ [])) rs h.placed) (here, tt) in
    let long : length (kept (rs ++ r ∷ [])) ≡ length (kept rs) + 1 = ap length more ∙ length-append (kept rs) (r ∷ []) in
    let none : has_objective (rs ++ r ∷ []) ≡ false → (has_objective rs ≡ false) × ((is_n r.letter || false) ≡ false) = λ e. or_parts _ _ (sym (objective_push rs r) ∙ e) in
    let other : has_objective (rs ++ r ∷ []) ≡ false → is_n r.letter ≡ false = λ e. (or_parts (is_n r.letter) false (none e).1).0 in
    record {
      placed = subst (λ (ks : List RowLine). AllByRecursion (IsPlaced ks) (rs ++ r ∷ [])) (sym more) all;
      one = subst HasOne (sym more) (at_letter (is_n r.letter) refl);
      others = λ e. subst (AllByRecursion IsOther) (sym more) (all_append IsOther (kept rs) (r ∷ []) (h.others (none e).0) (other e, tt));
      objective = λ e. ap (list_any names_objective) more ∙ list_any-append names_objective (kept rs) (r ∷ []) ∙ some (has_objective rs) (is_n r.letter) (list_any names_objective (kept rs)) h.objective (sym (objective_push rs r) ∙ e);
      few_others = λ e. omega (arith, h.few_others (none e).0, long, others_push rs r, ap counted (other e));
      few = count (is_n r.letter) refl (other_rows rs) (length (kept rs)) (other_rows (rs ++ r ∷ [])) (length (kept (rs ++ r ∷ []))) long (others_push rs r) h.few (λ e. h.few_others (new e));
    }
  where
    at_letter : (b : Bool) → is_n r.letter ≡ b → HasOne (kept rs ++ r ∷ [])
    at_letter true e = first_one (kept rs) r (h.others (new e))
    at_letter false e = one_more (kept rs) r e h.one

    some : (a b c : Bool) → (a ≡ true → c ≡ true) → (a || (b || false)) ≡ true → (c || (b || false)) ≡ true
    some true b c f e = ap (λ (x : Bool). x || (b || false)) (f refl)
    some false true true f e = refl
    some false true false f e = refl
    some false false c f e = absurd cc

    count : (b : Bool) → is_n r.letter ≡ b → (o n p m : ℕ) → m ≡ n + 1 → p ≡ o + cond (not (is_n r.letter)) 1 0 → n ≤ o + 1 → (is_n r.letter ≡ true → n ≤ o) → m ≤ p + 1
    count true e o n p m em ep few less = omega (arith, em, ep, less e)
    count false e o n p m em ep few less = omega (arith, em, ep, few, ap counted e)

number_at : (rs : List RowLine) (l : Letter) (b c : Bool) → is_n l ≡ b → has_objective rs ≡ c → number_behind rs l ≡ cond (b && c) None (Some (length (kept rs)))
number_at rs l b c e f = ap (λ (x : Bool). cond (x && has_objective rs) None (Some (length (kept rs)))) e ∙ ap (λ (x : Bool). cond (b && x) None (Some (length (kept rs)))) f

numbered_by : (rs : List RowLine) (line : ℕ) (fs : List Name) (b c : Bool) → is_n (letter_of (field 0 fs)) ≡ b → has_objective rs ≡ c → IsNumbered rs → IsNumbered (rs ++ row_line rs line fs ∷ [])
numbered_by rs line fs true true e f h = dropped rs (row_line rs line fs) (number_at rs (letter_of (field 0 fs)) true true e f) e f h
numbered_by rs line fs true false e f h = kept_one rs (row_line rs line fs) (number_at rs (letter_of (field 0 fs)) true false e f) (λ q. f) h
numbered_by rs line fs false c e f h = kept_one rs (row_line rs line fs) (number_at rs (letter_of (field 0 fs)) false c e f) (λ q. absurd (true≢false (sym q ∙ e))) h

numbered_push : (rs : List RowLine) (l : Line) → IsNumbered rs → IsNumbered (add_row rs l)
numbered_push rs l h = numbered_by rs l.number l.fields (is_n (letter_of (field 0 l.fields))) (has_objective rs) refl refl h

no_rows : IsNumbered []
no_rows = record { placed = tt; one = tt; others = λ e. tt; objective = λ e. absurd cc; few_others = λ e. omega arith; few = omega arith }

-- ---- the limit

room_left : (rs : List RowLine) (fs : List Name) → row_fault rs fs ≡ None → (not (is_n (letter_of (field 0 fs))) && leb 2000 (other_rows rs)) ≡ false
room_left rs [] e = absurd cc
room_left rs (l ∷ []) e = absurd cc
room_left rs (l ∷ n ∷ []) e =
    let twice = fault_if (is_some (row_named rs n)) NameTwice in
    if_none (not (is_n (letter_of l)) && leb 2000 (other_rows rs)) TooMany (second_none twice (many_rows_fault rs l) (second_none (fault_if (not (is_letter l)) RowLetter) (twice or many_rows_fault rs l) e))
room_left rs (l ∷ n ∷ m ∷ fs) e = absurd cc

few_push : (rs : List RowLine) (r : RowLine) → other_rows rs ≤ 2000 → (not (is_n r.letter) && leb 2000 (other_rows rs)) ≡ false → other_rows (rs ++ r ∷ []) ≤ 2000
few_push rs r few room = by (is_n r.letter) refl room
  where
    by : (b : Bool) → is_n r.letter ≡ b → (not b && leb 2000 (other_rows rs)) ≡ false → other_rows (rs ++ r ∷ []) ≤ 2000
    by true e q = omega (arith, few, others_push rs r, ap counted e)
    by false e q = omega (arith, leb-false 2000 (other_rows rs) q, others_push rs r, ap counted e)

-- ---- the rows of right lines

pub record RowsKept (rs : List RowLine) : Type 0 where
  pub numbered : IsNumbered rs
  pub few : other_rows rs ≤ 2000

abbrev LinesKept : List Line → Type 0
LinesKept ls = RowsKept (rows_of ls)

row_kept : (before : List Line) (l : Line) → LinesKept before → rows_fault before l.fields ≡ None → LinesKept (before ++ l ∷ [])
row_kept before l h e = subst RowsKept (sym (fold_push add_row [] before l)) (record {
  numbered = numbered_push (rows_of before) l h.numbered;
  few = few_push (rows_of before) (row_line (rows_of before) l.number l.fields) h.few (room_left (rows_of before) l.fields e);
})

pub rows_kept : (ls : List Line) → IsRightBy rows_fault [] ls → RowsKept (rows_of ls)
rows_kept ls h = by_lines rows_fault LinesKept row_kept [] ls (record { numbered = no_rows; few = omega arith }) h

-- ---- the row of a name

found_in : {X : Type 0} (p : X → Bool) (P : X → Type 0) (xs : List X) (x : X) → AllByRecursion P xs → find p xs ≡ Some x → P x × (p x ≡ true)
found_in p P [] x h e = absurd cc
found_in {X = X} p P (y ∷ xs) x h e = by (p y) refl e (λ q. found_in p P xs x h.1 q)
  where
    by : (b : Bool) → p y ≡ b → cond b (Some y) (find p xs) ≡ Some x → (find p xs ≡ Some x → P x × (p x ≡ true)) → P x × (p x ≡ true)
    by true q f next = subst (λ (z : X). P z × (p z ≡ true)) (same_Some y x f) (h.0, q)
    by false q f next = next f

pub row_placed : (rs : List RowLine) (n : Name) (r : RowLine) → RowsKept rs → row_named rs n ≡ Some r → IsPlaced (kept rs) r × (n ≡ r.name)
row_placed rs n r h e =
    let f = found_in (λ (x : RowLine). bytes_eq n x.name) (IsPlaced (kept rs)) rs r h.numbered.placed e in
    (f.0, same_name n r.name f.1)

-- the row of this name, which is kept at this number
pub record IsAt (rs : List RowLine) (n : Name) (k : ℕ) : Type 0 where
  pub row : RowLine
  pub name : n ≡ row.name
  pub place : slice_get (kept rs) k ≡ Some row

at_number : (rs : List RowLine) (n : Name) (k : ℕ) (o : Option RowLine) → RowsKept rs → row_named rs n ≡ o → number_of_row o ≡ Some k → IsAt rs n k
at_number rs n k None h e q = absurd cc
at_number rs n k (Some r) h e q =
    let p = row_placed rs n r h e in
    record { row = r; name = p.1; place = subst (PlacedAs (kept rs) r) q p.0 }

pub is_at : (rs : List RowLine) (n : Name) (k : ℕ) → RowsKept rs → number_of_row (row_named rs n) ≡ Some k → IsAt rs n k
is_at rs n k h e = at_number rs n k (row_named rs n) h refl e

-- one number has one name
pub same_number : (rs : List RowLine) (m n : Name) (k : ℕ) → RowsKept rs → number_of_row (row_named rs m) ≡ Some k → number_of_row (row_named rs n) ≡ Some k → m ≡ n
same_number rs m n k h em en =
    let a = is_at rs m k h em in
    let b = is_at rs n k h en in
    a.name ∙ ap (λ (x : RowLine). x.name) (same_Some a.row b.row (sym a.place ∙ b.place)) ∙ sym b.name
