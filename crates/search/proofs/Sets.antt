-- Lists with the same pieces.
use Rattle.std.proofs.Common.{inl, inr, ℕ, ◌+◌, ◌<◌, ◌≤◌, ◌≡◌, refl, sym, ap, ◌∙◌, subst, arith, List, [], ◌∷◌, ◌++◌, length, get_or, take}
use Rattle.std.specs.Prelude.{Contains, ◌⊎◌, ◌↔◌, Result, Ok, Err, IfOk}
use Rattle.std.proofs.lemmas.Bool.{cases_lt}
use Rattle.std.proofs.lemmas.List.{length-append, length-take-le, get_or-take, get_or_append_left, get_or_at, get_or_default, take_all}
use Rattle.nogoods.specs.declared.choice.Choice.{Choice}
use Rattle.nogoods.specs.declared.choice.Side.{Side}
use Rattle.search.specs.declared.found.Found.{Found}
use Rattle.search.specs.declared.found.Found.TheVariants.{Piece, Refuted, Blocked}
use Rattle.search.specs.FirstPieces.{IsFound}

abbrev pub Same : List (List Side) → List (List Side) → Type 0
Same xs ys = (p : List Side) → Contains xs p ↔ Contains ys p

pub pushed : (xs : List (List Side)) (x p : List Side) → Contains (xs ++ x ∷ []) p ↔ ((p ≡ x) ⊎ Contains xs p)
pushed xs x p = (
  λ c. elim (cases_lt c.0 (length xs)) [
    | inl here ↦ inr (c.0, here, sym (get_or_append_left xs (x ∷ []) p c.0 here) ∙ c.2)
    | inr past ↦
        let at : length xs ≡ c.0 = omega (arith, c.1, length-append xs (x ∷ [])) in
        inl (sym c.2 ∙ get_or_at xs x [] p c.0 at)
  ],
  λ c. elim c [
    | inl same ↦ (length xs, omega (arith, length-append xs (x ∷ [])), get_or_at xs x [] p (length xs) refl ∙ sym same)
    | inr inside ↦ (inside.0, omega (arith, inside.1, length-append xs (x ∷ [])), get_or_append_left xs (x ∷ []) p inside.0 inside.1 ∙ inside.2)
  ],
)

taken_more : (xs : List (List Side)) (i : ℕ) (p : List Side) → i < length xs → Contains (take (i + 1) xs) p ↔ ((p ≡ get_or xs i p) ⊎ Contains (take i xs) p)
taken_more xs i p inside = (
  λ c.
      let size : length (take (i + 1) xs) ≡ i + 1 = length-take-le (i + 1) xs (omega arith) in
      let read : get_or xs c.0 p ≡ p = sym (get_or-take (i + 1) xs c.0 p (omega (arith, c.1, size))) ∙ c.2 in
      elim (cases_lt c.0 i) [
        | inl here ↦ inr (c.0, omega (arith, here, length-take-le i xs (omega arith)), get_or-take i xs c.0 p here ∙ read)
        | inr past ↦
            let e : c.0 ≡ i = omega (arith, c.1, size) in
            inl (sym (sym (ap (λ k. get_or xs k p) e) ∙ read))
      ],
  λ c. elim c [
    | inl same ↦ (i, omega (arith, length-take-le (i + 1) xs (omega arith)), get_or-take (i + 1) xs i p (omega arith) ∙ sym same)
    | inr before ↦
        let size : length (take i xs) ≡ i = length-take-le i xs (omega arith) in
        let low : before.0 < i = omega (arith, before.1, size) in
        (before.0, omega (arith, low, length-take-le (i + 1) xs (omega arith)), get_or-take (i + 1) xs before.0 p (omega arith) ∙ sym (get_or-take i xs before.0 p low) ∙ before.2)
  ],
)

-- the set that is made has one more of the pieces
pub set_more : (xs made new : List (List Side)) (i : ℕ) (x y : List Side) → i < length xs → y ≡ get_or xs i y → x ≡ y → ((p : List Side) → Contains new p ↔ ((p ≡ x) ⊎ Contains made p)) → Same made (take i xs) → Same new (take (i + 1) xs)
set_more xs made new i x y inside is copied put same p =
    let own : (d : List Side) → x ≡ get_or xs i d = λ d. copied ∙ is ∙ get_or_default xs i y d inside in (
      λ c. (taken_more xs i p inside).1 (elim ((put p).0 c) [
        | inl e ↦ inl (e ∙ own p)
        | inr before ↦ inr ((same p).0 before)
      ]),
      λ c. (put p).1 (elim ((taken_more xs i p inside).0 c) [
        | inl e ↦ inl (e ∙ sym (own p))
        | inr before ↦ inr ((same p).1 before)
      ]),
    )

pub set_none : (xs : List (List Side)) → Same [] (take 0 xs)
set_none xs p = (λ c. c, λ c. c)

pub set_all : (xs made : List (List Side)) (i : ℕ) → length xs ≤ i → Same made (take i xs) → Same made xs
set_all xs made i past same =
    let P : List (List Side) → Type 0 = λ l. Same made l in
    subst P (take_all i xs past) same

pub same_found : (n : ℕ) (ngs : List (List Choice)) (blocked same : List (List Side)) (found : Found) → Same blocked same → IsFound n ngs blocked found → IsFound n ngs same found
same_found n ngs blocked same (Piece p) e f = record {
  size = f.size;
  unbarred = f.unbarred;
  free = λ inside. f.free ((e p).1 inside);
  first = λ other size apart outside. f.first other size apart (λ inside. outside ((e other).0 inside));
}
same_found n ngs blocked same Refuted e f = f
same_found n ngs blocked same Blocked e f = record {
  each = λ p size. elim (f.each p size) [ inl barred ↦ inl barred | inr inside ↦ inr ((e p).0 inside) ];
  some = (f.some.0, f.some.1, (e f.some.0).0 f.some.2, f.some.3);
}

pub same_result : {E : Type 0} (n : ℕ) (ngs : List (List Choice)) (blocked same : List (List Side)) (r : Result Found E) → Same blocked same → IfOk r (IsFound n ngs blocked) → IfOk r (IsFound n ngs same)
same_result n ngs blocked same (Ok found) e f = same_found n ngs blocked same found e f
same_result n ngs blocked same (Err x) e f = f
