-- Pieces in their order: where one stands, and lists with one more or one less.
use Rattle.std.proofs.Common.{inl, inr, ℕ, ◌+◌, ◌-◌, ◌<◌, ◌≤◌, ◌≡◌, refl, sym, ap, ◌∙◌, subst, arith, Bool, true, false, List, [], ◌∷◌, length, get_or, take, drop}
use Rattle.std.specs.Prelude.{Contains, IsTrue, ◌⊎◌, ◌↔◌}
use Rattle.std.proofs.lemmas.Bool.{cases_lt, false≢true}
use Rattle.std.specs.List.{insert}
use Rattle.std.proofs.lemmas.List.{get_or_default, length-append, length-take-le, length-drop}
use Rattle.std.proofs.lemmas.List.Edits.{get_or-insert_at, get_or-insert_below, get_or-insert_above}
use Rattle.nogoods.specs.declared.choice.Side.{Side}
use Rattle.nogoods.specs.declared.choice.Side.TheVariants.{A, B}
use Rattle.nogoods.specs.Pieces.{precedes}
use Rattle.nogoods.proofs.Order.{precedes-self, precedes-trans}
use Rattle.piece_sets.specs.PieceSets.{IsAscending, IsPlace}

pub later : (a b : List Side) → precedes a b ≡ false → ¬ (a ≡ b) → precedes b a ≡ true
later [] [] e apart = absurd (apart refl)
later [] (t ∷ b) e apart = absurd (false≢true (sym e))
later (s ∷ a) [] e apart = refl
later (A ∷ a) (A ∷ b) e apart = later a b e (λ same. apart (ap (λ l. A ∷ l) same))
later (A ∷ a) (B ∷ b) e apart = absurd (false≢true (sym e))
later (B ∷ a) (A ∷ b) e apart = refl
later (B ∷ a) (B ∷ b) e apart = later a b e (λ same. apart (ap (λ l. B ∷ l) same))

not_true : (t : Bool) → ¬ (t ≡ true) → t ≡ false
not_true true = λ no. absurd (no refl)
not_true false = λ no. refl

-- ---- halving

pub lower_half : (xs : List (List Side)) (p : List Side) (m k : ℕ) → IsAscending xs → m < length xs → precedes (get_or xs m []) p ≡ true → k < m + 1 → precedes (get_or xs k []) p ≡ true
lower_half xs p m k up inside here low = elim (cases_lt k m) [
  | inl below ↦ precedes-trans (get_or xs k []) (get_or xs m []) p (up k m below inside) here
  | inr past ↦
      let same : m ≡ k = omega arith in
      let P : ℕ → Type 0 = λ i. precedes (get_or xs i []) p ≡ true in
      subst P same here
]

pub upper_half : (xs : List (List Side)) (p : List Side) (m k : ℕ) → IsAscending xs → precedes (get_or xs m []) p ≡ false → m ≤ k → k < length xs → precedes (get_or xs k []) p ≡ false
upper_half xs p m k up here high inside = elim (cases_lt m k) [
  | inl above ↦ not_true (precedes (get_or xs k []) p) (λ e. false≢true (sym here ∙ precedes-trans (get_or xs m []) (get_or xs k []) p (up m k above inside) e))
  | inr past ↦
      let same : m ≡ k = omega arith in
      let P : ℕ → Type 0 = λ i. precedes (get_or xs i []) p ≡ false in
      subst P same here
]

-- ---- a piece of the list stands at its place

pub stands_at : (xs : List (List Side)) (p : List Side) (at : ℕ) → IsAscending xs → IsPlace xs p at → Contains xs p ↔ ((at < length xs) × (get_or xs at [] ≡ p))
stands_at xs p at up place = (
  λ c.
      let is : get_or xs c.0 [] ≡ p = get_or_default xs c.0 [] p c.1 ∙ c.2 in
      elim (cases_lt c.0 at) [
        | inl before ↦ absurd (false≢true (sym (precedes-self p) ∙ ap (λ x. precedes x p) (sym is) ∙ place.before c.0 before))
        | inr past ↦ elim (cases_lt at c.0) [
          | inl after ↦
              let low : precedes (get_or xs at []) p ≡ true = subst (λ x. precedes (get_or xs at []) x ≡ true) is (up at c.0 after c.1) in
              absurd (false≢true (sym (place.rest at (omega arith) (omega (arith, after, c.1))) ∙ low))
          | inr not_after ↦
              let same : c.0 ≡ at = omega arith in
              (omega (arith, c.1, same), ap (λ i. get_or xs i []) (sym same) ∙ is)
        ]
      ],
  λ here. (at, here.0, get_or_default xs at p [] here.0 ∙ here.1),
)

-- ---- one more

abbrev pub Inserts : List (List Side) → List (List Side) → ℕ → List Side → Type 0
Inserts xs ys at p = (length ys ≡ length xs + 1) × (at ≤ length xs) × ((d : List Side) → get_or ys at d ≡ p) × ((k : ℕ) (d : List Side) → k < at → get_or ys k d ≡ get_or xs k d) × ((k : ℕ) (d : List Side) → at < k → get_or ys k d ≡ get_or xs (k - 1) d)

pub inserts_of : (xs ys : List (List Side)) (at : ℕ) (p : List Side) → at ≤ length xs → ys ≡ insert xs at p → Inserts xs ys at p
inserts_of xs ys at p low is =
    let P : List (List Side) → Type 0 = λ l. Inserts xs l at p in
    subst P (sym is) (
      omega (arith, length-append (take at xs) (p ∷ drop at xs), length-take-le at xs low, length-drop at xs),
      low,
      λ d. get_or-insert_at xs at p d low,
      λ k d below. get_or-insert_below xs at p d k below low,
      λ k d above.
          let back : k - 1 + 1 ≡ k = omega arith in
          ap (λ m. get_or (insert xs at p) m d) (sym back) ∙ get_or-insert_above xs at p d (k - 1) (omega (arith, above)) low,
    )

pub inserted_has : (xs ys : List (List Side)) (at : ℕ) (p q : List Side) → Inserts xs ys at p → Contains ys q ↔ ((q ≡ p) ⊎ Contains xs q)
inserted_has xs ys at p q i = (
  λ c. elim (cases_lt c.0 at) [
    | inl before ↦ inr (c.0, omega (arith, before, i.1), sym (i.3 c.0 q before) ∙ c.2)
    | inr past ↦ elim (cases_lt at c.0) [
      | inl after ↦ inr (c.0 - 1, omega (arith, after, c.1, i.0), sym (i.4 c.0 q after) ∙ c.2)
      | inr not_after ↦
          let same : c.0 ≡ at = omega arith in
          inl (sym c.2 ∙ ap (λ k. get_or ys k q) same ∙ i.2 q)
    ]
  ],
  λ c. elim c [
    | inl same ↦ (at, omega (arith, i.0, i.1), i.2 q ∙ sym same)
    | inr inside ↦ elim (cases_lt inside.0 at) [
      | inl before ↦ (inside.0, omega (arith, i.0, inside.1), i.3 inside.0 q before ∙ inside.2)
      | inr past ↦
          let back : inside.0 + 1 - 1 ≡ inside.0 = omega arith in
          (inside.0 + 1, omega (arith, i.0, inside.1), i.4 (inside.0 + 1) q (omega arith) ∙ ap (λ k. get_or xs k q) back ∙ inside.2)
    ]
  ],
)

pub inserted_rises : (xs ys : List (List Side)) (at : ℕ) (p : List Side) → Inserts xs ys at p → IsAscending xs → IsPlace xs p at → ¬ ((at < length xs) × (get_or xs at [] ≡ p)) → IsAscending ys
inserted_rises xs ys at p i up place apart j k low inside =
    let after : (m : ℕ) → at ≤ m → m < length xs → precedes p (get_or xs m []) ≡ true = λ m high within.
    later (get_or xs m []) p (place.rest m high within) (λ same. apart ((stands_at xs p at up place).0 (m, within, get_or_default xs m p [] within ∙ same))) in
    elim (cases_lt k at) [
      | inl before ↦ rw (i.3 j [] (omega (arith, low, before)), i.3 k [] before) (up j k low (omega (arith, before, i.1)))
      | inr past ↦ elim (cases_lt at k) [
        | inl above ↦ elim (cases_lt j at) [
          | inl below ↦ rw (i.3 j [] below, i.4 k [] above) (up j (k - 1) (omega (arith, below, above)) (omega (arith, inside, above, i.0)))
          | inr not_below ↦ elim (cases_lt at j) [
            | inl higher ↦ rw (i.4 j [] higher, i.4 k [] above) (up (j - 1) (k - 1) (omega (arith, low, higher)) (omega (arith, inside, above, i.0)))
            | inr own ↦
                let same : at ≡ j = omega arith in
                let P : ℕ → Type 0 = λ m. precedes (get_or ys m []) (get_or ys k []) ≡ true in
                subst P same (rw (i.2 [], i.4 k [] above) (after (k - 1) (omega (arith, above)) (omega (arith, inside, above, i.0))))
          ]
        ]
        | inr own ↦
            let same : at ≡ k = omega arith in
            let P : ℕ → Type 0 = λ m. precedes (get_or ys j []) (get_or ys m []) ≡ true in
            subst P same (rw (i.2 [], i.3 j [] (omega (arith, low, same))) (place.before j (omega (arith, low, same))))
      ]
    ]

-- ---- one less

abbrev pub Removes : List (List Side) → List (List Side) → ℕ → Type 0
Removes xs ys at = (length ys + 1 ≡ length xs) × (at < length xs) × ((k : ℕ) (d : List Side) → k < at → get_or ys k d ≡ get_or xs k d) × ((k : ℕ) (d : List Side) → at ≤ k → get_or ys k d ≡ get_or xs (k + 1) d)

unlike : (xs : List (List Side)) (i j : ℕ) (q : List Side) → IsAscending xs → i < j → j < length xs → get_or xs i [] ≡ q → get_or xs j [] ≡ q → ⊥
unlike xs i j q up low inside e f =
    let P : List Side → Type 0 = λ x. precedes x (get_or xs j []) ≡ true in
    let Q : List Side → Type 0 = λ x. precedes q x ≡ true in
    false≢true (sym (precedes-self q) ∙ subst Q f (subst P e (up i j low inside)))

pub removed_has : (xs ys : List (List Side)) (at : ℕ) (q : List Side) → Removes xs ys at → IsAscending xs → Contains ys q ↔ (Contains xs q × ¬ (q ≡ get_or xs at []))
removed_has xs ys at q r up = (
  λ c. elim (cases_lt c.0 at) [
    | inl before ↦
        let inside : c.0 < length xs = omega (arith, before, r.1) in
        let is : get_or xs c.0 q ≡ q = sym (r.2 c.0 q before) ∙ c.2 in
        ((c.0, inside, is), λ same. unlike xs c.0 at q up before r.1 (get_or_default xs c.0 [] q inside ∙ is) (sym same))
    | inr past ↦
        let inside : c.0 + 1 < length xs = omega (arith, c.1, r.0) in
        let is : get_or xs (c.0 + 1) q ≡ q = sym (r.3 c.0 q (omega arith)) ∙ c.2 in
        ((c.0 + 1, inside, is), λ same. unlike xs at (c.0 + 1) q up (omega arith) inside (sym same) (get_or_default xs (c.0 + 1) [] q inside ∙ is))
  ],
  λ c. elim (cases_lt c.0.0 at) [
    | inl before ↦ (c.0.0, omega (arith, before, r.0, r.1), r.2 c.0.0 q before ∙ c.0.2)
    | inr past ↦ elim (cases_lt at c.0.0) [
      | inl after ↦
          let back : c.0.0 - 1 + 1 ≡ c.0.0 = omega arith in
          (c.0.0 - 1, omega (arith, after, c.0.1, r.0), r.3 (c.0.0 - 1) q (omega arith) ∙ ap (λ k. get_or xs k q) back ∙ c.0.2)
      | inr not_after ↦
          let same : c.0.0 ≡ at = omega arith in
          absurd (c.1 (sym c.0.2 ∙ get_or_default xs c.0.0 q [] c.0.1 ∙ ap (λ k. get_or xs k []) same))
    ]
  ],
)

pub removed_rises : (xs ys : List (List Side)) (at : ℕ) → Removes xs ys at → IsAscending xs → IsAscending ys
removed_rises xs ys at r up j k low inside = elim (cases_lt k at) [
  | inl before ↦ rw (r.2 j [] (omega (arith, low, before)), r.2 k [] before) (up j k low (omega (arith, before, r.1)))
  | inr past ↦ elim (cases_lt j at) [
    | inl below ↦ rw (r.2 j [] below, r.3 k [] (omega arith)) (up j (k + 1) (omega (arith, low)) (omega (arith, inside, r.0)))
    | inr not_below ↦ rw (r.3 j [] (omega arith), r.3 k [] (omega arith)) (up (j + 1) (k + 1) (omega (arith, low)) (omega (arith, inside, r.0)))
  ]
]

-- ---- as the code finds them

pub found_in : (xs ys : List (List Side)) (p : List Side) (at : ℕ) (r : Bool) → ys ≡ xs → IsAscending xs → IsPlace ys p at → (IsTrue r ↔ ((at < length ys) × (get_or ys at [] ≡ p))) → IsTrue r ↔ Contains xs p
found_in xs ys p at r same up place is =
    let P : List (List Side) → Type 0 = λ l. (IsTrue r ↔ ((at < length l) × (get_or l at [] ≡ p))) × IsPlace l p at in
    let here = subst P same (is, place) in
    let stands = stands_at xs p at up here.1 in
    (λ t. stands.1 (here.0.0 t), λ c. here.0.1 (stands.0 c))

pub taken_out : (xs ys zs : List (List Side)) (p : List Side) (at : ℕ) (r : Bool) → ys ≡ xs → IsTrue r → (IsTrue r ↔ ((at < length ys) × (get_or ys at [] ≡ p))) → ((q : List Side) → Contains zs q ↔ (Contains xs q × ¬ (q ≡ get_or xs at []))) → (q : List Side) → Contains zs q ↔ (Contains xs q × ¬ (q ≡ p))
taken_out xs ys zs p at r same t is rest q =
    let own : get_or xs at [] ≡ p = ap (λ l. get_or l at []) (sym same) ∙ (is.0 t).1 in
    let P : List Side → Type 0 = λ x. Contains zs q ↔ (Contains xs q × ¬ (q ≡ x)) in
    subst P own (rest q)

pub not_there : (xs : List (List Side)) (p : List Side) → ¬ (Contains xs p) → (q : List Side) → Contains xs q ↔ (Contains xs q × ¬ (q ≡ p))
not_there xs p apart q =
    let P : List Side → Type 0 = λ x. Contains xs x in
    (λ c. (c, λ same. apart (subst P same c)), λ c. c.0)
