-- What an offer does to a history.
use Rattle.std.proofs.Common.{ℕ, zero, suc, ◌≡◌, refl, sym, ap, ◌∙◌, arith, ◌<◌, List, [], ◌∷◌, Bool, true, false, cond, ◌&&◌, None, Some, All, length, get_or}
use Rattle.std.specs.Prelude.{Option as Maybe}
use Rattle.std.proofs.lemmas.Bool.{false≢true, and_from}
use Rattle.best.specs.History.{joined, history, newest, falls, lower_of}

both : (b c : Bool) → (b && c) ≡ true → (b ≡ true) × (c ≡ true)
both true c e = (refl, e)
both false c e = absurd (false≢true e)

module _ {T : Type 0} where
  newest_cond : (b : Bool) (x y : T) (ys : List T) → newest (cond b (x ∷ y ∷ ys) (y ∷ ys)) ≡ cond b (Some x) (Some y)
  newest_cond true x y ys = refl
  newest_cond false x y ys = refl

  pub newest_joined : (lower : T → T → Bool) (entries : List T) (o : Maybe T) → newest (joined lower entries o) ≡ lower_of lower (newest entries) o
  newest_joined lower [] None = refl
  newest_joined lower (y ∷ ys) None = refl
  newest_joined lower [] (Some x) = refl
  newest_joined lower (y ∷ ys) (Some x) = newest_cond (lower x y) x y ys

  falls_cond : (lower : T → T → Bool) (b : Bool) (x y : T) (ys : List T) → lower x y ≡ b → falls lower (y ∷ ys) ≡ true → falls lower (cond b (x ∷ y ∷ ys) (y ∷ ys)) ≡ true
  falls_cond lower true x y ys e h = and_from (lower x y) (falls lower (y ∷ ys)) e h
  falls_cond lower false x y ys e h = h

  falls_joined : (lower : T → T → Bool) (entries : List T) (o : Maybe T) → falls lower entries ≡ true → falls lower (joined lower entries o) ≡ true
  falls_joined lower [] None h = refl
  falls_joined lower (y ∷ ys) None h = h
  falls_joined lower [] (Some x) h = refl
  falls_joined lower (y ∷ ys) (Some x) h = falls_cond lower (lower x y) x y ys refl h

  pub history_falls : (lower : T → T → Bool) (turns : List (Maybe T)) → falls lower (history lower turns) ≡ true
  history_falls lower [] = refl
  history_falls lower (o ∷ os) = falls_joined lower (history lower os) o (history_falls lower os)

  abbrev Transitive : (T → T → Bool) → Type 0
  Transitive lower = (x y z : T) → lower x y ≡ true → lower y z ≡ true → lower x z ≡ true

  first_is_lowest : (lower : T → T → Bool) → Transitive lower → (x : T) (xs : List T) → falls lower (x ∷ xs) ≡ true → (k : ℕ) (d : T) → k < length xs → lower x (get_or xs k d) ≡ true
  first_is_lowest lower t x [] h k d n = absurd (omega arith)
  first_is_lowest lower t x (y ∷ ys) h zero d n = (both (lower x y) (falls lower (y ∷ ys)) h).0
  first_is_lowest lower t x (y ∷ ys) h (suc k) d n =
      let p = both (lower x y) (falls lower (y ∷ ys)) h in
      t x y (get_or ys k d) p.0 (first_is_lowest lower t y ys p.1 k d (omega arith))

  pub newest_is_lowest : (lower : T → T → Bool) → Transitive lower → (turns : List (Maybe T)) (x : T) (earlier : List T) → history lower turns ≡ x ∷ earlier → All (λ y. lower x y ≡ true) earlier
  newest_is_lowest lower t turns x earlier e =
      let h : falls lower (x ∷ earlier) ≡ true = ap (falls lower) (sym e) ∙ history_falls lower turns in
      first_is_lowest lower t x earlier h

  not_above_cond : (lower : T → T → Bool) (b : Bool) (x y : T) → lower x x ≡ false → lower x y ≡ b → (z : T) × (cond b (Some x) (Some y) ≡ Some z) × (lower x z ≡ false)
  not_above_cond lower true x y i e = (x, refl, i)
  not_above_cond lower false x y i e = (y, refl, e)

  not_above : (lower : T → T → Bool) → ((x : T) → lower x x ≡ false) → (entries : List T) (x : T) → (z : T) × (newest (joined lower entries (Some x)) ≡ Some z) × (lower x z ≡ false)
  not_above lower i [] x = (x, refl, i x)
  not_above lower i (y ∷ ys) x =
      let n = not_above_cond lower (lower x y) x y (i x) refl in
      (n.0, newest_cond (lower x y) x y ys ∙ n.1, n.2)

  pub newest_is_not_above : (lower : T → T → Bool) → ((x : T) → lower x x ≡ false) → (turns : List (Maybe T)) (x : T) → (z : T) × (newest (history lower (Some x ∷ turns)) ≡ Some z) × (lower x z ≡ false)
  newest_is_not_above lower i turns x = not_above lower i (history lower turns) x
