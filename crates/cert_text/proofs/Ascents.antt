-- Choices that are read ascend.
use Rattle.std.proofs.Common.{◌≡◌, ℕ, ◌+◌, ◌≤◌, true, ltb, List, [], ◌∷◌, Ok, Err, refl, subst, inl, inr, arith, Option, Some, None, take, length, ◌-◌}
use Rattle.std.specs.Prelude.{bytes_eq, slice_index}
use Rattle.std.specs.Char.{is_ascii_digit}
use Rattle.std.proofs.lemmas.Bool.{ltb-true, ltb-false, lt-ltb, and_parts, and_from}
use Rattle.nogoods.specs.declared.choice.Choice.{Choice}
use Rattle.nogoods.specs.declared.choice.Side.{Side}
use Rattle.nogoods.specs.Choices.{pair_of, pairs_ascend}
use Rattle.lp_base.specs.Ascending.{ascends_by}
use Rattle.cert_text.specs.declared.fault.CertWhy.TheVariants.{BadLine, BadChoice}
use Rattle.cert_text.specs.Spelling.{Word, colon}
use Rattle.cert_text.specs.Reading.{◌>>=◌, Reading, side_at, index_at, chosen, choice_at, choices_from, last_choices_from}
use Rattle.cert_text.proofs.Results.{same_ok, bind_ok, unless_test, if_test, either}

chosen_least : (least : ℕ) (side : Option Side) (pair : Reading ℕ) (c : Choice) → chosen least side pair ≡ Ok c → least ≤ c.pair
chosen_least least None pair c e = absurd cc
chosen_least least (Some side) (Err why) c e = absurd cc
chosen_least least (Some side) (Ok pair) c e =
    let made : Choice = record { pair = pair; side = side } in
    let g = unless_test (ltb pair least) (Ok made) BadChoice c e in
    let low : least ≤ pair = ltb-false pair least g.0 in
    subst (λ (x : Choice). least ≤ x.pair) {x = made} (same_ok made c g.1) low

pub choice_least : (least : ℕ) (w : Word) (c : Choice) → choice_at least w ≡ Ok c → least ≤ c.pair
unfolding choice_at
choice_least least w c e =
    let side = side_at (slice_index w (length w - 1)) in
    let pair = index_at 512 (take (length w - 1) w) in
    chosen_least least side pair c (if_test (is_ascii_digit (slice_index w 0)) (chosen least side pair) BadLine c e).1

-- the first key, where there is one, is at least this
abbrev pub BeginsAt : {T : Type 0} → (T → ℕ) → ℕ → List T → Type 0
BeginsAt key least [] = Unit {0}
BeginsAt key least (x ∷ xs) = least ≤ key x

abbrev pub Ascend : {T : Type 0} → (T → ℕ) → ℕ → List T → Type 0
Ascend key least xs = BeginsAt key least xs × (ascends_by key xs ≡ true)

pub ascend_more : {T : Type 0} (key : T → ℕ) (least : ℕ) (x : T) (xs : List T) → least ≤ key x → Ascend key (key x + 1) xs → Ascend key least (x ∷ xs)
ascend_more key least x [] low h = (low, refl)
ascend_more key least x (y ∷ xs) low h = (low, and_from (ltb (key x) (key y)) (ascends_by key (y ∷ xs)) (lt-ltb (key x) (key y) (omega (arith, h.0))) h.1)

pub ascend_parts : {T : Type 0} (key : T → ℕ) (x : T) (xs : List T) → ascends_by key (x ∷ xs) ≡ true → Ascend key (key x + 1) xs
ascend_parts key x [] e = (tt, refl)
ascend_parts key x (y ∷ xs) e = let p = and_parts (ltb (key x) (key y)) (ascends_by key (y ∷ xs)) e in (omega (arith, ltb-true (key x) (key y) p.0), p.1)

pub ascend_from_zero : {T : Type 0} (key : T → ℕ) (xs : List T) → ascends_by key xs ≡ true → Ascend key 0 xs
ascend_from_zero key [] e = (tt, e)
ascend_from_zero key (x ∷ xs) e = (omega arith, e)

pub choices_ascend : (least : ℕ) (ws : List Word) (x : List Choice × List Word) → choices_from least ws ≡ Ok x → Ascend pair_of least x.0
unfolding choices_from
choices_ascend least [] x e = absurd cc
choices_ascend least (w ∷ ws) x e = elim (either (bytes_eq w colon) (Ok ([], ws)) (choice_at least w >>= λ c. choices_from (c.pair + 1) ws >>= λ found. Ok (c ∷ found.0, found.1)) (Ok x) e) [
  | inl closed ↦ subst (λ (y : List Choice × List Word). Ascend pair_of least y.0) {x = ([], ws)} (same_ok ([], ws) x closed.1) (tt, refl)
  | inr onward ↦
      let c = bind_ok (choice_at least w) (λ c. choices_from (c.pair + 1) ws >>= λ found. Ok (c ∷ found.0, found.1)) x onward.1 in
      let found = bind_ok (choices_from (c.0.pair + 1) ws) (λ found. Ok (c.0 ∷ found.0, found.1)) x c.2 in
      let made : List Choice × List Word = (c.0 ∷ found.0.0, found.0.1) in
      subst (λ (y : List Choice × List Word). Ascend pair_of least y.0) {x = made} (same_ok made x found.2)
      (ascend_more pair_of least c.0 found.0.0 (choice_least least w c.0 c.1) (choices_ascend (c.0.pair + 1) ws found.0 found.1))
]

pub last_choices_ascend : (least : ℕ) (ws : List Word) (cs : List Choice) → last_choices_from least ws ≡ Ok cs → Ascend pair_of least cs
unfolding last_choices_from
last_choices_ascend least [] cs e = subst (λ (y : List Choice). Ascend pair_of least y) {x = []} (same_ok [] cs e) (tt, refl)
last_choices_ascend least (w ∷ ws) cs e =
    let c = bind_ok (choice_at least w) (λ c. last_choices_from (c.pair + 1) ws >>= λ ds. Ok (c ∷ ds)) cs e in
    let ds = bind_ok (last_choices_from (c.0.pair + 1) ws) (λ ds. Ok (c.0 ∷ ds)) cs c.2 in
    subst (λ (y : List Choice). Ascend pair_of least y) {x = c.0 ∷ ds.0} (same_ok (c.0 ∷ ds.0) cs ds.2) (ascend_more pair_of least c.0 ds.0 (choice_least least w c.0 c.1) (last_choices_ascend (c.0.pair + 1) ws ds.0 ds.1))

pub choices_are_ascending : (ws : List Word) (cs : List Choice) (rest : List Word) → choices_from 0 ws ≡ Ok (cs, rest) → pairs_ascend cs ≡ true
choices_are_ascending ws cs rest e = (choices_ascend 0 ws (cs, rest) e).1

pub last_choices_are_ascending : (ws : List Word) (cs : List Choice) → last_choices_from 0 ws ≡ Ok cs → pairs_ascend cs ≡ true
last_choices_are_ascending ws cs e = (last_choices_ascend 0 ws cs e).1
