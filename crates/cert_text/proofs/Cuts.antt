-- The first part of a text that is cut at each separator.
use Rattle.std.proofs.Common.{◌≡◌, ℕ, ◌+◌, ◌-◌, ◌≤◌, ltb, eqb, Bool, true, false, cond, List, [], ◌∷◌, length, take, drop, Option, Some, None, refl, sym, ap, ◌∙◌, arith}
use Rattle.std.specs.Prelude.{position}
use Rattle.std.specs.Borrow.{Bor}
use Rattle.std.specs.List.{slice_split, position_or_len}
use Rattle.std.proofs.lemmas.Bool.{ltb-true, ltb-false}
use Rattle.std.proofs.lemmas.Option.{cond_some}
use Rattle.std.proofs.lemmas.List.Sums.{fails_before_first}
use Rattle.std.proofs.lemmas.List.Splits.{slice_split_first, slice_split_none}
use Rattle.std.proofs.lemmas.List.{take_rest, drop-drop}
use Rattle.cert_text.specs.Splits.{split, split_left}

cond_none : (b : Bool) (i : ℕ) → cond b (Some i) None ≡ None → b ≡ false
cond_none true i e = absurd cc
cond_none false i e = refl

pub parts_found : (separator : ℕ) (text part rest : List ℕ) (at : ℕ) → position (λ b. eqb b separator) text ≡ Some at → part ≡ take at text → rest ≡ drop at text
    → split separator text ≡ part ∷ split separator (take (length rest - 1) (drop 1 rest))
parts_found separator text part rest at e ep er =
    let p : ℕ → Bool = λ b. eqb b separator in
    let f = cond_some (ltb (position_or_len p text) (length text)) (position_or_len p text) at e in
    let front = slice_split_first p text 0 (ltb-true _ _ f.0) in
    let behind : drop (position_or_len p text + 1) text ≡ take (length rest - 1) (drop 1 rest) =
    ap (λ (i : ℕ). drop (i + 1) text) f.1 ∙ sym (take_rest rest 1 ∙ ap (λ (x : List ℕ). drop 1 x) er ∙ drop-drop 1 at text) in
    front ∙ ap (λ (x : List ℕ). x ∷ slice_split p (drop (position_or_len p text + 1) text)) (ap (λ (i : ℕ). take i text) f.1 ∙ sym ep) ∙ ap (λ (x : List ℕ). part ∷ slice_split p x) behind

pub parts_last : (separator : ℕ) (text : List ℕ) → position (λ b. eqb b separator) text ≡ None → split separator text ≡ text ∷ []
parts_last separator text e =
    let p : ℕ → Bool = λ b. eqb b separator in
    let none = cond_none (ltb (position_or_len p text) (length text)) (position_or_len p text) e in
    let far : length text ≤ position_or_len p text = ltb-false _ _ none in
    slice_split_none p text (λ k d lt. fails_before_first p text k d (omega arith))

-- what is left before the first part is taken
pub left_is : (separator : ℕ) (now all : List (List ℕ)) (held : Option (Bor (List ℕ))) (rest : Bor (List ℕ)) → split_left separator held ≡ now → held ≡ Some rest → split separator rest.now ≡ all → now ≡ all
left_is separator now all held rest v h e = sym v ∙ ap (split_left separator) h ∙ e
