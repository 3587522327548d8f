-- Texts written one behind another, and the draws behind them.
use Rattle.std.proofs.Common.{◌≡◌, ℕ, suc, ◌+◌, ◌%◌, ◌≤◌, List, ◌++◌, Result, Ok, Err, sym, ap, ◌∙◌, append_assoc, add-one, arith}
use Rattle.std.specs.Prelude.{OnOk}
use Rattle.deck_gen.specs.declared.sizes.Sizes.{Sizes}
use Rattle.deck_gen.specs.Generator.{draw, draws_before, entry_line, entry_of, joined, next_draw, right_side_line, right_side_of}

pub joined_more : (f : ℕ → List ℕ) (n : ℕ) (o x y : List ℕ) → x ≡ o ++ joined f n → y ≡ x ++ f n → y ≡ o ++ joined f (n + 1)
joined_more f n o x y so_far e =
    e ∙ ap (λ (t : List ℕ). t ++ f n) so_far ∙ append_assoc o (joined f n) (f n) ∙ ap (λ k. o ++ joined f k) (sym (add-one n))

-- the draw behind the one of number a + n
pub draw_more : (seed a n s t : ℕ) → s ≡ draw seed (a + n) → t ≡ next_draw s → t ≡ draw seed (a + (n + 1))
draw_more seed a n s t e next = next ∙ ap next_draw e ∙ ap (draw seed) here
  where
    here : suc (a + n) ≡ a + (n + 1)
    here = omega arith

pub draw_first : (seed a s t : ℕ) → s ≡ draw seed a → t ≡ next_draw s → t ≡ draw seed (a + 1)
draw_first seed a s t e next = next ∙ ap next_draw e ∙ ap (draw seed) (sym (add-one a))

-- the draws of a column end where those of the next one begin
pub column_end : (z : Sizes) (j : ℕ) → draws_before z j + 1 + z.rows ≡ draws_before z (j + 1)
column_end z j = grind arith

pub entry_is : (z : Sizes) (j i s : ℕ) (x y : List ℕ) → s ≡ draw z.seed (draws_before z j + 1 + (i + 1)) → y ≡ x ++ entry_line j i (s % 10) → y ≡ x ++ entry_of z j i
entry_is z j i s x y e h = h ∙ ap (λ k. x ++ entry_line j i (k % 10)) e

pub right_side_is : (z : Sizes) (i s : ℕ) (x y : List ℕ) → s ≡ draw z.seed (draws_before z z.columns + (i + 1)) → y ≡ x ++ right_side_line i (s % 50 + 1) → y ≡ x ++ right_side_of z i
right_side_is z i s x y e h = h ∙ ap (λ k. x ++ right_side_line i (k % 50 + 1)) e

-- a head, and behind it all n texts
pub joined_all : (f : ℕ → List ℕ) (i n : ℕ) (o x y head : List ℕ) → n ≤ i → i ≤ n → x ≡ o ++ head → y ≡ x ++ joined f i → y ≡ o ++ (head ++ joined f n)
joined_all f i n o x y head le ge ex ey =
    let here : i ≡ n = omega arith in
    ey ∙ ap (λ (t : List ℕ). t ++ joined f i) ex ∙ append_assoc o head (joined f i) ∙ ap (λ k. o ++ (head ++ joined f k)) here

pub behind : (o x z head rest : List ℕ) → x ≡ o ++ head → z ≡ x ++ rest → z ≡ o ++ (head ++ rest)
behind o x z head rest ex ez = ez ∙ ap (λ (t : List ℕ). t ++ rest) ex ∙ append_assoc o head rest

pub six : (o x y z u v w a b c d e f : List ℕ) → x ≡ o ++ a → y ≡ x ++ b → z ≡ y ++ c → u ≡ z ++ d → v ≡ u ++ e → w ≡ v ++ f → w ≡ o ++ (a ++ b ++ c ++ d ++ e ++ f)
six o x y z u v w a b c d e f ex ey ez eu ev ew =
    let two = behind o x y a b ex ey in
    let three = behind o y z (a ++ b) c two ez in
    let four = behind o z u (a ++ b ++ c) d three eu in
    let five = behind o u v (a ++ b ++ c ++ d) e four ev in
    behind o v w (a ++ b ++ c ++ d ++ e) f five ew

pub on_ok : {T E : Type 0} (r : Result T E) (P Q : Type 0) → (P → Q) → OnOk r P → OnOk r Q
on_ok (Ok x) P Q f p = f p
on_ok (Err e) P Q f p = tt
