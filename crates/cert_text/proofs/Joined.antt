-- Texts as joined parts: what is cut is joined to the same text, and what is joined is cut again.
use Rattle.std.proofs.Common.{◌≡◌, ℕ, ◌<◌, ◌≤◌, eqb, false, List, [], ◌∷◌, ◌++◌, refl, sym, ap, ◌∙◌, append_assoc, arith, lit<, lit≤}
use Rattle.std.specs.Prelude.{All}
use Rattle.std.specs.List.{join_with_byte}
use Rattle.std.proofs.lemmas.Bool.{ne_eqb}
use Rattle.std.proofs.lemmas.List.{append-nil}
use Rattle.std.proofs.lemmas.List.Elements.{All-nil, All-cons, All-head, All-tail, All-append, All-weaker}
use Rattle.std.proofs.lemmas.List.Splits.{slice_split_none, slice_split_at}
use Rattle.cert_text.specs.Spelling.{Word, line_bytes, text_of}
use Rattle.cert_text.specs.Splits.{split}
use Rattle.cert_text.proofs.Numbers.{IsPlain}

-- no byte is LF
abbrev pub IsInLine : List ℕ → Type 0
IsInLine line = All (λ b. 10 < b) line

without : (c least : ℕ) (bytes : List ℕ) → c ≤ least → All (λ b. least < b) bytes → All (λ b. eqb b c ≡ false) bytes
without c least bytes le h = All-weaker (λ b. least < b) (λ b. eqb b c ≡ false) (λ b lt. ne_eqb b c (λ e. omega (arith, le, lt, e))) bytes h

pub words_joined : (w : Word) (ws : List Word) → All IsPlain (w ∷ ws) → split 32 (line_bytes (w ∷ ws)) ≡ w ∷ ws
words_joined w [] h = slice_split_none (λ b. eqb b 32) w (without 32 32 w (lit≤ tt) (All-head IsPlain w [] h))
words_joined w (v ∷ ws) h =
    slice_split_at (λ b. eqb b 32) w 32 (line_bytes (v ∷ ws)) (without 32 32 w (lit≤ tt) (All-head IsPlain w (v ∷ ws) h)) refl
    ∙ ap (λ (t : List Word). w ∷ t) (words_joined v ws (All-tail IsPlain w (v ∷ ws) h))

pub line_in_line : (ws : List Word) → All IsPlain ws → IsInLine (line_bytes ws)
line_in_line [] h = All-nil (λ b. 10 < b)
line_in_line (w ∷ []) h = All-weaker (λ b. 32 < b) (λ b. 10 < b) (λ b lt. omega (arith, lt)) w (All-head IsPlain w [] h)
line_in_line (w ∷ v ∷ ws) h =
    let first = All-weaker (λ b. 32 < b) (λ b. 10 < b) (λ b lt. omega (arith, lt)) w (All-head IsPlain w (v ∷ ws) h) in
    All-append (λ b. 10 < b) w (32 ∷ line_bytes (v ∷ ws)) first (All-cons (λ b. 10 < b) 32 (line_bytes (v ∷ ws)) (lit< tt) (line_in_line (v ∷ ws) (All-tail IsPlain w (v ∷ ws) h)))

pub lines_joined : (ls : List (List ℕ)) → All IsInLine ls → split 10 (text_of ls) ≡ ls ++ [] ∷ []
lines_joined [] h = refl
lines_joined (l ∷ ls) h =
    ap (split 10) (append_assoc l (10 ∷ []) (text_of ls))
    ∙ slice_split_at (λ b. eqb b 10) l 10 (text_of ls) (without 10 10 l (lit≤ tt) (All-head IsInLine l ls h)) refl
    ∙ ap (λ (t : List (List ℕ)). l ∷ t) (lines_joined ls (All-tail IsInLine l ls h))

pub joined_is_text : (ls : List (List ℕ)) → join_with_byte 10 (ls ++ [] ∷ []) ≡ text_of ls
joined_is_text [] = refl
joined_is_text (l ∷ []) = sym (append-nil (l ++ 10 ∷ []))
joined_is_text (l ∷ m ∷ ls) = ap (λ (t : List ℕ). l ++ 10 ∷ t) (joined_is_text (m ∷ ls)) ∙ sym (append_assoc l (10 ∷ []) (text_of (m ∷ ls)))
