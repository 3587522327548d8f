-- The lines of a text, one by one.
use Rattle.std.proofs.Common.{◌≡◌, ℕ, ◌+◌, ◌-◌, ◌<◌, Bool, ltb, eqb, List, [], ◌∷◌, length, take, drop, Some, None, refl, sym, ap, ◌∙◌, arith}
use Rattle.std.specs.Prelude.{position}
use Rattle.std.proofs.lemmas.List.Splits.{length-slice_split}
use Rattle.std.proofs.lemmas.List.{take_rest, length-drop}
use Rattle.cert_text.specs.Splits.{split}
use Rattle.cert_text.specs.Lines.{tail_among}
use Rattle.cert_text.proofs.Cuts.{parts_found, parts_last}
use Rattle.front_text.specs.Lines.{is_cut, lines_in, whole_among}

more_lines : (line : List ℕ) (ps : List (List ℕ)) → 0 < length ps → whole_among (line ∷ ps) ≡ line ∷ whole_among ps
more_lines line [] h = absurd (omega (arith, h))
more_lines line (p ∷ ps) h = refl

same_tail : (line : List ℕ) (ps : List (List ℕ)) → 0 < length ps → tail_among (line ∷ ps) ≡ tail_among ps
same_tail line [] h = absurd (omega (arith, h))
same_tail line (p ∷ ps) h = refl

-- behind the LF of the first line
abbrev pub behind_lf : List ℕ → List ℕ
behind_lf back = take (length back - 1) (drop 1 back)

some_parts : (text : List ℕ) → 0 < length (split 10 text)
some_parts text = omega (arith, length-slice_split (λ b. eqb b 10) text)

pub takes_line : (text line back : List ℕ) (at : ℕ) → position (λ b. eqb b 10) text ≡ Some at → line ≡ take at text → back ≡ drop at text → length back + at ≡ length text → at < length text
    → (lines_in text ≡ line ∷ lines_in (behind_lf back)) × (is_cut (behind_lf back) ≡ is_cut text) × (length (behind_lf back) < length text)
takes_line text line back at e el eb size inside =
    let parts = parts_found 10 text line back at e el eb in
    let some = some_parts (behind_lf back) in (
      ap whole_among parts ∙ more_lines line (split 10 (behind_lf back)) some,
      sym (ap (λ (ps : List (List ℕ)). ltb 0 (length (tail_among ps))) parts ∙ ap (λ (t : List ℕ). ltb 0 (length t)) (same_tail line (split 10 (behind_lf back)) some)),
      omega (arith, ap length (take_rest back 1), length-drop 1 back, size, inside),
    )

pub at_tail : (text : List ℕ) (cut : Bool) → position (λ b. eqb b 10) text ≡ None → ltb 0 (length text) ≡ cut → (lines_in text ≡ []) × (is_cut text ≡ cut) × (text ≡ text)
at_tail text cut none t =
    let parts = parts_last 10 text none in
    (ap whole_among parts, ap (λ (ps : List (List ℕ)). ltb 0 (length (tail_among ps))) parts ∙ t, refl)
