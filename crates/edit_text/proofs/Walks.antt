-- The parts of a text between its LFs, as the code takes them.
use Rattle.std.proofs.Common.{◌≡◌, ℕ, ◌+◌, ◌-◌, ◌<◌, Bool, true, false, cond, ltb, eqb, List, [], ◌∷◌, length, take, drop, Option, Some, None, Ok, Err, refl, ap, ◌∙◌, arith}
use Rattle.std.specs.Prelude.{position}
use Rattle.std.proofs.lemmas.Bool.{ltb-false}
use Rattle.std.proofs.lemmas.List.{length-drop, take_rest}
use Rattle.std.proofs.lemmas.List.Splits.{length-slice_split}
use Rattle.cert_text.specs.Splits.{split}
use Rattle.cert_text.proofs.Cuts.{parts_found, parts_last}
use Rattle.edit_text.specs.declared.fault.ScriptWhy.TheVariants.{AfterEnd}
use Rattle.edit_text.specs.Steps.{IsFirst, over_at}

abbrev is_lf : ℕ → Bool
is_lf b = eqb b 10

pub some_parts : (text : List ℕ) → 0 < length (split 10 text)
some_parts text = omega (arith, length-slice_split is_lf text)

-- behind the LF of the first line
abbrev pub behind_lf : List ℕ → List ℕ
behind_lf back = take (length back - 1) (drop 1 back)

pub first_line : (text line back : List ℕ) (at : ℕ) → position (λ b. eqb b 10) text ≡ Some at → line ≡ take at text → back ≡ drop at text → length back + at ≡ length text → at < length text → IsFirst text line (behind_lf back)
first_line text line back at e el eb size inside = (parts_found 10 text line back at e el eb, omega (arith, ap length (take_rest back 1), length-drop 1 back, size, inside))

over_line : (number : ℕ) (line : List ℕ) (parts : List (List ℕ)) → 0 < length parts → over_at number (line ∷ parts) ≡ Err (number, AfterEnd)
over_line number line [] some = absurd (omega (arith, some))
over_line number line (next ∷ parts) some = refl

-- bytes stand behind the last line
pub over_more : (number : ℕ) (text : List ℕ) → ltb 0 (length text) ≡ true → over_at number (split 10 text) ≡ Err (number, AfterEnd)
over_more number text some = by (position is_lf text) refl
  where
    by : (o : Option ℕ) → position is_lf text ≡ o → over_at number (split 10 text) ≡ Err (number, AfterEnd)
    by None none = ap (over_at number) (parts_last 10 text none) ∙ ap (λ (t : Bool). cond t (Err (number, AfterEnd)) (Ok [])) some
    by (Some i) found =
        let back = drop i text in
        ap (over_at number) (parts_found 10 text (take i text) back i found refl refl) ∙ over_line number (take i text) (split 10 (behind_lf back)) (some_parts (behind_lf back))

pub over_none : (number : ℕ) (text : List ℕ) → ltb 0 (length text) ≡ false → over_at number (split 10 text) ≡ Ok []
over_none number [] none = ap (over_at number) (parts_last 10 [] refl)
over_none number (b ∷ text) none = absurd (omega (arith, ltb-false 0 (length (b ∷ text)) none))
