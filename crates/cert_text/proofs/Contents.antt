-- The content lines of a text, line by line.
use Rattle.std.proofs.Common.{◌≡◌, ℕ, ◌+◌, ◌-◌, ◌<◌, ◌≤◌, Bool, true, false, cond, eqb, List, [], ◌∷◌, length, take, drop, Some, None, refl, sym, ap, ◌∙◌, arith}
use Rattle.std.specs.Prelude.{position}
use Rattle.std.proofs.lemmas.List.Splits.{length-slice_split}
use Rattle.std.proofs.lemmas.List.{take_rest, length-drop}
use Rattle.cert_text.specs.Splits.{split}
use Rattle.cert_text.specs.Lines.{is_comment, lines_among, tail_among, is_content, content, is_cut}
use Rattle.cert_text.proofs.Cuts.{parts_found, parts_last}

abbrev with_line : List ℕ → List (List ℕ) → List (List ℕ)
with_line line lines = cond (is_comment line) lines (line ∷ lines)

more_lines : (line : List ℕ) (ps : List (List ℕ)) → 0 < length ps → lines_among (line ∷ ps) ≡ with_line line (lines_among ps)
more_lines line [] h = absurd (omega (arith, h))
more_lines line (p ∷ ps) h = refl

same_tail : (line : List ℕ) (ps : List (List ℕ)) → 0 < length ps → tail_among (line ∷ ps) ≡ tail_among ps
same_tail line [] h = absurd (omega (arith, h))
same_tail line (p ∷ ps) h = refl

-- behind the LF of the first line
abbrev behind_lf : List ℕ → List ℕ
behind_lf back = take (length back - 1) (drop 1 back)

some_parts : (text : List ℕ) → 0 < length (split 10 text)
some_parts text = omega (arith, length-slice_split (λ b. eqb b 10) text)

pub content_found : (text line back : List ℕ) (at : ℕ) → position (λ b. eqb b 10) text ≡ Some at → line ≡ take at text → back ≡ drop at text → content text ≡ with_line line (content (behind_lf back))
content_found text line back at e el eb = ap lines_among (parts_found 10 text line back at e el eb) ∙ more_lines line (split 10 (behind_lf back)) (some_parts (behind_lf back))

pub cut_found : (text line back : List ℕ) (at : ℕ) → position (λ b. eqb b 10) text ≡ Some at → line ≡ take at text → back ≡ drop at text → is_cut text ≡ is_cut (behind_lf back)
cut_found text line back at e el eb = ap is_content (ap tail_among (parts_found 10 text line back at e el eb) ∙ same_tail line (split 10 (behind_lf back)) (some_parts (behind_lf back)))

pub content_none : (text : List ℕ) → position (λ b. eqb b 10) text ≡ None → content text ≡ []
content_none text e = ap lines_among (parts_last 10 text e)

pub cut_none : (text : List ℕ) → position (λ b. eqb b 10) text ≡ None → is_cut text ≡ is_content text
cut_none text e = ap (λ (ps : List (List ℕ)). is_content (tail_among ps)) (parts_last 10 text e)

-- ---- the loop: `text` is the whole text, and `rest` what is left behind comments

abbrev IsLeft : List ℕ → List ℕ → Type 0
IsLeft rest text = (content rest ≡ content text) × (is_cut rest ≡ is_cut text) × (length rest ≤ length text)

abbrev IsCut : List ℕ → List ℕ → List ℕ → ℕ → Type 0
IsCut rest line back at = (position (λ b. eqb b 10) rest ≡ Some at) × (line ≡ take at rest) × (back ≡ drop at rest) × (length back + at ≡ length rest) × (at < length rest)

shorter : (rest line back : List ℕ) (at : ℕ) → IsCut rest line back at → length (behind_lf back) < length rest
shorter rest line back at h = omega (arith, ap length (take_rest back 1), length-drop 1 back, h.3, h.4)

pub takes_line : (text rest line back : List ℕ) (at : ℕ) → IsLeft rest text → IsCut rest line back at → is_comment line ≡ false
    → (content text ≡ line ∷ content (behind_lf back)) × (is_cut (behind_lf back) ≡ is_cut text) × (length (behind_lf back) < length text)
takes_line text rest line back at i h t = (
  sym i.0 ∙ content_found rest line back at h.0 h.1 h.2 ∙ ap (λ (b : Bool). cond b (content (behind_lf back)) (line ∷ content (behind_lf back))) t,
  sym (cut_found rest line back at h.0 h.1 h.2) ∙ i.1,
  omega (arith, shorter rest line back at h, i.2),
)

pub skips_comment : (text rest line back : List ℕ) (at : ℕ) → IsLeft rest text → IsCut rest line back at → is_comment line ≡ true → IsLeft (behind_lf back) text
skips_comment text rest line back at i h t = (
  sym (content_found rest line back at h.0 h.1 h.2 ∙ ap (λ (b : Bool). cond b (content (behind_lf back)) (line ∷ content (behind_lf back))) t) ∙ i.0,
  sym (cut_found rest line back at h.0 h.1 h.2) ∙ i.1,
  omega (arith, shorter rest line back at h, i.2),
)

pub at_tail : (text rest : List ℕ) (cut : Bool) → IsLeft rest text → position (λ b. eqb b 10) rest ≡ None → is_content rest ≡ cut → (content text ≡ []) × (is_cut text ≡ cut) × (text ≡ text)
at_tail text rest cut i none t = (sym i.0 ∙ content_none rest none, sym i.1 ∙ cut_none rest none ∙ t, refl)
