-- Texts in other brackets, and texts of lists behind each other.
use Rattle.std.proofs.Common.{ℕ, ◌≡◌, List, ◌++◌, map, ap, ◌∙◌, append_assoc}
use Rattle.std.specs.List.{flat_map}
use Rattle.std.proofs.lemmas.Grind.{flat_map-append}
use Rattle.std.proofs.lemmas.List.{map-append}
use Rattle.mps_lex.specs.Kinds.{Name}
use Rattle.deck_print.specs.Printed.{data_text, line_text}

-- two lists of lines
pub data_and : {X : Type 0} (words : X → List Name) (xs ys : List X) → data_text (map words (xs ++ ys)) ≡ data_text (map words xs) ++ data_text (map words ys)
data_and words xs ys = ap data_text (map-append words xs ys) ∙ flat_map-append line_text (map words xs) (map words ys)

-- two lists of which each element has some lines
pub datas_and : {X : Type 0} (words : X → List (List Name)) (xs ys : List X) → data_text (flat_map words (xs ++ ys)) ≡ data_text (flat_map words xs) ++ data_text (flat_map words ys)
datas_and words xs ys = ap data_text (flat_map-append words xs ys) ∙ flat_map-append line_text (flat_map words xs) (flat_map words ys)

-- two parts, or three, behind a head
pub behind_two : (h a b : List ℕ) → (h ++ a) ++ b ≡ h ++ (a ++ b)
behind_two h a b = append_assoc h a b

pub behind_three : (h a b c : List ℕ) → ((h ++ a) ++ b) ++ c ≡ h ++ ((a ++ b) ++ c)
behind_three h a b c = ap (λ t. t ++ c) (append_assoc h a b) ∙ append_assoc h (a ++ b) c

pub behind_five : (t a b c d e : List ℕ) → ((((t ++ a) ++ b) ++ c) ++ d) ++ e ≡ t ++ (a ++ (b ++ (c ++ (d ++ e))))
behind_five t a b c d e = append_assoc (((t ++ a) ++ b) ++ c) d e ∙ append_assoc ((t ++ a) ++ b) c (d ++ e) ∙ append_assoc (t ++ a) b (c ++ (d ++ e)) ∙ append_assoc t a (b ++ (c ++ (d ++ e)))

pub behind_six : (t a b c d e f : List ℕ) → (((((t ++ a) ++ b) ++ c) ++ d) ++ e) ++ f ≡ t ++ (a ++ (b ++ (c ++ (d ++ (e ++ f)))))
behind_six t a b c d e f = append_assoc ((((t ++ a) ++ b) ++ c) ++ d) e f ∙ behind_five t a b c d (e ++ f)
