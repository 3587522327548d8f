-- The multiplier of a row, number by number.
use Rattle.std.proofs.Common.{ℕ, ◌+◌, ◌<◌, ◌≤◌, ◌^◌, ◌≡◌, refl, sym, ap, subst, ◌∙◌, arith, pos, ◌≤ℤ◌, List, [], ◌∷◌, ◌++◌, append_assoc, All, Option, None, Some, length, get_or, map, take, drop}
use Rattle.std.specs.Prelude.{IfSome, unsigned_abs}
use Rattle.std.specs.Option.{option_to_list}
use Rattle.std.proofs.lemmas.List.{get_or_append_left, get_or-append-add, get_or-map, length-append, length-map, map-append, map_more, take-append-drop}
use Rattle.std.proofs.lemmas.List.Elements.{All-head, All-tail, All-weaker}
use Rattle.lp_nums.specs.Fractions.{Fraction}
use Rattle.decks.specs.Decks.{IsDeckNumber}
use Rattle.decks.specs.declared.deck.Entry.{Entry}
use Rattle.deck_case.specs.CaseParts.{numbers_of}
use Rattle.deck_case.specs.Multipliers.{ArePositive, multiplier}
use Rattle.deck_case.specs.Steps.{IsNarrowMultiplier}
use Rattle.deck_case.proofs.Multiples.{common_of, multiplier_grows}

-- ---- parts of lists

pub All-left : {X : Type 0} (P : X → Type 0) (xs ys : List X) → All P (xs ++ ys) → All P xs
All-left P xs ys h k d l = subst P (get_or_append_left xs ys d k l) (h k d (omega (arith, length-append xs ys)))

pub All-right : {X : Type 0} (P : X → Type 0) (xs ys : List X) → All P (xs ++ ys) → All P ys
All-right P xs ys h k d l = subst P (get_or-append-add xs ys k d) (h (length xs + k) d (omega (arith, length-append xs ys)))

-- the numbers of a row from those before place i and those from there on
pub numbers-split : (b : Fraction) (range : Option Fraction) (es : List Entry) (i : ℕ) → numbers_of b range es ≡ numbers_of b range (take i es) ++ map (λ e. e.value) (drop i es)
numbers-split b range es i =
    let front = option_to_list range in
    let v = λ (e : Entry). e.value in
    ap (λ l. b ∷ (front ++ map v l)) (sym (take-append-drop i es))
    ∙ ap (λ l. b ∷ (front ++ l)) (map-append v (take i es) (drop i es))
    ∙ ap (λ l. b ∷ l) (sym (append_assoc front (map v (take i es)) (map v (drop i es))))

pub numbers_more : (b : Fraction) (range : Option Fraction) (es : List Entry) (i : ℕ) (d : Entry) → i < length es → numbers_of b range (take (i + 1) es) ≡ numbers_of b range (take i es) ++ (get_or es i d).value ∷ []
numbers_more b range es i d h =
    let front = option_to_list range in
    let v = λ (e : Entry). e.value in
    ap (λ l. b ∷ (front ++ l)) (map_more v es i d h)
    ∙ ap (λ l. b ∷ l) (sym (append_assoc front (map v (take i es)) ((get_or es i d).value ∷ [])))

pub positive_numbers : (fs : List Fraction) → All IsDeckNumber fs → ArePositive fs
positive_numbers fs h = All-weaker IsDeckNumber (λ f. pos 1 ≤ℤ f.den) (λ f n. n.lowest.positive) fs h

pub part_positive : (all fs rest : List Fraction) → All IsDeckNumber all → all ≡ fs ++ rest → ArePositive fs
part_positive all fs rest h e = All-left (λ f. pos 1 ≤ℤ f.den) fs rest (positive_numbers (fs ++ rest) (subst (All IsDeckNumber) e h))

-- a part whose multiplier is too wide
pub part_wide : (all fs rest : List Fraction) → All IsDeckNumber all → all ≡ fs ++ rest → 2 ^ 52 < multiplier fs → 2 ^ 52 < multiplier all
part_wide all fs rest h e wide =
    let more = multiplier_grows fs rest (positive_numbers (fs ++ rest) (subst (All IsDeckNumber) e h)) (part_positive all fs rest h e) in
    omega (arith, more, wide, ap multiplier e)

pub part_some : (all fs rest : List Fraction) → All IsDeckNumber all → all ≡ fs ++ rest → (known : ℕ) → known ≡ multiplier fs → 0 < known
part_some all fs rest h e known same = omega (arith, same, (common_of fs (part_positive all fs rest h e)).positive)

-- the first number, the first with the range, and those before place i
pub split_first : (b : Fraction) (range : Option Fraction) (es : List Entry) → numbers_of b range es ≡ (b ∷ []) ++ (option_to_list range ++ map (λ e. e.value) es)
split_first b range es = refl

pub split_range : (b : Fraction) (range : Option Fraction) (es : List Entry) → numbers_of b range es ≡ ((b ∷ []) ++ option_to_list range) ++ map (λ e. e.value) es
split_range b range es = refl

pub none_part : (all fs rest : List Fraction) (found : Option ℕ) → All IsDeckNumber all → all ≡ fs ++ rest → IsNarrowMultiplier fs None → found ≡ None → IsNarrowMultiplier all found
none_part all fs rest found h e wide none = subst (IsNarrowMultiplier all) (sym none) (part_wide all fs rest h e wide)

-- ---- the facts of the code's numbers

pub first_number : (b : Fraction) (range : Option Fraction) (es : List Entry) → All IsDeckNumber (numbers_of b range es) → IsDeckNumber b
first_number b range es h = All-head IsDeckNumber b (option_to_list range ++ map (λ e. e.value) es) h

range_numbers : (range : Option Fraction) → All IsDeckNumber (option_to_list range) → IfSome range (λ r. unsigned_abs r.den ≤ 10 ^ 18)
range_numbers None h = tt
range_numbers (Some r) h = (All-head IsDeckNumber r [] h).den

pub range_den : (b : Fraction) (range : Option Fraction) (es : List Entry) → All IsDeckNumber (numbers_of b range es) → IfSome range (λ r. unsigned_abs r.den ≤ 10 ^ 18)
range_den b range es h = range_numbers range (All-left IsDeckNumber (option_to_list range) (map (λ e. e.value) es) (All-tail IsDeckNumber b (option_to_list range ++ map (λ e. e.value) es) h))

pub entry_number : (b : Fraction) (range : Option Fraction) (es : List Entry) (i : ℕ) (d : Entry) → i < length es → All IsDeckNumber (numbers_of b range es) → IsDeckNumber (get_or es i d).value
entry_number b range es i d l h =
    let all = All-right IsDeckNumber (option_to_list range) (map (λ e. e.value) es) (All-tail IsDeckNumber b (option_to_list range ++ map (λ e. e.value) es) h) in
    subst IsDeckNumber (get_or-map (λ e. e.value) es i d d.value l) (all i d.value (omega (arith, length-map es (λ e. e.value))))

-- one more number behind those before place i
pub step_is : (b : Fraction) (range : Option Fraction) (es : List Entry) (i : ℕ) (e d : Entry) (found : Option ℕ) → i < length es → e ≡ get_or es i d → IsNarrowMultiplier (numbers_of b range (take i es) ++ e.value ∷ []) found → IsNarrowMultiplier (numbers_of b range (take (i + 1) es)) found
step_is b range es i e d found l same h =
    subst (λ fs. IsNarrowMultiplier fs found) (ap (λ (x : Entry). numbers_of b range (take i es) ++ x.value ∷ []) same ∙ sym (numbers_more b range es i d l)) h

pub taken_positive : (b : Fraction) (range : Option Fraction) (es : List Entry) (i : ℕ) → All IsDeckNumber (numbers_of b range es) → ArePositive (numbers_of b range (take i es))
taken_positive b range es i h = part_positive (numbers_of b range es) (numbers_of b range (take i es)) (map (λ e. e.value) (drop i es)) h (numbers-split b range es i)

pub item_number : (b : Fraction) (range : Option Fraction) (es : List Entry) (i : ℕ) (e d : Entry) → i < length es → All IsDeckNumber (numbers_of b range es) → e ≡ get_or es i d → IsDeckNumber e.value
item_number b range es i e d l h same = subst (λ (x : Entry). IsDeckNumber x.value) (sym same) (entry_number b range es i d l h)
