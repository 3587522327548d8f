-- Known bytes that move in two pieces, one behind the other.
use Rattle.std.proofs.Common.{ℕ, ◌+◌, ◌-◌, ◌≤◌, ◌<◌, ◌≡◌, arith, List, [], ◌++◌, length, take, drop, length-append, length-drop, Option, subst, sym, ap, take-add, min, take-append-drop}
use Rattle.std.proofs.lemmas.List.{take_rest, drop-drop, drop_all, length-take-le}
use Rattle.std.proofs.KnownBytes.{Appends-trans, Consumes-trans}
use Rattle.std.specs.Io.KnownBytes.{Appends, Consumes}

-- a front of the text, and then a front of `&text[at..]`
pub appends_more : (a b c : Option (List ℕ)) (text : List ℕ) (at count : ℕ) → Appends a b (take at text) → Appends b c (take count (take (length text - at) (drop at text))) → Appends a c (take (at + count) text)
appends_more a b c text at count h k =
    let k' = subst (λ (s : List ℕ). Appends b c (take count s)) (take_rest text at) k in
    subst (λ (s : List ℕ). Appends a c s) (sym (take-add at count text)) (Appends-trans a b c _ _ h k')

-- what was read before, and a piece that goes past the limit
pub reads_past : (a b c : Option (List ℕ)) (taken into : List ℕ) (count limit : ℕ) (P : Type 0) → P → Consumes a b taken → Consumes b c (take count into) → limit - length taken < count → length taken ≤ limit → count ≤ length into → (read : List ℕ) × Consumes a c read × ((P → limit < length read) × (limit < length read → P))
reads_past a b c taken into count limit P p h k past short within =
    let piece = take count into in
    let long : limit < length (taken ++ piece) = omega (arith, length-append taken piece, length-take-le count into within) in
    (taken ++ piece, Consumes-trans a b c taken piece h k, (λ _. long, λ _. p))

-- what was read before, and a piece that stays within the limit
pub reads_within : (a b c : Option (List ℕ)) (taken into : List ℕ) (count limit : ℕ) (P : Type 0) → (P → ⊥) → Consumes a b taken → Consumes b c (take count into) → count ≤ limit - length taken → length taken ≤ limit → count ≤ length into → (read : List ℕ) × Consumes a c read × ((P → limit < length read) × (limit < length read → P))
reads_within a b c taken into count limit P refute h k room short within =
    let piece = take count into in
    let fits : length (taken ++ piece) ≤ limit = omega (arith, length-append taken piece, length-take-le count into within) in
    (taken ++ piece, Consumes-trans a b c taken piece h k, (λ p. absurd (refute p), λ long. absurd (omega arith)))

-- a read that copies the front of what is left, as far as the step and the buffer reach
pub reads_front : (bytes rest into : List ℕ) (place step count : ℕ) → rest ≡ drop place bytes → 1 ≤ step → count ≡ min step (min (length rest) (length into)) → take count into ≡ take count rest → (drop place bytes ≡ take count into ++ drop (place + count) bytes) × (count ≡ 0 → 0 < length into → drop (place + count) bytes ≡ [])
reads_front bytes rest into place step count is moves least front =
    let split : drop place bytes ≡ take count into ++ drop (place + count) bytes =
    rw (front, is, ← drop-drop count place bytes) (sym (take-append-drop count (drop place bytes))) in
    (split, λ none room. drop_all (place + count) bytes (omega (arith, ap length is, length-drop place bytes)))
