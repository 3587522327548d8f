-- What a run does: the answer that it gives, and how it is written. One record serves every command.
use Rattle.std.specs.Prelude.{◌≡◌, ◌⊎◌, ℕ, List, Option, Some}
use Rattle.std.specs.Io.KnownBytes.{Appends}
use Rattle.lp_io.specs.Faults.{Rose}
use Rattle.lp_io.specs.Pieces.{AppendsFront}

-- the bytes are the cause of this answer, and of no other
pub record IsOnly {A : Type 0} (IsCause : List ℕ → A → Type 0) (bytes : List ℕ) (answer : A) : Type 0 where
  pub cause : IsCause bytes answer
  pub only : (other : A) → IsCause bytes other → other ≡ answer

-- An answer over a source with these bytes left, whose count of faults was `before` and is `now`. Two answers are free of
-- the bytes: that reading failed, and that memory ran out.
pub record IsAnswer {A : Type 0} (IsCause : List ℕ → A → Type 0) (read_fault no_memory : A) (left : Option (List ℕ)) (before now : ℕ) (answer : A) : Type 0 where
  -- a read fault is counted
  pub counted : answer ≡ read_fault → Rose before now
  -- where the bytes are told, they are the cause of the answer alone, or it is free
  pub right : (bytes : List ℕ) → left ≡ Some bytes → (answer ≡ read_fault) ⊎ (answer ≡ no_memory) ⊎ IsOnly IsCause bytes answer

-- What the sink took, its count of faults being `before` and then `now`, and the status: the whole text and the status
-- that goes with it, or after a counted write fault a front of the text, and 5.
abbrev pub IsWritten : Option (List ℕ) → Option (List ℕ) → ℕ → ℕ → List ℕ → ℕ → ℕ → Type 0
IsWritten taken_before taken_now before now text meant status =
    ((status ≡ meant) × Appends taken_before taken_now text)
    ⊎ ((status ≡ 5) × Rose before now × AppendsFront taken_before taken_now text)
