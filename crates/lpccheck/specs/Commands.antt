-- The words behind the program's name: there are to be none.
use Rattle.std.specs.Prelude.{◌≡◌, ◌⊎◌, ℕ, List, [], ◌∷◌, ◌++◌, Option, Some, codes}
use Rattle.command.specs.Answers.{IsWritten}
use Rattle.command.specs.Refusals as refusals
use Rattle.command.specs.declared.refusal.Refusal.TheVariants.{NoMemory}
use Rattle.verifier.specs.Runs.{IsChecked, SaysYes}

-- what is written where there are words
abbrev pub words_refused : List ℕ
words_refused = codes "words: lpccheck takes no words" ++ 10 ∷ []

-- What the program does on these words, those behind its name, over a source with these bytes left and a sink that took
-- these, with the counts of faults of both before and behind it.
pub record Answers {W : Type 0} (words : List W) (left : Option (List ℕ)) (rb rn : ℕ) (tb tn : Option (List ℕ)) (wb wn status : ℕ) : Type 0 where
  -- words are refused
  pub refused : (words ≡ [] → ⊥) → IsWritten tb tn wb wn words_refused 2 status
  pub refused_only : status ≡ 2 → words ≡ [] → ⊥
  -- without words one answer is right, and it is written
  pub answered : words ≡ [] → IsChecked left rb rn tb tn wb wn status
  -- status 0 is `yes`: a certificate is accepted with a verdict, which is true of the deck and is written
  pub yes : status ≡ 0 → (bytes : List ℕ) → left ≡ Some bytes → SaysYes bytes tb tn

-- what the program does where the words that it was called with cannot be had, for want of memory or since one is no text
abbrev pub IsUnread : Option (List ℕ) → Option (List ℕ) → ℕ → ℕ → ℕ → Type 0
IsUnread tb tn wb wn status =
    IsWritten tb tn wb wn words_refused 2 status
    ⊎ IsWritten tb tn wb wn (refusals.text_of NoMemory) (refusals.status_of NoMemory) status
