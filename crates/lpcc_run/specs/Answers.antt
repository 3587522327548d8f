-- What the program does, whatever the words.
use Rattle.std.specs.Prelude.{◌≡◌, ◌⊎◌, ℕ, List, [], ◌∷◌, ◌++◌, Option, codes}
use Rattle.command.specs.Answers.{IsWritten}
use Rattle.generating.specs.Generating.{IsOutOfMemory}
use Rattle.play.specs.declared.event.Options.{Options}
use Rattle.words.specs.declared.command.Command.{Command}
use Rattle.words.specs.declared.command.Settings.{Settings}
use Rattle.lpcc_run.specs.Commands.{IsCommand, IsNoCommand, Runs}

-- what is written where the words are no command
abbrev pub words_refused : List ℕ
words_refused = codes "words: not a command of lpcc" ++ 10 ∷ []

-- What the program does on these words, those behind its name, over a source with these bytes left and a sink that took
-- these, with the counts of faults of both before and behind it. Want of memory is free.
pub record Answers (options_of : Settings → Options) (words : List (List ℕ)) (left : Option (List ℕ)) (rb rn : ℕ) (tb tn : Option (List ℕ)) (wb wn status : ℕ) : Type 0 where
  -- the words are refused exactly where they are no command
  pub refused : IsNoCommand words → IsWritten tb tn wb wn words_refused 2 status ⊎ IsOutOfMemory tb tn wb wn status
  pub refused_only : status ≡ 2 → IsNoCommand words
  -- to a command the right answer is written, and status 0 says what is so
  pub answered : (c : Command) → IsCommand words c → Runs options_of c left rb rn tb tn wb wn status

-- what the program does where the words that it was called with cannot be had, for want of memory or since one is no text
abbrev pub IsUnread : Option (List ℕ) → Option (List ℕ) → ℕ → ℕ → ℕ → Type 0
IsUnread tb tn wb wn status = IsWritten tb tn wb wn words_refused 2 status ⊎ IsOutOfMemory tb tn wb wn status
