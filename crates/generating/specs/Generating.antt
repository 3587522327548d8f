-- What is said of a generated deck.
use Rattle.std.specs.Prelude.{◌⊎◌, ℕ, true, List, Option, Some}
use Rattle.command.specs.Answers.{IsWritten}
use Rattle.command.specs.Refusals as refusals
use Rattle.command.specs.Runs.{IsRun}
use Rattle.command.specs.declared.refusal.Refusal.TheVariants.{NoMemory}
use Rattle.deck_gen.specs.Generator.{IsInRange, deck_text}
use Rattle.deck_gen.specs.declared.sizes.Sizes.{Sizes}
use Rattle.play.specs.declared.event.Options.{Options}
use Rattle.report.specs.declared.style.Style.TheVariants.{Brief}
use Rattle.solving.specs.Solving.{Says}

abbrev pub IsDrafted : Sizes → Type 0
IsDrafted z = IsInRange z.columns z.rows z.pairs

-- memory ran out
abbrev pub IsOutOfMemory : Option (List ℕ) → Option (List ℕ) → ℕ → ℕ → ℕ → Type 0
IsOutOfMemory taken_before taken_now before now status =
    IsWritten taken_before taken_now before now (refusals.text_of NoMemory) (refusals.status_of NoMemory) status

-- the text of the deck was written
abbrev pub IsGenerated : Sizes → Option (List ℕ) → Option (List ℕ) → ℕ → ℕ → ℕ → Type 0
IsGenerated z taken_before taken_now before now status =
    IsWritten taken_before taken_now before now (deck_text z) 0 status ⊎ IsOutOfMemory taken_before taken_now before now status

-- a brief run of the solver over a source with this text alone
abbrev pub IsGeneratedAndSolved : Options → Sizes → Option (List ℕ) → Option (List ℕ) → ℕ → ℕ → ℕ → Type 0
IsGeneratedAndSolved o z taken_before taken_now before now status =
    ((faults : ℕ) × (faults_now : ℕ) × IsRun (Says o Brief) (Some (deck_text z)) faults faults_now taken_before taken_now before now status)
    ⊎ IsOutOfMemory taken_before taken_now before now status
