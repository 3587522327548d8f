-- Which problem the bytes of an input spell, and for which refusal they are the cause, by the definitions of texts alone.
-- `Spells` says which texts spell a problem, and `Fails` which fault is the first of a text.
use Rattle.std.specs.Prelude.{◌<◌, ℕ, List, Result, Ok, Err, length}
use Rattle.front_text.specs.declared.fault.FrontWhy.{FrontWhy}
use Rattle.command.specs.Inputs.{IsTaken}
use Rattle.fronting.specs.declared.refusal.FrontRefusal.{FrontRefusal}
use Rattle.fronting.specs.declared.refusal.FrontRefusal.TheVariants.{ReadFault, TooLong, Problem, NoMemory}

-- with a limit of bytes: there are more, or this fault is the first; a read fault and want of memory have no cause in a text
abbrev pub IsRefusal : (List ℕ → ℕ → FrontWhy → Type 0) → ℕ → List ℕ → FrontRefusal → Type 0
IsRefusal Fails limit bytes ReadFault = ⊥
IsRefusal Fails limit bytes TooLong = limit < length bytes
IsRefusal Fails limit bytes (Problem line why) = IsTaken limit bytes × Fails bytes line why
IsRefusal Fails limit bytes NoMemory = ⊥

-- what is read of a text: its problem, or the refusal
abbrev pub IsRead : {P : Type 0} → (List ℕ → P → Type 0) → (List ℕ → ℕ → FrontWhy → Type 0) → ℕ → List ℕ → Result P FrontRefusal → Type 0
IsRead Spells Fails limit bytes (Ok p) = IsTaken limit bytes × Spells bytes p
IsRead Spells Fails limit bytes (Err refusal) = IsRefusal Fails limit bytes refusal
