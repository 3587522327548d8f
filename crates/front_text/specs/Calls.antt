-- What calls give: the value or the reason that reading gives, unless memory is short.
use Rattle.std.specs.Prelude.{◌≡◌, ◌<◌, ℕ, true, false, List, [], ◌∷◌, length, Option, Some, None, Result, Ok, Err}
use Rattle.lp_base.specs.Answers.{UnlessShort}
use Rattle.front_text.specs.declared.fault.FrontFault.{FrontFault}
use Rattle.front_text.specs.declared.fault.FrontFault.TheVariants.{NoMemory, At}
use Rattle.front_text.specs.declared.fault.FrontWhy.{FrontWhy}
use Rattle.front_text.specs.declared.lines.Next.{Next}
use Rattle.front_text.specs.declared.lines.Next.TheVariants.{Whole, Cut, Over}
use Rattle.front_text.specs.declared.tokens.Fault.{Fault}
use Rattle.front_text.specs.declared.tokens.Fault.TheVariants.{Memory, Of}
use Rattle.front_text.specs.Lines.{is_cut, lines_in}
use Rattle.front_text.specs.Reading.{Reading}
use Rattle.front_text.specs.Steps.{Found, Left, behind}
use Rattle.front_text.specs.Texts.{found_by}

-- the reason of a fault, none where memory is short
abbrev pub why_of : Fault → Option FrontWhy
why_of (Memory e) = None
why_of (Of why) = Some why

abbrev pub Reads : {X Y : Type 0} → (X → Y) → Result X Fault → Reading Y → Type 0
Reads view (Ok x) read = read ≡ Ok (view x)
Reads view (Err fault) read = UnlessShort why_of (λ why. read ≡ Err why) fault

abbrev pub Finds : {X Y : Type 0} → (X → Y) → Result X FrontFault → Found Y → Type 0
Finds view (Ok x) found = found ≡ Ok (view x)
Finds view (Err fault) found = UnlessShort found_by (λ why. found ≡ Err why) fault

-- what comes next in a text, and what is left of the text behind it
abbrev pub NextIn : Next → List ℕ → List ℕ → Type 0
NextIn (Whole line) text rest = (lines_in text ≡ line.now ∷ lines_in rest) × (is_cut rest ≡ is_cut text) × (length rest < length text)
NextIn Cut text rest = (lines_in text ≡ []) × (is_cut text ≡ true) × (rest ≡ text)
NextIn Over text rest = (lines_in text ≡ []) × (is_cut text ≡ false) × (rest ≡ text)

abbrev pub NextIs : Next → Left → Left → Type 0
NextIs (Whole line) old new = (old.lines ≡ line.now ∷ new.lines) × (new ≡ behind old new.lines)
NextIs Cut old new = (old.lines ≡ []) × (old.cut ≡ true) × (new ≡ old)
NextIs Over old new = (old.lines ≡ []) × (old.cut ≡ false) × (new ≡ old)

abbrev pub placed_fault : ℕ → Fault → FrontFault
placed_fault line (Memory e) = NoMemory e
placed_fault line (Of why) = At line why

abbrev pub placed : {X : Type 0} → ℕ → Result X Fault → Result X FrontFault
placed line (Ok x) = Ok x
placed line (Err fault) = Err (placed_fault line fault)
