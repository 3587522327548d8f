-- What the readers promise, said of the bytes of the whole input.
use Rattle.std.proofs.Common.{ℕ, ◌≡◌, ◌∙◌, ◌≤◌, ◌+◌, refl, ap, subst, arith, List, [], ◌∷◌, ◌++◌, map, drop, take, length, ◌-◌, ◌⊎◌, inl, inr, length-drop}
use Rattle.std.proofs.lemmas.List.{length-append, length-map, take_all}
use Rattle.cert_text.specs.Spelling.{line_bytes, text_of}
use Rattle.edit_text.specs.Spelling.{command_words, end_words, script_words, spelling}
use Rattle.edit_text.specs.declared.script.Command.{Command}
use Rattle.lpcc_case.specs.Instance.{Instance}
use Rattle.command.specs.Inputs.{IsFaulty, IsTaken, SpellsCase}
use Rattle.command.specs.declared.extent.Extent.TheVariants.{Prefix}
use Rattle.command.specs.declared.reading.TheConstants.{MOST_DECK_BYTES}
use Rattle.command.specs.declared.refusal.Refusal as refusals
use Rattle.command.specs.declared.refusal.Refusal.TheVariants as refusal
use Rattle.edit_text.specs.Texts.{FailsAs, Spells}
use Rattle.edit_text.specs.declared.fault.ScriptFault.{ScriptFault}
use Rattle.edit_text.specs.declared.fault.ScriptFault.TheVariants.{NoMemory, At}
use Rattle.edit_text.specs.declared.script.Script as scripts
use Rattle.editing.specs.declared.refusal.EditRefusal.{EditRefusal}
use Rattle.editing.specs.declared.refusal.EditRefusal.TheVariants.{Input, Script}
use Rattle.editing.specs.Inputs.{IsBehind, IsEditRefusal, KeepsRules, SpellsEdits}
use Rattle.editing.specs.Refusals.{of_script_fault}

pub of_failed : (rest : List ℕ) (fault : ScriptFault) → FailsAs fault rest → (of_script_fault fault ≡ Input refusal.NoMemory) ⊎ IsBehind rest (of_script_fault fault)
of_failed rest (NoMemory error) fails = inl refl
of_failed rest (At line why) fails = inr fails

-- the code's `&input[place..]`
rest_is : (bytes : List ℕ) (place : ℕ) → take (length bytes - place) (drop place bytes) ≡ drop place bytes
rest_is bytes place = take_all (length bytes - place) (drop place bytes) (omega (arith, length-drop place bytes))

-- the bytes begin with a deck that has the case, and behind it stands no script
to_bytes : (bytes : List ℕ) (a : Instance) (rest : List ℕ) (r : EditRefusal) → IsTaken MOST_DECK_BYTES bytes → SpellsCase Prefix bytes a rest → IsBehind rest r → IsEditRefusal MOST_DECK_BYTES bytes r
to_bytes bytes a rest (Input r) taken deck h = absurd h
to_bytes bytes a rest (Script line why) taken deck h = (taken, a, rest, deck, h)

pub refused_behind : (bytes : List ℕ) (place : ℕ) (a : Instance) (r : EditRefusal) → IsTaken MOST_DECK_BYTES bytes → SpellsCase Prefix bytes a (drop place bytes)
    → (r ≡ Input refusal.NoMemory) ⊎ IsBehind (take (length bytes - place) (drop place bytes)) r → (r ≡ Input refusal.NoMemory) ⊎ IsEditRefusal MOST_DECK_BYTES bytes r
refused_behind bytes place a r taken deck (inl short) = inl short
refused_behind bytes place a r taken deck (inr h) = inr (to_bytes bytes a (drop place bytes) r taken deck (subst (λ (rest : List ℕ). IsBehind rest r) (rest_is bytes place) h))

pub refused_deck : (bytes : List ℕ) (r : refusals.Refusal) → IsTaken MOST_DECK_BYTES bytes → (r ≡ refusal.NoMemory) ⊎ IsFaulty Prefix bytes r → (Input r ≡ Input refusal.NoMemory) ⊎ IsEditRefusal MOST_DECK_BYTES bytes (Input r)
refused_deck bytes r taken (inl short) = inl (ap (λ x. Input x) short)
refused_deck bytes r taken (inr h) = inr (inr (taken, h))

-- ---- a script has no more commands than bytes

few_lines : (lines : List (List ℕ)) → length lines ≤ length (text_of lines)
few_lines [] = omega arith
few_lines (line ∷ lines) = let below = few_lines lines in omega (arith, below, length-append (line ++ 10 ∷ []) (text_of lines), length-append line (10 ∷ []))

few_commands : (commands : List Command) → length commands ≤ length (spelling commands)
few_commands commands =
    let lines = map line_bytes (script_words commands) in
    let few = few_lines lines in
    let words : length lines ≡ length commands + 1 = length-map (script_words commands) line_bytes ∙ length-append (map command_words commands) (end_words ∷ []) ∙ ap (λ (n : ℕ). n + 1) (length-map commands command_words) in
    omega (arith, few, words)

pub rules_kept : (bytes : List ℕ) (place : ℕ) (script : scripts.Script) → length bytes ≤ MOST_DECK_BYTES → Spells (take (length bytes - place) (drop place bytes)) script → KeepsRules script
rules_kept bytes place script short spelled =
    let few = few_commands script.commands in
    let size = ap length spelled.text_is in
    let rest = ap length (rest_is bytes place) in
    record { rules = spelled.rules; few = omega (arith, few, size, rest, length-drop place bytes, short) }

pub spelled_edits : (bytes : List ℕ) (place : ℕ) (a : Instance) (script : scripts.Script) → SpellsCase Prefix bytes a (drop place bytes) → Spells (take (length bytes - place) (drop place bytes)) script → SpellsEdits bytes a script
spelled_edits bytes place a script deck spelled = record { rest = drop place bytes; deck = deck; edits = subst (λ (rest : List ℕ). Spells rest script) (rest_is bytes place) spelled }
