-- Which problem a text spells, and which fault is its first.
use Rattle.std.specs.Prelude.{◌≡◌, ℕ, List, Option, Some, None, Err}
use Rattle.front_text.specs.declared.fault.FrontFault.{FrontFault}
use Rattle.front_text.specs.declared.fault.FrontFault.TheVariants.{NoMemory, At}
use Rattle.front_text.specs.declared.fault.FrontWhy.{FrontWhy}
use Rattle.front_text.specs.declared.problem.Bilevel.{Bilevel}
use Rattle.front_text.specs.declared.problem.Lcp.{Lcp}
use Rattle.front_text.specs.Problems.{IsBilevel, IsLcp}
use Rattle.front_text.specs.Spelling.{bilevel_words, lcp_words, spelling}
use Rattle.front_text.specs.Steps.{all_lines, bilevel_at, lcp_at}

-- the text is the spelling of the problem, and the problem keeps its rules
pub record SpellsLcp (text : List ℕ) (p : Lcp) : Type 0 where
  pub rules : IsLcp p
  pub text_is : text ≡ spelling (lcp_words p)

pub record SpellsBilevel (text : List ℕ) (p : Bilevel) : Type 0 where
  pub rules : IsBilevel p
  pub text_is : text ≡ spelling (bilevel_words p)

-- the first fault of a text, line by line from the front, with its line, from 1
abbrev pub FailsAsLcp : List ℕ → ℕ → FrontWhy → Type 0
FailsAsLcp text line why = lcp_at (all_lines text) ≡ Err (line, why)

abbrev pub FailsAsBilevel : List ℕ → ℕ → FrontWhy → Type 0
FailsAsBilevel text line why = bilevel_at (all_lines text) ≡ Err (line, why)

-- the line and the fault that a call names, none where memory is short
abbrev pub found_by : FrontFault → Option (ℕ × FrontWhy)
found_by (NoMemory e) = None
found_by (At line why) = Some (line, why)
