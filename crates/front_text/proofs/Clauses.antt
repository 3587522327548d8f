-- The clauses of the readers.
use Rattle.std.proofs.Common.{ℕ, List, Result, Ok, Err, sym, ◌∙◌}
use Rattle.std.specs.Prelude.{IfOk}
use Rattle.lp_base.specs.Answers.{Gives}
use Rattle.cert_text.proofs.Results.{apart, same_ok}
use Rattle.front_text.specs.declared.fault.FrontFault.{FrontFault}
use Rattle.front_text.specs.declared.fault.FrontFault.TheVariants.{NoMemory, At}
use Rattle.front_text.specs.declared.problem.Bilevel.{Bilevel}
use Rattle.front_text.specs.declared.problem.Lcp.{Lcp}
use Rattle.front_text.specs.Calls.{Finds}
use Rattle.front_text.specs.Steps.{all_lines, bilevel_at, lcp_at}
use Rattle.front_text.specs.Texts.{SpellsBilevel, SpellsLcp, found_by}
use Rattle.front_text.proofs.Whole.{bilevel_spelled_is_read, lcp_spelled_is_read}
use Rattle.front_text.proofs.Texts.{bilevel_read_is_spelled, lcp_read_is_spelled}

pub given_lcp : (r : Result Lcp FrontFault) (text : List ℕ) → Finds (λ p. p) r (lcp_at (all_lines text)) → IfOk r (λ p. SpellsLcp text p)
given_lcp (Ok p) text h = lcp_read_is_spelled text p h
given_lcp (Err fault) text h = tt

pub given_bilevel : (r : Result Bilevel FrontFault) (text : List ℕ) → Finds (λ p. p) r (bilevel_at (all_lines text)) → IfOk r (λ p. SpellsBilevel text p)
given_bilevel (Ok p) text h = bilevel_read_is_spelled text p h
given_bilevel (Err fault) text h = tt

pub given_only_lcp : (r : Result Lcp FrontFault) (text : List ℕ) → Finds (λ p. p) r (lcp_at (all_lines text)) → (p : Lcp) → SpellsLcp text p → Gives found_by p r
given_only_lcp (Ok q) text h p s = same_ok q p (sym h ∙ lcp_spelled_is_read text p s)
given_only_lcp (Err (NoMemory e)) text h p s = tt
given_only_lcp (Err (At line why)) text h p s = apart p (line, why) (sym (lcp_spelled_is_read text p s) ∙ h)

pub given_only_bilevel : (r : Result Bilevel FrontFault) (text : List ℕ) → Finds (λ p. p) r (bilevel_at (all_lines text)) → (p : Bilevel) → SpellsBilevel text p → Gives found_by p r
given_only_bilevel (Ok q) text h p s = same_ok q p (sym h ∙ bilevel_spelled_is_read text p s)
given_only_bilevel (Err (NoMemory e)) text h p s = tt
given_only_bilevel (Err (At line why)) text h p s = apart p (line, why) (sym (bilevel_spelled_is_read text p s) ∙ h)
