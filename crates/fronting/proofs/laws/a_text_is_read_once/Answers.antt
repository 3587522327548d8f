use Rattle.front_text.specs.Steps.{all_lines, bilevel_at, lcp_at}
use Rattle.front_text.specs.Texts.{SpellsBilevel, SpellsLcp}
use Rattle.front_text.proofs.Whole.{bilevel_spelled_is_read, lcp_spelled_is_read}
use Rattle.fronting.proofs.ReadOnce.{read_once}
use Rattle.fronting.proofs.laws.a_text_is_read_once.Goals as goal

pub returns-clause-lcp : goal.returns-clause-lcp
returns-clause-lcp c = read_once SpellsLcp (λ text. lcp_at (all_lines text)) lcp_spelled_is_read

pub returns-clause-bilevel : goal.returns-clause-bilevel
returns-clause-bilevel c = read_once SpellsBilevel (λ text. bilevel_at (all_lines text)) bilevel_spelled_is_read
