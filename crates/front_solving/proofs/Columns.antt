-- How many columns the cases of problems have.
use Rattle.std.proofs.Common.{ℕ, ◌≡◌, ◌≤◌, ◌+◌, ◌∙◌, refl, sym, ap, subst, arith, length}
use Rattle.lpcc_case.specs.Instance.{Instance}
use Rattle.decks.specs.Bounds.{default_column}
use Rattle.front_text.specs.declared.problem.Bilevel.{Bilevel}
use Rattle.front_text.specs.declared.problem.Lcp.{Lcp}
use Rattle.kkt_front.specs.Decks.{bilevel_deck, lcp_deck}
use Rattle.kkt_front.proofs.BilevelMeaning.{sized}
use Rattle.front_case.proofs.BilevelDeck.{columns_length}
use Rattle.front_solving.specs.Solving.{bilevel_case, lcp_case}

-- of a case that is this one
at_least : (made a : Instance) (n m columns : ℕ) → made ≡ a → a.columns ≡ columns → columns ≡ m → n ≤ m → n ≤ made.columns
at_least made a n m columns same is count h = subst (λ (k : ℕ). n ≤ k) (sym (ap (λ (x : Instance). x.columns) same ∙ is ∙ count)) h

pub lcp_columns : (made : Instance) (p : Lcp) → made ≡ lcp_case p → p.size ≤ made.columns
lcp_columns made p same = at_least made (lcp_case p) p.size p.size (length (lcp_deck p 0).columns) same refl (sized (λ j. default_column) p.size) (omega arith)

pub bilevel_columns : (made : Instance) (b : Bilevel) → made ≡ bilevel_case b → b.nx + b.ny ≤ made.columns
bilevel_columns made b same = at_least made (bilevel_case b) (b.nx + b.ny) (b.nx + b.ny + length b.low) (length (bilevel_deck b 0 0).columns) same refl (columns_length b 0) (omega arith)
