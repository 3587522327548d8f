-- What the decks mean that printed texts spell.
use Rattle.std.proofs.Common.{◌≡◌, ℕ, length, subst}
use Rattle.std.specs.Prelude.{◌↔◌}
use Rattle.deck_case.proofs.Feasibility.{feasible_law}
use Rattle.deck_case.specs.DeckCases.{HasCase, case_of_deck}
use Rattle.decks.proofs.Relations.{one_deck}
use Rattle.decks.specs.Bounds.{default_column}
use Rattle.decks.specs.Texts.{Spells}
use Rattle.decks.specs.declared.deck.Deck.{Deck}
use Rattle.front_case.proofs.BilevelDeck as bilevel
use Rattle.front_case.proofs.LcpDeck as lcp
use Rattle.front_deck.specs.Meanings.{IsDeckOfBilevel, IsDeckOfLcp}
use Rattle.front_deck.proofs.BilevelPrinted as printed_bilevel
use Rattle.front_deck.proofs.Costs.{bilevel_value, lcp_value}
use Rattle.front_deck.proofs.LcpPrinted as printed_lcp
use Rattle.front_text.specs.Problems.{IsBilevel, IsLcp}
use Rattle.front_text.specs.declared.problem.Bilevel.{Bilevel}
use Rattle.front_text.specs.declared.problem.Lcp.{Lcp}
use Rattle.kkt_front.proofs.BilevelMeaning.{met_has_multipliers, sized, with_multipliers_is_met}
use Rattle.kkt_front.proofs.LeastFollower.{least_follower}
use Rattle.kkt_front.proofs.LcpMeaning.{met_is_solution, solution_is_met}
use Rattle.kkt_front.specs.DeckTexts.{bilevel_text, lcp_text}
use Rattle.kkt_front.specs.Decks.{bilevel_deck, lcp_deck}
use Rattle.kkt_front.specs.Solutions.{IsSolution, IsWithMultipliers}
use Rattle.lpcc_case.specs.Points.{IsFeasible, Point}

-- ---- a complementarity problem

abbrev HasItsCase : Deck → Type 0
HasItsCase d = HasCase d (case_of_deck d)

abbrev MeansLcp : Lcp → Deck → Type 0
MeansLcp p d = (z : Point (length d.columns)) → IsFeasible (case_of_deck d) z ↔ IsSolution p z

lcp_is : (p : Lcp) (d : Deck) (place : ℕ) → IsLcp p → Spells (lcp_text p) d place → (end : ℕ) × (lcp_deck p end ≡ d)
lcp_is p d place h s =
    let mine = printed_lcp.spelled p h in
    (mine.0, (one_deck (lcp_text p) (lcp_deck p mine.0) d (length (lcp_text p)) place mine.1 s).0)

lcp_means : (p : Lcp) (end : ℕ) → IsLcp p → MeansLcp p (lcp_deck p end)
lcp_means p end h z =
    let law = feasible_law (lcp_deck p end) z (lcp.is_deck p end h) in
    (λ f. met_is_solution p end z h (law.0 f), λ s. law.1 (solution_is_met p end z h s))

pub lcp_case : (p : Lcp) (d : Deck) (place : ℕ) → IsLcp p → Spells (lcp_text p) d place → HasCase d (case_of_deck d)
lcp_case p d place h s = let same = lcp_is p d place h s in subst HasItsCase same.1 (lcp.has_case p same.0 h)

pub lcp_points : (p : Lcp) (d : Deck) (place : ℕ) (z : Point (length d.columns)) → IsLcp p → Spells (lcp_text p) d place → IsFeasible (case_of_deck d) z ↔ IsSolution p z
lcp_points p d place z h s = let same = lcp_is p d place h s in subst (MeansLcp p) same.1 (lcp_means p same.0 h) z

pub deck_of_lcp : (p : Lcp) → IsLcp p → IsDeckOfLcp (lcp_text p) p
deck_of_lcp p h =
    let mine = printed_lcp.spelled p h in
    record { deck = lcp_deck p mine.0; spelled = mine.1; columns = sized (λ j. default_column) p.size; has_case = lcp.has_case p mine.0 h; points = lcp_means p mine.0 h; value = lcp_value p mine.0 h }

-- ---- a bilevel problem

abbrev MeansBilevel : Bilevel → Deck → Type 0
MeansBilevel b d = (p : Point (length d.columns)) → IsFeasible (case_of_deck d) p ↔ IsWithMultipliers b p

bilevel_is : (b : Bilevel) (d : Deck) (place : ℕ) → IsBilevel b → Spells (bilevel_text b) d place → (bounds : ℕ) × (end : ℕ) × (bilevel_deck b bounds end ≡ d)
bilevel_is b d place h s =
    let mine = printed_bilevel.spelled b h in
    (mine.0, mine.1, (one_deck (bilevel_text b) (bilevel_deck b mine.0 mine.1) d (length (bilevel_text b)) place mine.2 s).0)

bilevel_means : (b : Bilevel) (bounds end : ℕ) → IsBilevel b → MeansBilevel b (bilevel_deck b bounds end)
bilevel_means b bounds end h p =
    let law = feasible_law (bilevel_deck b bounds end) p (bilevel.is_deck b bounds end h) in
    (λ f. met_has_multipliers b bounds end p h (law.0 f), λ s. law.1 (with_multipliers_is_met b bounds end p h s))

pub bilevel_case : (b : Bilevel) (d : Deck) (place : ℕ) → IsBilevel b → Spells (bilevel_text b) d place → HasCase d (case_of_deck d)
bilevel_case b d place h s = let same = bilevel_is b d place h s in subst HasItsCase same.2 (bilevel.has_case b same.0 same.1 h)

pub bilevel_points : (b : Bilevel) (d : Deck) (place : ℕ) (p : Point (length d.columns)) → IsBilevel b → Spells (bilevel_text b) d place → IsFeasible (case_of_deck d) p ↔ IsWithMultipliers b p
bilevel_points b d place p h s = let same = bilevel_is b d place h s in subst (MeansBilevel b) same.2 (bilevel_means b same.0 same.1 h) p

pub deck_of_bilevel : (b : Bilevel) → IsBilevel b → IsDeckOfBilevel (bilevel_text b) b
deck_of_bilevel b h =
    let mine = printed_bilevel.spelled b h in
    let means = bilevel_means b mine.0 mine.1 h in
    record {
      deck = bilevel_deck b mine.0 mine.1;
      spelled = mine.2;
      columns = bilevel.columns_length b mine.0;
      has_case = bilevel.has_case b mine.0 mine.1 h;
      points = means;
      value = bilevel_value b mine.0 mine.1 h;
      least = λ p feasible. least_follower b p h ((means p).0 feasible);
    }
