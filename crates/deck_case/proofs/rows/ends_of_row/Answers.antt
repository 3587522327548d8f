use Rattle.std.proofs.Common.{◌∙◌, ap, subst, sym, Option, rules, FitsSigned}
use mir.Syntax.{w64}
use Rattle.lp_base.proofs.Machine.{again_64}
use Rattle.std.specs.Prelude.{IfSome}
use Rattle.lp_nums.specs.Fractions.{Fraction}
use Rattle.deck_case.specs.Sides.{reaches_down, sides}
use Rattle.deck_case.specs.Wide.{is_wide}
use Rattle.deck_case.specs.Multipliers.{times}
use Rattle.deck_case.specs.Steps.{AreEnds, IsClearedBy}
use Rattle.deck_case.proofs.SideSteps.{found_ends, with_range_found}
use Rattle.deck_case.proofs.TermSteps.{narrow_some}
use Rattle.deck_case.proofs.rows.ends_of_row.Goals as goal

pub returns-in-Some : goal.returns-in-Some
returns-in-Some c =
    let m = c.args.multiplier in
    let row = c.args.row.now in
    let near = narrow_some (times m row.rhs) c.in_ok-near.near (sym c.in_ok-near.ensures) in
    let range : IsClearedBy m c.in-Some.range = subst (λ (o : Option Fraction). IfSome o (IsClearedBy m)) c.in-Some.is c.requires.range in
    let fits : FitsSigned w64 c.in_ok-near.near = search rules in
    let found_at = c.ends_with_range.ensures ∙ ap (λ z. found_ends (reaches_down row.letter c.in-Some.range) z (times m c.in-Some.range)) (again_64 c.in_ok-near.near fits) in
    let found = with_range_found m row.letter row.rhs c.in-Some.range c.in_ok-near.near c.ends_with_range.result c.requires.letter c.requires.clears range near.0 (ap is_wide near.0 ∙ near.1) found_at in
    subst (λ (o : Option Fraction). AreEnds m (sides row.letter row.rhs o) c.ends_with_range.result) (sym c.in-Some.is) found
