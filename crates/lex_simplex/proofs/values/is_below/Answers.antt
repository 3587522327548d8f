use Rattle.std.proofs.Common.{◌≡◌, ◌∙◌, sym, pos}
use Rattle.std.proofs.lemmas.Bool.{both_ways}
use Rattle.dict.specs.Dictionaries.{row_at}
use Rattle.lex_simplex.proofs.Belows.{below_by_constant, first_eps_at, is_below_first, not_below_alone}
use Rattle.lex_simplex.proofs.Scans.{zero_bits}
use Rattle.lex_simplex.proofs.values.is_below.Goals as goal

pub returns-then-constant-ne0 : goal.returns-then-constant-ne0
returns-then-constant-ne0 c = below_by_constant c.args.case.now c.args.tight.now c.args.dict.now c.args.row c.constant-constant.result c.constant-constant.ensures.value c.constant-constant.ensures.narrow c.if-constant-ne0.true

pub returns-in-None : goal.returns-in-None
returns-in-None c =
    let none : (row_at c.args.dict.now.rows c.args.row).constant ≡ pos 0 = sym c.constant-constant.ensures.value ∙ zero_bits c.constant-constant.result c.constant-constant.ensures.narrow c.if-constant-ne0.false in
    (λ t. absurd (cc), λ below. absurd (not_below_alone c.args.case.now c.args.tight.now c.args.dict.now c.args.row c.args.k c.requires.sized c.requires.row c.requires.form c.requires.free none c.in-None.ensures.none below))

pub returns-then-names_before : goal.returns-then-names_before
returns-then-names_before c =
    let none : (row_at c.args.dict.now.rows c.args.row).constant ≡ pos 0 = sym c.constant-constant.ensures.value ∙ zero_bits c.constant-constant.result c.constant-constant.ensures.narrow c.if-constant-ne0.false in
    let first = first_eps_at c.args.case.now c.args.tight.now c.args.dict.now c.args.row c.in-Some.place c.in-Some.ensures.some in
    let both = is_below_first c.args.case.now c.args.tight.now c.args.dict.now c.args.row c.args.k c.in-Some.place c.requires.sized c.requires.row c.requires.form c.requires.free none c.in-Some.ensures.some in
    let before = (c.names_before.ensures first.constraint first.form).0 c.if-names_before.true in
    (λ t. both.0 before (c.is_positive.ensures.0 t), λ below. c.is_positive.ensures.1 (both.1 below).1)

pub returns-else-names_before : goal.returns-else-names_before
returns-else-names_before c =
    let none : (row_at c.args.dict.now.rows c.args.row).constant ≡ pos 0 = sym c.constant-constant.ensures.value ∙ zero_bits c.constant-constant.result c.constant-constant.ensures.narrow c.if-constant-ne0.false in
    let first = first_eps_at c.args.case.now c.args.tight.now c.args.dict.now c.args.row c.in-Some.place c.in-Some.ensures.some in
    let both = is_below_first c.args.case.now c.args.tight.now c.args.dict.now c.args.row c.args.k c.in-Some.place c.requires.sized c.requires.row c.requires.form c.requires.free none c.in-Some.ensures.some in
    (λ t. absurd (cc), λ below. absurd (both_ways c.names_before.result c.if-names_before.false ((c.names_before.ensures first.constraint first.form).1 (both.1 below).0)))
