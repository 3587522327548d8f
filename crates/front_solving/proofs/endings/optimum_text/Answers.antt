use Rattle.std.proofs.Common.{◌++◌}
use Rattle.std.specs.Prelude.{codes, string_bytes}
use Rattle.lpcc_case.specs.declared.verdict.Verdict.TheVariants as verdict
use Rattle.report.specs.Endings.{verdict_line}
use Rattle.cert_check.specs.Acceptance.{numbers_of}
use Rattle.front_solving.specs.Texts.{first_numbers, optimum_text}
use Rattle.front_solving.proofs.Optima.{behind_front, given_again, line_of, with_value}
use Rattle.front_solving.proofs.endings.optimum_text.Goals as goal

pub optimum_of-requires-clause-given : goal.optimum_of-requires-clause-given
optimum_of-requires-clause-given c = given_again c.args.case.now c.args.point.now c.args.z c.requires.room c.requires.given

pub returns : goal.returns
returns c =
    let d = c.args.point.now.d in
    let value = c.in_ok-best.best.value in
    let numbers = first_numbers c.args.case.now c.args.point.now c.args.variables in
    with_value c.optimum_lines.result string_bytes c.args.case.now c.args.point.now c.args.z value (λ v. optimum_text v d numbers) c.requires.room c.in_ok-best.ensures.value
    (line_of c.optimum_lines.result string_bytes (λ bytes. verdict_line (verdict.Optimal value) ++ (codes "\n* point " ++ bytes ++ codes "\n")) (string_bytes c.in_ok-numbers.numbers) d c.in_ok-best.best.point.d c.args.variables (numbers_of c.args.case.now.columns c.args.point.now.terms) c.in_ok-best.best.point.x
    c.in_ok-numbers.ensures c.in_ok-best.ensures.denominator c.in_ok-best.ensures.numbers
    (behind_front c.optimum_lines.result string_bytes (verdict_line (verdict.Optimal value)) (string_bytes c.in_ok-behind.behind) (codes "\n* point " ++ string_bytes c.in_ok-numbers.numbers ++ codes "\n") c.in_ok-behind.ensures c.optimum_lines.ensures))
