use Rattle.std.proofs.Common.{◌≡◌, ◌∙◌, ◌++◌, ◌∷◌, [], ap, rules, subst, to_z, of_z, w64}
use Rattle.std.specs.Prelude.{FitsSigned, unsigned_abs}
use Rattle.lp_base.proofs.Machine.{again_64}
use Rattle.cert_parts.proofs.TermLaws.{terms_added, terms_left}
use Rattle.cert_parts.proofs.points.add_term.Goals as goal

pub returns-then-is_zero : goal.returns-then-is_zero
returns-then-is_zero c =
    let fits : FitsSigned w64 c.number_at-number.result = search rules in
    let none : unsigned_abs c.number_at-number.result ≡ 0 = subst (λ y. unsigned_abs y ≡ 0) (again_64 c.number_at-number.result fits) (c.is_zero.ensures.zero c.if-is_zero.true) in
    terms_left c.args.numbers.now c.args.at c.number_at-number.result c.args.made.now c.requires.within c.number_at-number.ensures none c.requires.made

pub returns : goal.returns
returns c =
    let fits : FitsSigned w64 c.number_at-number.result = search rules in
    let read : to_z w64 (of_z w64 c.number_at-number.result) ≡ c.number_at-number.result = again_64 c.number_at-number.result fits in
    let some : unsigned_abs c.number_at-number.result ≡ 0 → ⊥ = λ e. c.is_zero.ensures.other c.if-is_zero.false (ap unsigned_abs read ∙ e) in
    let added : c.push.new.self ≡ c.args.made.now ++ (c.args.at, c.number_at-number.result) ∷ [] = cc (c.in_ok-push.ensures.ok, read) in
    terms_added c.args.numbers.now c.args.at c.number_at-number.result c.args.made.now c.push.new.self c.requires.within c.number_at-number.ensures some c.requires.made added
