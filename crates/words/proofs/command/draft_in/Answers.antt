use Rattle.std.proofs.Common.{◌∙◌, sym, ap, [], map}
use Rattle.std.specs.Prelude.{codes, option_map, unwrap_or}
use Rattle.clap.specs.Words.{found_of}
use Rattle.clap.proofs.WalkLemmas.{raw_values-rows}
use Rattle.words.specs.Commands.{draft_of}
use Rattle.words.proofs.command.draft_in.Goals as goal

pub returns-in-Some : goal.returns-in-Some
returns-in-Some c =
    let read = c.get_strs.ensures ∙ raw_values-rows (found_of c.args.matches.now) (codes "numbers") in
    c.draft_of.ensures ∙ ap (λ o. draft_of c.args.solve (unwrap_or o [])) (sym (ap (option_map (λ s. map (λ v. v.now) s.now)) c.in-Some.is) ∙ read)

pub returns-in-None : goal.returns-in-None
returns-in-None c =
    let read = c.get_strs.ensures ∙ raw_values-rows (found_of c.args.matches.now) (codes "numbers") in
    ap (λ o. draft_of c.args.solve (unwrap_or o [])) (sym (ap (option_map (λ s. map (λ v. v.now) s.now)) c.in-None.is) ∙ read)
