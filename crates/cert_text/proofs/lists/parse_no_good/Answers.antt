use Rattle.std.proofs.Common.{rules}
use Rattle.cert_text.proofs.Ascents.{choices_are_ascending}
use Rattle.cert_text.proofs.lists.parse_no_good.Goals as goal

pub no_good_from-requires : goal.no_good_from-requires
no_good_from-requires c = search (rules, choices_are_ascending c.args.words.now c.in_ok-choices.choices _ c.in_ok-choices.ensures)
