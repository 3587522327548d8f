use Rattle.tree_certs.proofs.Resolutions.{resolvent_more}
use Rattle.tree_certs.proofs.resolving.add_choice.Goals as goal

pub returns : goal.returns
returns c = resolvent_more c.push_if.result c.args.path.now c.args.u.now c.args.v.now c.args.at c.choice_at-choice.result c.is_in_either-is_kept.result c.args.made.now.items c.push_if.new.made.items c.requires.within (c.choice_at-choice.ensures c.choice_at-choice.result) c.is_in_either-is_kept.ensures c.requires.so_far c.push_if.ensures
