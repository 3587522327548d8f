use Rattle.std.proofs.Common.{◌∙◌, sym, false}
use Rattle.std.proofs.lemmas.List.{get_or_read}
use Rattle.trimming.proofs.MarkLaws.{sound_more}
use Rattle.trimming.proofs.reach.close_at.Goals as goal

pub returns-then-index-clause-sound : goal.returns-then-index-clause-sound
returns-then-index-clause-sound c =
    sound_more c.args.log.now c.args.last c.args.at c.args.marks.now.items c.mark_hints.new.marks.items c.hints_at.result.now c.requires.sound (sym (get_or_read c.args.marks.now.items c.args.at c.index.result.now c.requires.room c.index.ensures false) ∙ c.if-index.true) c.hints_at.ensures c.mark_hints.ensures.only
