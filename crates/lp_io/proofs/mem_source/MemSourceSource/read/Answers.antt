use Rattle.std.proofs.Common.{ap, ◌∙◌, drop}
use Rattle.std.proofs.lemmas.List.{take_rest}
use Rattle.lp_io.proofs.Moves.{reads_front}
use Rattle.lp_io.proofs.mem_source.MemSourceSource.read.Goals as goal

pub returns-clause-taken : goal.returns-clause-taken
returns-clause-taken c =
    let place = c.args.self.now.place in
    reads_front _ _ c.copy_front-count.new.into place _ c.copy_front-count.result (take_rest c.deref-2.result.now place ∙ ap (drop place) c.deref-2.ensures.value) c.args.self.now.moves c.copy_front-count.ensures.count c.copy_front-count.ensures.front
