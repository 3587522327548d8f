use Rattle.std.proofs.Common.{◌∙◌}
use Rattle.cert_write.proofs.Rounds.{given_back}
use Rattle.cert_write.proofs.round.write_and_read.Goals as goal

pub returns : goal.returns
returns c =
    given_back c.args.cert.now c.deref.result.now c.read_cert.result c.requires.form c.requires.room (c.deref.ensures.value ∙ c.in_ok-text.ensures) c.read_cert.ensures.only
