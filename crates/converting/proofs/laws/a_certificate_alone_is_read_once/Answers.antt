use Rattle.converting.proofs.OneReading.{one_reading}
use Rattle.converting.proofs.laws.a_certificate_alone_is_read_once.Goals as goal

pub returns : goal.returns
returns c = one_reading (record {
  one_certificate = c.a_text_spells_one.ensures;
  one_fault = c.a_text_has_one_first_fault.ensures;
  not_both = c.what_is_spelled_does_not_fail.ensures;
})
