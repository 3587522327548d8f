use Rattle.verifier.proofs.Statuses.{five_rose, four_rose, is_told, not_two, one_no, three_refused}
use Rattle.verifier.proofs.laws.a_status_tells_the_answer.Goals as goal

pub returns : goal.returns
returns c = record { read_fault = four_rose; write_fault = five_rose; written = is_told; not_two = not_two; no = one_no; refused = three_refused }
