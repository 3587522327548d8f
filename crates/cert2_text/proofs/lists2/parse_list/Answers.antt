use Rattle.cert2_text.proofs.ListWords.{list_taken}
use Rattle.cert2_text.proofs.lists2.parse_list.Goals as goal

pub returns : goal.returns
returns c =
    list_taken c.args.words.now c.in-Some.first.now c.in-Some-list_word.number.now c.in_ok-list.list c.next.new.self c.next.result c.in-Some.ensures c.in-Some-list_word.ensures c.in_ok-list.ensures c.next.ensures
