use Rattle.std.proofs.Common.{sym}
use Rattle.std.proofs.lemmas.Bool.{ltb-true, ltb-false}
use Rattle.cert2_check.proofs.Merging.{no_length, next_from_list, next_before_list, begins_none, begins_some}
use Rattle.cert2_check.proofs.merge.next_term.Goals as goal

pub next_own-requires-clause-none : goal.next_own-requires-clause-none
next_own-requires-clause-none c = no_length c.args.list.now c.in_default.ensures.cases

pub returns-in_default-split_first : goal.returns-in_default-split_first
returns-in_default-split_first c =
    next_from_list c.args.list.now c.args.own.now c.in-Some.term.now c.in-Some.rest.now c.in-Some.ensures.cases.0 c.requires.list_ascends c.requires.own_ascends
    (begins_none c.in-Some.term.now.0 c.args.own.now (no_length c.args.own.now c.in_default-split_first.ensures.cases))

pub returns-then-is_before : goal.returns-then-is_before
returns-then-is_before c =
    next_before_list c.args.list.now c.args.own.now c.in-Some.term.now c.in-Some-split_first.other.now c.in-Some.rest.now c.in-Some-split_first.others.now
    c.in-Some.ensures.cases.0 c.in-Some-split_first.ensures.cases.0 c.requires.list_ascends c.requires.own_ascends (ltb-true _ _ (sym c.if-is_before.ensures))

pub returns : goal.returns
returns c =
    next_from_list c.args.list.now c.args.own.now c.in-Some.term.now c.in-Some.rest.now c.in-Some.ensures.cases.0 c.requires.list_ascends c.requires.own_ascends
    (begins_some c.in-Some.term.now.0 c.args.own.now c.in-Some-split_first.other.now c.in-Some-split_first.others.now c.in-Some-split_first.ensures.cases.0 (ltb-false _ _ (sym c.if-is_before.ensures)))
