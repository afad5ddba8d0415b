use Rattle.fax_dest.proofs.CutLemmas.{at_blank_neither, at_blank_space, at_blank_tab, at_blank_space_first, at_blank_tab_first}
use Rattle.fax_dest.proofs.line.at_blank.Goals as goal

pub returns-in-None-None : goal.returns-in-None-None
returns-in-None-None c = at_blank_neither c.args.line.now c.in-None-None.ensures.cases c.in-None-None.ensures'.cases

pub returns-in-Some-None : goal.returns-in-Some-None
returns-in-Some-None c = at_blank_space c.args.line.now c.in-Some-None.at_space c.in-Some-None.ensures.cases c.in-Some-None.ensures'.cases

pub returns-in-None-Some : goal.returns-in-None-Some
returns-in-None-Some c = at_blank_tab c.args.line.now c.in-None-Some.at_tab c.in-None-Some.ensures.cases c.in-None-Some.ensures'.cases

pub returns-then-at_space-at_tab : goal.returns-then-at_space-at_tab
returns-then-at_space-at_tab c =
    at_blank_space_first c.args.line.now c.in-Some-Some.at_space c.in-Some-Some.at_tab c.in-Some-Some.ensures.cases c.in-Some-Some.ensures'.cases c.if-at_space-at_tab.true

pub returns-else-at_space-at_tab : goal.returns-else-at_space-at_tab
returns-else-at_space-at_tab c =
    at_blank_tab_first c.args.line.now c.in-Some-Some.at_space c.in-Some-Some.at_tab c.in-Some-Some.ensures.cases c.in-Some-Some.ensures'.cases c.if-at_space-at_tab.false
