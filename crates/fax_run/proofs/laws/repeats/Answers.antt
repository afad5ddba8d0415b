use Rattle.fax_run.proofs.PastLemmas.{untaken_leave_no_trace, copies_leave_no_trace, numbers_have_one_reply}
use Rattle.fax_run.proofs.laws.repeats.Goals as goal

pub returns-clause-untaken : goal.returns-clause-untaken
returns-clause-untaken c = untaken_leave_no_trace

pub returns-clause-copies : goal.returns-clause-copies
returns-clause-copies c = copies_leave_no_trace

pub returns-clause-reply : goal.returns-clause-reply
returns-clause-reply c = numbers_have_one_reply
