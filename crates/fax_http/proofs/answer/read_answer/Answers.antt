use Rattle.std.proofs.Common.{subst}
use Rattle.fax_http.specs.Answer.{BeginsNoAnswer, NeverBeginsAnswer}
use Rattle.fax_http.proofs.AnswerLemmas.{gives_broken, gives_end, gives_never, took_more}
use Rattle.fax_http.proofs.answer.read_answer.Goals as goal

pub loop-status-preserved : goal.loop-status-preserved
loop-status-preserved g c = took_more _ _ _ _ _ _ _ c.loop-status.invariant c.in-Ok.ensures.ok

pub returns-then-count-eq0-clause-none : goal.returns-then-count-eq0-clause-none
returns-then-count-eq0-clause-none g c is = gives_end _ _ _ _ c.loop-status.invariant _ _ _ (subst BeginsNoAnswer c.bytes.ensures (c.split_answer.ensures.not_yet c.in-NotYet.is)) c.in-Ok.ensures.ok c.if-count-eq0.true

pub returns-in-Err-clause-none : goal.returns-in-Err-clause-none
returns-in-Err-clause-none g c is = gives_broken _ _ _ _ c.loop-status.invariant _ (subst BeginsNoAnswer c.bytes.ensures (c.split_answer.ensures.not_yet c.in-NotYet.is)) c.in-Err.ensures.err.1

pub returns-in-Never-clause-none : goal.returns-in-Never-clause-none
returns-in-Never-clause-none g c is = gives_never _ _ _ _ c.loop-status.invariant (subst NeverBeginsAnswer c.bytes.ensures (c.split_answer.ensures.never c.in-Never.is))
