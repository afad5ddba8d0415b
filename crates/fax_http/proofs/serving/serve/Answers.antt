use Rattle.fax_http.proofs.ServingLemmas.{ends_last, ends_missing, progress_begins, progress_next}
use Rattle.fax_http.proofs.serving.serve.Goals as goal

pub loop-messages-init : goal.loop-messages-init
loop-messages-init g c = progress_begins _ _ _ _ _ _ _ _ c.requires.reading c.requires.writing c.requires.going c.in-Ok.ensures

pub loop-messages-preserved : goal.loop-messages-preserved
loop-messages-preserved g c = progress_next _ _ _ _ _ _ _ _ _ _ _ _ _ _ _ _ _ c.loop-messages.invariant c.loop-messages-test.true c.in-Answered.ensures

pub returns-in-Last : goal.returns-in-Last
returns-in-Last g c = ends_last _ _ _ _ _ _ _ _ _ _ _ _ _ _ _ _ _ c.loop-messages.invariant c.loop-messages-test.true c.in-Last.end c.in-Last.ensures

pub returns-in-Missing : goal.returns-in-Missing
returns-in-Missing g c =
    ends_missing _ _ _ _ _ _ _ _ _ _ _ _ _ _ _ _ _ c.loop-messages.invariant c.loop-messages-test.true c.in-Missing.ensures.0 c.in-Missing.end c.in-Missing.ensures.1
