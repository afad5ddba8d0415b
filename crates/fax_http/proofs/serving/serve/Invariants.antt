use Rattle.fax_http.proofs.ServingLemmas.{Progress}
use Rattle.fax_http.proofs.serving.serve.Given as goal

abbrev pub invariant-loop-messages : goal.invariant-loop-messages
invariant-loop-messages g l =
    Progress g.R.Read.remaining g.W.Write.contents g.H.Handler.answers g.H.Handler.over l.initial.reader l.reader l.initial.writer l.writer l.initial.handler l.handler l.buffer l.messages
