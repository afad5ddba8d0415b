use Rattle.std.proofs.Common.{◌-◌, length}
use Rattle.fax_http.proofs.ExchangeLemmas.{Reading}
use Rattle.fax_http.proofs.exchange.serve_one.Given as goal

abbrev pub invariant-loop-reply : goal.invariant-loop-reply
invariant-loop-reply g l = Reading g.R.Read.remaining l.initial.reader l.reader l.initial.writer l.writer l.initial.handler l.handler l.initial.buffer l.buffer

abbrev pub decreases-loop-reply : goal.decreases-loop-reply
decreases-loop-reply g l = 81920 - length l.buffer
