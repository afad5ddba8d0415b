use Rattle.std.proofs.Common.{length}
use Rattle.fax_http.proofs.DeviceLemmas.{HasPut}
use Rattle.fax_http.proofs.device.Watched.put.Given as goal

abbrev pub invariant-loop-rest : goal.invariant-loop-rest
invariant-loop-rest g l = HasPut g.W.Write.contents l.initial.self l.self l.bytes l.rest

abbrev pub decreases-loop-rest : goal.decreases-loop-rest
decreases-loop-rest g l = length l.rest
