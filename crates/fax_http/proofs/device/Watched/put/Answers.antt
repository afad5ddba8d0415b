use Rattle.fax_http.proofs.DeviceLemmas.{has_put_more}
use Rattle.fax_http.proofs.device.Watched.put.Goals as goal

pub loop-rest-preserved : goal.loop-rest-preserved
loop-rest-preserved g c = has_put_more _ _ _ _ _ _ _ c.loop-rest.invariant c.in_ok-count.ensures.ok
