use Rattle.std.proofs.lemmas.Result.{IfErr-weaker}
use Rattle.fax_http.proofs.DeviceLemmas.{broke_behind}
use Rattle.fax_http.proofs.exchange.put_both.Goals as goal

pub returns-clause-err : goal.returns-clause-err
returns-clause-err g c = IfErr-weaker c.put-2.result _ _ (λ e o. broke_behind _ _ _ _ _ _ c.in_ok-put.ensures.ok o) c.put-2.ensures.err
