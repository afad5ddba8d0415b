use Rattle.std.proofs.Common.{sym, subst, rules}
use Rattle.fax_store.specs.Floors.{IsHundredth}
use Rattle.fax_store.proofs.FloorLemmas.{given_params}
use Rattle.fax_store.proofs.FrameLemmas.{or_weaker, queries_with}
use Rattle.fax_store.proofs.HundredthLemmas.{hundredth_found}
use Rattle.fax_store.proofs.store.Store.hundredth.Goals as goal

pub returns-in-Some-clause-answers : goal.returns-in-Some-clause-answers
returns-in-Some-clause-answers g c m k means s =
    let client = c.args.client.now in
    let floor = c.args.floor in
    let means_now = means (c.in_ok-row.ensures.leaves.served s) in
    let found = (queries_with g.S.Store _ _ _ _ _ (given_params client floor) (search rules) c.in_ok-row.ensures).found s.clean in
    let it = rw c.in-Some.is at (hundredth_found client floor _ _ m k means_now c.in_ok-row.field-0 found) in
    or_weaker c.number_through.result _ (IsHundredth client floor k) (λ found is. subst (IsHundredth client floor k) (sym is) it.3)
    (c.number_through.ensures.found it.0 it.1 it.2 c.requires)

pub returns-in-None-clause-answers : goal.returns-in-None-clause-answers
returns-in-None-clause-answers g c m k means s =
    let client = c.args.client.now in
    let floor = c.args.floor in
    let found = (queries_with g.S.Store _ _ _ _ _ (given_params client floor) (search rules) c.in_ok-row.ensures).found s.clean in
    rw c.in-None.is at (hundredth_found client floor _ _ m k (means (c.in_ok-row.ensures.leaves.served s)) c.in_ok-row.field-0 found)
