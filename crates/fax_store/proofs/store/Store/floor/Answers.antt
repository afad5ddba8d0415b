use Rattle.std.proofs.Common.{sym, rules}
use Rattle.fax_store.proofs.FrameLemmas.{queries_with}
use Rattle.fax_store.proofs.CallLemmas.{params}
use Rattle.fax_store.proofs.FloorLemmas.{floor_found, floor_low, floor_stands, no_floor_stands}
use Rattle.fax_store.proofs.store.Store.floor.Goals as goal

pub returns-in-Some-clause-answers : goal.returns-in-Some-clause-answers
returns-in-Some-clause-answers g c m k means s =
    let client = c.args.client.now in
    let means_now = means (c.in_ok-row.ensures.leaves.served s) in
    let found = (queries_with g.S.Store _ _ _ _ _ (params client) (search rules) c.in_ok-row.ensures).found s.clean in
    c.floor_in.ensures.found (k.floor client) (rw c.in-Some.is at (floor_found client _ _ m k means_now c.in_ok-row.field-0 found))
    (floor_low client k.floor means_now.lawful.floors)

pub returns-in-None-clause-answers : goal.returns-in-None-clause-answers
returns-in-None-clause-answers g c m k means s =
    let client = c.args.client.now in
    let found = (queries_with g.S.Store _ _ _ _ _ (params client) (search rules) c.in_ok-row.ensures).found s.clean in
    sym (rw c.in-None.is at (floor_found client _ _ m k (means (c.in_ok-row.ensures.leaves.served s)) c.in_ok-row.field-0 found))

pub returns-in-Some-clause-stands : goal.returns-in-Some-clause-stands
returns-in-Some-clause-stands g c db ours now clean =
    let client = c.args.client.now in
    let found = (queries_with g.S.Store _ _ _ _ _ (params client) (search rules) c.in_ok-row.ensures).found clean in
    floor_stands client _ _ db ours now c.in-Some.row c.floor_in.result c.floor_in.ensures.stands (rw c.in-Some.is at found)

pub returns-in-None-clause-stands : goal.returns-in-None-clause-stands
returns-in-None-clause-stands g c db ours now clean =
    let client = c.args.client.now in
    let found = (queries_with g.S.Store _ _ _ _ _ (params client) (search rules) c.in_ok-row.ensures).found clean in
    no_floor_stands client _ _ db ours now (rw c.in-None.is at found)
