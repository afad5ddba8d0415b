use Rattle.std.proofs.Common.{sym, rules}
use Rattle.fax_store.proofs.FrameLemmas.{queries_with}
use Rattle.fax_core.specs.State.{calls_to}
use Rattle.fax_store.proofs.CallLemmas as calls
use Rattle.fax_store.proofs.CountLemmas.{calls_fit}
use Rattle.fax_store.proofs.store.Store.read_calls.Goals as goal

pub returns-in-Some-clause-counted : goal.returns-in-Some-clause-counted
returns-in-Some-clause-counted g c count tables counted low clean =
    let dial = c.args.dial.now in
    let found = (queries_with g.S.Store _ _ _ _ _ (calls.params dial) (search rules) c.in_ok-row.ensures).found clean in
    c.calls_in.ensures.found (count dial) (rw c.in-Some.is at (calls.calls_found dial _ _ count tables counted.is c.in_ok-row.field-0 found)) low

pub returns-in-None-clause-counted : goal.returns-in-None-clause-counted
returns-in-None-clause-counted g c count tables counted low clean =
    let dial = c.args.dial.now in
    let found = (queries_with g.S.Store _ _ _ _ _ (calls.params dial) (search rules) c.in_ok-row.ensures).found clean in
    sym (rw c.in-None.is at (calls.calls_found dial _ _ count tables counted.is c.in_ok-row.field-0 found))

pub returns-in-Some-clause-answers : goal.returns-in-Some-clause-answers
returns-in-Some-clause-answers g c m k means s =
    let means_now = means (c.in_ok-row.ensures.leaves.served s) in
    returns-in-Some-clause-counted g c (λ d. calls_to d m) means_now.schema (record { is = means_now.calls; ordered = means_now.ordered.calls }) (calls_fit _ m k means_now c.args.dial.now) s.clean

pub returns-in-None-clause-answers : goal.returns-in-None-clause-answers
returns-in-None-clause-answers g c m k means s =
    let means_now = means (c.in_ok-row.ensures.leaves.served s) in
    returns-in-None-clause-counted g c (λ d. calls_to d m) means_now.schema (record { is = means_now.calls; ordered = means_now.ordered.calls }) (calls_fit _ m k means_now c.args.dial.now) s.clean

pub returns-in-Some-clause-stands : goal.returns-in-Some-clause-stands
returns-in-Some-clause-stands g c db ours now clean =
    let dial = c.args.dial.now in
    let found = (queries_with g.S.Store _ _ _ _ _ (calls.params dial) (search rules) c.in_ok-row.ensures).found clean in
    calls.calls_stand dial _ _ db ours now (λ n. n) c.in-Some.row c.calls_in.result c.calls_in.ensures.stands (rw c.in-Some.is at found)

pub returns-in-None-clause-stands : goal.returns-in-None-clause-stands
returns-in-None-clause-stands g c db ours now clean =
    let dial = c.args.dial.now in
    let found = (queries_with g.S.Store _ _ _ _ _ (calls.params dial) (search rules) c.in_ok-row.ensures).found clean in
    calls.no_calls_stand dial _ _ db ours now (rw c.in-None.is at found)
